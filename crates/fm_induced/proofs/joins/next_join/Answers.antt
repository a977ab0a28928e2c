use Rattle.std.proofs.Common.{◌≡◌, ◌≤◌, Ok, Err, sym, ap, ◌∙◌, subst}
use Rattle.fm_graphs.specs.Graphs.{whole_run}
use Rattle.fm_graphs.specs.Trims.{preimage_run}
use Rattle.fm_mat.specs.Matrices.{MatrixValue, columns_meaning, matrix_meaning}
use Rattle.fm_poly.specs.declared.ring.Ring.{Ring}
use Rattle.fm_run.specs.Runs.{Follows, halt_of}
use Rattle.fm_run.proofs.Parts.{failed}
use Rattle.fm_syz.specs.GeneratorValues.{GeneratorsValue, preimage_meaning}
use Rattle.fm_syz.specs.GraphValues.{GraphValue, graph_meaning}
use Rattle.fm_syz.specs.Insides.{inside_value}
use Rattle.fm_syz.specs.declared.inside.Inside.TheVariants.{All, First}
use Rattle.fm_support.specs.Inverting.{newest}
use Rattle.fm_support.proofs.ColonRuns.{newest_ring, newest_rows, whole_told}
use Rattle.fm_induced.specs.Joins.{joins_value, link_work, turn_value}
use Rattle.fm_induced.proofs.JoinRuns.{reached_columns, reached_follows, power_told, power_stops, preimage_stops, test_stops, test_goes, spent, goes_on_earlier, goes_on_last}
use Rattle.fm_induced.proofs.joins.next_join.Goals as goal

pub returns-in_err-power-clause-follows : goal.returns-in_err-power-clause-follows
returns-in_err-power-clause-follows c =
    let g = c.args.first.now in
    let r = g.matrix.ring in
    let u = matrix_meaning r c.args.u.now in
    let F = graph_meaning r g in
    let C = joins_value r g c.args.c in
    let old = c.args.work.now in
    let N : c.newest.result.now ≡ newest g c.args.c.links.items = c.newest.ensures ∙ ap (newest g) c.deref.ensures.value in
    let ring : c.newest.result.now.matrix.ring ≡ r = ap (λ (x : GraphValue). x.matrix.ring) N ∙ newest_ring g c.args.c.links.items c.requires.links in
    let z = c.in_err-power.field-0.0 in
    failed (turn_value r g) halt_of c.from_residual.result z old old (link_work r u F C old) c.from_residual.ensures
    (power_stops r u F C old z (power_told r c.matrix.result.now c.newest.result.now (newest g c.args.c.links.items) c.matrix.ensures.same N (Err z) old (c.in_err-power.ensures.follows r old (ap (λ (m : MatrixValue). m.ring) c.matrix.ensures.same ∙ ring))))

pub preimage-requires-clause-ring : goal.preimage-requires-clause-ring
preimage-requires-clause-ring c =
    let g = c.args.first.now in
    let r = g.matrix.ring in
    let u = matrix_meaning r c.args.u.now in
    let F = graph_meaning r g in
    let C = joins_value r g c.args.c in
    let old = c.args.work.now in
    let N : c.newest.result.now ≡ newest g c.args.c.links.items = c.newest.ensures ∙ ap (newest g) c.deref.ensures.value in
    let ring : c.newest.result.now.matrix.ring ≡ r = ap (λ (x : GraphValue). x.matrix.ring) N ∙ newest_ring g c.args.c.links.items c.requires.links in
    c.in_ok-power.ensures.ring ∙ ap (λ (m : MatrixValue). m.ring) c.matrix.ensures.same ∙ ring ∙ sym c.requires.ring

pub preimage-requires-clause-rows : goal.preimage-requires-clause-rows
preimage-requires-clause-rows c =
    let g = c.args.first.now in
    let r = g.matrix.ring in
    let u = matrix_meaning r c.args.u.now in
    let F = graph_meaning r g in
    let C = joins_value r g c.args.c in
    let old = c.args.work.now in
    let N : c.newest.result.now ≡ newest g c.args.c.links.items = c.newest.ensures ∙ ap (newest g) c.deref.ensures.value in
    let ring : c.newest.result.now.matrix.ring ≡ r = ap (λ (x : GraphValue). x.matrix.ring) N ∙ newest_ring g c.args.c.links.items c.requires.links in
    c.in_ok-power.ensures.rows ∙ ap (λ (m : MatrixValue). m.rows) c.matrix.ensures.same ∙ ap (λ (x : GraphValue). x.matrix.rows) N ∙ newest_rows g c.args.c.links.items c.requires.links ∙ sym c.requires.rows

pub preimage-requires-clause-some : goal.preimage-requires-clause-some
preimage-requires-clause-some c =
    subst (λ (s : Ring). 1 ≤ s.vars) (sym c.requires.ring) c.requires.some

pub preimage-requires-clause-few : goal.preimage-requires-clause-few
preimage-requires-clause-few c =
    subst (λ (s : Ring). s.vars ≤ 8) (sym c.requires.ring) c.requires.few

pub returns-in_err-x-clause-follows : goal.returns-in_err-x-clause-follows
returns-in_err-x-clause-follows c =
    let g = c.args.first.now in
    let r = g.matrix.ring in
    let u = matrix_meaning r c.args.u.now in
    let F = graph_meaning r g in
    let C = joins_value r g c.args.c in
    let old = c.args.work.now in
    let N : c.newest.result.now ≡ newest g c.args.c.links.items = c.newest.ensures ∙ ap (newest g) c.deref.ensures.value in
    let ring : c.newest.result.now.matrix.ring ≡ r = ap (λ (x : GraphValue). x.matrix.ring) N ∙ newest_ring g c.args.c.links.items c.requires.links in
    let L = c.in_ok-power.power in
    let formed = power_told r c.matrix.result.now c.newest.result.now (newest g c.args.c.links.items) c.matrix.ensures.same N (Ok L) old (c.in_ok-power.ensures.follows r old (ap (λ (m : MatrixValue). m.ring) c.matrix.ensures.same ∙ ring)) in
    let mid = c.preimage.new.work in
    let z = c.in_err-x.field-0.0 in
    failed (turn_value r g) halt_of c.from_residual-in_err-x.result z old mid (link_work r u F C old) c.from_residual-in_err-x.ensures
    (preimage_stops r u F C old (matrix_meaning r L) formed mid z
    (subst (λ (s : Ring). Follows (preimage_meaning s) (Err z) old mid (preimage_run s (matrix_meaning s c.args.u.now) (matrix_meaning s L) old)) c.requires.ring c.in_err-x.ensures.follows))

pub whole_of-requires-clause-some : goal.whole_of-requires-clause-some
whole_of-requires-clause-some c =
    subst (λ (s : Ring). 1 ≤ s.vars) (sym (ap (λ (x : GraphValue). x.matrix.ring) (c.graph.ensures ∙ ap (λ (y : GeneratorsValue). y.graph) c.generators.ensures.same) ∙ c.in_ok-x.ensures.ring ∙ c.requires.ring)) c.requires.some

pub whole_of-requires-clause-few : goal.whole_of-requires-clause-few
whole_of-requires-clause-few c =
    subst (λ (s : Ring). s.vars ≤ 8) (sym (ap (λ (x : GraphValue). x.matrix.ring) (c.graph.ensures ∙ ap (λ (y : GeneratorsValue). y.graph) c.generators.ensures.same) ∙ c.in_ok-x.ensures.ring ∙ c.requires.ring)) c.requires.few

pub returns-in_err-columns-clause-follows : goal.returns-in_err-columns-clause-follows
returns-in_err-columns-clause-follows c =
    let g = c.args.first.now in
    let r = g.matrix.ring in
    let u = matrix_meaning r c.args.u.now in
    let F = graph_meaning r g in
    let C = joins_value r g c.args.c in
    let old = c.args.work.now in
    let N : c.newest.result.now ≡ newest g c.args.c.links.items = c.newest.ensures ∙ ap (newest g) c.deref.ensures.value in
    let ring : c.newest.result.now.matrix.ring ≡ r = ap (λ (x : GraphValue). x.matrix.ring) N ∙ newest_ring g c.args.c.links.items c.requires.links in
    let L = c.in_ok-power.power in
    let formed = power_told r c.matrix.result.now c.newest.result.now (newest g c.args.c.links.items) c.matrix.ensures.same N (Ok L) old (c.in_ok-power.ensures.follows r old (ap (λ (m : MatrixValue). m.ring) c.matrix.ensures.same ∙ ring)) in
    let mid = c.preimage.new.work in
    let x = c.in_ok-x.x in
    let goes = subst (λ (s : Ring). Follows (preimage_meaning s) (Ok x) old mid (preimage_run s (matrix_meaning s c.args.u.now) (matrix_meaning s L) old)) c.requires.ring c.in_ok-x.ensures.follows in
    let E : c.graph.result.now ≡ x.generators.graph = c.graph.ensures ∙ ap (λ (y : GeneratorsValue). y.graph) c.generators.ensures.same in
    let R : x.generators.graph.matrix.ring ≡ r = c.in_ok-x.ensures.ring ∙ c.requires.ring in
    let after = c.whole_of.new.work in
    let z = c.in_err-columns.field-0.0 in
    failed (turn_value r g) halt_of c.from_residual-in_err-columns.result z old after (link_work r u F C old) c.from_residual-in_err-columns.ensures
    (test_stops r u F C old (matrix_meaning r L) formed mid x goes after z (whole_told r c.graph.result.now x.generators.graph E R (Err z) mid after c.in_err-columns.ensures.follows))

pub settle-requires-clause-ring : goal.settle-requires-clause-ring
settle-requires-clause-ring c =
    c.in_ok-x.ensures.ring ∙ c.requires.ring

pub settle-requires-clause-rows : goal.settle-requires-clause-rows
settle-requires-clause-rows c =
    c.in_ok-x.ensures.rows ∙ c.requires.square

pub reached-requires-clause-ring : goal.reached-requires-clause-ring
reached-requires-clause-ring c =
    c.in_ok-x.ensures.ring ∙ c.requires.ring

pub reached-requires-clause-rows : goal.reached-requires-clause-rows
reached-requires-clause-rows c =
    c.in_ok-x.ensures.rows ∙ c.requires.square

pub reached-requires-clause-columns : goal.reached-requires-clause-columns
reached-requires-clause-columns c =
    let x = c.in_ok-x.x in
    let E = c.graph.ensures ∙ ap (λ (y : GeneratorsValue). y.graph) c.generators.ensures.same in
    reached_columns c.graph.result.now x.generators.graph c.args.first.now.matrix.ring c.in_ok-columns.field-0 c.in-All.columns E (c.in_ok-x.ensures.ring ∙ c.requires.ring) c.in-All.is c.in_ok-columns.ensures.columns

pub returns-in-All-clause-follows : goal.returns-in-All-clause-follows
returns-in-All-clause-follows c =
    let g = c.args.first.now in
    let r = g.matrix.ring in
    let u = matrix_meaning r c.args.u.now in
    let F = graph_meaning r g in
    let C = joins_value r g c.args.c in
    let old = c.args.work.now in
    let N : c.newest.result.now ≡ newest g c.args.c.links.items = c.newest.ensures ∙ ap (newest g) c.deref.ensures.value in
    let ring : c.newest.result.now.matrix.ring ≡ r = ap (λ (x : GraphValue). x.matrix.ring) N ∙ newest_ring g c.args.c.links.items c.requires.links in
    let L = c.in_ok-power.power in
    let formed = power_told r c.matrix.result.now c.newest.result.now (newest g c.args.c.links.items) c.matrix.ensures.same N (Ok L) old (c.in_ok-power.ensures.follows r old (ap (λ (m : MatrixValue). m.ring) c.matrix.ensures.same ∙ ring)) in
    let mid = c.preimage.new.work in
    let x = c.in_ok-x.x in
    let goes = subst (λ (s : Ring). Follows (preimage_meaning s) (Ok x) old mid (preimage_run s (matrix_meaning s c.args.u.now) (matrix_meaning s L) old)) c.requires.ring c.in_ok-x.ensures.follows in
    let E : c.graph.result.now ≡ x.generators.graph = c.graph.ensures ∙ ap (λ (y : GeneratorsValue). y.graph) c.generators.ensures.same in
    let R : x.generators.graph.matrix.ring ≡ r = c.in_ok-x.ensures.ring ∙ c.requires.ring in
    let after = c.whole_of.new.work in
    let tested = whole_told r c.graph.result.now x.generators.graph E R (Ok (All c.in-All.columns)) mid after (subst (λ y. Follows (inside_value c.graph.result.now.matrix.ring) (Ok y) mid after (whole_run c.graph.result.now.matrix.ring (graph_meaning c.graph.result.now.matrix.ring c.graph.result.now) mid)) c.in-All.is c.in_ok-columns.ensures.follows) in
    test_goes r u F C old (matrix_meaning r L) formed mid x goes after (All c.in-All.columns) after tested (turn_value r g) c.reached.result
    (reached_follows r g C.links (preimage_meaning r x) (columns_meaning r c.in-All.columns.items) C.proper c.reached.result after F C c.reached.ensures.value c.reached.ensures.memory)

pub returns-in-All-clause-spent : goal.returns-in-All-clause-spent
returns-in-All-clause-spent c =
    goes_on_last c.args.first.now c.args.work.now c.whole_of.new.work c.reached.result c.reached.ensures.ended

pub returns-clause-follows : goal.returns-clause-follows
returns-clause-follows c =
    let g = c.args.first.now in
    let r = g.matrix.ring in
    let u = matrix_meaning r c.args.u.now in
    let F = graph_meaning r g in
    let C = joins_value r g c.args.c in
    let old = c.args.work.now in
    let N : c.newest.result.now ≡ newest g c.args.c.links.items = c.newest.ensures ∙ ap (newest g) c.deref.ensures.value in
    let ring : c.newest.result.now.matrix.ring ≡ r = ap (λ (x : GraphValue). x.matrix.ring) N ∙ newest_ring g c.args.c.links.items c.requires.links in
    let L = c.in_ok-power.power in
    let formed = power_told r c.matrix.result.now c.newest.result.now (newest g c.args.c.links.items) c.matrix.ensures.same N (Ok L) old (c.in_ok-power.ensures.follows r old (ap (λ (m : MatrixValue). m.ring) c.matrix.ensures.same ∙ ring)) in
    let mid = c.preimage.new.work in
    let x = c.in_ok-x.x in
    let goes = subst (λ (s : Ring). Follows (preimage_meaning s) (Ok x) old mid (preimage_run s (matrix_meaning s c.args.u.now) (matrix_meaning s L) old)) c.requires.ring c.in_ok-x.ensures.follows in
    let E : c.graph.result.now ≡ x.generators.graph = c.graph.ensures ∙ ap (λ (y : GeneratorsValue). y.graph) c.generators.ensures.same in
    let R : x.generators.graph.matrix.ring ≡ r = c.in_ok-x.ensures.ring ∙ c.requires.ring in
    let after = c.whole_of.new.work in
    let tested = whole_told r c.graph.result.now x.generators.graph E R (Ok (First c.in-First.outside)) mid after (subst (λ y. Follows (inside_value c.graph.result.now.matrix.ring) (Ok y) mid after (whole_run c.graph.result.now.matrix.ring (graph_meaning c.graph.result.now.matrix.ring c.graph.result.now) mid)) c.in-First.is c.in_ok-columns.ensures.follows) in
    test_goes r u F C old (matrix_meaning r L) formed mid x goes c.settle.new.work (First c.in-First.outside) after tested (turn_value r g) c.settle.result c.settle.ensures.follows

pub returns-clause-spent : goal.returns-clause-spent
returns-clause-spent c =
    let g = c.args.first.now in
    let r = g.matrix.ring in
    let u = matrix_meaning r c.args.u.now in
    let F = graph_meaning r g in
    let C = joins_value r g c.args.c in
    let old = c.args.work.now in
    let N : c.newest.result.now ≡ newest g c.args.c.links.items = c.newest.ensures ∙ ap (newest g) c.deref.ensures.value in
    let ring : c.newest.result.now.matrix.ring ≡ r = ap (λ (x : GraphValue). x.matrix.ring) N ∙ newest_ring g c.args.c.links.items c.requires.links in
    let L = c.in_ok-power.power in
    let formed = power_told r c.matrix.result.now c.newest.result.now (newest g c.args.c.links.items) c.matrix.ensures.same N (Ok L) old (c.in_ok-power.ensures.follows r old (ap (λ (m : MatrixValue). m.ring) c.matrix.ensures.same ∙ ring)) in
    let mid = c.preimage.new.work in
    let x = c.in_ok-x.x in
    let goes = subst (λ (s : Ring). Follows (preimage_meaning s) (Ok x) old mid (preimage_run s (matrix_meaning s c.args.u.now) (matrix_meaning s L) old)) c.requires.ring c.in_ok-x.ensures.follows in
    let E : c.graph.result.now ≡ x.generators.graph = c.graph.ensures ∙ ap (λ (y : GeneratorsValue). y.graph) c.generators.ensures.same in
    let R : x.generators.graph.matrix.ring ≡ r = c.in_ok-x.ensures.ring ∙ c.requires.ring in
    let after = c.whole_of.new.work in
    let tested = whole_told r c.graph.result.now x.generators.graph E R (Ok (First c.in-First.outside)) mid after (subst (λ y. Follows (inside_value c.graph.result.now.matrix.ring) (Ok y) mid after (whole_run c.graph.result.now.matrix.ring (graph_meaning c.graph.result.now.matrix.ring c.graph.result.now) mid)) c.in-First.is c.in_ok-columns.ensures.follows) in
    goes_on_earlier g old after c.settle.new.work c.settle.result (spent r u F C old (matrix_meaning r L) formed mid x goes after after (inside_value r (First c.in-First.outside)) tested) c.settle.ensures.spent
