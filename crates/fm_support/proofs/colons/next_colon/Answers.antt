use Rattle.std.proofs.Common.{◌≡◌, ◌≤◌, ◌+◌, suc, length, map, Ok, Err, sym, ap, ◌∙◌, subst, arith}
use Rattle.fm_graphs.specs.Graphs.{whole_run}
use Rattle.fm_mat.specs.Matrices.{MatrixValue}
use Rattle.fm_mat.proofs.Steps.{map_length}
use Rattle.fm_plan.specs.Queries as plans
use Rattle.fm_poly.specs.declared.ring.Ring.{Ring}
use Rattle.fm_poly.specs.Polys.{meaning}
use Rattle.fm_run.specs.Runs.{Follows, halt_of}
use Rattle.fm_run.specs.Turns.{last}
use Rattle.fm_run.proofs.Calls.{wanted}
use Rattle.fm_run.proofs.Parts.{failed}
use Rattle.fm_syz.specs.GeneratorValues.{GeneratorsValue, preimage_meaning}
use Rattle.fm_syz.specs.GraphValues.{GraphValue, graph_meaning}
use Rattle.fm_syz.specs.Insides.{inside_value}
use Rattle.fm_syz.specs.declared.inside.Inside.TheVariants.{All, First}
use Rattle.fm_support.specs.Inverting.{newest, colons_value, colon_work, turn_value}
use Rattle.fm_support.specs.declared.colons.ColonTurn.TheVariants.{Last}
use Rattle.fm_support.specs.declared.colons.Coloned.TheVariants.{Whole}
use Rattle.fm_support.proofs.ColonRuns.{newest_ring, newest_rows, colon_spends, colon_stops, test_stops, test_goes, spent, preimage_told, whole_told, goes_on_earlier}
use Rattle.fm_support.proofs.colons.next_colon.Goals as goal

pub returns-then-len-ge4294967295-clause-follows : goal.returns-then-len-ge4294967295-clause-follows
returns-then-len-ge4294967295-clause-follows c =
    let k = c.args.k.now in
    let r = k.matrix.ring in
    (omega arith, colon_spends r (meaning r c.args.f.now.terms) (colons_value r k c.args.c) c.args.work.now)

pub returns-in_err-factor-clause-follows : goal.returns-in_err-factor-clause-follows
returns-in_err-factor-clause-follows c =
    let k = c.args.k.now in
    let r = k.matrix.ring in
    let f = meaning r c.args.f.now.terms in
    let C = colons_value r k c.args.c in
    let old = c.args.work.now in
    wanted (turn_value r k) c.from_residual.result old old (colon_work r f C old) c.from_residual.ensures (omega arith) (colon_spends r f C old)

pub preimage-requires-clause-ring : goal.preimage-requires-clause-ring
preimage-requires-clause-ring c =
    let k = c.args.k.now in
    let N : c.newest-before.result.now ≡ newest k c.args.c.colons.items = c.newest-before.ensures ∙ ap (newest k) c.deref.ensures.value in
    ap (λ (m : MatrixValue). m.ring) c.matrix.ensures.same ∙ ap (λ (g : GraphValue). g.matrix.ring) N ∙ newest_ring k c.args.c.colons.items c.requires.colons ∙ sym (c.in_ok-factor.ensures.ring ∙ c.requires.ring)

pub preimage-requires-clause-rows : goal.preimage-requires-clause-rows
preimage-requires-clause-rows c = ap (λ (m : MatrixValue). m.rows) c.matrix.ensures.same ∙ sym (c.in_ok-factor.ensures.rows ∙ c.rows.ensures)

pub returns-in_err-x-clause-follows : goal.returns-in_err-x-clause-follows
returns-in_err-x-clause-follows c =
    let k = c.args.k.now in
    let r = k.matrix.ring in
    let f = meaning r c.args.f.now.terms in
    let C = colons_value r k c.args.c in
    let old = c.args.work.now in
    let N : c.newest-before.result.now ≡ newest k c.args.c.colons.items = c.newest-before.ensures ∙ ap (newest k) c.deref.ensures.value in
    let mid = c.preimage.new.work in
    let z = c.in_err-x.field-0.0 in
    failed (turn_value r k) halt_of c.from_residual-in_err-x.result z old mid (colon_work r f C old) c.from_residual-in_err-x.ensures
    (colon_stops r f C old mid z (preimage_told c.args.f.now.ring r c.requires.ring c.args.f.now.terms c.rows.result c.in_ok-factor.factor c.matrix.result.now (newest k c.args.c.colons.items)
    (c.in_ok-factor.ensures.ring ∙ c.requires.ring) (c.rows.ensures ∙ ap (λ (g : GraphValue). g.matrix.rows) N) c.in_ok-factor.ensures.value (c.matrix.ensures.same ∙ ap (λ (g : GraphValue). g.matrix) N)
    (Err z) old mid c.in_err-x.ensures.follows))

pub whole_of-requires-clause-some : goal.whole_of-requires-clause-some
whole_of-requires-clause-some c =
    subst (λ (s : Ring). 1 ≤ s.vars) (sym (ap (λ (g : GraphValue). g.matrix.ring) (c.graph.ensures ∙ ap (λ (x : GeneratorsValue). x.graph) c.generators.ensures.same) ∙ c.in_ok-x.ensures.ring ∙ c.in_ok-factor.ensures.ring ∙ c.requires.ring)) c.requires.some

pub whole_of-requires-clause-few : goal.whole_of-requires-clause-few
whole_of-requires-clause-few c =
    subst (λ (s : Ring). s.vars ≤ 8) (sym (ap (λ (g : GraphValue). g.matrix.ring) (c.graph.ensures ∙ ap (λ (x : GeneratorsValue). x.graph) c.generators.ensures.same) ∙ c.in_ok-x.ensures.ring ∙ c.in_ok-factor.ensures.ring ∙ c.requires.ring)) c.requires.few

pub returns-in_err-whole_of-clause-follows : goal.returns-in_err-whole_of-clause-follows
returns-in_err-whole_of-clause-follows c =
    let k = c.args.k.now in
    let r = k.matrix.ring in
    let f = meaning r c.args.f.now.terms in
    let C = colons_value r k c.args.c in
    let old = c.args.work.now in
    let N : c.newest-before.result.now ≡ newest k c.args.c.colons.items = c.newest-before.ensures ∙ ap (newest k) c.deref.ensures.value in
    let mid = c.preimage.new.work in
    let x = c.in_ok-x.x in
    let G = (preimage_told c.args.f.now.ring r c.requires.ring c.args.f.now.terms c.rows.result c.in_ok-factor.factor c.matrix.result.now (newest k c.args.c.colons.items)
    (c.in_ok-factor.ensures.ring ∙ c.requires.ring) (c.rows.ensures ∙ ap (λ (g : GraphValue). g.matrix.rows) N) c.in_ok-factor.ensures.value (c.matrix.ensures.same ∙ ap (λ (g : GraphValue). g.matrix) N)
    (Ok x) old mid c.in_ok-x.ensures.follows) in
    let E : c.graph.result.now ≡ x.generators.graph = c.graph.ensures ∙ ap (λ (x : GeneratorsValue). x.graph) c.generators.ensures.same in
    let R : x.generators.graph.matrix.ring ≡ r = c.in_ok-x.ensures.ring ∙ c.in_ok-factor.ensures.ring ∙ c.requires.ring in
    let after = c.whole_of.new.work in
    let z = c.in_err-whole_of.field-0.0 in
    failed (turn_value r k) halt_of c.from_residual-in_err-whole_of.result z old after (colon_work r f C old) c.from_residual-in_err-whole_of.ensures
    (test_stops r f C old mid x G after z (whole_told r c.graph.result.now x.generators.graph E R (Err z) mid after c.in_err-whole_of.ensures.follows))

pub settle-requires-clause-ring : goal.settle-requires-clause-ring
settle-requires-clause-ring c = c.in_ok-x.ensures.ring ∙ c.in_ok-factor.ensures.ring ∙ c.requires.ring

pub settle-requires-clause-rows : goal.settle-requires-clause-rows
settle-requires-clause-rows c =
    c.in_ok-x.ensures.rows ∙ c.in_ok-factor.ensures.count ∙ c.rows.ensures ∙ ap (λ (g : GraphValue). g.matrix.rows) (c.newest-before.ensures ∙ ap (newest c.args.k.now) c.deref.ensures.value)
    ∙ newest_rows c.args.k.now c.args.c.colons.items c.requires.colons

pub returns-in-All-clause-follows : goal.returns-in-All-clause-follows
returns-in-All-clause-follows c =
    let k = c.args.k.now in
    let r = k.matrix.ring in
    let f = meaning r c.args.f.now.terms in
    let C = colons_value r k c.args.c in
    let old = c.args.work.now in
    let N : c.newest-before.result.now ≡ newest k c.args.c.colons.items = c.newest-before.ensures ∙ ap (newest k) c.deref.ensures.value in
    let mid = c.preimage.new.work in
    let x = c.in_ok-x.x in
    let G = (preimage_told c.args.f.now.ring r c.requires.ring c.args.f.now.terms c.rows.result c.in_ok-factor.factor c.matrix.result.now (newest k c.args.c.colons.items)
    (c.in_ok-factor.ensures.ring ∙ c.requires.ring) (c.rows.ensures ∙ ap (λ (g : GraphValue). g.matrix.rows) N) c.in_ok-factor.ensures.value (c.matrix.ensures.same ∙ ap (λ (g : GraphValue). g.matrix) N)
    (Ok x) old mid c.in_ok-x.ensures.follows) in
    let E : c.graph.result.now ≡ x.generators.graph = c.graph.ensures ∙ ap (λ (x : GeneratorsValue). x.graph) c.generators.ensures.same in
    let R : x.generators.graph.matrix.ring ≡ r = c.in_ok-x.ensures.ring ∙ c.in_ok-factor.ensures.ring ∙ c.requires.ring in
    let after = c.whole_of.new.work in
    let count : suc (length (map (preimage_meaning r) c.args.c.colons.items)) ≡ c.len-count.result + 1 =
    let l = c.len-count.ensures in let m = map_length (preimage_meaning r) c.args.c.colons.items in omega (arith, l, m) in
    test_goes r f C old mid x G after (All c.in-All.field-0) after (whole_told r c.graph.result.now x.generators.graph E R (Ok (All c.in-All.field-0)) mid after (subst (λ y. Follows (inside_value c.graph.result.now.matrix.ring) (Ok y) mid after (whole_run c.graph.result.now.matrix.ring (graph_meaning c.graph.result.now.matrix.ring c.graph.result.now) mid)) c.in-All.is c.in_ok-whole_of.ensures.follows))
    (turn_value r k) (Ok (Last (Whole (c.len-count.result + 1)))) (ap (λ n. record { end = Ok (last (plans.whole_at n)); left = after }) count)

pub returns-in-First-clause-follows : goal.returns-in-First-clause-follows
returns-in-First-clause-follows c =
    let k = c.args.k.now in
    let r = k.matrix.ring in
    let f = meaning r c.args.f.now.terms in
    let C = colons_value r k c.args.c in
    let old = c.args.work.now in
    let N : c.newest-before.result.now ≡ newest k c.args.c.colons.items = c.newest-before.ensures ∙ ap (newest k) c.deref.ensures.value in
    let mid = c.preimage.new.work in
    let x = c.in_ok-x.x in
    let G = (preimage_told c.args.f.now.ring r c.requires.ring c.args.f.now.terms c.rows.result c.in_ok-factor.factor c.matrix.result.now (newest k c.args.c.colons.items)
    (c.in_ok-factor.ensures.ring ∙ c.requires.ring) (c.rows.ensures ∙ ap (λ (g : GraphValue). g.matrix.rows) N) c.in_ok-factor.ensures.value (c.matrix.ensures.same ∙ ap (λ (g : GraphValue). g.matrix) N)
    (Ok x) old mid c.in_ok-x.ensures.follows) in
    let E : c.graph.result.now ≡ x.generators.graph = c.graph.ensures ∙ ap (λ (x : GeneratorsValue). x.graph) c.generators.ensures.same in
    let R : x.generators.graph.matrix.ring ≡ r = c.in_ok-x.ensures.ring ∙ c.in_ok-factor.ensures.ring ∙ c.requires.ring in
    let after = c.whole_of.new.work in
    test_goes r f C old mid x G c.settle.new.work (First c.in-First.outside) after (whole_told r c.graph.result.now x.generators.graph E R (Ok (First c.in-First.outside)) mid after (subst (λ y. Follows (inside_value c.graph.result.now.matrix.ring) (Ok y) mid after (whole_run c.graph.result.now.matrix.ring (graph_meaning c.graph.result.now.matrix.ring c.graph.result.now) mid)) c.in-First.is c.in_ok-whole_of.ensures.follows))
    (turn_value r k) c.settle.result c.settle.ensures.follows

pub returns-in-First-clause-spent : goal.returns-in-First-clause-spent
returns-in-First-clause-spent c =
    let k = c.args.k.now in
    let r = k.matrix.ring in
    let f = meaning r c.args.f.now.terms in
    let C = colons_value r k c.args.c in
    let old = c.args.work.now in
    let N : c.newest-before.result.now ≡ newest k c.args.c.colons.items = c.newest-before.ensures ∙ ap (newest k) c.deref.ensures.value in
    let mid = c.preimage.new.work in
    let x = c.in_ok-x.x in
    let G = (preimage_told c.args.f.now.ring r c.requires.ring c.args.f.now.terms c.rows.result c.in_ok-factor.factor c.matrix.result.now (newest k c.args.c.colons.items)
    (c.in_ok-factor.ensures.ring ∙ c.requires.ring) (c.rows.ensures ∙ ap (λ (g : GraphValue). g.matrix.rows) N) c.in_ok-factor.ensures.value (c.matrix.ensures.same ∙ ap (λ (g : GraphValue). g.matrix) N)
    (Ok x) old mid c.in_ok-x.ensures.follows) in
    let E : c.graph.result.now ≡ x.generators.graph = c.graph.ensures ∙ ap (λ (x : GeneratorsValue). x.graph) c.generators.ensures.same in
    let R : x.generators.graph.matrix.ring ≡ r = c.in_ok-x.ensures.ring ∙ c.in_ok-factor.ensures.ring ∙ c.requires.ring in
    let after = c.whole_of.new.work in
    goes_on_earlier k old after c.settle.new.work c.settle.result
    (spent r f C old mid x G after after (inside_value r (First c.in-First.outside)) (whole_told r c.graph.result.now x.generators.graph E R (Ok (First c.in-First.outside)) mid after (subst (λ y. Follows (inside_value c.graph.result.now.matrix.ring) (Ok y) mid after (whole_run c.graph.result.now.matrix.ring (graph_meaning c.graph.result.now.matrix.ring c.graph.result.now) mid)) c.in-First.is c.in_ok-whole_of.ensures.follows))) c.settle.ensures.spent
