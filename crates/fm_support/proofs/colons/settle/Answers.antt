use Rattle.std.proofs.Common.{◌≡◌, length, Ok, Err, sym, ap, ◌∙◌, subst, arith}
use Rattle.fm_graphs.specs.Graphs.{inside_run}
use Rattle.fm_mat.specs.Matrices.{MatrixValue, matrix_meaning}
use Rattle.fm_plan.specs.Queries.{colon_settled}
use Rattle.fm_run.specs.Runs.{Follows, halt_of, ready}
use Rattle.fm_run.proofs.Calls.{wanted}
use Rattle.fm_run.proofs.Parts.{failed}
use Rattle.fm_syz.specs.GeneratorValues.{GeneratorsValue, preimage_meaning}
use Rattle.fm_syz.specs.GraphValues.{GraphValue, graph_meaning}
use Rattle.fm_syz.specs.Insides.{inside_value}
use Rattle.fm_syz.specs.declared.inside.Inside.TheVariants.{All, First}
use Rattle.fm_support.specs.Inverting.{AreColons, newest, colons_value, outside_value, settle_work, turn_value}
use Rattle.fm_support.specs.declared.colons.ColonTurn.TheVariants.{Last, Again}
use Rattle.fm_support.specs.declared.colons.Coloned.TheVariants.{Stable}
use Rattle.fm_support.proofs.ColonRuns.{newest_ring, newest_rows, colons_more, settle_stops, settle_goes, outside_paid, stable_value, again_value, shaped}
use Rattle.fm_support.proofs.ScalarRuns.{inside_told}
use Rattle.fm_support.proofs.colons.settle.Goals as goal

pub inside_of-requires-clause-ring : goal.inside_of-requires-clause-ring
inside_of-requires-clause-ring c =
    ap (λ (m : MatrixValue). m.ring) (c.found.ensures ∙ ap (λ (x : GeneratorsValue). x.graph.matrix) c.generators.ensures.same) ∙ c.requires.ring
    ∙ sym (ap (λ (g : GraphValue). g.matrix.ring) (c.newest.ensures ∙ ap (newest c.args.k.now) c.deref.ensures.value) ∙ newest_ring c.args.k.now c.args.c.colons.items c.requires.colons)

pub inside_of-requires-clause-rows : goal.inside_of-requires-clause-rows
inside_of-requires-clause-rows c =
    ap (λ (m : MatrixValue). m.rows) (c.found.ensures ∙ ap (λ (x : GeneratorsValue). x.graph.matrix) c.generators.ensures.same) ∙ c.requires.rows
    ∙ sym (ap (λ (g : GraphValue). g.matrix.rows) (c.newest.ensures ∙ ap (newest c.args.k.now) c.deref.ensures.value) ∙ newest_rows c.args.k.now c.args.c.colons.items c.requires.colons)

pub returns-in_err-inside-clause-follows : goal.returns-in_err-inside-clause-follows
returns-in_err-inside-clause-follows c =
    let k = c.args.k.now in
    let r = k.matrix.ring in
    let C = colons_value r k c.args.c in
    let X = preimage_meaning r c.args.x in
    let O = outside_value c.args.outside in
    let z = c.in_err-inside.field-0.0 in
    failed (turn_value r k) halt_of c.from_residual.result z c.args.work.now c.inside_of.new.work (settle_work r C X O c.args.work.now) c.from_residual.ensures
    (settle_stops r C X O c.args.work.now c.inside_of.new.work (turn_value r k) z
    (inside_told r c.found.result.now c.args.x.generators.graph.matrix c.newest.result.now (newest k c.args.c.colons.items)
    (c.found.ensures ∙ ap (λ (x : GeneratorsValue). x.graph.matrix) c.generators.ensures.same) (c.newest.ensures ∙ ap (newest k) c.deref.ensures.value) (newest_ring k c.args.c.colons.items c.requires.colons)
    (Err z) c.args.work.now c.inside_of.new.work c.in_err-inside.ensures.follows))

pub returns-in_err-push-clause-follows : goal.returns-in_err-push-clause-follows
returns-in_err-push-clause-follows c =
    let k = c.args.k.now in
    let r = k.matrix.ring in
    let C = colons_value r k c.args.c in
    let X = preimage_meaning r c.args.x in
    let O = outside_value c.args.outside in
    let y = c.in_ok-inside.inside in
    let left = c.inside_of.new.work in
    settle_goes r C X O c.args.work.now left y
    (inside_told r c.found.result.now c.args.x.generators.graph.matrix c.newest.result.now (newest k c.args.c.colons.items)
    (c.found.ensures ∙ ap (λ (x : GeneratorsValue). x.graph.matrix) c.generators.ensures.same) (c.newest.ensures ∙ ap (newest k) c.deref.ensures.value) (newest_ring k c.args.c.colons.items c.requires.colons)
    (Ok y) c.args.work.now left c.in_ok-inside.ensures.follows)
    (turn_value r k) c.from_residual-in_err-push.result
    (wanted (turn_value r k) c.from_residual-in_err-push.result left left (ready (colon_settled r C X O (inside_value r y)) left) c.from_residual-in_err-push.ensures (omega arith) (omega arith))

pub new-requires-clause-shape : goal.new-requires-clause-shape
new-requires-clause-shape c =
    let k = c.args.k.now in
    let N : c.newest.result.now ≡ newest k c.args.c.colons.items = c.newest.ensures ∙ ap (newest k) c.deref.ensures.value in
    let M : c.newest-2.result.now ≡ newest k c.args.c.colons.items = c.newest-2.ensures ∙ ap (newest k) c.deref-2.ensures.value in
    shaped c.newest.result.now c.newest-2.result.now c.ring.result c.width-width.result c.in_ok-inside.inside c.in-All.columns (N ∙ sym M) c.in-All.is
    (ap (λ (g : GraphValue). g.matrix.ring) N ∙ newest_ring k c.args.c.colons.items c.requires.colons ∙ sym c.ring.ensures) c.width-width.ensures c.in_ok-inside.ensures.columns

pub returns-in-All-clause-follows : goal.returns-in-All-clause-follows
returns-in-All-clause-follows c =
    let k = c.args.k.now in
    let r = k.matrix.ring in
    let C = colons_value r k c.args.c in
    let X = preimage_meaning r c.args.x in
    let O = outside_value c.args.outside in
    let left = c.inside_of.new.work in
    let M : c.newest-2.result.now ≡ newest k c.args.c.colons.items = c.newest-2.ensures ∙ ap (newest k) c.deref-2.ensures.value in
    settle_goes r C X O c.args.work.now left (All c.in-All.columns)
    (inside_told r c.found.result.now c.args.x.generators.graph.matrix c.newest.result.now (newest k c.args.c.colons.items)
    (c.found.ensures ∙ ap (λ (x : GeneratorsValue). x.graph.matrix) c.generators.ensures.same) (c.newest.ensures ∙ ap (newest k) c.deref.ensures.value) (newest_ring k c.args.c.colons.items c.requires.colons)
    (Ok (All c.in-All.columns)) c.args.work.now left (subst (λ y. Follows (inside_value c.newest.result.now.matrix.ring) (Ok y) c.args.work.now left (inside_run c.newest.result.now.matrix.ring (matrix_meaning c.newest.result.now.matrix.ring c.found.result.now) (graph_meaning c.newest.result.now.matrix.ring c.newest.result.now) c.args.work.now)) c.in-All.is c.in_ok-inside.ensures.follows))
    (turn_value r k) (Ok (Last (Stable c.push.new.self c.new.result c.args.c.proper)))
    (ap (λ x. record { end = Ok x; left = left }) (stable_value r k c.args.c.colons.items c.push.new.self.items c.args.x (newest k c.args.c.colons.items) c.new.result c.in-All.columns.items c.in_ok-push.ensures.items
    (ap (λ (m : MatrixValue). m.rows) c.new.ensures ∙ c.width-width.ensures ∙ ap (λ (g : GraphValue). length g.matrix.columns) M) (ap (λ (m : MatrixValue). m.columns) c.new.ensures) (outside_value c.args.c.proper)))

pub returns-in-All-clause-spent : goal.returns-in-All-clause-spent
returns-in-All-clause-spent c =
    let k = c.args.k.now in
    (subst (AreColons k) (sym c.in_ok-push.ensures.items) (colons_more k c.args.c.colons.items c.args.x c.requires.colons c.requires.ring c.requires.rows), ap (λ (m : MatrixValue). m.ring) c.new.ensures ∙ c.ring.ensures)

pub returns-in-First-clause-follows : goal.returns-in-First-clause-follows
returns-in-First-clause-follows c =
    let k = c.args.k.now in
    let r = k.matrix.ring in
    let C = colons_value r k c.args.c in
    let X = preimage_meaning r c.args.x in
    let O = outside_value c.args.outside in
    let left = c.inside_of.new.work in
    settle_goes r C X O c.args.work.now left (First c.in-First.field-0)
    (inside_told r c.found.result.now c.args.x.generators.graph.matrix c.newest.result.now (newest k c.args.c.colons.items)
    (c.found.ensures ∙ ap (λ (x : GeneratorsValue). x.graph.matrix) c.generators.ensures.same) (c.newest.ensures ∙ ap (newest k) c.deref.ensures.value) (newest_ring k c.args.c.colons.items c.requires.colons)
    (Ok (First c.in-First.field-0)) c.args.work.now left (subst (λ y. Follows (inside_value c.newest.result.now.matrix.ring) (Ok y) c.args.work.now left (inside_run c.newest.result.now.matrix.ring (matrix_meaning c.newest.result.now.matrix.ring c.found.result.now) (graph_meaning c.newest.result.now.matrix.ring c.newest.result.now) c.args.work.now)) c.in-First.is c.in_ok-inside.ensures.follows))
    (turn_value r k) (Ok (Again (record { colons = c.push.new.self; proper = c.args.outside })))
    (ap (λ x. record { end = Ok x; left = left }) (again_value r k c.args.c.colons.items c.push.new.self.items c.args.x O c.in_ok-push.ensures.items))

pub returns-in-First-clause-spent : goal.returns-in-First-clause-spent
returns-in-First-clause-spent c =
    let k = c.args.k.now in
    let r = k.matrix.ring in
    let C = colons_value r k c.args.c in
    let X = preimage_meaning r c.args.x in
    let O = outside_value c.args.outside in
    let left = c.inside_of.new.work in (
      outside_paid r C X O c.args.work.now left (outside_value c.in-First.field-0)
          (inside_told r c.found.result.now c.args.x.generators.graph.matrix c.newest.result.now (newest k c.args.c.colons.items)
          (c.found.ensures ∙ ap (λ (x : GeneratorsValue). x.graph.matrix) c.generators.ensures.same) (c.newest.ensures ∙ ap (newest k) c.deref.ensures.value) (newest_ring k c.args.c.colons.items c.requires.colons)
          (Ok (First c.in-First.field-0)) c.args.work.now left (subst (λ y. Follows (inside_value c.newest.result.now.matrix.ring) (Ok y) c.args.work.now left (inside_run c.newest.result.now.matrix.ring (matrix_meaning c.newest.result.now.matrix.ring c.found.result.now) (graph_meaning c.newest.result.now.matrix.ring c.newest.result.now) c.args.work.now)) c.in-First.is c.in_ok-inside.ensures.follows)),
      subst (AreColons k) (sym c.in_ok-push.ensures.items) (colons_more k c.args.c.colons.items c.args.x c.requires.colons c.requires.ring c.requires.rows),
    )
