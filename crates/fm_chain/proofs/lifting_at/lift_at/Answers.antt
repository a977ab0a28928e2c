use Rattle.std.proofs.Common.{length, refl, subst, arith}
use Rattle.fm_poly.specs.declared.ring.Ring.{Ring}
use Rattle.fm_run.specs.Runs.{Follows, ended_with, halt_of}
use Rattle.fm_run.proofs.Parts.{failed}
use Rattle.fm_mat.specs.Matrices.{column_meaning, matrix_meaning}
use Rattle.fm_mat.proofs.Steps.{map_length}
use Rattle.fm_graphs.specs.Graphs.{lift_run}
use Rattle.fm_plan.specs.Queries.{lift_at}
use Rattle.fm_syz.specs.GraphValues.{graph_meaning}
use Rattle.fm_syz.specs.Insides.{answer_of, lifted_value}
use Rattle.fm_chain.proofs.Lifts.{lift_few, lift_stops, lift_goes}
use Rattle.fm_chain.proofs.lifting_at.lift_at.Goals as goal

pub returns-in_err-h-clause-follows : goal.returns-in_err-h-clause-follows
returns-in_err-h-clause-follows c =
    let g = c.args.g.now in
    let r = g.matrix.ring in
    let v = column_meaning r c.args.v.now in
    let units = c.args.work.now in
    failed (lifted_value r) halt_of c.from_residual.result c.in_err-h.field-0.0 units units (lift_at r c.args.e (graph_meaning r g) v units) c.from_residual.ensures
    (lift_stops r c.args.e (graph_meaning r g) v units c.in_err-h.field-0.0 (c.in_err-h.ensures.follows r units refl))

pub returns-clause-follows : goal.returns-clause-follows
returns-clause-follows c =
    let g = c.args.g.now in
    let r = g.matrix.ring in
    let h = c.in_ok-h.h in
    let units = c.args.work.now in
    lift_goes r c.args.e (graph_meaning r g) (column_meaning r c.args.v.now) units c.lift.new.work h c.lift.result (c.in_ok-h.ensures.follows r units refl)
    (subst (λ (s : Ring). Follows (lifted_value s) c.lift.result units c.lift.new.work (ended_with (answer_of s (graph_meaning s h)) (lift_run s (graph_meaning s h) (column_meaning s c.args.v.now) units))) c.in_ok-h.ensures.ring c.lift.ensures.follows)

pub returns-clause-few : goal.returns-clause-few
returns-clause-few c =
    let h = c.in_ok-h.h in
    let s = h.matrix.ring in
    let high = c.matrix-matrix.ensures.complete.high in
    lift_few s (matrix_meaning s h.matrix) (column_meaning s c.args.v.now) (length h.matrix.columns) (map_length (column_meaning s) h.matrix.columns) (omega (arith, high)) c.lift.result c.lift.ensures.solves
