use Rattle.std.proofs.Common.{Ok, Err, refl, ap, ◌∙◌, subst, subst₂, arith}
use Rattle.fm_poly.specs.declared.ring.Ring.{Ring}
use Rattle.fm_run.specs.Runs.{Follows, halt_of}
use Rattle.fm_run.proofs.Calls.{wanted}
use Rattle.fm_run.proofs.Parts.{failed}
use Rattle.fm_mat.specs.Matrices.{MatrixValue, columns_meaning, matrix_meaning}
use Rattle.fm_graphs.specs.Bounds.{multiplied}
use Rattle.fm_graphs.specs.Graphs.{MatrixOf, lifted}
use Rattle.fm_plan.specs.Base.{morphism_work}
use Rattle.fm_syz.specs.GraphValues.{graph_meaning}
use Rattle.fm_ext.proofs.Morphisms.{morphism_spends, product_stops, power_stops, lift_goes}
use Rattle.fm_ext.proofs.morphism.morphism.Goals as goal

pub returns-in_err-flip-clause-follows : goal.returns-in_err-flip-clause-follows
returns-in_err-flip-clause-follows c =
    let r = c.args.z.now.matrix.ring in
    let T = matrix_meaning r c.args.theta.now in
    let Z = graph_meaning r c.args.z.now in
    wanted (matrix_meaning r) c.from_residual.result c.args.work.now c.args.work.now (morphism_work r T Z c.args.work.now) c.from_residual.ensures (omega arith) (morphism_spends r T Z c.args.work.now)

pub returns-in_err-product-clause-follows : goal.returns-in_err-product-clause-follows
returns-in_err-product-clause-follows c =
    let r = c.args.z.now.matrix.ring in
    let T = matrix_meaning r c.args.theta.now in
    let Z = graph_meaning r c.args.z.now in
    let units = c.args.work.now in
    let s = c.in_err-product.field-0.0 in
    failed (matrix_meaning r) halt_of c.from_residual-in_err-product.result s units units (morphism_work r T Z units) c.from_residual-in_err-product.ensures
    (product_stops r T Z units s
    (subst₂ (λ (A B : MatrixOf r). Follows {X = MatrixValue} (matrix_meaning r) (Err s) units units (multiplied r.prime r.vars A B units)) (c.in_ok-flip.ensures.value r c.requires.ring) (ap (matrix_meaning r) c.matrix.ensures.same)
    (c.in_err-product.ensures.follows r units (c.in_ok-flip.ensures.ring ∙ c.requires.ring))))

pub returns-in_err-power-clause-follows : goal.returns-in_err-power-clause-follows
returns-in_err-power-clause-follows c =
    let r = c.args.z.now.matrix.ring in
    let T = matrix_meaning r c.args.theta.now in
    let Z = graph_meaning r c.args.z.now in
    let units = c.args.work.now in
    let s = c.in_err-power.field-0.0 in
    let m = c.in_ok-product.product in
    failed (matrix_meaning r) halt_of c.from_residual-in_err-power.result s units units (morphism_work r T Z units) c.from_residual-in_err-power.ensures
    (power_stops r T Z units m
    (subst₂ (λ (A B : MatrixOf r). Follows (matrix_meaning r) (Ok m) units units (multiplied r.prime r.vars A B units)) (c.in_ok-flip.ensures.value r c.requires.ring) (ap (matrix_meaning r) c.matrix.ensures.same)
    (c.in_ok-product.ensures.follows r units (c.in_ok-flip.ensures.ring ∙ c.requires.ring))) s
    (c.in_err-power.ensures.follows r units refl))

pub returns-clause-follows : goal.returns-clause-follows
returns-clause-follows c =
    let r = c.args.z.now.matrix.ring in
    let T = matrix_meaning r c.args.theta.now in
    let Z = graph_meaning r c.args.z.now in
    let units = c.args.work.now in
    let m = c.in_ok-product.product in
    let h = c.in_ok-power.power in
    lift_goes r T Z units m
    (subst₂ (λ (A B : MatrixOf r). Follows (matrix_meaning r) (Ok m) units units (multiplied r.prime r.vars A B units)) (c.in_ok-flip.ensures.value r c.requires.ring) (ap (matrix_meaning r) c.matrix.ensures.same)
    (c.in_ok-product.ensures.follows r units (c.in_ok-flip.ensures.ring ∙ c.requires.ring)))
    h (c.in_ok-power.ensures.follows r units refl) c.lift_columns.result c.lift_columns.new.work
    (subst (λ (s : Ring). Follows (matrix_meaning s) c.lift_columns.result units c.lift_columns.new.work (lifted s (graph_meaning s h) (columns_meaning s m.columns) units)) c.in_ok-power.ensures.ring c.lift_columns.ensures.follows)
