use Rattle.std.proofs.Common.{◌≡◌, ◌↔◌, IsTrue, IfOk, Ok, Err, refl, sym, ap, ◌∙◌, subst, arith}
use Rattle.fm_algebra.specs.PolynomialMatrices.{InImage}
use Rattle.fm_poly.specs.declared.ring.Ring.{Ring}
use Rattle.fm_limit.specs.ResolvedIdeal.{differential}
use Rattle.fm_run.specs.Runs.{Follows, halt_of}
use Rattle.fm_run.proofs.Calls.{wanted}
use Rattle.fm_run.proofs.Parts.{failed}
use Rattle.fm_mat.specs.Matrices.{column_meaning, columns_meaning, matrix_meaning}
use Rattle.fm_graphs.specs.Bounds.{twisted_matrix}
use Rattle.fm_graphs.specs.Graphs.{MatrixOf}
use Rattle.fm_graphs.specs.Trims.{spanned}
use Rattle.fm_plan.specs.Base.{flip}
use Rattle.fm_ext.specs.Exts.{differentials}
use Rattle.fm_queries.specs.Duals.{coboundary_work}
use Rattle.fm_queries.proofs.ImageRuns.{coboundary_spends, power_stops, power_is, test_goes}
use Rattle.fm_queries.proofs.coboundaries.is_zero_at.Goals as goal

pub returns-in_err-boundaries-clause-follows : goal.returns-in_err-boundaries-clause-follows
returns-in_err-boundaries-clause-follows c =
    let x = c.args.resolution.now in
    let r = x.first.matrix.ring in
    let A = flip r (differential r.prime r.vars (differentials r x) c.args.degree) in
    let z = column_meaning r c.args.z.now in
    let units = c.args.work.now in
    wanted (λ b. b) c.from_residual.result units units (coboundary_work r c.args.e A z units) c.from_residual.ensures (omega arith) (coboundary_spends r c.args.e A z units)

pub returns-in_err-power-clause-follows : goal.returns-in_err-power-clause-follows
returns-in_err-power-clause-follows c =
    let x = c.args.resolution.now in
    let r = x.first.matrix.ring in
    let A = flip r (differential r.prime r.vars (differentials r x) c.args.degree) in
    let z = column_meaning r c.args.z.now in
    let units = c.args.work.now in
    let s = c.in_err-power.field-0.0 in
    failed (λ b. b) halt_of c.from_residual-in_err-power.result s units units (coboundary_work r c.args.e A z units) c.from_residual-in_err-power.ensures
    (power_stops r c.args.e A z units s
    (subst (λ (A : MatrixOf r). Follows (matrix_meaning r) (Err s) units units (twisted_matrix r.prime r.vars c.args.e A units)) c.in_ok-boundaries.ensures.value (c.in_err-power.ensures.follows r units c.in_ok-boundaries.ensures.ring)))

pub returns-clause-follows : goal.returns-clause-follows
returns-clause-follows c =
    let x = c.args.resolution.now in
    let r = x.first.matrix.ring in
    let e = c.args.e in
    let A = flip r (differential r.prime r.vars (differentials r x) c.args.degree) in
    let z = column_meaning r c.args.z.now in
    let units = c.args.work.now in
    let new = c.is_in_image.new.work in
    let D = c.in_ok-power.power in
    let power = subst (λ (A : MatrixOf r). Follows (matrix_meaning r) (Ok D) units units (twisted_matrix r.prime r.vars e A units)) c.in_ok-boundaries.ensures.value (c.in_ok-power.ensures.follows r units c.in_ok-boundaries.ensures.ring) in
    test_goes r e A z units D power new c.is_in_image.result
    (subst (λ (s : Ring). Follows (λ b. b) c.is_in_image.result units new (spanned s (columns_meaning s D.columns) (column_meaning s c.args.z.now) units)) (c.in_ok-power.ensures.ring ∙ c.in_ok-boundaries.ensures.ring) c.is_in_image.ensures.follows)

pub returns-clause-decides : goal.returns-clause-decides
returns-clause-decides c =
    let x = c.args.resolution.now in
    let r = x.first.matrix.ring in
    let e = c.args.e in
    let A = flip r (differential r.prime r.vars (differentials r x) c.args.degree) in
    let z = column_meaning r c.args.z.now in
    let units = c.args.work.now in
    let D = c.in_ok-power.power in
    let power = subst (λ (A : MatrixOf r). Follows (matrix_meaning r) (Ok D) units units (twisted_matrix r.prime r.vars e A units)) c.in_ok-boundaries.ensures.value (c.in_ok-power.ensures.follows r units c.in_ok-boundaries.ensures.ring) in
    subst (λ (M : MatrixOf r). IfOk c.is_in_image.result (λ b. IsTrue b ↔ InImage r.prime r.vars M z)) (sym (power_is r e A z units D power))
    (subst (λ (s : Ring). IfOk c.is_in_image.result (λ b. IsTrue b ↔ InImage s.prime s.vars (matrix_meaning s D) (column_meaning s c.args.z.now))) (c.in_ok-power.ensures.ring ∙ c.in_ok-boundaries.ensures.ring) c.is_in_image.ensures.decides)
