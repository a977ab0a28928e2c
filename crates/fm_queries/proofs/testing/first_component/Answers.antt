use Rattle.std.proofs.Common.{◌≡◌, Ok, Err, [], get_or, sym, ap, ◌∙◌, subst, arith}
use Rattle.fm_poly.specs.declared.ring.Ring.{Ring}
use Rattle.fm_mat.specs.Matrices.{column_meaning, matrix_meaning}
use Rattle.fm_vec.specs.Components.{AreOver}
use Rattle.fm_plan.specs.Queries.{first_nonzero}
use Rattle.fm_plan.proofs.SizesOfAnswers.{cocycle_spends}
use Rattle.fm_support.proofs.Tables.{column_at}
use Rattle.fm_queries.specs.Duals.{dual_column}
use Rattle.fm_queries.proofs.ClassTests.{component_found, component_passes, first_column}
use Rattle.fm_queries.proofs.testing.first_component.Goals as goal

pub returns-in-Ok : goal.returns-in-Ok
returns-in-Ok c = λ units.
    let r = c.args.d.now.ring in
    let D = matrix_meaning r c.args.d.now in
    let z = column_meaning r c.args.z.now in
    let m = c.in-Ok.image in
    let v = c.index-columns-0.result in
    let same = c.columns-columns.ensures.same in
    let at : v ≡ get_or m.columns 0 v = c.index-columns-0.is ∙ ap (λ cs. get_or cs 0 v) same in
    let one = c.in-Ok.ensures.count in
    let over = subst (λ (s : Ring). AreOver s v) c.in-Ok.ensures.ring (column_at m.ring m.rows m.columns 0 v v c.columns-columns.ensures.shape (omega (arith, one)) at).0 in
    let first : c.first_nonzero.result ≡ first_nonzero r 1 (get_or (dual_column r c.args.e D z).columns 0 []) =
    c.first_nonzero.ensures r (subst (AreOver r) (sym c.entries.ensures) over) ∙ ap (λ fs. first_nonzero r 1 (column_meaning r fs)) c.entries.ensures
    ∙ ap (first_nonzero r 1) (sym (first_column r m (dual_column r c.args.e D z) v v c.in-Ok.ensures.value (omega (arith, one)) at)) in
    component_found r c.args.e D z units c.in-Ok.ensures.fits ∙ ap (λ o. record { end = Ok o; left = units }) (sym first)

pub returns-in-Err-Exponent : goal.returns-in-Err-Exponent
returns-in-Err-Exponent c = λ units.
    let r = c.args.d.now.ring in
    component_passes r c.args.e (matrix_meaning r c.args.d.now) (column_meaning r c.args.z.now) units (c.in-Err-Exponent.ensures.exponent (ap Err c.in-Err-Exponent.field-0-is))

pub returns-in-Err-Memory : goal.returns-in-Err-Memory
returns-in-Err-Memory c = λ units.
    let r = c.args.d.now.ring in
    (omega arith, cocycle_spends r c.args.e (matrix_meaning r c.args.d.now) (column_meaning r c.args.z.now) units)
