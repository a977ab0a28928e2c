use Rattle.std.proofs.Common.{◌≡◌, true, false, Err, length, get_or, sym, ap, ◌∙◌, subst, arith}
use Rattle.std.specs.Prelude.{IsErrAnd}
use Rattle.fm_poly.specs.declared.ring.Ring.{Ring}
use Rattle.fm_poly.specs.declared.poly_error.PolyError.TheVariants.{Exponent}
use Rattle.fm_mat.specs.Matrices.{column_meaning, matrix_meaning}
use Rattle.fm_graphs.specs.Graphs.{MatrixOf}
use Rattle.fm_ext.specs.Exts.{ring_of}
use Rattle.fm_support.proofs.Tables.{column_at}
use Rattle.fm_queries.specs.Duals.{dual_column, dual_fits}
use Rattle.fm_queries.proofs.Moves.{moved_value, theta_columns, theta_rows}
use Rattle.fm_queries.proofs.moving.move_class.Goals as goal

pub dual_image-requires-clause-rows : goal.dual_image-requires-clause-rows
dual_image-requires-clause-rows c = c.requires.length ∙ sym (theta_rows c.args.ext.now c.theta.ensures.ext c.theta.result.now c.theta.ensures.value)

pub returns-in_err-image-clause-exponent : goal.returns-in_err-image-clause-exponent
returns-in_err-image-clause-exponent c = λ passes.
    let r = ring_of c.args.ext.now in
    let e = c.args.e in
    let z = c.args.z.now in
    let t = c.theta.result.now in
    let s = c.in_err-image.field-0.0 in
    let same : Exponent ≡ s = subst (λ x. IsErrAnd x (λ p. p ≡ s)) passes c.from_residual.ensures.1 in
    subst (λ (A : MatrixOf r). dual_fits r e A (column_meaning r z) ≡ false) (sym c.theta.ensures.value)
    (subst (λ (q : Ring). dual_fits q e (matrix_meaning q t) (column_meaning q z) ≡ false) c.theta.ensures.ring (c.in_err-image.ensures.exponent (ap Err (sym same))))

pub returns-clause-moved : goal.returns-clause-moved
returns-clause-moved c =
    let y = c.args.ext.now in
    let e = c.args.e in
    let z = c.args.z.now in
    let t = c.theta.result.now in
    let m = c.in_ok-image.image in
    let d = c.index-columns-0.result in
    let one = c.in_ok-image.ensures.count in
    let is : c.in_ok-moved.moved ≡ get_or m.columns 0 d = c.in_ok-moved.ensures ∙ c.index-columns-0.is ∙ ap (λ cs. get_or cs 0 d) c.columns-columns.ensures.same in
    moved_value y c.theta.ensures.ext t c.theta.ensures.value e z c.requires.length m
    (subst (λ (q : Ring). matrix_meaning q m ≡ dual_column q e (matrix_meaning q t) (column_meaning q z)) c.theta.ensures.ring c.in_ok-image.ensures.value) (omega (arith, one)) d c.in_ok-moved.moved is

pub returns-clause-length : goal.returns-clause-length
returns-clause-length c =
    let y = c.args.ext.now in
    let m = c.in_ok-image.image in
    let d = c.index-columns-0.result in
    let one = c.in_ok-image.ensures.count in
    let at : d ≡ get_or m.columns 0 d = c.index-columns-0.is ∙ ap (λ cs. get_or cs 0 d) c.columns-columns.ensures.same in
    ap length c.in_ok-moved.ensures ∙ (column_at m.ring m.rows m.columns 0 d d c.columns-columns.ensures.shape (omega (arith, one)) at).1 ∙ c.in_ok-image.ensures.rows
    ∙ theta_columns y c.theta.ensures.ext c.theta.result.now c.theta.ensures.value ∙ sym c.requires.length

pub returns-clause-fits : goal.returns-clause-fits
returns-clause-fits c =
    let r = ring_of c.args.ext.now in
    let e = c.args.e in
    let z = c.args.z.now in
    let t = c.theta.result.now in
    subst (λ (A : MatrixOf r). dual_fits r e A (column_meaning r z) ≡ true) (sym c.theta.ensures.value)
    (subst (λ (q : Ring). dual_fits q e (matrix_meaning q t) (column_meaning q z) ≡ true) c.theta.ensures.ring c.in_ok-image.ensures.fits)
