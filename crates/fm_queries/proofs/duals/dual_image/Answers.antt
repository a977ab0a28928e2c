use Rattle.std.proofs.Common.{◌≡◌, List, length, [], ◌∷◌, refl, ap, ◌∙◌}
use Rattle.fm_algebra.specs.PolynomialMatrices.{matrix_transpose}
use Rattle.fm_poly.specs.declared.ring.Ring.{Ring}
use Rattle.fm_poly.specs.Polys.{PolyValue}
use Rattle.fm_mat.specs.Matrices.{column_meaning, matrix_meaning}
use Rattle.fm_queries.specs.Duals.{dual}
use Rattle.fm_queries.proofs.DualImages.{column_value, product_value, image_fits, image_passes}
use Rattle.fm_queries.proofs.duals.dual_image.Goals as goal

pub returns-clause-value : goal.returns-clause-value
returns-clause-value c =
    let r = c.args.a.now.ring in
    let z = c.args.z.now in
    let A = matrix_meaning r c.args.a.now in
    let flips : matrix_meaning r c.in_ok-flipped.flipped ≡ dual r c.args.e A = c.in_ok-flipped.ensures.value r c.in_ok-power.ensures.ring ∙ ap (matrix_transpose r.prime r.vars) (c.in_ok-power.ensures.value r refl) in
    let column = column_value r z c.in_ok-column.column (c.in_ok-column.ensures ∙ ap (λ (fs : List PolyValue). record { ring = c.ring.result; rows = length fs; columns = fs ∷ [] }) c.in_ok-copy_of.ensures
    ∙ ap (λ (s : Ring). record { ring = s; rows = length z; columns = z ∷ [] }) c.ring.ensures) in
    product_value r c.args.e A (column_meaning r z) c.in_ok-flipped.flipped c.in_ok-column.column flips column c.times.result (c.times.ensures.value r (c.in_ok-flipped.ensures.ring ∙ c.in_ok-power.ensures.ring))

pub returns-clause-fits : goal.returns-clause-fits
returns-clause-fits c =
    let r = c.args.a.now.ring in
    let z = c.args.z.now in
    let A = matrix_meaning r c.args.a.now in
    let flips : matrix_meaning r c.in_ok-flipped.flipped ≡ dual r c.args.e A = c.in_ok-flipped.ensures.value r c.in_ok-power.ensures.ring ∙ ap (matrix_transpose r.prime r.vars) (c.in_ok-power.ensures.value r refl) in
    let column = column_value r z c.in_ok-column.column (c.in_ok-column.ensures ∙ ap (λ (fs : List PolyValue). record { ring = c.ring.result; rows = length fs; columns = fs ∷ [] }) c.in_ok-copy_of.ensures
    ∙ ap (λ (s : Ring). record { ring = s; rows = length z; columns = z ∷ [] }) c.ring.ensures) in
    image_fits r c.args.e A (column_meaning r z) c.in_ok-flipped.flipped c.in_ok-column.column flips column (c.in_ok-power.ensures.fits r refl) c.times.result
    (c.times.ensures.fits r (c.in_ok-flipped.ensures.ring ∙ c.in_ok-power.ensures.ring))

pub returns-clause-exponent : goal.returns-clause-exponent
returns-clause-exponent c = λ passes.
    let r = c.args.a.now.ring in
    let z = c.args.z.now in
    let A = matrix_meaning r c.args.a.now in
    let flips : matrix_meaning r c.in_ok-flipped.flipped ≡ dual r c.args.e A = c.in_ok-flipped.ensures.value r c.in_ok-power.ensures.ring ∙ ap (matrix_transpose r.prime r.vars) (c.in_ok-power.ensures.value r refl) in
    let column = column_value r z c.in_ok-column.column (c.in_ok-column.ensures ∙ ap (λ (fs : List PolyValue). record { ring = c.ring.result; rows = length fs; columns = fs ∷ [] }) c.in_ok-copy_of.ensures
    ∙ ap (λ (s : Ring). record { ring = s; rows = length z; columns = z ∷ [] }) c.ring.ensures) in
    image_passes r c.args.e A (column_meaning r z) c.in_ok-flipped.flipped c.in_ok-column.column flips column (c.in_ok-power.ensures.fits r refl)
    (c.times.ensures.exponent r (c.in_ok-flipped.ensures.ring ∙ c.in_ok-power.ensures.ring) passes)
