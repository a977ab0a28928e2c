-- Matrices that the program gives.
use Rattle.std.proofs.Common.{◌≡◌, ℕ, List, [], ◌∷◌, length, refl, ◌∙◌}
use Rattle.std.proofs.lemmas.List.{length-map}
use Rattle.fm_algebra.specs.PolynomialMatrices.{matrix_transpose, matrix_unit, matrix_zero}
use Rattle.fm_algebra.specs.Matrix.{zero_matrix, transpose, table, listed}
use Rattle.fm_limit.proofs.MatrixWords.{unit_fits, shape_columns}
use Rattle.fm_poly.specs.Polys.{PolyValue}
use Rattle.fm_poly.specs.declared.ring.Ring.{Ring}
use Rattle.fm_vec.specs.Components.{AreOver}
use Rattle.fm_mat.specs.Matrices.{AreColumns}
use Rattle.fm_answers.specs.Printed.{printed_vector}
use Rattle.fm_report.specs.Parts.{given}
use Rattle.fm_parts.specs.Shapes.{columns_of}
use Rattle.fm_judge.specs.Claims.{printed_part, unit_part}

pub unit_columns : (r : Ring) (n : ℕ) → columns_of (unit_part r n) ≡ n
unit_columns r n = length-map (matrix_unit r.prime r.vars n).columns (printed_vector r) ∙ shape_columns r.prime r.vars n n (matrix_unit r.prime r.vars n) (unit_fits r.prime r.vars n)

-- the flip of d_0
pub no_columns : (r : Ring) → given 1 [] ≡ printed_part r (matrix_transpose r.prime r.vars (matrix_zero r.prime r.vars 0 1))
unfolding matrix_transpose matrix_zero zero_matrix transpose table listed
no_columns r = refl

pub one_column : (r : Ring) (fs : List PolyValue) → AreOver r fs → AreColumns r (length fs) (fs ∷ [])
one_column r fs over = (over, refl, tt)
