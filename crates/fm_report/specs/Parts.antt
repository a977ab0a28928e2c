-- Parts: matrices that are printed, or made of others.
use Rattle.std.specs.Prelude.{ℕ, List, map}
use Rattle.fm_algebra.specs.PolynomialMatrices.{PolynomialMatrix, matrix_product, matrix_transpose, matrix_twist, matrix_beside, matrix_above, matrix_picked}
use Rattle.fm_algebra.specs.Polynomials.{Polynomial}
use Rattle.fm_poly.specs.Polys.{PolyValue, meaning}
use Rattle.fm_poly.specs.declared.ring.Ring.{Ring}

-- a matrix with its number of rows and its columns; or made by a Frobenius twist, as a transpose, as [A | B], as A above B, as a product,
-- or by picking columns, which count from 0 here
pub data Part : Type 0 where
  given : (rows : ℕ) (columns : List (List PolyValue)) → Part
  twist : (a : Part) (e : ℕ) → Part
  flip : (a : Part) → Part
  beside : (a b : Part) → Part
  stack : (a b : Part) → Part
  times : (a b : Part) → Part
  pick : (a : Part) (columns : List ℕ) → Part

module _ (r : Ring) where
  -- the polynomials that are printed
  abbrev pub meant : List PolyValue → List (Polynomial r.prime r.vars)
  meant fs = map (λ (f : PolyValue). meaning r f.terms) fs

  -- the matrix that a part means
  unfoldable pub part_value : Part → PolynomialMatrix r.prime r.vars
  part_value (given rows columns) = record { rows = rows; columns = map meant columns }
  part_value (twist a e) = matrix_twist r.prime r.vars e (part_value a)
  part_value (flip a) = matrix_transpose r.prime r.vars (part_value a)
  part_value (beside a b) = matrix_beside r.prime r.vars (part_value a) (part_value b)
  part_value (stack a b) = matrix_above r.prime r.vars (part_value a) (part_value b)
  part_value (times a b) = matrix_product r.prime r.vars (part_value a) (part_value b)
  part_value (pick a js) = matrix_picked r.prime r.vars (part_value a) js

  abbrev pub part_values : List Part → List (PolynomialMatrix r.prime r.vars)
  part_values xs = map part_value xs
