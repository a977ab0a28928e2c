-- Powers in factors: matrices with one entry.
use Rattle.std.proofs.Common.{◌≡◌, ℕ, zero, suc, List, [], ◌∷◌, length, Some, refl, sym, ap, ◌∙◌, subst, arith}
use Rattle.std.specs.Prelude.{slice_get}
use Rattle.std.proofs.lemmas.Option.{same_Some}
use Rattle.fm_algebra.specs.Matrix.{product, table, listed, entry, scalar_matrix, unit_matrix}
use Rattle.fm_algebra.specs.FiniteSums.{finite_sum}
use Rattle.fm_algebra.specs.Power.{power}
use Rattle.fm_algebra.specs.Polynomials.{Polynomial, polynomials, polynomial_power}
use Rattle.fm_algebra.specs.PolynomialMatrices.{matrix_product, matrix_unit}
use Rattle.fm_algebra.proofs.Concrete.{polynomials_laws}
use Rattle.fm_poly.specs.declared.ring.Ring.{Ring}
use Rattle.fm_poly.specs.Polys.{PolyValue, meaning}
use Rattle.fm_mat.specs.Matrices.{MatrixValue, columns_meaning}
use Rattle.fm_graphs.specs.Graphs.{MatrixOf}
use Rattle.fm_answers.proofs.PrintedMatrices.{matrix_means}
use Rattle.fm_report.specs.Parts.{part_value}
use Rattle.fm_judge.specs.Claims.{factored_part}
use Rattle.fm_pres.specs.Kept.{IsValue}

module _ (r : Ring) where
  abbrev pub single : Polynomial r.prime r.vars → MatrixOf r
  single a = record { rows = 1; columns = (a ∷ []) ∷ [] }

  product_single : (a b : Polynomial r.prime r.vars) → matrix_product r.prime r.vars (single a) (single b) ≡ single ((polynomials r.prime r.vars).mul b a)
  unfolding matrix_product product table listed finite_sum entry
  product_single a b = ap single ((polynomials_laws r.prime r.vars).zero_add ((polynomials r.prime r.vars).mul a b) ∙ (polynomials_laws r.prime r.vars).mul_comm a b)

  unit_single : matrix_unit r.prime r.vars 1 ≡ single (polynomials r.prime r.vars).one
  unfolding matrix_unit unit_matrix scalar_matrix table listed
  unit_single = refl

  pub power_value : (f : PolyValue) (k : ℕ) → part_value r (factored_part r f k) ≡ single (polynomial_power r.prime r.vars k (meaning r f.terms))
  unfolding part_value polynomial_power power
  power_value f zero = matrix_means r (matrix_unit r.prime r.vars 1) ∙ unit_single
  power_value f (suc k) =
      ap (λ (A : MatrixOf r). matrix_product r.prime r.vars A (single (meaning r f.terms))) (power_value f k)
      ∙ product_single (polynomial_power r.prime r.vars k (meaning r f.terms)) (meaning r f.terms)

  -- the one entry
  read_single : (cs : List (List PolyValue)) (a : Polynomial r.prime r.vars) (c : List PolyValue) (g : PolyValue) → columns_meaning r cs ≡ (a ∷ []) ∷ [] → slice_get cs 0 ≡ Some c → slice_get c 0 ≡ Some g → meaning r g.terms ≡ a
  read_single [] a c g e h k = absurd (cc h)
  read_single ([] ∷ cs) a c g e h k = absurd (cc e)
  read_single ((x ∷ xs) ∷ cs) a c g e h k =
      let column : x ∷ xs ≡ c = same_Some (x ∷ xs) c h in
      let entry : x ≡ g = same_Some x g (subst (λ d. slice_get d 0 ≡ Some g) (sym column) k) in
      let same : meaning r x.terms ≡ a = cc in
      ap (λ (y : PolyValue). meaning r y.terms) (sym entry) ∙ same

  pub power_read : (f : PolyValue) (k : ℕ) (m : MatrixValue) (c : List PolyValue) (g : PolyValue) → IsValue r (factored_part r f k) m → slice_get m.columns 0 ≡ Some c → slice_get c 0 ≡ Some g
      → meaning r g.terms ≡ polynomial_power r.prime r.vars k (meaning r f.terms)
  power_read f k m c g v h e = read_single m.columns (polynomial_power r.prime r.vars k (meaning r f.terms)) c g (ap (λ (A : MatrixOf r). A.columns) (v.meaning ∙ power_value f k)) h e

  pub power_entry : (f : PolyValue) (k : ℕ) (m : MatrixValue) (g : PolyValue) → IsValue r (factored_part r f k) m → length m.columns ≡ 1 → ((c : List PolyValue) → slice_get m.columns 0 ≡ Some c → slice_get c 0 ≡ Some g)
      → meaning r g.terms ≡ polynomial_power r.prime r.vars k (meaning r f.terms)
  power_entry f k m g v l h = go m.columns refl
    where
      go : (cs : List (List PolyValue)) → m.columns ≡ cs → meaning r g.terms ≡ polynomial_power r.prime r.vars k (meaning r f.terms)
      go [] e = let none : length m.columns ≡ 0 = ap length e in absurd (omega (arith, l, none))
      go (c ∷ cs) e = let at : slice_get m.columns 0 ≡ Some c = ap (λ xs. slice_get xs 0) e in power_read f k m c g v at (h c at)
