-- Ideals in degree 0, the zero ideal, the unit ideal, and f = 0
use Rattle.std.proofs.Common.{ℕ, zero, suc, ◌+◌, ◌≡◌, ◌∙◌, ◌↔◌, refl, sym, ap, subst, arith, List, [], ◌∷◌, length}
use Rattle.fm_gfp.specs.declared.prime.Prime.{Prime}
use Rattle.fm_algebra.specs.Families.{only, Mat, mul, unit, nil, flip, each, read, element}
use Rattle.fm_algebra.specs.Matrix.{component}
use Rattle.fm_algebra.specs.Image.{pow}
use Rattle.fm_algebra.specs.Polynomials.{Polynomial, polynomials, polynomial_zero, polynomial_one, frobenius_twist}
use Rattle.fm_algebra.specs.PolynomialMatrices.{HasShape, matrix_unit}
use Rattle.fm_algebra.proofs.Concrete.{polynomials_laws}
use Rattle.fm_algebra.proofs.PolynomialWords.{one_differs}
use Rattle.fm_algebra.proofs.FamilyPowers.{single}
use Rattle.fm_algebra.proofs.Images.{image_nil, mul_nil}
use Rattle.fm_limit.specs.Resolution.{d_below}
use Rattle.fm_limit.specs.System as system
use Rattle.fm_limit.specs.DirectSystem.{IsCocycle, IsCoboundary, moved, IsKilledBy, IsZeroInLimit}
use Rattle.fm_limit.specs.ResolvedIdeal.{ResolvedIdeal, matrix_at, columns_of, rank, row, InIdeal, IsResolved}
use Rattle.fm_limit.specs.Classes.{matrices, complex_of, theta_of, degree_in, length_in, IsZeroLimit, VanishesAfterInverting}
use Rattle.fm_limit.specs.SmallIdeals.{in_degree_zero}
use Rattle.fm_limit.proofs.Homotopy.{coboundary_first}
use Rattle.fm_limit.proofs.Independence.{flip_unit}
use Rattle.fm_limit.proofs.Vanishing.{pow_one}
use Rattle.fm_limit.proofs.FactsRead.{matrices_laws}
use Rattle.fm_limit.proofs.MatrixWords.{unit_fits, shape_columns, row_fits, row_read}
use Rattle.fm_limit.proofs.DegreeZero.{moved_nothing}

module _ (p : Prime) (n : ℕ) where
  row_columns : (fs : List (Polynomial p n)) → length (row p n fs).columns ≡ length fs
  row_columns fs = shape_columns p n 1 (length fs) (row p n fs) (row_fits p n fs)

  -- every ideal is resolved in degree 0
  pub degree_zero_resolved : (fs : List (Polynomial p n)) → IsResolved p n 0 (in_degree_zero p n fs)
  unfolding in_degree_zero matrix_at InIdeal
  degree_zero_resolved fs = record {
    resolution = record {
      count = refl;
      fits = λ j b. let z : zero ≡ j = omega arith in subst (λ j. HasShape p n (rank p n (row p n fs ∷ []) j) (rank p n (row p n fs ∷ []) (suc j)) (matrix_at p n (row p n fs ∷ []) j)) z (subst (λ k. HasShape p n 1 k (row p n fs)) (sym (row_columns fs)) (row_fits p n fs));
      first = λ f. (λ h. h, λ h. h);
      exact = λ j b. absurd (omega arith);
    };
    frobenius = record {
      count = refl;
      fits = λ j b. let z : zero ≡ j = omega arith in subst (λ j. HasShape p n (rank p n (row p n fs ∷ []) j) (rank p n (row p n fs ∷ []) j) (matrix_at p n (matrix_unit p n 1 ∷ []) j)) z (unit_fits p n 1);
      first = refl;
      square = λ j b. absurd (omega arith);
    };
  }

  -- ---- the zero ideal in degree 0: the limit is the ring itself
  module _ (fs : List (Polynomial p n)) where
    abbrev M0 : ResolvedIdeal p n
    M0 = in_degree_zero p n fs

    -- so a class of degree 0 is zero in the limit only if it is 0
    killed_is_nil : (s e : ℕ) (z : Mat (polynomials p n) 1 1) → IsKilledBy (matrices p n) (degree_in p n 0 M0) s e z → z ≡ nil (polynomials p n) 1 1
    unfolding in_degree_zero matrix_at
    killed_is_nil s e z h =
        sym (moved_nothing p n M0 refl s e z) ∙ (coboundary_first (matrices_laws p n) (complex_of p n (row p n fs ∷ [])) (theta_of p n (row p n fs ∷ []) (matrix_unit p n 1 ∷ [])) (e + s) (moved (matrices p n) (degree_in p n 0 M0) s e z)).0 h

  -- a family without rows is 0
  pub no_rows : (k : ℕ) (X Y : Mat (polynomials p n) k 1) → k ≡ 0 → X ≡ Y
  no_rows k X Y q = λ t i a j b. absurd {A = X i a j b ≡ Y i a j b} (omega arith) t

  columns_none : columns_of p n (row p n [] ∷ []) zero ≡ 0
  unfolding matrix_at
  columns_none = row_columns []

  pub zero_ideal_limit : IsZeroLimit p n 0 (in_degree_zero p n []) → ⊥
  unfolding IsZeroLimit in_degree_zero polynomial_one polynomial_zero nil
  zero_ideal_limit f =
      let z : Mat (polynomials p n) 1 1 = element (polynomials p n) (polynomial_one p n) in
      let c : IsCocycle (matrices p n) (degree_in p n 0 (in_degree_zero p n [])) 0 z = no_rows (columns_of p n (row p n [] ∷ []) zero) _ _ columns_none in
      let r = f 0 z c in
      let q : z ≡ nil (polynomials p n) 1 1 = killed_is_nil [] r.0 0 z r.1 in
      one_differs p n (ap (λ X. X zero only zero only) q)

  -- ---- the unit ideal in degree 0: the limit is zero
  unit_row : read (polynomials p n) 1 1 (row p n (polynomial_one p n ∷ [])) ≡ unit (polynomials p n) 1
  unfolding unit component flip polynomial_one
  unit_row =
      single (polynomials_laws p n) (frobenius_twist p n) (read (polynomials p n) 1 1 (row p n (polynomial_one p n ∷ []))) (unit (polynomials p n) 1) (ap (λ X. X zero only zero only) (row_read p n (polynomial_one p n ∷ [])))

  -- the row (1) sends only 0 to 0
  unit_kernel : (k e : ℕ) → k ≡ 1 → (z : Mat (polynomials p n) 1 1)
      → mul (polynomials p n) (flip (polynomials p n) {m = 1} {n = k} (each (polynomials p n) (frobenius_twist p n e) {m = 1} {n = k} (read (polynomials p n) 1 k (row p n (polynomial_one p n ∷ []))))) z ≡ nil (polynomials p n) k 1
      → z ≡ nil (polynomials p n) 1 1
  unit_kernel k e q =
      subst (λ k. (z : Mat (polynomials p n) 1 1) → mul (polynomials p n) (flip (polynomials p n) {m = 1} {n = k} (each (polynomials p n) (frobenius_twist p n e) {m = 1} {n = k} (read (polynomials p n) 1 k (row p n (polynomial_one p n ∷ []))))) z ≡ nil (polynomials p n) k 1 → z ≡ nil (polynomials p n) 1 1) (sym q) (λ z c.
      sym (ap (λ t. mul (polynomials p n) (flip (polynomials p n) {m = 1} {n = 1} (each (polynomials p n) (frobenius_twist p n e) {m = 1} {n = 1} t)) z) unit_row ∙ ap (λ t. mul (polynomials p n) (flip (polynomials p n) {m = 1} {n = 1} t) z) ((matrices_laws p n).twist_unit e 1) ∙ ap (λ t. mul (polynomials p n) t z) (flip_unit (matrices_laws p n) 1) ∙ (matrices_laws p n).unit_left z)
      ∙ c)

  pub unit_ideal_limit : IsZeroLimit p n 0 (in_degree_zero p n (polynomial_one p n ∷ []))
  unfolding IsZeroLimit in_degree_zero system.moved matrix_at
  unit_ideal_limit e z c =
      let q : z ≡ nil (polynomials p n) 1 1 = unit_kernel (length (row p n (polynomial_one p n ∷ [])).columns) e (row_columns (polynomial_one p n ∷ [])) z c in
      (0, subst (λ v. IsCoboundary (matrices p n) (degree_in p n 0 (in_degree_zero p n (polynomial_one p n ∷ []))) (e + 0) v) (sym q) (image_nil (matrices_laws p n) 1 (flip (polynomials p n) (each (polynomials p n) (frobenius_twist p n (e + 0)) (d_below (matrices p n) (complex_of p n (row p n (polynomial_one p n ∷ []) ∷ [])) 0)))))

  -- ---- f = 0: every limit vanishes after inverting 0
  zero_element : element (polynomials p n) (polynomial_zero p n) ≡ nil (polynomials p n) 1 1
  unfolding nil polynomial_zero
  zero_element = refl

  pub inverting_zero : (i : ℕ) (I : ResolvedIdeal p n) → VanishesAfterInverting p n i I (polynomial_zero p n)
  unfolding VanishesAfterInverting system.moved
  inverting_zero i I e z c =
      let q : mul (polynomials p n) z (pow (matrices p n) (element (polynomials p n) (polynomial_zero p n)) 1) ≡ nil (polynomials p n) (length_in p n i I) 1 = ap (mul (polynomials p n) {m = length_in p n i I} {n = 1} {k = 1} z) (pow_one (matrices_laws p n) (element (polynomials p n) (polynomial_zero p n)) ∙ zero_element) ∙ mul_nil (matrices_laws p n) z in
      (1, (0, subst (λ v. IsCoboundary (matrices p n) (degree_in p n i I) (e + 0) v) (sym q) (image_nil (matrices_laws p n) 1 (flip (polynomials p n) (each (polynomials p n) (frobenius_twist p n (e + 0)) (d_below (matrices p n) (complex_of p n I.differentials) i))))))

  -- inverting 1 changes nothing
  one_element : element (polynomials p n) (polynomial_one p n) ≡ unit (polynomials p n) 1
  unfolding unit polynomial_one
  one_element = single (polynomials_laws p n) (frobenius_twist p n) (element (polynomials p n) (polynomial_one p n)) (unit (polynomials p n) 1) refl

  power_of_one : (k : ℕ) → pow (matrices p n) (element (polynomials p n) (polynomial_one p n)) k ≡ unit (polynomials p n) 1
  unfolding pow
  power_of_one zero = refl
  power_of_one (suc k) =
      ap (λ x. mul (polynomials p n) (element (polynomials p n) (polynomial_one p n)) x) (power_of_one k) ∙ (matrices_laws p n).unit_right (element (polynomials p n) (polynomial_one p n)) ∙ one_element

  pub inverting_one : (i : ℕ) (I : ResolvedIdeal p n) → VanishesAfterInverting p n i I (polynomial_one p n) ↔ IsZeroLimit p n i I
  unfolding VanishesAfterInverting IsZeroLimit
  inverting_one i I = (
    λ v e z c. let r = v e z c in subst (λ x. IsZeroInLimit (matrices p n) (degree_in p n i I) e x) (ones r.0 z) r.1,
    λ f e z c. (0, subst (λ x. IsZeroInLimit (matrices p n) (degree_in p n i I) e x) (sym (ones 0 z)) (f e z c)),
  )
    where
      ones : (k : ℕ) (z : Mat (polynomials p n) (length_in p n i I) 1) → mul (polynomials p n) z (pow (matrices p n) (element (polynomials p n) (polynomial_one p n)) k) ≡ z
      ones k z = ap (mul (polynomials p n) {m = length_in p n i I} {n = 1} {k = 1} z) (power_of_one k) ∙ (matrices_laws p n).unit_right z
