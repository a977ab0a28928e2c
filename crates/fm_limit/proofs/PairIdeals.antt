-- Ideals of two products h * f and h * g over GF(2), in degree 2, where f divides g * b only if it divides b
use Rattle.std.proofs.Common.{ℕ, zero, suc, ◌+◌, ◌%◌, ◌<◌, ◌≡◌, ◌∙◌, ◌↔◌, refl, sym, ap, ap₂, subst, arith, inl, inr, List, [], ◌∷◌, length, get_or}
use Rattle.fm_gfp.specs.declared.prime.Prime.TheVariants.{Two}
use Rattle.fm_algebra.specs.FiniteSums.{finite_sum}
use Rattle.fm_algebra.specs.Matrix.{component, entry, listed, table, apply, product, transpose, entrywise, unit_matrix, scalar_matrix, column_matrix}
use Rattle.fm_algebra.specs.Power.{power}
use Rattle.fm_algebra.specs.Polynomials.{Polynomial, polynomials, polynomial_zero, polynomial_sum, polynomial_product, polynomial_power, coefficient, frobenius_twist}
use Rattle.fm_algebra.specs.PolynomialMatrices.{HasShape, matrix_unit, matrix_product, matrix_transpose, matrix_twist, matrix_column, vector_product, InImage, InKernel, GeneratesKernel}
use Rattle.fm_algebra.proofs.Algebra.{mul_one, add_zero, mul_zero, zero_mul, add_cancel, mul_left_comm}
use Rattle.fm_algebra.proofs.Concrete.{polynomials_laws}
use Rattle.fm_algebra.proofs.PolynomialWords.{cancel_factor, polynomials_domain, coefficient_sum, coefficient_zero, same_coefficients}
use Rattle.fm_algebra.proofs.Tables.{length-apply}
use Rattle.fm_algebra.proofs.TwistWords.{power_is_twist}
use Rattle.fm_limit.specs.ResolvedIdeal.{matrix_at, row, rank, InIdeal, IsResolved}
use Rattle.fm_limit.specs.SmallIdeals.{one_entry, no_columns}
use Rattle.fm_limit.specs.PairIdeals.{pair_row, pair_column, pair_diagonal, pair_ideal}
use Rattle.fm_limit.proofs.Principal.{one_fits, no_fits}
use Rattle.fm_limit.proofs.MatrixWords.{unit_fits}

module _ (n : ℕ) where
  abbrev P : Type 0
  P = Polynomial Two n

  open polynomials Two n use {zero as 𝟘, one as 𝟙, add as ◌⊕◌, mul as ◌⊗◌}

  infixl 60 ◌⊕◌
  infixl 70 ◌⊗◌
  -- ---- rings in which 1 + 1 = 0
  even : (k : ℕ) → (k + k) % 2 ≡ 0
  even k = omega arith

  pub double : (u : P) → u ⊕ u ≡ 𝟘
  unfolding polynomial_sum polynomial_zero
  double u = same_coefficients Two n (polynomial_sum Two n u u) (polynomial_zero Two n) (λ a l. coefficient_sum Two n u u a ∙ even (coefficient Two n u a) ∙ sym (coefficient_zero Two n a))

  -- what adds up to 0 is equal
  pub same_of_sum : (u v : P) → u ⊕ v ≡ 𝟘 → u ≡ v
  same_of_sum u v e = add_cancel (polynomials_laws Two n) v u v ((polynomials_laws Two n).add_comm v u ∙ e ∙ sym (double v))

  pub square : (u : P) → frobenius_twist Two n 1 u ≡ u ⊗ u
  unfolding polynomial_power power
  square u = sym (power_is_twist Two n 1 u) ∙ ap (λ x. u ⊗ x) (mul_one (polynomials_laws Two n) u)

  -- ---- products with vectors
  pub row_acts : (u v a b : P) → vector_product Two n (pair_row n u v) (a ∷ b ∷ []) ≡ (u ⊗ a ⊕ v ⊗ b) ∷ []
  unfolding vector_product apply listed finite_sum entry component
  row_acts u v a b = ap (λ x. (x ⊕ v ⊗ b) ∷ []) ((polynomials_laws Two n).zero_add (u ⊗ a))

  pub column_acts : (u v c : P) → vector_product Two n (pair_column n u v) (c ∷ []) ≡ (u ⊗ c) ∷ (v ⊗ c) ∷ []
  unfolding vector_product apply listed finite_sum entry component
  column_acts u v c = ap₂ (λ x y. x ∷ y ∷ []) ((polynomials_laws Two n).zero_add (u ⊗ c)) ((polynomials_laws Two n).zero_add (v ⊗ c))

  head_of : {u v : P} {a b : List P} → u ∷ a ≡ v ∷ b → u ≡ v
  head_of e = ap (λ l. get_or l 0 𝟘) e

  second_of : {u v u' v' : P} → u ∷ v ∷ [] ≡ u' ∷ v' ∷ [] → v ≡ v'
  second_of e = ap (λ l. get_or l 1 𝟘) e

  module _ (h f g : P) (h_nonzero : ¬ (h ≡ polynomial_zero Two n)) (f_nonzero : ¬ (f ≡ polynomial_zero Two n)) (coprime : (b : P) → ((y : P) × (polynomial_product Two n f y ≡ polynomial_product Two n g b)) → (y : P) × (polynomial_product Two n f y ≡ b)) where
    -- the relations of f and g
    relation : (a b : P) → f ⊗ a ≡ g ⊗ b → (c : P) × (g ⊗ c ≡ a) × (f ⊗ c ≡ b)
    unfolding polynomial_product polynomial_zero
    relation a b e =
        let r = coprime b (a, e) in
        let q : f ⊗ (g ⊗ r.0) ≡ f ⊗ a = mul_left_comm (polynomials_laws Two n) f g r.0 ∙ ap (λ x. g ⊗ x) r.1 ∙ sym e in
        (r.0, cancel_factor Two n f (g ⊗ r.0) a f_nonzero q, r.1)

    no_h : (u : P) → h ⊗ u ≡ 𝟘 → u ≡ 𝟘
    unfolding polynomial_product polynomial_zero
    no_h u e = elim (polynomials_domain Two n h u e) [ inl z ↦ absurd (h_nonzero z) | inr z ↦ z ]

    no_f : (u : P) → f ⊗ u ≡ 𝟘 → u ≡ 𝟘
    unfolding polynomial_product polynomial_zero
    no_f u e = elim (polynomials_domain Two n f u e) [ inl z ↦ absurd (f_nonzero z) | inr z ↦ z ]

    spread : (a b : P) → (h ⊗ f) ⊗ a ⊕ (h ⊗ g) ⊗ b ≡ h ⊗ (f ⊗ a ⊕ g ⊗ b)
    spread a b =
        ap₂ (λ x y. x ⊕ y) ((polynomials_laws Two n).mul_assoc h f a) ((polynomials_laws Two n).mul_assoc h g b) ∙ sym ((polynomials_laws Two n).mul_add h (f ⊗ a) (g ⊗ b))

    column_length : (w : List P) → InImage Two n (pair_column n g f) w → length w ≡ 2
    unfolding InImage
    column_length w k = sym (ap length k.2) ∙ length-apply (polynomials Two n) (pair_column n g f) k.0

    -- ker d_1 = im d_2
    pub exact_first : GeneratesKernel Two n (pair_column n g f) (pair_row n (h ⊗ f) (h ⊗ g))
    unfolding InKernel InImage vector_product
    exact_first [] = ((λ k. absurd (let l : 0 ≡ 2 = k.0 in omega arith)), (λ k. absurd (let l : 0 ≡ 2 = column_length [] k in omega arith)))
    exact_first (a ∷ []) = ((λ k. absurd (let l : 1 ≡ 2 = k.0 in omega arith)), (λ k. absurd (let l : 1 ≡ 2 = column_length (a ∷ []) k in omega arith)))
    exact_first (a ∷ b ∷ []) = (there, back)
      where
        there : InKernel Two n (pair_row n (h ⊗ f) (h ⊗ g)) (a ∷ b ∷ []) → InImage Two n (pair_column n g f) (a ∷ b ∷ [])
        there k =
            let e : h ⊗ (f ⊗ a ⊕ g ⊗ b) ≡ 𝟘 = sym (spread a b) ∙ head_of (sym (row_acts (h ⊗ f) (h ⊗ g) a b) ∙ k.1) in
            let r = relation a b (same_of_sum (f ⊗ a) (g ⊗ b) (no_h (f ⊗ a ⊕ g ⊗ b) e)) in
            (r.0 ∷ [], refl, column_acts g f r.0 ∙ ap₂ (λ x y. x ∷ y ∷ []) r.1 r.2)

        back : InImage Two n (pair_column n g f) (a ∷ b ∷ []) → InKernel Two n (pair_row n (h ⊗ f) (h ⊗ g)) (a ∷ b ∷ [])
        back k = elim k.0 as (λ w. (length w ≡ 1) → (vector_product Two n (pair_column n g f) w ≡ a ∷ b ∷ []) → InKernel Two n (pair_row n (h ⊗ f) (h ⊗ g)) (a ∷ b ∷ [])) [
          | [] ↦ λ l e. absurd (let q : 0 ≡ 1 = l in omega arith)
          | c ∷ w ↦ λ l e. of_one c w l e
        ] k.1 k.2
          where
            of_one : (c : P) (w : List P) → length (c ∷ w) ≡ 1 → vector_product Two n (pair_column n g f) (c ∷ w) ≡ a ∷ b ∷ [] → InKernel Two n (pair_row n (h ⊗ f) (h ⊗ g)) (a ∷ b ∷ [])
            of_one c (d ∷ w) l e = absurd (let q : length (c ∷ d ∷ w) ≡ 1 = l in omega arith)
            of_one c [] l e =
                let s = sym (column_acts g f c) ∙ e in
                let x : g ⊗ c ≡ a = head_of s in
                let y : f ⊗ c ≡ b = second_of s in
                let q : f ⊗ a ≡ g ⊗ b = ap (λ z. f ⊗ z) (sym x) ∙ mul_left_comm (polynomials_laws Two n) f g c ∙ ap (λ z. g ⊗ z) y in
                let z : f ⊗ a ⊕ g ⊗ b ≡ 𝟘 = ap (λ z. z ⊕ g ⊗ b) q ∙ double (g ⊗ b) in
                (refl, row_acts (h ⊗ f) (h ⊗ g) a b ∙ ap (λ z. z ∷ []) (spread a b ∙ ap (λ z. h ⊗ z) z ∙ mul_zero (polynomials_laws Two n) h))
    exact_first (a ∷ b ∷ c ∷ w) = ((λ k. absurd (let l : length (a ∷ b ∷ c ∷ w) ≡ 2 = k.0 in omega arith)), (λ k. absurd (let l : length (a ∷ b ∷ c ∷ w) ≡ 2 = column_length (a ∷ b ∷ c ∷ w) k in omega arith)))

    -- ker d_2 = 0
    exact_second : GeneratesKernel Two n (no_columns Two n) (pair_column n g f)
    unfolding InKernel InImage vector_product apply listed finite_sum
    exact_second [] = ((λ k. absurd (let l : 0 ≡ 1 = k.0 in omega arith)), (λ k. absurd (let l : 1 ≡ 0 = ap length k.2 in omega arith)))
    exact_second (c ∷ []) = (
      λ k. ([], refl, ap (λ z. z ∷ []) (sym (no_f c (second_of (sym (column_acts g f c) ∙ k.1))))),
      λ k. (refl, column_acts g f c ∙ zero_both c (sym (head_of k.2))),
    )
      where
        zero_both : (c : P) → c ≡ 𝟘 → (g ⊗ c) ∷ (f ⊗ c) ∷ [] ≡ 𝟘 ∷ 𝟘 ∷ []
        zero_both c z = ap₂ (λ x y. x ∷ y ∷ []) (ap (λ x. g ⊗ x) z ∙ mul_zero (polynomials_laws Two n) g) (ap (λ x. f ⊗ x) z ∙ mul_zero (polynomials_laws Two n) f)
    exact_second (c ∷ d ∷ w) = ((λ k. absurd (let l : length (c ∷ d ∷ w) ≡ 1 = k.0 in omega arith)), (λ k. absurd (let l : 1 ≡ length (c ∷ d ∷ w) = ap length k.2 in omega arith)))

    -- ---- shapes
    pub under_two : (Q : ℕ → Type 0) → Q 0 → Q 1 → (j : ℕ) → j < 2 → Q j
    under_two Q a b zero h = a
    under_two Q a b (suc zero) h = b
    under_two Q a b (suc (suc j)) h = absurd (omega arith)

    pub under_three : (Q : ℕ → Type 0) → Q 0 → Q 1 → Q 2 → (j : ℕ) → j < 3 → Q j
    under_three Q a b c zero h = a
    under_three Q a b c (suc zero) h = b
    under_three Q a b c (suc (suc zero)) h = c
    under_three Q a b c (suc (suc (suc j))) h = absurd (omega arith)

    pub row_shape : (u v : P) → HasShape Two n 1 2 (pair_row n u v)
    unfolding HasShape
    row_shape u v = (refl, refl, under_two (λ j. length (get_or ((u ∷ []) ∷ (v ∷ []) ∷ []) j []) ≡ 1) refl refl)

    pub column_shape : (u v : P) → HasShape Two n 2 1 (pair_column n u v)
    unfolding HasShape
    column_shape u v = (refl, refl, λ j b. let z : zero ≡ j = omega arith in subst (λ j. length (get_or ((u ∷ v ∷ []) ∷ []) j []) ≡ 2) z refl)

    pub diagonal_shape : (u v : P) → HasShape Two n 2 2 (pair_diagonal n u v)
    unfolding HasShape
    diagonal_shape u v = (refl, refl, under_two (λ j. length (get_or ((u ∷ polynomial_zero Two n ∷ []) ∷ (polynomial_zero Two n ∷ v ∷ []) ∷ []) j []) ≡ 2) refl refl)

    -- the row of the generators is d_1
    pub row_same : (u v : P) → row Two n (u ∷ v ∷ []) ≡ pair_row n u v
    unfolding row matrix_transpose matrix_column transpose column_matrix table listed entry
    row_same u v = refl

    -- d_1 * theta_1 = d_1^[2]
    pub first_square : (u v : P) → matrix_product Two n (pair_row n u v) (pair_diagonal n u v) ≡ matrix_product Two n (matrix_unit Two n 1) (matrix_twist Two n 1 (pair_row n u v))
    unfolding matrix_product product table listed entry finite_sum matrix_unit unit_matrix scalar_matrix matrix_twist entrywise polynomial_zero
    first_square u v =
        let R = polynomials_laws Two n in
        let a : (𝟘 ⊕ u ⊗ u) ⊕ v ⊗ 𝟘 ≡ 𝟘 ⊕ 𝟙 ⊗ frobenius_twist Two n 1 u = ap (λ x. (𝟘 ⊕ u ⊗ u) ⊕ x) (mul_zero R v) ∙ add_zero R (𝟘 ⊕ u ⊗ u) ∙ ap (λ x. 𝟘 ⊕ x) (sym (square u) ∙ sym (R.one_mul (frobenius_twist Two n 1 u))) in
        let b : (𝟘 ⊕ u ⊗ 𝟘) ⊕ v ⊗ v ≡ 𝟘 ⊕ 𝟙 ⊗ frobenius_twist Two n 1 v = ap (λ x. x ⊕ v ⊗ v) (R.zero_add (u ⊗ 𝟘) ∙ mul_zero R u) ∙ ap (λ x. 𝟘 ⊕ x) (sym (square v) ∙ sym (R.one_mul (frobenius_twist Two n 1 v))) in
        ap₂ (λ x y. record { rows = 1; columns = (x ∷ []) ∷ (y ∷ []) ∷ [] }) a b

    -- d_2 * theta_2 = theta_1 * d_2^[2]
    second_square : matrix_product Two n (pair_column n g f) (one_entry Two n ((h ⊗ f) ⊗ g)) ≡ matrix_product Two n (pair_diagonal n (h ⊗ f) (h ⊗ g)) (matrix_twist Two n 1 (pair_column n g f))
    unfolding matrix_product product table listed entry finite_sum matrix_twist entrywise polynomial_zero
    second_square =
        let R = polynomials_laws Two n in
        let q : f ⊗ ((h ⊗ f) ⊗ g) ≡ (h ⊗ g) ⊗ (f ⊗ f) = ap (λ x. f ⊗ x) (R.mul_assoc h f g ∙ ap (λ x. h ⊗ x) (R.mul_comm f g)) ∙ ap (λ x. f ⊗ x) (sym (R.mul_assoc h g f)) ∙ mul_left_comm R f (h ⊗ g) f in
        let r : g ⊗ ((h ⊗ f) ⊗ g) ≡ (h ⊗ f) ⊗ (g ⊗ g) = mul_left_comm R g (h ⊗ f) g in
        let a : 𝟘 ⊕ g ⊗ ((h ⊗ f) ⊗ g) ≡ (𝟘 ⊕ (h ⊗ f) ⊗ frobenius_twist Two n 1 g) ⊕ 𝟘 ⊗ frobenius_twist Two n 1 f = ap (λ x. 𝟘 ⊕ x) (r ∙ ap (λ x. (h ⊗ f) ⊗ x) (sym (square g))) ∙ sym (ap (λ x. (𝟘 ⊕ (h ⊗ f) ⊗ frobenius_twist Two n 1 g) ⊕ x) (zero_mul R (frobenius_twist Two n 1 f)) ∙ add_zero R (𝟘 ⊕ (h ⊗ f) ⊗ frobenius_twist Two n 1 g)) in
        let b : 𝟘 ⊕ f ⊗ ((h ⊗ f) ⊗ g) ≡ (𝟘 ⊕ 𝟘 ⊗ frobenius_twist Two n 1 g) ⊕ (h ⊗ g) ⊗ frobenius_twist Two n 1 f = ap (λ x. 𝟘 ⊕ x) (q ∙ ap (λ x. (h ⊗ g) ⊗ x) (sym (square f))) ∙ sym (ap (λ x. x ⊕ (h ⊗ g) ⊗ frobenius_twist Two n 1 f) (R.zero_add (𝟘 ⊗ frobenius_twist Two n 1 g) ∙ zero_mul R (frobenius_twist Two n 1 g))) in
        ap₂ (λ x y. record { rows = 2; columns = (x ∷ y ∷ []) ∷ [] }) a b

    pub pair_resolved : IsResolved Two n 2 (pair_ideal n h f g)
    unfolding pair_ideal matrix_at InIdeal polynomial_product
    pair_resolved =
        let u = h ⊗ f in
        let v = h ⊗ g in
        let t = (h ⊗ f) ⊗ g in
        let ds = pair_row n u v ∷ pair_column n g f ∷ no_columns Two n ∷ [] in
        let ts = matrix_unit Two n 1 ∷ pair_diagonal n u v ∷ one_entry Two n t ∷ [] in
        record {
          resolution = record {
            count = refl;
            fits = under_three (λ j. HasShape Two n (rank Two n ds j) (rank Two n ds (suc j)) (matrix_at Two n ds j)) (row_shape u v) (column_shape g f) (no_fits Two n);
            first = λ k. subst (λ A. InImage Two n (pair_row n u v) (k ∷ []) ↔ InImage Two n A (k ∷ [])) (sym (row_same u v)) ((λ x. x), (λ x. x));
            exact = under_two (λ j. GeneratesKernel Two n (matrix_at Two n ds (suc j)) (matrix_at Two n ds j)) exact_first exact_second;
          };
          frobenius = record {
            count = refl;
            fits = under_three (λ j. HasShape Two n (rank Two n ds j) (rank Two n ds j) (matrix_at Two n ts j)) (unit_fits Two n 1) (diagonal_shape u v) (one_fits Two n t);
            first = refl;
            square = under_two (λ j. matrix_product Two n (matrix_at Two n ds j) (matrix_at Two n ts (suc j)) ≡ matrix_product Two n (matrix_at Two n ts j) (matrix_twist Two n 1 (matrix_at Two n ds j))) (first_square u v) second_square;
          };
        }
