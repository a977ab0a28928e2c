-- The ideal of f and g over GF(2) in degree 2, and its map to that of f^2 and g: inverting, the row of annihilators, and the map in coordinates
use Rattle.std.proofs.Common.{ℕ, zero, suc, ◌≡◌, ◌∙◌, ◌↔◌, refl, sym, ap, ap₂, subst, arith, List, [], ◌∷◌, length, get_or, Some, None}
use Rattle.fm_gfp.specs.declared.prime.Prime.TheVariants.{Two}
use Rattle.fm_algebra.specs.Matrix.{entry, listed, table}
use Rattle.fm_algebra.specs.Polynomials.{Polynomial, polynomials, polynomial_zero, polynomial_one, polynomial_product, polynomial_power}
use Rattle.fm_algebra.specs.PolynomialMatrices.{PolynomialMatrix, HasShape, matrix_scalar, InImage, InPreimage, GeneratesPreimage}
use Rattle.fm_algebra.proofs.Algebra.{mul_left_comm, mul_one, add_zero}
use Rattle.fm_algebra.proofs.Concrete.{polynomials_laws}
use Rattle.fm_limit.specs.ResolvedIdeal.{ResolvedIdeal, matrix_at}
use Rattle.fm_limit.specs.Facts.{ColumnsInImage, IsColons, IsAnnihilatorRow, unit_column, diagonal_blocks}
use Rattle.fm_limit.specs.Verdicts.{Holds, inverting}
use Rattle.fm_limit.specs.SmallIdeals.{one_entry}
use Rattle.fm_limit.specs.PairIdeals.{pair_row, pair_ideal}
use Rattle.fm_limit.proofs.PrincipalFacts.{unit_one, product_one_left, of_one, preimage_length, preimage_one}
use Rattle.fm_limit.proofs.MatrixWords.{image_length}
use Rattle.fm_limit.proofs.VerdictLaws.{inverting_yes_verdict, inverting_no_verdict}
use Rattle.fm_limit.proofs.PairIdeals.{double, under_two}
use Rattle.fm_limit.proofs.PairFacts.{fits_row, not_at_once}
use Rattle.fm_limit.proofs.PairPoint.{scalar_is, image_pair, column_members, point_facts}

module _ (n : ℕ) where
  abbrev P : Type 0
  P = Polynomial Two n

  open polynomials Two n use {zero as 𝟘, one as 𝟙, add as ◌⊕◌, mul as ◌⊗◌}

  infixl 60 ◌⊕◌
  infixl 70 ◌⊗◌
  module _ (f g : P) (f_nonzero : ¬ (f ≡ polynomial_zero Two n)) (g_nonzero : ¬ (g ≡ polynomial_zero Two n)) (coprime : (b : P) → ((y : P) × (polynomial_product Two n f y ≡ polynomial_product Two n g b)) → (y : P) × (polynomial_product Two n f y ≡ b)) (turned : (b : P) → ((y : P) × (polynomial_product Two n g y ≡ polynomial_product Two n f b)) → (y : P) × (polynomial_product Two n g y ≡ b)) (proper : (a b : P) → ¬ (g ⊗ a ⊕ f ⊗ b ≡ 𝟙)) (one_nonzero : ¬ (polynomial_one Two n ≡ polynomial_zero Two n)) where
    abbrev one : P
    one = polynomial_one Two n

    abbrev N : PolynomialMatrix Two n
    N = pair_row n g f

    abbrev I : ResolvedIdeal Two n
    I = pair_ideal n one f g

    -- ---- inverting
    scalar_in : (u : P) → ColumnsInImage Two n N (matrix_scalar Two n u 1) ↔ ((a : P) × (b : P) × (g ⊗ a ⊕ f ⊗ b ≡ u))
    scalar_in u =
        let e = image_pair n f g f_nonzero g_nonzero coprime turned proper one_nonzero g f u in (
          λ k. e.0 (subst (λ A. ColumnsInImage Two n N A) (scalar_is n u) k 0 (omega arith)),
          λ k. subst (λ A. ColumnsInImage Two n N A) (sym (scalar_is n u)) (λ c d. let z : zero ≡ c = omega arith in subst (λ c. InImage Two n N (get_or ((u ∷ []) ∷ []) c [])) z (e.1 k)),
        )

    -- u^k is in the ideal, and no smaller power
    pub power_verdict : (u : P) (k : ℕ) → ((a : P) × (b : P) × (g ⊗ a ⊕ f ⊗ b ≡ polynomial_power Two n k u)) → ((j : ℕ) → suc j ≡ k → (a b : P) → ¬ (g ⊗ a ⊕ f ⊗ b ≡ polynomial_power Two n j u))
        → Holds Two n (inverting 2 I u (Some k))
    unfolding matrix_at
    power_verdict u k h fails =
        inverting_yes_verdict Two n (point_facts n f g f_nonzero g_nonzero coprime turned proper one_nonzero) u k ((scalar_in (polynomial_power Two n k u)).1 h) (λ j q x. let r = (scalar_in (polynomial_power Two n j u)).0 x in fails j q r.0 r.1 r.2)

    -- f + 1 and every power of it stay outside
    abbrev u : P
    u = f ⊕ 𝟙

    abbrev Cs : List (PolynomialMatrix Two n)
    Cs = N ∷ N ∷ []

    u_times : (z : P) → u ⊗ z ≡ f ⊗ z ⊕ z
    u_times z =
        let R = polynomials_laws Two n in
        R.mul_comm u z ∙ R.mul_add z f 𝟙 ∙ ap₂ (λ a b. a ⊕ b) (R.mul_comm z f) (mul_one R z)

    colon_there : (z : P) → ((a : P) × (b : P) × (g ⊗ a ⊕ f ⊗ b ≡ u ⊗ z)) → (a : P) × (b : P) × (g ⊗ a ⊕ f ⊗ b ≡ z)
    colon_there z k =
        let R = polynomials_laws Two n in
        let e : g ⊗ k.0 ⊕ f ⊗ k.1 ≡ f ⊗ z ⊕ z = k.2 ∙ u_times z in
        (k.0, k.1 ⊕ z, ap (λ x. g ⊗ k.0 ⊕ x) (R.mul_add f k.1 z) ∙ sym (R.add_assoc (g ⊗ k.0) (f ⊗ k.1) (f ⊗ z)) ∙ ap (λ x. x ⊕ f ⊗ z) (e ∙ R.add_comm (f ⊗ z) z) ∙ R.add_assoc z (f ⊗ z) (f ⊗ z) ∙ ap (λ x. z ⊕ x) (double n (f ⊗ z)) ∙ add_zero R z)

    colon_back : (z : P) → ((a : P) × (b : P) × (g ⊗ a ⊕ f ⊗ b ≡ z)) → (a : P) × (b : P) × (g ⊗ a ⊕ f ⊗ b ≡ u ⊗ z)
    colon_back z k =
        let R = polynomials_laws Two n in
        (u ⊗ k.0, u ⊗ k.1, ap₂ (λ x y. x ⊕ y) (mul_left_comm R g u k.0) (mul_left_comm R f u k.1) ∙ sym (R.mul_add u (g ⊗ k.0) (f ⊗ k.1)) ∙ ap (λ x. u ⊗ x) k.2)

    colon_step : GeneratesPreimage Two n N (matrix_scalar Two n u 1) N
    unfolding polynomial_product
    colon_step =
        subst (λ A. GeneratesPreimage Two n N A N) (sym (scalar_is n u))
        (of_one Two n (InPreimage Two n (one_entry Two n u) N) (InImage Two n N) (preimage_length Two n u N) (λ w k. image_length Two n 1 2 N w (fits_row n f g f_nonzero coprime proper) k) (λ z.
        let a = preimage_one Two n u z N in
        let b = image_pair n f g f_nonzero g_nonzero coprime turned proper one_nonzero g f (u ⊗ z) in
        let c = image_pair n f g f_nonzero g_nonzero coprime turned proper one_nonzero g f z in
        ((λ k. c.1 (colon_there z (b.0 (a.0 k)))), (λ k. a.1 (b.1 (colon_back z (c.0 k)))))))

    pub colons : IsColons Two n N u Cs 0
    unfolding matrix_at
    colons = record {
      fits = λ j b. under_two n one f g one_nonzero f_nonzero coprime (λ j. HasShape Two n 1 (length (matrix_at Two n Cs j).columns) (matrix_at Two n Cs j)) (fits_row n f g f_nonzero coprime proper) (fits_row n f g f_nonzero coprime proper) j (omega arith);
      first = λ v. ((λ h. h), (λ h. h));
      step = λ j b. let z : zero ≡ j = omega arith in subst (λ j. GeneratesPreimage Two n (matrix_at Two n Cs (suc j)) (matrix_scalar Two n u 1) (matrix_at Two n Cs j)) z colon_step;
    }

    pub never_verdict : Holds Two n (inverting 2 I u None)
    unfolding matrix_at
    never_verdict =
        inverting_no_verdict Two n (point_facts n f g f_nonzero g_nonzero coprime turned proper one_nonzero) u Cs 0 colons (column_members n f g f_nonzero g_nonzero coprime turned proper one_nonzero)
        (λ k. not_at_once n f g f_nonzero coprime proper (subst (λ B. ColumnsInImage Two n N B) (unit_one Two n) k))

    -- ---- the row of annihilators
    pub annihilators : IsAnnihilatorRow Two n N N
    unfolding unit_column diagonal_blocks table listed entry polynomial_one
    annihilators = record {
      fits = fits_row n f g f_nonzero coprime proper;
      generates = subst (λ A. GeneratesPreimage Two n N A (diagonal_blocks Two n N)) (sym one_column) (subst (λ B. GeneratesPreimage Two n N (one_entry Two n one) B) (sym one_block) by_one);
    }
      where
        one_column : unit_column Two n 1 ≡ one_entry Two n one
        one_column = refl

        one_block : diagonal_blocks Two n N ≡ N
        one_block = refl

        by_one : GeneratesPreimage Two n N (one_entry Two n one) N
        by_one =
            of_one Two n (InPreimage Two n (one_entry Two n one) N) (InImage Two n N) (preimage_length Two n one N) (λ w k. image_length Two n 1 2 N w (fits_row n f g f_nonzero coprime proper) k) (λ z. subst (λ y. InPreimage Two n (one_entry Two n one) N (z ∷ []) ↔ InImage Two n N (y ∷ [])) (product_one_left Two n z) (preimage_one Two n one z N))
