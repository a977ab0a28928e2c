-- The facts of the ideal of f * f and f * g over GF(2) in degree 2: the limit is zero, by one move
use Rattle.std.proofs.Common.{ℕ, zero, suc, ◌≡◌, ◌∙◌, ◌↔◌, refl, sym, ap, ap₂, subst, arith, List, [], ◌∷◌, length, get_or, true}
use Rattle.fm_gfp.specs.declared.prime.Prime.TheVariants.{Two}
use Rattle.fm_algebra.specs.Matrix.{entry, listed, table, transpose, entrywise}
use Rattle.fm_algebra.specs.Polynomials.{Polynomial, polynomials, polynomial_sum, polynomial_zero, polynomial_one, polynomial_product, frobenius_twist}
use Rattle.fm_algebra.specs.PolynomialMatrices.{PolynomialMatrix, HasShape, matrix_product, matrix_transpose, matrix_twist, vector_product, InImage, InPreimage, GeneratesPreimage}
use Rattle.fm_algebra.proofs.Algebra.{mul_zero}
use Rattle.fm_algebra.proofs.Concrete.{polynomials_laws, polynomials_frobenius}
use Rattle.fm_limit.specs.ResolvedIdeal.{matrix_at, differential}
use Rattle.fm_limit.specs.Facts.{ColumnsInImage, IsFirstRepeat, DegreeFacts}
use Rattle.fm_limit.specs.Verdicts.{Holds, zero_limit}
use Rattle.fm_limit.specs.SmallIdeals.{one_entry}
use Rattle.fm_limit.specs.PairIdeals.{pair_row, pair_column, pair_ideal}
use Rattle.fm_limit.proofs.Principal.{one_fits}
use Rattle.fm_limit.proofs.PrincipalFacts.{product_one, transpose_one, twist_one, unit_one, image_one, preimage_generates, product_one_left, product_one_right, all_cocycles, of_one, preimage_length, preimage_one}
use Rattle.fm_limit.proofs.MatrixWords.{image_length}
use Rattle.fm_limit.proofs.VerdictLaws.{zero_verdict}
use Rattle.fm_limit.proofs.PairIdeals.{row_acts, row_shape, square, under_two, under_three, pair_resolved}

module _ (n : ℕ) where
  abbrev P : Type 0
  P = Polynomial Two n

  open polynomials Two n use {zero as 𝟘, one as 𝟙, add as ◌⊕◌, mul as ◌⊗◌}

  infixl 60 ◌⊕◌
  infixl 70 ◌⊗◌
  module _ (f g : P) (f_nonzero : ¬ (f ≡ polynomial_zero Two n)) (coprime : (b : P) → ((y : P) × (polynomial_product Two n f y ≡ polynomial_product Two n g b)) → (y : P) × (polynomial_product Two n f y ≡ b)) (proper : (a b : P) → ¬ (g ⊗ a ⊕ f ⊗ b ≡ 𝟙)) where
    abbrev one : P
    one = polynomial_one Two n

    abbrev t : P
    t = (f ⊗ f) ⊗ g

    abbrev N : PolynomialMatrix Two n
    N = pair_row n g f

    abbrev Ks : List (PolynomialMatrix Two n)
    Ks = N ∷ one_entry Two n one ∷ one_entry Two n one ∷ []

    pub twist_row : matrix_twist Two n 1 N ≡ pair_row n (frobenius_twist Two n 1 g) (frobenius_twist Two n 1 f)
    unfolding matrix_twist entrywise table listed entry
    twist_row = refl

    transpose_column : matrix_transpose Two n (pair_column n g f) ≡ N
    unfolding matrix_transpose transpose table listed entry
    transpose_column = refl

    pub fits_row : HasShape Two n 1 2 N
    fits_row = row_shape n f f g f_nonzero f_nonzero coprime g f

    pub relations : GeneratesPreimage Two n N (one_entry Two n one) (matrix_transpose Two n (pair_column n g f))
    relations =
        subst (λ B. GeneratesPreimage Two n N (one_entry Two n one) B) (sym transpose_column)
        (of_one Two n (InPreimage Two n (one_entry Two n one) N) (InImage Two n N) (preimage_length Two n one N) (λ w k. image_length Two n 1 2 N w fits_row k) (λ z. subst (λ y. InPreimage Two n (one_entry Two n one) N (z ∷ []) ↔ InImage Two n N (y ∷ [])) (product_one_left Two n z) (preimage_one Two n one z N)))

    pub one_twisted : frobenius_twist Two n 1 one ≡ one
    unfolding polynomial_one
    one_twisted = (polynomials_frobenius Two n).twist_one 1

    morphism : matrix_product Two n (matrix_transpose Two n (one_entry Two n t)) (one_entry Two n one) ≡ matrix_product Two n (matrix_twist Two n 1 (one_entry Two n one)) (one_entry Two n t)
    morphism =
        ap (λ A. matrix_product Two n A (one_entry Two n one)) (transpose_one Two n t)
        ∙ product_one Two n t one
        ∙ ap (λ x. one_entry Two n x) (product_one_right Two n t ∙ sym (product_one_left Two n t))
        ∙ sym (ap (λ A. matrix_product Two n A (one_entry Two n t)) (twist_one Two n 1 one ∙ ap (λ x. one_entry Two n x) one_twisted) ∙ product_one Two n one t)

    -- one move makes a coboundary of every class
    kills : (z : P) → InImage Two n (matrix_twist Two n 1 N) (polynomial_product Two n t z ∷ [])
    unfolding InImage polynomial_product vector_product
    kills z =
        let R = polynomials_laws Two n in
        let q : frobenius_twist Two n 1 g ⊗ 𝟘 ⊕ frobenius_twist Two n 1 f ⊗ (g ⊗ z) ≡ t ⊗ z = ap₂ (λ x y. x ⊕ y ⊗ (g ⊗ z)) (mul_zero R (frobenius_twist Two n 1 g)) (square n f) ∙ R.zero_add ((f ⊗ f) ⊗ (g ⊗ z)) ∙ sym (R.mul_assoc (f ⊗ f) g z) in
        subst (λ B. InImage Two n B (t ⊗ z ∷ [])) (sym twist_row) (𝟘 ∷ g ⊗ z ∷ [], refl, row_acts n (frobenius_twist Two n 1 g) (frobenius_twist Two n 1 f) 𝟘 (g ⊗ z) ∙ ap (λ x. x ∷ []) q)

    pub image_all : (z : P) → InImage Two n (one_entry Two n one) (z ∷ [])
    image_all z = (image_one Two n one z).1 (z, product_one_left Two n z)

    first_step : GeneratesPreimage Two n (one_entry Two n one) (one_entry Two n t) (matrix_twist Two n 1 N)
    first_step =
        of_one Two n (InPreimage Two n (one_entry Two n t) (matrix_twist Two n 1 N)) (InImage Two n (one_entry Two n one)) (preimage_length Two n t (matrix_twist Two n 1 N)) (λ w k. image_length Two n 1 1 (one_entry Two n one) w (one_fits Two n one) k) (λ z. ((λ k. image_all z), (λ k. (preimage_one Two n t z (matrix_twist Two n 1 N)).1 (kills z))))

    second_step : GeneratesPreimage Two n (one_entry Two n one) (one_entry Two n t) (matrix_twist Two n 1 (one_entry Two n one))
    second_step =
        subst (λ B. GeneratesPreimage Two n (one_entry Two n one) (one_entry Two n t) B) (sym (twist_one Two n 1 one ∙ ap (λ y. one_entry Two n y) one_twisted))
        (preimage_generates Two n t one one (λ z. ((λ k. (z, product_one_left Two n z)), (λ k. (polynomial_product Two n t z, product_one_left Two n (polynomial_product Two n t z))))))

    pub one_in_one : ColumnsInImage Two n (one_entry Two n one) (one_entry Two n one)
    one_in_one c d = let z : zero ≡ c = omega arith in subst (λ c. InImage Two n (one_entry Two n one) (get_or ((one ∷ []) ∷ []) c [])) z (image_all one)

    pub pair_facts : DegreeFacts Two n 2 (pair_ideal n f f g) (one_entry Two n one) (one_entry Two n t) Ks 1
    unfolding pair_ideal matrix_at differential polynomial_product
    pair_facts = record {
      resolved = pair_resolved n f f g f_nonzero f_nonzero coprime;
      ext = record {
        cocycles_fit = one_fits Two n one;
        relations_fit = fits_row;
        morphism_fits = one_fits Two n t;
        cocycles = all_cocycles Two n f f_nonzero;
        relations = relations;
        morphism = morphism;
      };
      chain = record {
        fits = λ s b. under_three n f f g f_nonzero f_nonzero coprime (λ s. HasShape Two n 1 (length (matrix_at Two n Ks s).columns) (matrix_at Two n Ks s)) fits_row (one_fits Two n one) (one_fits Two n one) s (omega arith);
        step = under_two n f f g f_nonzero f_nonzero coprime (λ s. GeneratesPreimage Two n (matrix_at Two n Ks (suc s)) (one_entry Two n t) (matrix_twist Two n 1 (matrix_at Two n Ks s))) first_step second_step;
      };
      repeats = one_in_one;
    }

    -- 1 is not in the ideal of f and g
    pub not_at_once : ColumnsInImage Two n N (one_entry Two n one) → ⊥
    unfolding InImage polynomial_one vector_product
    not_at_once k = go (k 0 (omega arith)).0 (k 0 (omega arith)).1 (k 0 (omega arith)).2
      where
        go : (w : List P) → length w ≡ 2 → vector_product Two n N w ≡ 𝟙 ∷ [] → ⊥
        go [] l e = let q : 0 ≡ 2 = l in absurd (omega arith)
        go (a ∷ []) l e = let q : 1 ≡ 2 = l in absurd (omega arith)
        go (a ∷ b ∷ []) l e = proper a b (ap (λ v. get_or v 0 𝟘) (sym (row_acts n g f a b) ∙ e))
        go (a ∷ b ∷ c ∷ w) l e = let q : length (a ∷ b ∷ c ∷ w) ≡ 2 = l in absurd (omega arith)

    pub pair_verdict : Holds Two n (zero_limit 2 (pair_ideal n f f g) true 1)
    unfolding matrix_at
    pair_verdict =
        zero_verdict Two n pair_facts first true ((λ k. subst (λ B. ColumnsInImage Two n (one_entry Two n one) B) (sym (unit_one Two n)) one_in_one), (λ k. refl))
      where
        first : IsFirstRepeat Two n Ks 1
        first s b k =
            let z : s ≡ zero = omega arith in
            not_at_once (subst (λ s. ColumnsInImage Two n (matrix_at Two n Ks s) (matrix_at Two n Ks (suc s))) z k)

  pub pair_verdict_words : (f g : P) → ¬ (f ≡ polynomial_zero Two n) → ((b : P) → ((y : P) × (polynomial_product Two n f y ≡ polynomial_product Two n g b)) → (y : P) × (polynomial_product Two n f y ≡ b))
      → ((a b : P) → ¬ (polynomial_sum Two n (polynomial_product Two n g a) (polynomial_product Two n f b) ≡ polynomial_one Two n)) → Holds Two n (zero_limit 2 (pair_ideal n f f g) true 1)
  unfolding polynomial_sum polynomial_product polynomial_one
  pair_verdict_words f g a k q = pair_verdict f g a k q
