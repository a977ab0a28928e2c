-- The facts of the ideal of f and g over GF(2) in degree 2, where each divides a multiple of the other only if it divides the other factor
use Rattle.std.proofs.Common.{ℕ, zero, suc, ◌≡◌, ◌∙◌, ◌↔◌, refl, sym, ap, ap₂, subst, arith, List, [], ◌∷◌, length, get_or, false}
use Rattle.std.proofs.lemmas.Bool.{false≢true}
use Rattle.fm_gfp.specs.declared.prime.Prime.TheVariants.{Two}
use Rattle.fm_algebra.specs.Matrix.{entry, listed, table, transpose, scalar_matrix, column_matrix}
use Rattle.fm_algebra.specs.Polynomials.{Polynomial, polynomials, polynomial_zero, polynomial_one, polynomial_product}
use Rattle.fm_algebra.specs.PolynomialMatrices.{PolynomialMatrix, HasShape, matrix_product, matrix_transpose, matrix_twist, matrix_scalar, matrix_column, vector_product, InImage, InPreimage, GeneratesPreimage}
use Rattle.fm_algebra.proofs.Algebra.{mul_left_comm, mul_swap, mul_one, mul_zero, add_zero}
use Rattle.fm_algebra.proofs.Concrete.{polynomials_laws}
use Rattle.fm_algebra.proofs.PolynomialWords.{cancel_factor}
use Rattle.fm_limit.specs.ResolvedIdeal.{matrix_at, differential, row, InIdeal}
use Rattle.fm_limit.specs.Facts.{ColumnsInImage, DegreeFacts}
use Rattle.fm_limit.specs.Verdicts.{Holds, zero_limit, support}
use Rattle.fm_limit.specs.SmallIdeals.{one_entry}
use Rattle.fm_limit.specs.PairIdeals.{pair_row, pair_ideal}
use Rattle.fm_limit.proofs.Principal.{one_fits}
use Rattle.fm_limit.proofs.PrincipalFacts.{product_one, transpose_one, twist_one, unit_one, product_one_left, product_one_right, all_cocycles, of_one, preimage_length, preimage_one}
use Rattle.fm_limit.proofs.MatrixWords.{image_length}
use Rattle.fm_limit.proofs.VerdictLaws.{zero_verdict, support_verdict}
use Rattle.fm_limit.proofs.PairIdeals.{row_acts, square, double, under_two, pair_resolved}
use Rattle.fm_limit.proofs.PairFacts.{relations, fits_row, twist_row, one_twisted, not_at_once}

module _ (n : ℕ) where
  pub scalar_is : (a : Polynomial Two n) → matrix_scalar Two n a 1 ≡ one_entry Two n a
  unfolding matrix_scalar scalar_matrix table listed
  scalar_is a = refl

  pub pair_resolved_row : (u v : Polynomial Two n) → row Two n (u ∷ v ∷ []) ≡ pair_row n u v
  unfolding row matrix_transpose matrix_column transpose column_matrix table listed entry
  pair_resolved_row u v = refl

  pub member_columns : (u v a : Polynomial Two n) → row Two n (u ∷ v ∷ []) ≡ pair_row n u v → InIdeal Two n (u ∷ v ∷ []) a ↔ ColumnsInImage Two n (pair_row n u v) (one_entry Two n a)
  unfolding InIdeal
  member_columns u v a q = (
    λ k c d. let z : zero ≡ c = omega arith in subst (λ c. InImage Two n (pair_row n u v) (get_or ((a ∷ []) ∷ []) c [])) z (subst (λ A. InImage Two n A (a ∷ [])) q k),
    λ k. subst (λ A. InImage Two n A (a ∷ [])) (sym q) (k 0 (omega arith)),
  )

  abbrev P : Type 0
  P = Polynomial Two n

  open polynomials Two n use {zero as 𝟘, one as 𝟙, add as ◌⊕◌, mul as ◌⊗◌}

  infixl 60 ◌⊕◌
  infixl 70 ◌⊗◌
  module _ (f g : P) (f_nonzero : ¬ (f ≡ polynomial_zero Two n)) (g_nonzero : ¬ (g ≡ polynomial_zero Two n)) (coprime : (b : P) → ((y : P) × (polynomial_product Two n f y ≡ polynomial_product Two n g b)) → (y : P) × (polynomial_product Two n f y ≡ b)) (turned : (b : P) → ((y : P) × (polynomial_product Two n g y ≡ polynomial_product Two n f b)) → (y : P) × (polynomial_product Two n g y ≡ b)) (proper : (a b : P) → ¬ (g ⊗ a ⊕ f ⊗ b ≡ 𝟙)) (one_nonzero : ¬ (polynomial_one Two n ≡ polynomial_zero Two n)) where
    abbrev one : P
    one = polynomial_one Two n

    abbrev t : P
    t = (one ⊗ f) ⊗ g

    abbrev N : PolynomialMatrix Two n
    N = pair_row n g f

    abbrev Ks : List (PolynomialMatrix Two n)
    Ks = N ∷ N ∷ []

    t_is : t ≡ f ⊗ g
    unfolding polynomial_one
    t_is = ap (λ x. x ⊗ g) ((polynomials_laws Two n).one_mul f)

    -- z is in the image of (u, v) exactly if it is u a + v b
    pub image_pair : (u v z : P) → InImage Two n (pair_row n u v) (z ∷ []) ↔ ((a : P) × (b : P) × (u ⊗ a ⊕ v ⊗ b ≡ z))
    unfolding InImage vector_product
    image_pair u v z = (λ k. go k.0 k.1 k.2, λ k. (k.0 ∷ k.1 ∷ [], refl, row_acts n u v k.0 k.1 ∙ ap (λ x. x ∷ []) k.2))
      where
        go : (w : List P) → length w ≡ 2 → vector_product Two n (pair_row n u v) w ≡ z ∷ [] → (a : P) × (b : P) × (u ⊗ a ⊕ v ⊗ b ≡ z)
        go [] l e = absurd (let q : 0 ≡ 2 = l in omega arith)
        go (a ∷ []) l e = absurd (let q : 1 ≡ 2 = l in omega arith)
        go (a ∷ b ∷ []) l e = (a, b, ap (λ v. get_or v 0 𝟘) (sym (row_acts n u v a b) ∙ e))
        go (a ∷ b ∷ c ∷ w) l e = absurd (let q : length (a ∷ b ∷ c ∷ w) ≡ 2 = l in omega arith)

    -- f g z is in the ideal of g g and f f exactly if z is in that of g and f
    there : (z : P) → ((a : P) × (b : P) × ((g ⊗ g) ⊗ a ⊕ (f ⊗ f) ⊗ b ≡ (f ⊗ g) ⊗ z)) → (a : P) × (b : P) × (g ⊗ a ⊕ f ⊗ b ≡ z)
    unfolding polynomial_product polynomial_zero
    there z k =
        let R = polynomials_laws Two n in
        let a : P = k.0 in
        let b : P = k.1 in
        let e : g ⊗ (g ⊗ a) ⊕ f ⊗ (f ⊗ b) ≡ f ⊗ (g ⊗ z) = ap₂ (λ x y. x ⊕ y) (sym (R.mul_assoc g g a)) (sym (R.mul_assoc f f b)) ∙ k.2 ∙ R.mul_assoc f g z in
        let e1 : f ⊗ (g ⊗ z ⊕ f ⊗ b) ≡ g ⊗ (g ⊗ a) = R.mul_add f (g ⊗ z) (f ⊗ b) ∙ ap (λ x. x ⊕ f ⊗ (f ⊗ b)) (sym e) ∙ R.add_assoc (g ⊗ (g ⊗ a)) (f ⊗ (f ⊗ b)) (f ⊗ (f ⊗ b)) ∙ ap (λ x. g ⊗ (g ⊗ a) ⊕ x) (double n (f ⊗ (f ⊗ b))) ∙ R.add_comm (g ⊗ (g ⊗ a)) 𝟘 ∙ R.zero_add (g ⊗ (g ⊗ a)) in
        let r = coprime (g ⊗ a) (g ⊗ z ⊕ f ⊗ b, e1) in
        let a' = coprime a (r.0, r.1) in
        let e2 : g ⊗ (f ⊗ z ⊕ g ⊗ a) ≡ f ⊗ (f ⊗ b) = R.mul_add g (f ⊗ z) (g ⊗ a) ∙ ap (λ x. x ⊕ g ⊗ (g ⊗ a)) (mul_left_comm R g f z ∙ sym e ∙ R.add_comm (g ⊗ (g ⊗ a)) (f ⊗ (f ⊗ b))) ∙ R.add_assoc (f ⊗ (f ⊗ b)) (g ⊗ (g ⊗ a)) (g ⊗ (g ⊗ a)) ∙ ap (λ x. f ⊗ (f ⊗ b) ⊕ x) (double n (g ⊗ (g ⊗ a))) ∙ R.add_comm (f ⊗ (f ⊗ b)) 𝟘 ∙ R.zero_add (f ⊗ (f ⊗ b)) in
        let s = turned (f ⊗ b) (f ⊗ z ⊕ g ⊗ a, e2) in
        let b' = turned b (s.0, s.1) in
        let m : f ⊗ (g ⊗ (g ⊗ a'.0 ⊕ f ⊗ b'.0)) ≡ f ⊗ (g ⊗ z) = ap (λ x. f ⊗ x) (R.mul_add g (g ⊗ a'.0) (f ⊗ b'.0)) ∙ R.mul_add f (g ⊗ (g ⊗ a'.0)) (g ⊗ (f ⊗ b'.0)) ∙ ap₂ (λ x y. x ⊕ y) (mul_left_comm R f g (g ⊗ a'.0) ∙ ap (λ x. g ⊗ x) (mul_left_comm R f g a'.0 ∙ ap (λ x. g ⊗ x) a'.1)) (ap (λ x. f ⊗ x) (mul_left_comm R g f b'.0 ∙ ap (λ x. f ⊗ x) b'.1)) ∙ e in
        (a'.0, b'.0, cancel_factor Two n g (g ⊗ a'.0 ⊕ f ⊗ b'.0) z g_nonzero (cancel_factor Two n f (g ⊗ (g ⊗ a'.0 ⊕ f ⊗ b'.0)) (g ⊗ z) f_nonzero m))

    back : (z : P) → ((a : P) × (b : P) × (g ⊗ a ⊕ f ⊗ b ≡ z)) → (a : P) × (b : P) × ((g ⊗ g) ⊗ a ⊕ (f ⊗ f) ⊗ b ≡ (f ⊗ g) ⊗ z)
    back z k =
        let R = polynomials_laws Two n in
        (f ⊗ k.0, g ⊗ k.1, sym (ap (λ x. (f ⊗ g) ⊗ x) (sym k.2) ∙ R.mul_add (f ⊗ g) (g ⊗ k.0) (f ⊗ k.1) ∙ ap₂ (λ x y. x ⊕ y) (ap (λ x. x ⊗ (g ⊗ k.0)) (R.mul_comm f g) ∙ mul_swap R g f g k.0) (mul_swap R f g f k.1)))

    step : GeneratesPreimage Two n N (one_entry Two n t) (matrix_twist Two n 1 N)
    unfolding polynomial_product
    step =
        let q : matrix_twist Two n 1 N ≡ pair_row n (g ⊗ g) (f ⊗ f) = twist_row n f g f_nonzero coprime proper ∙ ap₂ (λ x y. pair_row n x y) (square n g) (square n f) in
        subst (λ B. GeneratesPreimage Two n N (one_entry Two n t) B) (sym q)
        (of_one Two n (InPreimage Two n (one_entry Two n t) (pair_row n (g ⊗ g) (f ⊗ f))) (InImage Two n N) (preimage_length Two n t (pair_row n (g ⊗ g) (f ⊗ f))) (λ w k. image_length Two n 1 2 N w (fits_row n f g f_nonzero coprime proper) k) (λ z.
        let a = preimage_one Two n t z (pair_row n (g ⊗ g) (f ⊗ f)) in
        let b = image_pair (g ⊗ g) (f ⊗ f) (t ⊗ z) in
        let c = image_pair g f z in
        let d : t ⊗ z ≡ (f ⊗ g) ⊗ z = ap (λ x. x ⊗ z) t_is in
        ((λ k. let h = b.0 (a.0 k) in c.1 (there z (h.0, h.1, h.2 ∙ d))), (λ k. let h = back z (c.0 k) in a.1 (b.1 (h.0, h.1, h.2 ∙ sym d))))))

    morphism : matrix_product Two n (matrix_transpose Two n (one_entry Two n t)) (one_entry Two n one) ≡ matrix_product Two n (matrix_twist Two n 1 (one_entry Two n one)) (one_entry Two n t)
    morphism =
        ap (λ A. matrix_product Two n A (one_entry Two n one)) (transpose_one Two n t)
        ∙ product_one Two n t one
        ∙ ap (λ x. one_entry Two n x) (product_one_right Two n t ∙ sym (product_one_left Two n t))
        ∙ sym (ap (λ A. matrix_product Two n A (one_entry Two n t)) (twist_one Two n 1 one ∙ ap (λ x. one_entry Two n x) (one_twisted n f g f_nonzero coprime proper)) ∙ product_one Two n one t)

    pub column_members : ColumnsInImage Two n N N
    unfolding polynomial_one
    column_members =
        under_two n one f g one_nonzero f_nonzero coprime (λ c. InImage Two n N (get_or N.columns c [])) ((image_pair g f g).1 (one, 𝟘, at_first)) ((image_pair g f f).1 (𝟘, one, at_second))
      where
        at_first : g ⊗ one ⊕ f ⊗ 𝟘 ≡ g
        at_first = ap₂ (λ x y. x ⊕ y) (mul_one (polynomials_laws Two n) g) (mul_zero (polynomials_laws Two n) f) ∙ add_zero (polynomials_laws Two n) g

        at_second : g ⊗ 𝟘 ⊕ f ⊗ one ≡ f
        at_second = ap₂ (λ x y. x ⊕ y) (mul_zero (polynomials_laws Two n) g) (mul_one (polynomials_laws Two n) f) ∙ (polynomials_laws Two n).zero_add f

    pub point_facts : DegreeFacts Two n 2 (pair_ideal n one f g) (one_entry Two n one) (one_entry Two n t) Ks 0
    unfolding pair_ideal matrix_at differential polynomial_product
    point_facts = record {
      resolved = pair_resolved n one f g one_nonzero f_nonzero coprime;
      ext = record {
        cocycles_fit = one_fits Two n one;
        relations_fit = fits_row n f g f_nonzero coprime proper;
        morphism_fits = one_fits Two n t;
        cocycles = all_cocycles Two n f f_nonzero;
        relations = relations n f g f_nonzero coprime proper;
        morphism = morphism;
      };
      chain = record {
        fits = λ s b. under_two n one f g one_nonzero f_nonzero coprime (λ s. HasShape Two n 1 (length (matrix_at Two n Ks s).columns) (matrix_at Two n Ks s)) (fits_row n f g f_nonzero coprime proper) (fits_row n f g f_nonzero coprime proper) s (omega arith);
        step = λ s b. let z : zero ≡ s = omega arith in subst (λ s. GeneratesPreimage Two n (matrix_at Two n Ks (suc s)) (one_entry Two n t) (matrix_twist Two n 1 (matrix_at Two n Ks s))) z step;
      };
      repeats = column_members;
    }

    -- the limit is not zero, and no moves are needed
    pub point_verdict : Holds Two n (zero_limit 2 (pair_ideal n one f g) false 0)
    unfolding matrix_at
    point_verdict =
        zero_verdict Two n point_facts (λ s b. absurd (omega arith)) false ((λ k. absurd (false≢true k)), (λ k. absurd (not_at_once n f g f_nonzero coprime proper (subst (λ B. ColumnsInImage Two n N B) (unit_one Two n) k))))

    -- the support ideal is that of f and g
    pub point_support : Holds Two n (support 2 (pair_ideal n one f g) (g ∷ f ∷ []))
    unfolding matrix_at
    point_support = support_verdict Two n point_facts (g ∷ f ∷ []) members
      where
        scalar_one : (a : P) → matrix_scalar Two n a 1 ≡ one_entry Two n a
        scalar_one a = scalar_is a

        members : (a : P) → InIdeal Two n (g ∷ f ∷ []) a ↔ ColumnsInImage Two n N (matrix_scalar Two n a 1)
        members a = subst (λ B. InIdeal Two n (g ∷ f ∷ []) a ↔ ColumnsInImage Two n N B) (sym (scalar_one a)) (member_columns g f a (pair_resolved_row g f))
