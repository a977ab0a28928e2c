-- The maps from the ideal of f and g to that of f over GF(2) in degrees 1 and 2, where f and g divide no multiple of one another but what they must
use Rattle.std.proofs.Common.{ℕ, zero, suc, ◌<◌, ◌≡◌, ◌∙◌, ◌↔◌, refl, sym, ap, ap₂, subst, arith, List, [], ◌∷◌, length, get_or, true, None}
use Rattle.fm_gfp.specs.declared.prime.Prime.TheVariants.{Two}
use Rattle.fm_algebra.specs.FiniteSums.{finite_sum}
use Rattle.fm_algebra.specs.Matrix.{entry, listed, table, product, joined, entrywise, unit_matrix, scalar_matrix, transpose}
use Rattle.fm_algebra.specs.Polynomials.{Polynomial, polynomials, polynomial_zero, polynomial_one, polynomial_product, polynomial_power, frobenius_twist}
use Rattle.fm_algebra.specs.PolynomialMatrices.{PolynomialMatrix, HasShape, matrix_beside, matrix_product, matrix_transpose, matrix_twist, matrix_unit, vector_product, InImage, InPreimage, GeneratesKernel, GeneratesPreimage}
use Rattle.fm_algebra.proofs.Algebra.{mul_one, mul_zero, zero_mul, add_zero}
use Rattle.fm_algebra.proofs.Concrete.{polynomials_laws}
use Rattle.fm_algebra.proofs.PolynomialWords.{cancel_factor}
use Rattle.fm_limit.specs.ResolvedIdeal.{ResolvedIdeal, matrix_at, differential, rank, InIdeal, IsResolved, IsLiftOfIdentityOf}
use Rattle.fm_limit.specs.Facts.{ColumnsInImage, DegreeFacts, MapFacts, JoinFacts}
use Rattle.fm_limit.specs.Verdicts.{Holds, induced_map}
use Rattle.fm_limit.specs.SmallIdeals.{one_entry, principal}
use Rattle.fm_limit.specs.PairIdeals.{pair_row, pair_column, pair_diagonal, pair_in_degree_one, first_lift}
use Rattle.fm_limit.proofs.Principal.{one_fits}
use Rattle.fm_limit.proofs.PrincipalFacts.{unit_one, twist_one, product_one_right, of_one, preimage_length, preimage_one, image_one, principal_facts}
use Rattle.fm_limit.proofs.MatrixWords.{unit_fits, image_length}
use Rattle.fm_limit.proofs.VerdictLaws.{map_verdict, onto_no_verdict}
use Rattle.fm_limit.proofs.PairIdeals.{square, under_two, row_shape, row_same, column_shape, diagonal_shape, exact_first, first_square}
use Rattle.fm_limit.proofs.PairFacts.{image_all, one_twisted}
use Rattle.fm_limit.proofs.PairPoint.{image_pair}
use Rattle.fm_algebra.specs.Power.{power}

module _ (n : ℕ) where
  abbrev P : Type 0
  P = Polynomial Two n

  open polynomials Two n use {zero as 𝟘, one as 𝟙, add as ◌⊕◌, mul as ◌⊗◌}

  infixl 60 ◌⊕◌
  infixl 70 ◌⊗◌
  module _ (f g : P) (f_nonzero : ¬ (f ≡ polynomial_zero Two n)) (g_nonzero : ¬ (g ≡ polynomial_zero Two n)) (coprime : (b : P) → ((y : P) × (polynomial_product Two n f y ≡ polynomial_product Two n g b)) → (y : P) × (polynomial_product Two n f y ≡ b)) (turned : (b : P) → ((y : P) × (polynomial_product Two n g y ≡ polynomial_product Two n f b)) → (y : P) × (polynomial_product Two n g y ≡ b)) (proper : (a b : P) → ¬ (g ⊗ a ⊕ f ⊗ b ≡ 𝟙)) (one_nonzero : ¬ (polynomial_one Two n ≡ polynomial_zero Two n)) where
    abbrev one : P
    one = polynomial_one Two n

    abbrev I1 : PolynomialMatrix Two n
    I1 = one_entry Two n one

    abbrev J : ResolvedIdeal Two n
    J = pair_in_degree_one n one f g

    abbrev Z : PolynomialMatrix Two n
    Z = pair_column n f g

    two_of_columns : (Q : ℕ → Type 0) → Q 0 → Q 1 → (j : ℕ) → j < 2 → Q j
    two_of_columns = under_two n one f g one_nonzero f_nonzero coprime

    only_first : (Q : ℕ → Type 0) → Q 0 → (j : ℕ) → j < 1 → Q j
    only_first Q a j h = let z : zero ≡ j = omega (arith, h) in subst Q z a

    one_f : one ⊗ f ≡ f
    unfolding polynomial_one
    one_f = (polynomials_laws Two n).one_mul f

    one_g : one ⊗ g ≡ g
    unfolding polynomial_one
    one_g = (polynomials_laws Two n).one_mul g

    pub resolved_one : IsResolved Two n 1 J
    unfolding pair_in_degree_one matrix_at InIdeal polynomial_product
    resolved_one =
        let u = one ⊗ f in
        let v = one ⊗ g in
        let ds = pair_row n u v ∷ pair_column n g f ∷ [] in
        let ts = matrix_unit Two n 1 ∷ pair_diagonal n u v ∷ [] in
        record {
          resolution = record {
            count = refl;
            fits = two_of_columns (λ j. HasShape Two n (rank Two n ds j) (rank Two n ds (suc j)) (matrix_at Two n ds j)) (row_shape n one f g one_nonzero f_nonzero coprime u v) (column_shape n one f g one_nonzero f_nonzero coprime g f);
            first = λ k. subst (λ A. InImage Two n (pair_row n u v) (k ∷ []) ↔ InImage Two n A (k ∷ [])) (sym (row_same n one f g one_nonzero f_nonzero coprime u v)) ((λ x. x), (λ x. x));
            exact = only_first (λ j. GeneratesKernel Two n (matrix_at Two n ds (suc j)) (matrix_at Two n ds j)) (exact_first n one f g one_nonzero f_nonzero coprime);
          };
          frobenius = record {
            count = refl;
            fits = two_of_columns (λ j. HasShape Two n (rank Two n ds j) (rank Two n ds j) (matrix_at Two n ts j)) (unit_fits Two n 1) (diagonal_shape n one f g one_nonzero f_nonzero coprime u v);
            first = refl;
            square = only_first (λ j. matrix_product Two n (matrix_at Two n ds j) (matrix_at Two n ts (suc j)) ≡ matrix_product Two n (matrix_at Two n ts j) (matrix_twist Two n 1 (matrix_at Two n ds j))) (first_square n one f g one_nonzero f_nonzero coprime u v);
          };
        }

    -- the cocycles of stage 0 are the multiples of (f, g)
    flip_column : (u v : P) → matrix_transpose Two n (pair_column n u v) ≡ pair_row n u v
    unfolding matrix_transpose transpose table listed entry
    flip_column u v = refl

    flip_row : (u v : P) → matrix_transpose Two n (pair_row n u v) ≡ pair_column n u v
    unfolding matrix_transpose transpose table listed entry
    flip_row u v = refl

    flip_diagonal : (u v : P) → matrix_transpose Two n (pair_diagonal n u v) ≡ pair_diagonal n u v
    unfolding matrix_transpose transpose table listed entry
    flip_diagonal u v = refl

    cocycles : GeneratesKernel Two n Z (matrix_transpose Two n (pair_column n g f))
    cocycles = subst (GeneratesKernel Two n Z) (sym (flip_column g f)) (subst (λ A. GeneratesKernel Two n Z A) (ap₂ (λ u v. pair_row n u v) one_g one_f) (exact_first n one g f one_nonzero g_nonzero turned))

    in_one : (z : P) → InImage Two n I1 (z ∷ [])
    in_one z = image_all n f g f_nonzero coprime proper z

    -- everything is a coboundary
    relations : GeneratesPreimage Two n I1 Z (matrix_transpose Two n (pair_row n (one ⊗ f) (one ⊗ g)))
    unfolding InPreimage InImage vector_product
    relations =
        subst (λ B. GeneratesPreimage Two n I1 Z B) (sym (flip_row (one ⊗ f) (one ⊗ g) ∙ ap₂ (λ u v. pair_column n u v) one_f one_g))
        (of_one Two n (InPreimage Two n Z Z) (InImage Two n I1) (λ w h. h.0) (λ w h. image_length Two n 1 1 I1 w (one_fits Two n one) h) (λ z. ((λ h. in_one z), (λ h. (refl, (z ∷ [], refl, refl))))))

    morphism : matrix_product Two n (matrix_transpose Two n (pair_diagonal n (one ⊗ f) (one ⊗ g))) Z ≡ matrix_product Two n (matrix_twist Two n 1 Z) I1
    unfolding matrix_product product table listed entry finite_sum matrix_twist entrywise polynomial_zero polynomial_one
    morphism =
        ap (λ A. matrix_product Two n A Z) (flip_diagonal (one ⊗ f) (one ⊗ g))
        ∙ ap₂ (λ x y. record { rows = 2; columns = (x ∷ y ∷ []) ∷ [] }) above below
      where
        above : (𝟘 ⊕ (𝟙 ⊗ f) ⊗ f) ⊕ 𝟘 ⊗ g ≡ 𝟘 ⊕ frobenius_twist Two n 1 f ⊗ 𝟙
        above =
            let R = polynomials_laws Two n in
            ap₂ (λ x y. (𝟘 ⊕ x ⊗ f) ⊕ y) (R.one_mul f) (zero_mul R g) ∙ add_zero R (𝟘 ⊕ f ⊗ f) ∙ ap (λ x. 𝟘 ⊕ x) (sym (square n f) ∙ sym (mul_one R (frobenius_twist Two n 1 f)))

        below : (𝟘 ⊕ 𝟘 ⊗ f) ⊕ (𝟙 ⊗ g) ⊗ g ≡ 𝟘 ⊕ frobenius_twist Two n 1 g ⊗ 𝟙
        below =
            let R = polynomials_laws Two n in
            ap₂ (λ x y. (𝟘 ⊕ x) ⊕ y ⊗ g) (zero_mul R f) (R.one_mul g) ∙ ap (λ x. x ⊕ g ⊗ g) (add_zero R 𝟘) ∙ ap (λ x. 𝟘 ⊕ x) (sym (square n g) ∙ sym (mul_one R (frobenius_twist Two n 1 g)))

    all_step : GeneratesPreimage Two n I1 I1 (matrix_twist Two n 1 I1)
    all_step =
        subst (λ B. GeneratesPreimage Two n I1 I1 B) (sym (twist_one Two n 1 one ∙ ap (λ x. one_entry Two n x) (one_twisted n f g f_nonzero coprime proper)))
        (of_one Two n (InPreimage Two n I1 I1) (InImage Two n I1) (preimage_length Two n one I1) (λ w h. image_length Two n 1 1 I1 w (one_fits Two n one) h) (λ z. ((λ h. in_one z), (λ h. (preimage_one Two n one z I1).1 (in_one (polynomial_product Two n one z))))))

    one_column : (u : P) → ColumnsInImage Two n I1 (one_entry Two n u)
    one_column u c d = let z : zero ≡ c = omega arith in subst (λ c. InImage Two n I1 (get_or ((u ∷ []) ∷ []) c [])) z (in_one u)

    -- the limit of degree 1 is zero: its facts
    pub facts_one : DegreeFacts Two n 1 J Z I1 (I1 ∷ I1 ∷ []) 0
    unfolding pair_in_degree_one matrix_at differential polynomial_product
    facts_one = record {
      resolved = resolved_one;
      ext = record {
        cocycles_fit = column_shape n one f g one_nonzero f_nonzero coprime f g;
        relations_fit = one_fits Two n one;
        morphism_fits = one_fits Two n one;
        cocycles = cocycles;
        relations = relations;
        morphism = morphism;
      };
      chain = record {
        fits = λ s b. two_of_columns (λ s. HasShape Two n 1 (length (matrix_at Two n (I1 ∷ I1 ∷ []) s).columns) (matrix_at Two n (I1 ∷ I1 ∷ []) s)) (one_fits Two n one) (one_fits Two n one) s (omega arith);
        step = only_first (λ s. GeneratesPreimage Two n (matrix_at Two n (I1 ∷ I1 ∷ []) (suc s)) I1 (matrix_twist Two n 1 (matrix_at Two n (I1 ∷ I1 ∷ []) s))) all_step;
      };
      repeats = one_column one;
    }

    -- ---- the map to the ideal of f in degree 1
    abbrev e : P
    e = polynomial_power Two n 1 f

    e_is : e ≡ f
    unfolding polynomial_power power
    e_is = mul_one (polynomials_laws Two n) f

    abbrev target : DegreeFacts Two n 1 (principal Two n f) I1 (one_entry Two n e) (one_entry Two n f ∷ one_entry Two n f ∷ []) 0
    target = principal_facts Two n f f_nonzero

    pub lift_square : matrix_product Two n (pair_row n (one ⊗ f) (one ⊗ g)) (pair_column n one (polynomial_zero Two n)) ≡ matrix_product Two n (matrix_unit Two n 1) (one_entry Two n f)
    unfolding matrix_product product table listed entry finite_sum matrix_unit unit_matrix scalar_matrix polynomial_zero polynomial_one
    lift_square =
        let R = polynomials_laws Two n in
        let a : (𝟘 ⊕ (𝟙 ⊗ f) ⊗ 𝟙) ⊕ (𝟙 ⊗ g) ⊗ 𝟘 ≡ 𝟘 ⊕ 𝟙 ⊗ f = ap₂ (λ x y. (𝟘 ⊕ x) ⊕ y) (mul_one R (𝟙 ⊗ f)) (mul_zero R (𝟙 ⊗ g)) ∙ add_zero R (𝟘 ⊕ 𝟙 ⊗ f) in
        ap (λ x. record { rows = 1; columns = (x ∷ []) ∷ [] }) a

    identity : IsLiftOfIdentityOf Two n 1 (principal Two n f).differentials J.differentials (first_lift n)
    unfolding pair_in_degree_one principal matrix_at polynomial_product
    identity = record {
      count = refl;
      fits = two_of_columns (λ j. HasShape Two n (rank Two n J.differentials j) (rank Two n (principal Two n f).differentials j) (matrix_at Two n (first_lift n) j)) (unit_fits Two n 1) (column_shape n one f g one_nonzero f_nonzero coprime one (polynomial_zero Two n));
      first = refl;
      square = only_first (λ j. matrix_product Two n (matrix_at Two n J.differentials j) (matrix_at Two n (first_lift n) (suc j)) ≡ matrix_product Two n (matrix_at Two n (first_lift n) j) (matrix_at Two n (principal Two n f).differentials j)) lift_square;
    }

    map_square : matrix_product Two n (matrix_transpose Two n (pair_column n one (polynomial_zero Two n))) Z ≡ matrix_product Two n I1 (one_entry Two n f)
    unfolding matrix_product product table listed entry finite_sum polynomial_zero polynomial_one
    map_square =
        let R = polynomials_laws Two n in
        let a : (𝟘 ⊕ 𝟙 ⊗ f) ⊕ 𝟘 ⊗ g ≡ 𝟘 ⊕ 𝟙 ⊗ f = ap (λ x. (𝟘 ⊕ 𝟙 ⊗ f) ⊕ x) (zero_mul R g) ∙ add_zero R (𝟘 ⊕ 𝟙 ⊗ f) in
        ap (λ A. matrix_product Two n A Z) (flip_column one (polynomial_zero Two n)) ∙ ap (λ x. record { rows = 1; columns = (x ∷ []) ∷ [] }) a

    pub map_facts : MapFacts Two n 1 J (principal Two n f) (first_lift n) Z I1 (one_entry Two n f)
    unfolding matrix_at
    map_facts = record { identity = identity; fits = one_fits Two n f; square = map_square }

    fibre : GeneratesPreimage Two n I1 (one_entry Two n f) (one_entry Two n f)
    fibre =
        of_one Two n (InPreimage Two n (one_entry Two n f) (one_entry Two n f)) (InImage Two n I1) (preimage_length Two n f (one_entry Two n f)) (λ w h. image_length Two n 1 1 I1 w (one_fits Two n one) h) (λ z. ((λ h. in_one z), (λ h. (preimage_one Two n f z (one_entry Two n f)).1 ((image_one Two n f (polynomial_product Two n f z)).1 (z, refl)))))

    f_column : ColumnsInImage Two n (one_entry Two n f) (one_entry Two n f)
    f_column c d = let z : zero ≡ c = omega arith in subst (λ c. InImage Two n (one_entry Two n f) (get_or ((f ∷ []) ∷ []) c [])) z ((image_one Two n f f).1 (one, product_one_right Two n f))

    -- ---- not onto
    abbrev W : PolynomialMatrix Two n
    W = pair_row n f f

    abbrev Ws : List (PolynomialMatrix Two n)
    Ws = W ∷ one_entry Two n f ∷ []

    beside_is : matrix_beside Two n (one_entry Two n f) (one_entry Two n f) ≡ W
    unfolding matrix_beside joined table listed entry
    beside_is = refl

    twist_is : matrix_twist Two n 1 W ≡ pair_row n (frobenius_twist Two n 1 f) (frobenius_twist Two n 1 f)
    unfolding matrix_twist entrywise table listed entry
    twist_is = refl

    -- the image of (u, u) is that of (u)
    doubled : (u z : P) → InImage Two n (pair_row n u u) (z ∷ []) ↔ ((y : P) × (u ⊗ y ≡ z))
    doubled u z =
        let R = polynomials_laws Two n in
        let h = image_pair n f g f_nonzero g_nonzero coprime turned proper one_nonzero u u z in (
          λ k. let r = h.0 k in (r.0 ⊕ r.1, R.mul_add u r.0 r.1 ∙ r.2),
          λ k. h.1 (k.0, 𝟘, ap (λ x. u ⊗ k.0 ⊕ x) (mul_zero R u) ∙ add_zero R (u ⊗ k.0) ∙ k.1),
        )

    step : GeneratesPreimage Two n (one_entry Two n f) (one_entry Two n e) (matrix_twist Two n 1 W)
    unfolding polynomial_product polynomial_zero
    step =
        subst (λ B. GeneratesPreimage Two n (one_entry Two n f) (one_entry Two n e) B) (sym (twist_is ∙ ap (λ x. pair_row n x x) (square n f)))
        (subst (λ x. GeneratesPreimage Two n (one_entry Two n f) (one_entry Two n x) (pair_row n (f ⊗ f) (f ⊗ f))) (sym e_is)
        (of_one Two n (InPreimage Two n (one_entry Two n f) (pair_row n (f ⊗ f) (f ⊗ f))) (InImage Two n (one_entry Two n f)) (preimage_length Two n f (pair_row n (f ⊗ f) (f ⊗ f))) (λ w h. image_length Two n 1 1 (one_entry Two n f) w (one_fits Two n f) h) (λ z.
        let R = polynomials_laws Two n in
        let a = preimage_one Two n f z (pair_row n (f ⊗ f) (f ⊗ f)) in
        let b = doubled (f ⊗ f) (f ⊗ z) in
        let c = image_one Two n f z in (
          (λ k. let r = b.0 (a.0 k) in c.1 (r.0, cancel_factor Two n f (f ⊗ r.0) z f_nonzero (sym (R.mul_assoc f f r.0) ∙ r.1))),
          (λ k. let r = c.0 k in a.1 (b.1 (r.0, R.mul_assoc f f r.0 ∙ ap (λ x. f ⊗ x) r.1))),
        ))))

    pub join : JoinFacts Two n (one_entry Two n f) (one_entry Two n f) (one_entry Two n e) Ws 1
    unfolding matrix_at
    join = record {
      begins = λ v. subst (λ B. InImage Two n W v ↔ InImage Two n B v) (sym beside_is) ((λ h. h), (λ h. h));
      chain = record {
        fits = λ s b. two_of_columns (λ s. HasShape Two n 1 (length (matrix_at Two n Ws s).columns) (matrix_at Two n Ws s)) (row_shape n one f g one_nonzero f_nonzero coprime f f) (one_fits Two n f) s (omega arith);
        step = only_first (λ s. GeneratesPreimage Two n (matrix_at Two n Ws (suc s)) (one_entry Two n e) (matrix_twist Two n 1 (matrix_at Two n Ws s))) step;
      };
    }

    repeats : ColumnsInImage Two n W (one_entry Two n f)
    repeats c d = let z : zero ≡ c = omega arith in subst (λ c. InImage Two n W (get_or ((f ∷ []) ∷ []) c [])) z ((doubled f f).1 (𝟙, mul_one (polynomials_laws Two n) f))

    not_all : ColumnsInImage Two n W (matrix_unit Two n 1) → ⊥
    unfolding polynomial_one
    not_all k =
        let R = polynomials_laws Two n in
        let h = subst (λ B. ColumnsInImage Two n W B) (unit_one Two n) k in
        let r = (doubled f one).0 (h 0 (omega arith)) in
        proper 𝟘 r.0 (ap (λ x. x ⊕ f ⊗ r.0) (mul_zero R g) ∙ R.zero_add (f ⊗ r.0) ∙ r.1)

    -- zero, one to one, and not onto
    pub map_one_holds : Holds Two n (induced_map 1 J (principal Two n f) (first_lift n) true true None)
    unfolding matrix_at
    map_one_holds =
        map_verdict Two n facts_one target map_facts I1 (one_fits Two n one) fibre true true None ((λ k. f_column), (λ k. refl)) ((λ k. one_column one), (λ k. refl))
        (onto_no_verdict Two n facts_one target map_facts Ws 0 join repeats not_all)
