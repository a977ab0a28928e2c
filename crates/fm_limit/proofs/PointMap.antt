-- The map from the ideal of f and g to that of f^2 and g over GF(2) in degree 2, where f and g divide no multiple of one another but what they must
use Rattle.std.proofs.Common.{ℕ, zero, suc, ◌≡◌, ◌∙◌, ◌↔◌, refl, sym, ap, ap₂, subst, arith, List, [], ◌∷◌, length, get_or, true, false, Some}
use Rattle.std.proofs.lemmas.Bool.{false≢true}
use Rattle.fm_gfp.specs.declared.prime.Prime.TheVariants.{Two}
use Rattle.fm_algebra.specs.FiniteSums.{finite_sum}
use Rattle.fm_algebra.specs.Matrix.{component, entry, listed, table, apply, product, joined, entrywise, unit_matrix, scalar_matrix}
use Rattle.fm_algebra.specs.Polynomials.{Polynomial, polynomials, polynomial_zero, polynomial_one, polynomial_product, frobenius_twist}
use Rattle.fm_algebra.specs.PolynomialMatrices.{PolynomialMatrix, HasShape, matrix_beside, matrix_product, matrix_twist, matrix_unit, vector_product, InImage, InPreimage, GeneratesPreimage}
use Rattle.fm_algebra.proofs.Algebra.{mul_left_comm, mul_one, mul_zero, zero_mul, add_zero}
use Rattle.fm_algebra.proofs.Concrete.{polynomials_laws}
use Rattle.fm_algebra.proofs.PolynomialWords.{cancel_factor}
use Rattle.fm_limit.specs.ResolvedIdeal.{ResolvedIdeal, matrix_at, rank, IsLiftOfIdentityOf}
use Rattle.fm_limit.specs.Facts.{ColumnsInImage, IsEverything, DegreeFacts, MapFacts, JoinFacts}
use Rattle.fm_limit.specs.Verdicts.{Holds, induced_map}
use Rattle.fm_limit.specs.SmallIdeals.{one_entry}
use Rattle.fm_limit.specs.PairIdeals.{pair_row, pair_column, pair_diagonal, pair_ideal, square_lift}
use Rattle.fm_limit.proofs.Principal.{one_fits}
use Rattle.fm_limit.proofs.PrincipalFacts.{product_one, transpose_one, unit_one, product_one_left, product_one_right, of_one, preimage_length, preimage_one}
use Rattle.fm_limit.proofs.MatrixWords.{unit_fits, image_length}
use Rattle.fm_limit.proofs.VerdictLaws.{map_verdict, onto_yes_verdict}
use Rattle.fm_limit.proofs.PairIdeals.{square, double, under_two, under_three, diagonal_shape}
use Rattle.fm_limit.proofs.PairFacts.{fits_row, image_all}
use Rattle.fm_limit.proofs.PairPoint.{image_pair, column_members, point_facts}

module _ (n : ℕ) where
  abbrev P : Type 0
  P = Polynomial Two n

  open polynomials Two n use {zero as 𝟘, one as 𝟙, add as ◌⊕◌, mul as ◌⊗◌}

  infixl 60 ◌⊕◌
  infixl 70 ◌⊗◌
  module _ (f g : P) (f_nonzero : ¬ (f ≡ polynomial_zero Two n)) (g_nonzero : ¬ (g ≡ polynomial_zero Two n)) (coprime : (b : P) → ((y : P) × (polynomial_product Two n f y ≡ polynomial_product Two n g b)) → (y : P) × (polynomial_product Two n f y ≡ b)) (turned : (b : P) → ((y : P) × (polynomial_product Two n g y ≡ polynomial_product Two n f b)) → (y : P) × (polynomial_product Two n g y ≡ b)) (proper : (a b : P) → ¬ (g ⊗ a ⊕ f ⊗ b ≡ 𝟙)) (one_nonzero : ¬ (polynomial_one Two n ≡ polynomial_zero Two n))
      (d : P) (d_is : d ≡ f ⊗ f) (d_nonzero : ¬ (d ≡ polynomial_zero Two n)) (d_coprime : (b : P) → ((y : P) × (polynomial_product Two n d y ≡ polynomial_product Two n g b)) → (y : P) × (polynomial_product Two n d y ≡ b)) (d_turned : (b : P) → ((y : P) × (polynomial_product Two n g y ≡ polynomial_product Two n d b)) → (y : P) × (polynomial_product Two n g y ≡ b)) (d_proper : (a b : P) → ¬ (g ⊗ a ⊕ d ⊗ b ≡ 𝟙)) where
    abbrev one : P
    one = polynomial_one Two n

    -- the source and the target
    abbrev J : ResolvedIdeal Two n
    J = pair_ideal n one f g

    abbrev I : ResolvedIdeal Two n
    I = pair_ideal n one d g

    abbrev NS : PolynomialMatrix Two n
    NS = pair_row n g f

    abbrev NT : PolynomialMatrix Two n
    NT = pair_row n g d

    abbrev t : P
    t = (one ⊗ d) ⊗ g

    abbrev source : DegreeFacts Two n 2 J (one_entry Two n one) (one_entry Two n ((one ⊗ f) ⊗ g)) (NS ∷ NS ∷ []) 0
    source = point_facts n f g f_nonzero g_nonzero coprime turned proper one_nonzero

    abbrev target : DegreeFacts Two n 2 I (one_entry Two n one) (one_entry Two n t) (NT ∷ NT ∷ []) 0
    target = point_facts n d g d_nonzero g_nonzero d_coprime d_turned d_proper one_nonzero

    abbrev ls : List (PolynomialMatrix Two n)
    ls = square_lift n f

    -- ---- the lift of the identity
    first_square : matrix_product Two n (pair_row n (one ⊗ f) (one ⊗ g)) (pair_diagonal n f one) ≡ matrix_product Two n (matrix_unit Two n 1) (pair_row n (one ⊗ d) (one ⊗ g))
    unfolding matrix_product product table listed entry finite_sum matrix_unit unit_matrix scalar_matrix polynomial_zero polynomial_one
    first_square =
        let R = polynomials_laws Two n in
        let a : (𝟘 ⊕ (𝟙 ⊗ f) ⊗ f) ⊕ (𝟙 ⊗ g) ⊗ 𝟘 ≡ 𝟘 ⊕ 𝟙 ⊗ (𝟙 ⊗ d) = ap (λ x. (𝟘 ⊕ (𝟙 ⊗ f) ⊗ f) ⊕ x) (mul_zero R (𝟙 ⊗ g)) ∙ add_zero R (𝟘 ⊕ (𝟙 ⊗ f) ⊗ f) ∙ ap (λ x. 𝟘 ⊕ x) (R.mul_assoc 𝟙 f f ∙ ap (λ x. 𝟙 ⊗ x) (sym d_is ∙ sym (R.one_mul d))) in
        let b : (𝟘 ⊕ (𝟙 ⊗ f) ⊗ 𝟘) ⊕ (𝟙 ⊗ g) ⊗ 𝟙 ≡ 𝟘 ⊕ 𝟙 ⊗ (𝟙 ⊗ g) = ap₂ (λ x y. (𝟘 ⊕ x) ⊕ y) (mul_zero R (𝟙 ⊗ f)) (R.mul_comm (𝟙 ⊗ g) 𝟙) ∙ ap (λ x. x ⊕ 𝟙 ⊗ (𝟙 ⊗ g)) (add_zero R 𝟘) in
        ap₂ (λ x y. record { rows = 1; columns = (x ∷ []) ∷ (y ∷ []) ∷ [] }) a b

    second_square : matrix_product Two n (pair_column n g f) (one_entry Two n f) ≡ matrix_product Two n (pair_diagonal n f one) (pair_column n g d)
    unfolding matrix_product product table listed entry finite_sum polynomial_zero polynomial_one
    second_square =
        let R = polynomials_laws Two n in
        let a : 𝟘 ⊕ g ⊗ f ≡ (𝟘 ⊕ f ⊗ g) ⊕ 𝟘 ⊗ d = ap (λ x. 𝟘 ⊕ x) (R.mul_comm g f) ∙ sym (ap (λ x. (𝟘 ⊕ f ⊗ g) ⊕ x) (zero_mul R d) ∙ add_zero R (𝟘 ⊕ f ⊗ g)) in
        let b : 𝟘 ⊕ f ⊗ f ≡ (𝟘 ⊕ 𝟘 ⊗ g) ⊕ 𝟙 ⊗ d = ap (λ x. 𝟘 ⊕ x) (sym d_is) ∙ sym (ap₂ (λ x y. (𝟘 ⊕ x) ⊕ y) (zero_mul R g) (R.one_mul d) ∙ ap (λ x. x ⊕ d) (add_zero R 𝟘)) in
        ap₂ (λ x y. record { rows = 2; columns = (x ∷ y ∷ []) ∷ [] }) a b

    identity : IsLiftOfIdentityOf Two n 2 I.differentials J.differentials ls
    unfolding pair_ideal matrix_at polynomial_product
    identity = record {
      count = refl;
      fits = under_three n one f g one_nonzero f_nonzero coprime (λ j. HasShape Two n (rank Two n J.differentials j) (rank Two n I.differentials j) (matrix_at Two n ls j)) (unit_fits Two n 1) (diagonal_shape n one f g one_nonzero f_nonzero coprime f one) (one_fits Two n f);
      first = refl;
      square = under_two n one f g one_nonzero f_nonzero coprime (λ j. matrix_product Two n (matrix_at Two n J.differentials j) (matrix_at Two n ls (suc j)) ≡ matrix_product Two n (matrix_at Two n ls j) (matrix_at Two n I.differentials j)) first_square second_square;
    }

    pub map_facts : MapFacts Two n 2 J I ls (one_entry Two n one) (one_entry Two n one) (one_entry Two n f)
    unfolding matrix_at
    map_facts = record {
      identity = identity;
      fits = one_fits Two n f;
      square =
          ap (λ A. matrix_product Two n A (one_entry Two n one)) (transpose_one Two n f)
          ∙ product_one Two n f one
          ∙ ap (λ x. one_entry Two n x) (product_one_right Two n f ∙ sym (product_one_left Two n f))
          ∙ sym (product_one Two n one f);
    }

    -- ---- one to one: f z lies in the ideal of g and d exactly if z lies in that of g and f
    there : (z : P) → ((a : P) × (b : P) × (g ⊗ a ⊕ d ⊗ b ≡ f ⊗ z)) → (a : P) × (b : P) × (g ⊗ a ⊕ f ⊗ b ≡ z)
    unfolding polynomial_product polynomial_zero
    there z k =
        let R = polynomials_laws Two n in
        let a : P = k.0 in
        let b : P = k.1 in
        let e : f ⊗ (z ⊕ f ⊗ b) ≡ g ⊗ a = R.mul_add f z (f ⊗ b) ∙ ap₂ (λ x y. x ⊕ y) (sym k.2) (sym (R.mul_assoc f f b) ∙ ap (λ x. x ⊗ b) (sym d_is)) ∙ R.add_assoc (g ⊗ a) (d ⊗ b) (d ⊗ b) ∙ ap (λ x. g ⊗ a ⊕ x) (double n (d ⊗ b)) ∙ add_zero R (g ⊗ a) in
        let r = coprime a (z ⊕ f ⊗ b, e) in
        let q : g ⊗ r.0 ≡ z ⊕ f ⊗ b = cancel_factor Two n f (g ⊗ r.0) (z ⊕ f ⊗ b) f_nonzero (mul_left_comm R f g r.0 ∙ ap (λ x. g ⊗ x) r.1 ∙ sym e) in
        (r.0, b, ap (λ x. x ⊕ f ⊗ b) q ∙ R.add_assoc z (f ⊗ b) (f ⊗ b) ∙ ap (λ x. z ⊕ x) (double n (f ⊗ b)) ∙ add_zero R z)

    back : (z : P) → ((a : P) × (b : P) × (g ⊗ a ⊕ f ⊗ b ≡ z)) → (a : P) × (b : P) × (g ⊗ a ⊕ d ⊗ b ≡ f ⊗ z)
    back z k =
        let R = polynomials_laws Two n in
        (f ⊗ k.0, k.1, ap₂ (λ x y. x ⊕ y) (mul_left_comm R g f k.0) (ap (λ x. x ⊗ k.1) d_is ∙ R.mul_assoc f f k.1) ∙ sym (R.mul_add f (g ⊗ k.0) (f ⊗ k.1)) ∙ ap (λ x. f ⊗ x) k.2)

    fibre : GeneratesPreimage Two n NS (one_entry Two n f) NT
    unfolding polynomial_product
    fibre =
        of_one Two n (InPreimage Two n (one_entry Two n f) NT) (InImage Two n NS) (preimage_length Two n f NT) (λ w k. image_length Two n 1 2 NS w (fits_row n f g f_nonzero coprime proper) k) (λ z.
        let a = preimage_one Two n f z NT in
        let b = image_pair n d g d_nonzero g_nonzero d_coprime d_turned d_proper one_nonzero g d (f ⊗ z) in
        let c = image_pair n f g f_nonzero g_nonzero coprime turned proper one_nonzero g f z in
        ((λ k. c.1 (there z (b.0 (a.0 k)))), (λ k. a.1 (b.1 (back z (c.0 k))))))

    -- f is not in the ideal of g and d
    not_null : ColumnsInImage Two n NT (one_entry Two n f) → ⊥
    unfolding polynomial_product polynomial_zero
    not_null k =
        let R = polynomials_laws Two n in
        let h = (image_pair n d g d_nonzero g_nonzero d_coprime d_turned d_proper one_nonzero g d f).0 (k 0 (omega arith)) in
        let r = there 𝟙 (h.0, h.1, h.2 ∙ sym (mul_one R f)) in
        proper r.0 r.1 r.2

    -- ---- onto after one move
    abbrev W : PolynomialMatrix Two n
    W = record { rows = 1; columns = (g ∷ []) ∷ (d ∷ []) ∷ (f ∷ []) ∷ [] }

    abbrev Ws : List (PolynomialMatrix Two n)
    Ws = W ∷ one_entry Two n one ∷ []

    beside_is : matrix_beside Two n NT (one_entry Two n f) ≡ W
    unfolding matrix_beside joined table listed entry
    beside_is = refl

    triple_acts : (u v w a b c : P) → vector_product Two n (record { rows = 1; columns = (u ∷ []) ∷ (v ∷ []) ∷ (w ∷ []) ∷ [] }) (a ∷ b ∷ c ∷ []) ≡ ((u ⊗ a ⊕ v ⊗ b) ⊕ w ⊗ c) ∷ []
    unfolding vector_product apply listed finite_sum entry component
    triple_acts u v w a b c = ap (λ x. ((x ⊕ v ⊗ b) ⊕ w ⊗ c) ∷ []) ((polynomials_laws Two n).zero_add (u ⊗ a))

    twist_is : matrix_twist Two n 1 W ≡ record { rows = 1; columns = (frobenius_twist Two n 1 g ∷ []) ∷ (frobenius_twist Two n 1 d ∷ []) ∷ (frobenius_twist Two n 1 f ∷ []) ∷ [] }
    unfolding matrix_twist entrywise table listed entry
    twist_is = refl

    -- one move takes every class to an image
    kills : (z : P) → InImage Two n (matrix_twist Two n 1 W) (polynomial_product Two n t z ∷ [])
    unfolding InImage polynomial_product polynomial_one vector_product
    kills z =
        let R = polynomials_laws Two n in
        let u = frobenius_twist Two n 1 g in
        let v = frobenius_twist Two n 1 d in
        let w = frobenius_twist Two n 1 f in
        let q : (u ⊗ 𝟘 ⊕ v ⊗ 𝟘) ⊕ w ⊗ (g ⊗ z) ≡ t ⊗ z = ap₂ (λ x y. (x ⊕ y) ⊕ w ⊗ (g ⊗ z)) (mul_zero R u) (mul_zero R v) ∙ ap (λ x. x ⊕ w ⊗ (g ⊗ z)) (add_zero R 𝟘) ∙ R.zero_add (w ⊗ (g ⊗ z)) ∙ ap (λ x. x ⊗ (g ⊗ z)) (square n f ∙ sym d_is ∙ sym (R.one_mul d)) ∙ sym (R.mul_assoc (𝟙 ⊗ d) g z) in
        subst (λ B. InImage Two n B (t ⊗ z ∷ [])) (sym twist_is) (𝟘 ∷ 𝟘 ∷ g ⊗ z ∷ [], refl, triple_acts u v w 𝟘 𝟘 (g ⊗ z) ∙ ap (λ x. x ∷ []) q)

    step : GeneratesPreimage Two n (one_entry Two n one) (one_entry Two n t) (matrix_twist Two n 1 W)
    step =
        of_one Two n (InPreimage Two n (one_entry Two n t) (matrix_twist Two n 1 W)) (InImage Two n (one_entry Two n one)) (preimage_length Two n t (matrix_twist Two n 1 W)) (λ w k. image_length Two n 1 1 (one_entry Two n one) w (one_fits Two n one) k) (λ z. ((λ k. image_all n f g f_nonzero coprime proper z), (λ k. (preimage_one Two n t z (matrix_twist Two n 1 W)).1 (kills z))))

    triple_fits : HasShape Two n 1 3 W
    unfolding HasShape
    triple_fits = (refl, refl, under_three n one f g one_nonzero f_nonzero coprime (λ j. length (get_or ((g ∷ []) ∷ (d ∷ []) ∷ (f ∷ []) ∷ []) j []) ≡ 1) refl refl refl)

    pub join : JoinFacts Two n NT (one_entry Two n f) (one_entry Two n t) Ws 1
    unfolding matrix_at
    join = record {
      begins = λ v. subst (λ B. InImage Two n W v ↔ InImage Two n B v) (sym beside_is) ((λ h. h), (λ h. h));
      chain = record {
        fits = λ s b. under_two n one f g one_nonzero f_nonzero coprime (λ s. HasShape Two n 1 (length (matrix_at Two n Ws s).columns) (matrix_at Two n Ws s)) triple_fits (one_fits Two n one) s (omega arith);
        step = λ s b. let z : zero ≡ s = omega arith in subst (λ s. GeneratesPreimage Two n (matrix_at Two n Ws (suc s)) (one_entry Two n t) (matrix_twist Two n 1 (matrix_at Two n Ws s))) z step;
      };
    }

    -- but not at once: 1 is not in the ideal of g, d and f
    not_at_first : ColumnsInImage Two n W (one_entry Two n one) → ⊥
    unfolding InImage polynomial_one vector_product
    not_at_first k = go (k 0 (omega arith)).0 (k 0 (omega arith)).1 (k 0 (omega arith)).2
      where
        go : (w : List P) → length w ≡ 3 → vector_product Two n W w ≡ 𝟙 ∷ [] → ⊥
        go [] l e = let q : 0 ≡ 3 = l in absurd (omega arith)
        go (a ∷ []) l e = let q : 1 ≡ 3 = l in absurd (omega arith)
        go (a ∷ b ∷ []) l e = let q : 2 ≡ 3 = l in absurd (omega arith)
        go (a ∷ b ∷ c ∷ []) l e =
            let R = polynomials_laws Two n in
            let s : (g ⊗ a ⊕ d ⊗ b) ⊕ f ⊗ c ≡ 𝟙 = ap (λ v. get_or v 0 𝟘) (sym (triple_acts g d f a b c) ∙ e) in
            proper a (f ⊗ b ⊕ c) (ap (λ x. g ⊗ a ⊕ x) (R.mul_add f (f ⊗ b) c ∙ ap (λ x. x ⊕ f ⊗ c) (sym (R.mul_assoc f f b) ∙ ap (λ x. x ⊗ b) (sym d_is))) ∙ sym (R.add_assoc (g ⊗ a) (d ⊗ b) (f ⊗ c)) ∙ s)
        go (a ∷ b ∷ c ∷ x ∷ w) l e = let q : length (a ∷ b ∷ c ∷ x ∷ w) ≡ 3 = l in absurd (omega arith)

    -- not zero, one to one, and onto after one move
    pub map_holds : Holds Two n (induced_map 2 J I ls false true (Some 1))
    unfolding matrix_at
    map_holds =
        map_verdict Two n source target map_facts NS (fits_row n f g f_nonzero coprime proper) fibre false true (Some 1)
        ((λ k. absurd (false≢true k)), (λ k. absurd (not_null k)))
        ((λ k. column_members n f g f_nonzero g_nonzero coprime turned proper one_nonzero), (λ k. refl))
        (onto_yes_verdict Two n source target map_facts Ws 1 join (subst (λ B. ColumnsInImage Two n (one_entry Two n one) B) (sym (unit_one Two n)) whole) (λ k q e.
        let z : k ≡ zero = omega (arith, q) in
        not_at_first (subst (λ B. ColumnsInImage Two n W B) (unit_one Two n) (subst (λ k. IsEverything Two n (matrix_at Two n Ws k)) z e))))
      where
        whole : ColumnsInImage Two n (one_entry Two n one) (one_entry Two n one)
        whole c b = let z : zero ≡ c = omega arith in subst (λ c. InImage Two n (one_entry Two n one) (get_or ((one ∷ []) ∷ []) c [])) z (image_all n f g f_nonzero coprime proper one)
