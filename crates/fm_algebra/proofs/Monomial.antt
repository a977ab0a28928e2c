-- Monomials: their coefficients and products, and an induction over polynomials
use Rattle.std.proofs.Common.{◌≡◌, ℕ, List, [], ◌∷◌, length, inl, inr, refl, ap, ap₂, sym, ◌∙◌, subst}
use native.Mathlib.Decide.{ℕ_discrete}
use Rattle.fm_tuple.specs.Tuple.{tuple_sum}
use Rattle.fm_algebra.specs.Ring.{Ring, IsRing}
use Rattle.fm_algebra.specs.Splits.{over_splits}
use Rattle.fm_algebra.specs.Poly.{Poly, coeff, same_tuple, apart}
use Rattle.fm_algebra.specs.PolyRing.{poly, support}
use Rattle.fm_algebra.specs.Monomial.{single, where_true, monomial}
use Rattle.fm_algebra.proofs.Algebra.{zero_mul, mul_zero}
use Rattle.fm_algebra.proofs.Sums.{IsSum-of, IsSum-tuple_sum, splits_single, splits_same_if, splits_zero}
use Rattle.fm_algebra.proofs.Poly.{Covers, support_covers, coeff_polynomial, at_tuple, same_at_tuples}
use Rattle.fm_algebra.proofs.PolyRing.{coeff_zero, coeff_add, coeff_mul, coeff_neg, poly_laws}

module _ (K : Ring) where
  pub single_same : (c : K.Carrier) (a : List ℕ) → single K c a a ≡ c
  unfolding single
  single_same c a = elim (same_tuple a a) [ inl s ↦ ap (λ b. where_true K b c) s.1 | inr n ↦ absurd (apart a a n refl) ]

  pub single_other : (c : K.Carrier) (a b : List ℕ) → ¬ (b ≡ a) → single K c a b ≡ K.zero
  unfolding single
  single_other c a b w = elim (same_tuple b a) [ inl s ↦ absurd (w s.0) | inr n ↦ ap (λ x. where_true K x c) n ]

  single_covers : (n : ℕ) (c : K.Carrier) (a : List ℕ) → Covers K n (single K c a) (a ∷ [])
  single_covers n c a b l = elim (same_tuple b a) [ inl s ↦ inr (inl s.0) | inr n ↦ inl (single_other c a b (apart b a n)) ]

module _ (K : Ring) (L : IsRing K) (is_zero : (c : K.Carrier) → Dec (c ≡ K.zero)) (n : ℕ) where
  open K use {Carrier, zero as 𝟘, one as 𝟙, add as ◌⊕◌, mul as ◌⊗◌, neg}

  infixl 60 ◌⊕◌
  infixl 70 ◌⊗◌
  abbrev P : Ring
  P = poly K is_zero n

  abbrev mono : Carrier → List ℕ → Poly K n
  mono c a = monomial K is_zero n c a

  pub coeff_monomial : (c : Carrier) (a : List ℕ) → length a ≡ n → coeff (mono c a) ≡ single K c a
  unfolding monomial
  coeff_monomial c a l = coeff_polynomial K is_zero n (single K c a) (a ∷ []) (single_covers K n c a) (λ b w. single_other K c a b (λ e. w (ap length e ∙ l)))

  -- at n exponents, whatever the tuple of the monomial
  pub coeff_monomial_at : (c : Carrier) (a b : List ℕ) → length b ≡ n → coeff (mono c a) b ≡ single K c a b
  unfolding monomial
  coeff_monomial_at c a b l = at_tuple K is_zero n (single K c a) (a ∷ []) (single_covers K n c a) b l

  -- the coefficients of a monomial times a polynomial
  pub coeff_monomial_times : (c : Carrier) (a b : List ℕ) (f : Poly K n) → length a ≡ n → length b ≡ n → coeff (P.mul (mono c a) f) (tuple_sum a b) ≡ c ⊗ coeff f b
  coeff_monomial_times c a b f l m =
      ap (λ h. h (tuple_sum a b)) (coeff_mul K L is_zero n (mono c a) f)
      ∙ splits_single L (λ u v. coeff (mono c a) u ⊗ coeff f v) (IsSum-of a b (l ∙ sym m))
      (λ u v s w. ap (λ x. x ⊗ coeff f v) (ap (λ h. h u) (coeff_monomial c a l) ∙ single_other K c a u w) ∙ zero_mul L (coeff f v))
      ∙ ap (λ x. x ⊗ coeff f b) (ap (λ h. h a) (coeff_monomial c a l) ∙ single_same K c a)

  pub monomial_mul : (c d : Carrier) (a b : List ℕ) → length a ≡ n → length b ≡ n → P.mul (mono c a) (mono d b) ≡ mono (c ⊗ d) (tuple_sum a b)
  monomial_mul c d a b l m = same_at_tuples K is_zero n _ _ (λ e k.
      ap (λ h. h e) (coeff_mul K L is_zero n (mono c a) (mono d b)) ∙ elim (same_tuple e (tuple_sum a b)) [
        | inl s ↦ at_sum e s.0 ∙ sym (coeff_monomial_at (c ⊗ d) (tuple_sum a b) e k ∙ ap (single K (c ⊗ d) (tuple_sum a b)) s.0 ∙ single_same K (c ⊗ d) (tuple_sum a b))
        | inr w ↦ off_sum e (apart e (tuple_sum a b) w) ∙ sym (coeff_monomial_at (c ⊗ d) (tuple_sum a b) e k ∙ single_other K (c ⊗ d) (tuple_sum a b) e (apart e (tuple_sum a b) w))
      ])
    where
      at : (c : Carrier) (a : List ℕ) → length a ≡ n → (u : List ℕ) → coeff (mono c a) u ≡ single K c a u
      at c a l u = ap (λ h. h u) (coeff_monomial c a l)

      at_sum : (e : List ℕ) → e ≡ tuple_sum a b → over_splits ◌⊕◌ e (λ u v. coeff (mono c a) u ⊗ coeff (mono d b) v) ≡ c ⊗ d
      at_sum e s =
          ap (λ x. over_splits ◌⊕◌ x (λ u v. coeff (mono c a) u ⊗ coeff (mono d b) v)) s
          ∙ splits_single L (λ u v. coeff (mono c a) u ⊗ coeff (mono d b) v) (IsSum-of a b (l ∙ sym m))
          (λ u v s w. ap (λ x. x ⊗ coeff (mono d b) v) (at c a l u ∙ single_other K c a u w) ∙ zero_mul L _)
          ∙ ap₂ (λ x y. x ⊗ y) (at c a l a ∙ single_same K c a) (at d b m b ∙ single_same K d b)

      off_sum : (e : List ℕ) → ¬ (e ≡ tuple_sum a b) → over_splits ◌⊕◌ e (λ u v. coeff (mono c a) u ⊗ coeff (mono d b) v) ≡ 𝟘
      off_sum e w = splits_same_if ◌⊕◌ e (λ u v s. elim (same_tuple u a) [
        | inr x ↦ ap (λ z. z ⊗ coeff (mono d b) v) (at c a l u ∙ single_other K c a u (apart u a x)) ∙ zero_mul L _
        | inl x ↦ elim (same_tuple v b) [
          | inr y ↦ ap (λ z. coeff (mono c a) u ⊗ z) (at d b m v ∙ single_other K d b v (apart v b y)) ∙ mul_zero L _
          | inl y ↦ absurd (w (IsSum-tuple_sum s ∙ ap₂ tuple_sum x.0 y.0))
        ]
      ]) ∙ splits_zero L e

  -- what holds of 0, and of a monomial plus what it holds of, holds of all polynomials
  module _ (Q : Poly K n → Type 0) (at_zero : Q P.zero) (at_sum : (c : Carrier) (a : List ℕ) (f : Poly K n) → length a ≡ n → Q f → Q (P.add (mono c a) f)) where
    without : Poly K n → List ℕ → Poly K n
    without f k = P.add (P.neg (mono (coeff f k) k)) f

    coeff_without : (f : Poly K n) (k : List ℕ) → length k ≡ n → (a : List ℕ) → coeff (without f k) a ≡ neg (single K (coeff f k) k a) ⊕ coeff f a
    unfolding without
    coeff_without f k l a =
        ap (λ h. h a) (coeff_add K L is_zero n _ f)
        ∙ ap (λ x. x ⊕ coeff f a) (ap (λ h. h a) (coeff_neg K L is_zero n _) ∙ ap (λ h. neg (h a)) (coeff_monomial (coeff f k) k l))

    restored : (f : Poly K n) (k : List ℕ) → P.add (mono (coeff f k) k) (without f k) ≡ f
    unfolding without
    restored f k =
        let M = poly_laws K L is_zero n in
        let t = mono (coeff f k) k in
        sym (M.add_assoc t (P.neg t) f) ∙ ap (λ x. P.add x f) (M.add_comm t (P.neg t) ∙ M.neg_add t) ∙ M.zero_add f

    covers_without : (f : Poly K n) (k : List ℕ) (ks : List (List ℕ)) → length k ≡ n → Covers K n (coeff f) (k ∷ ks) → Covers K n (coeff (without f k)) ks
    covers_without f k ks l c a m = elim (same_tuple a k) [
      | inl s ↦ inl (coeff_without f k l a ∙ ap (λ x. neg (single K (coeff f k) k x) ⊕ coeff f x) s.0 ∙ ap (λ x. neg x ⊕ coeff f k) (single_same K (coeff f k) k) ∙ L.neg_add (coeff f k))
      | inr w ↦ elim (c a m) [
        | inl z ↦ inl (coeff_without f k l a ∙ ap₂ (λ x y. neg x ⊕ y) (single_other K (coeff f k) k a (apart a k w)) z ∙ L.neg_add 𝟘)
        | inr v ↦ elim v [ inl e ↦ absurd (apart a k w e) | inr u ↦ inr u ]
      ]
    ]

    by_list : (ks : List (List ℕ)) (f : Poly K n) → Covers K n (coeff f) ks → Q f
    by_list [] f c = subst Q (same_at_tuples K is_zero n P.zero f (λ a l. ap (λ h. h a) (coeff_zero K L is_zero n) ∙ elim (c a l) [ inl z ↦ sym z | inr w ↦ absurd w ])) at_zero
    by_list (k ∷ ks) f c = elim (ℕ_discrete (length k) n) [
      | yes l ↦ subst Q (restored f k) (at_sum (coeff f k) k (without f k) l (by_list ks (without f k) (covers_without f k ks l c)))
      | no w ↦ by_list ks f (λ a m. elim (c a m) [ inl z ↦ inl z | inr v ↦ elim v [ inl e ↦ absurd (w (sym (ap length e) ∙ m)) | inr u ↦ inr u ] ])
    ]

    pub poly_induction : (f : Poly K n) → Q f
    poly_induction f = by_list (support f) f (support_covers f)
