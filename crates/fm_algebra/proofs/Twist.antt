-- Twists and slices of polynomials by their coefficients
use Rattle.std.proofs.Common.{◌≡◌, ℕ, zero, suc, ◌+◌, ◌*◌, ◌/◌, ◌%◌, ◌<◌, ◌⊎◌, inl, inr, List, [], ◌∷◌, ◌++◌, map, length, refl, ap, ap₂, sym, ◌∙◌, subst, add-zero}
use Rattle.std.proofs.Math.Nat.{div-add-mod, mul-mod_right}
use native.Mathlib.Nat.{mul-div_cancel_left}
use Rattle.fm_tuple.specs.Tuple.{tuple_multiple}
use Rattle.fm_tuple.proofs.Tuples.{length_tuple_multiple}
use Rattle.fm_algebra.specs.Ring.{Ring}
use Rattle.fm_algebra.specs.Series.{Series}
use Rattle.fm_algebra.specs.Poly.{Poly, coeff, polynomial, Among}
use Rattle.fm_algebra.specs.PolyRing.{support}
use Rattle.fm_algebra.specs.Twist.{tuple_place, tuple_quotient, tuple_remainder, AllBelow, tuples_below, where_zero, twisted, twist, slice}
use Rattle.fm_algebra.proofs.Poly.{Covers, Fixed, support_covers, coeff_fixed, coeff_polynomial, at_tuple}
use Rattle.fm_algebra.proofs.PolyRing.{among_left, among_right, among_map}
use Rattle.fm_algebra.proofs.TuplePlaces.{length_place, quotient_place, place_parts, length_quotient, length_remainder, remainder_below, among_tuples_below}

module _ (K : Ring) where
  open K use {Carrier, zero as 𝟘}

  twisted_head : (q k : ℕ) (h : Series K) (a : List ℕ) (r : ℕ) → k % q ≡ r
      → ((twisted K q (λ b. h (k / q ∷ b)) a ≡ 𝟘) ⊎ ((b : List ℕ) × (a ≡ tuple_multiple q b) × (twisted K q (λ x. h (k / q ∷ x)) a ≡ h (k / q ∷ b))))
      → (where_zero K r (twisted K q (λ b. h (k / q ∷ b)) a) ≡ 𝟘) ⊎ ((b : List ℕ) × (k ∷ a ≡ tuple_multiple q b) × (where_zero K r (twisted K q (λ x. h (k / q ∷ x)) a) ≡ h b))
  twisted_head q k h a zero e (inl z) = inl z
  twisted_head q k h a zero e (inr t) = inr (k / q ∷ t.0, ap₂ (λ x y. x ∷ y) (whole q k e) t.1, t.2)
    where
      whole : (q k : ℕ) → k % q ≡ 0 → k ≡ q * (k / q)
      whole q k e = sym (div-add-mod k q) ∙ ap (λ x. q * (k / q) + x) e ∙ add-zero _
  twisted_head q k h a (suc r) e t = inl refl

  -- a coefficient of a twist is 0, or stands at a tuple q * b
  pub twisted_at : (q : ℕ) (h : Series K) (a : List ℕ) → (twisted K q h a ≡ 𝟘) ⊎ ((b : List ℕ) × (a ≡ tuple_multiple q b) × (twisted K q h a ≡ h b))
  unfolding twisted
  twisted_at q h [] = inr ([], refl, refl)
  twisted_at q h (k ∷ a) = twisted_head q k h a (k % q) refl (twisted_at q (λ b. h (k / q ∷ b)) a)

  pub twisted_multiple : (q : ℕ) → 0 < q → (h : Series K) (b : List ℕ) → twisted K q h (tuple_multiple q b) ≡ h b
  unfolding twisted
  twisted_multiple q pos h [] = refl
  twisted_multiple q pos h (i ∷ b) =
      ap₂ (λ x y. where_zero K x (twisted K q (λ z. h (y ∷ z)) (tuple_multiple q b))) (mul-mod_right q i) (mul-div_cancel_left i pos)
      ∙ twisted_multiple q pos (λ z. h (i ∷ z)) b

  pub twisted_fixed : (n q : ℕ) (h : Series K) → Fixed K n h → Fixed K n (twisted K q h)
  twisted_fixed n q h f a w = elim (twisted_at q h a) [
    | inl z ↦ z
    | inr t ↦ t.2 ∙ f t.0 (λ l. w (ap length t.1 ∙ length_tuple_multiple q t.0 ∙ l))
  ]

  twisted_covers : (n q : ℕ) (h : Series K) (ks : List (List ℕ)) → Covers K n h ks → Covers K n (twisted K q h) (map (tuple_multiple q) ks)
  twisted_covers n q h ks c a l = elim (twisted_at q h a) [
    | inl z ↦ inl z
    | inr t ↦ elim (c t.0 (sym (length_tuple_multiple q t.0) ∙ sym (ap length t.1) ∙ l)) [
      | inl z ↦ inl (t.2 ∙ z)
      | inr w ↦ inr (subst (λ x. Among x (map (tuple_multiple q) ks)) (sym t.1) (among_map (tuple_multiple q) t.0 ks w))
    ]
  ]

  module _ (is_zero : (c : Carrier) → Dec (c ≡ 𝟘)) (n : ℕ) where
    pub coeff_twist : (q : ℕ) (f : Poly K n) → coeff (twist K is_zero n q f) ≡ twisted K q (coeff f)
    unfolding twist
    coeff_twist q f = coeff_polynomial K is_zero n _ _ (twisted_covers n q (coeff f) (support f) (support_covers f)) (twisted_fixed n q (coeff f) (coeff_fixed f))

    pub coeff_slice : (q : ℕ) (a : List ℕ) (f : Poly K n) → length a ≡ n → AllBelow q a
        → (b : List ℕ) → length b ≡ n → coeff (slice K is_zero n q a f) b ≡ coeff f (tuple_place q b a)
    unfolding slice
    coeff_slice q a f l w b m = at_tuple K is_zero n (λ b. coeff f (tuple_place q b a)) (map (tuple_quotient q) (support f)) cover b m
      where
        cover : Covers K n (λ b. coeff f (tuple_place q b a)) (map (tuple_quotient q) (support f))
        cover b m = elim (support_covers f (tuple_place q b a) (length_place q b a (l ∙ sym m) ∙ m)) [
          | inl z ↦ inl z
          | inr v ↦ inr (subst (λ x. Among x (map (tuple_quotient q) (support f))) (quotient_place q b a (l ∙ sym m) w) (among_map (tuple_quotient q) (tuple_place q b a) (support f) v))
        ]

    -- where a polynomial with the slices u a may have terms
    places : ℕ → (List ℕ → Poly K n) → List (List ℕ) → List (List ℕ)
    places q u [] = []
    places q u (a ∷ ks) = map (λ b. tuple_place q b a) (support (u a)) ++ places q u ks

    -- the polynomial with the slices u a
    pub glue : ℕ → (List ℕ → Poly K n) → Poly K n
    glue q u = polynomial K is_zero n (λ c. coeff (u (tuple_remainder q c)) (tuple_quotient q c)) (places q u (tuples_below n q))

    among_places : (q : ℕ) (u : List ℕ → Poly K n) (a b : List ℕ) (ks : List (List ℕ)) → Among a ks → Among b (support (u a)) → Among (tuple_place q b a) (places q u ks)
    unfolding places
    among_places q u a b [] w v = absurd w
    among_places q u a b (k ∷ ks) (inl e) v =
        among_left (tuple_place q b a) (map (λ b. tuple_place q b k) (support (u k))) (places q u ks)
        (subst (λ x. Among (tuple_place q b x) (map (λ b. tuple_place q b k) (support (u k)))) (sym e)
        (among_map (λ b. tuple_place q b k) b (support (u k)) (subst (λ x. Among b (support (u x))) e v)))
    among_places q u a b (k ∷ ks) (inr w) v = among_right (tuple_place q b a) (map (λ b. tuple_place q b k) (support (u k))) (places q u ks) (among_places q u a b ks w v)

    pub coeff_glue : (q : ℕ) → 0 < q → (u : List ℕ → Poly K n) (c : List ℕ) → length c ≡ n → coeff (glue q u) c ≡ coeff (u (tuple_remainder q c)) (tuple_quotient q c)
    unfolding glue
    coeff_glue q pos u c l = at_tuple K is_zero n (λ c. coeff (u (tuple_remainder q c)) (tuple_quotient q c)) (places q u (tuples_below n q)) cover c l
      where
        cover : Covers K n (λ c. coeff (u (tuple_remainder q c)) (tuple_quotient q c)) (places q u (tuples_below n q))
        cover c l = elim (support_covers (u (tuple_remainder q c)) (tuple_quotient q c) (length_quotient q c ∙ l)) [
          | inl z ↦ inl z
          | inr v ↦ inr (subst (λ x. Among x (places q u (tuples_below n q))) (place_parts q c)
              (among_places q u (tuple_remainder q c) (tuple_quotient q c) (tuples_below n q)
              (among_tuples_below n q (tuple_remainder q c) (length_remainder q c ∙ l) (remainder_below q pos c)) v))
        ]
