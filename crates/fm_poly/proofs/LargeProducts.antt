-- An operation passes the bound on exponents exactly where its result has an exponent above it
use Rattle.std.proofs.Common.{◌≡◌, ◌<◌, ◌≤◌, ℕ, zero, suc, ◌+◌, ◌-◌, ◌^◌, Bool, true, false, nat_le, ◌&&◌, List, [], ◌∷◌, length, replicate, get_or, inl, inr, refl, ap, ap₂, sym, ◌∙◌, subst, arith}
use Rattle.std.proofs.Math.Nat.{zero-mod}
use Rattle.std.proofs.lemmas.List.{get_or_past}
use Rattle.std.proofs.lemmas.Bool.Decides.{nat_tests}
use Rattle.std.proofs.lemmas.Cmp.{nat_cmp_total, nat_list_cmp_total, on_total, then_total}
use Rattle.std.specs.Cmp.{nat_cmp_is}
use Rattle.std.specs.Cmp.Lexicographic.{slice_cmp}
use Rattle.std.specs.Ordering.{nat_cmp, then_cmp, on, ordering_then}
use Rattle.std.specs.declared.cmp.Ordering.{Ordering}
use Rattle.std.specs.declared.cmp.Ordering.TheVariants.{Less, Equal, Greater}
use native.Mathlib.Decide.{ℕ_discrete, dec_lt}
use Rattle.fm_tuple.specs.Tuple.{tuple_sum, tuple_multiple}
use Rattle.fm_tuple.proofs.Tuples.{length_tuple_sum}
use Rattle.fm_tuple.proofs.TupleEntries.{get_or_entrywise}
use Rattle.fm_gfp.specs.Primes.{prime_value}
use Rattle.fm_gfp.specs.declared.prime.Prime.{Prime}
use Rattle.fm_mono.specs.Bounded.{exponent_bound, is_bounded}
use Rattle.fm_mono.specs.declared.order.Order.TheVariants.{Lex}
use Rattle.fm_mono.proofs.Bounds.{is_bounded_fails, zeros_within}
use Rattle.fm_mono.proofs.OrderLaws.{nat_cmp_alike, monomial_cmp_exact, monomial_cmp_sum}
use Rattle.fm_algebra.specs.Gf.{gf, gf_is_zero, same_residue}
use Rattle.fm_algebra.specs.Heads.{IsMonomialOrder, IsHead}
use Rattle.fm_algebra.specs.Poly.{coeff, same_tuple, apart}
use Rattle.fm_algebra.specs.Polynomials.{Polynomial, polynomials, coefficient, polynomial_one, polynomial_product, polynomial_power, frobenius_twist}
use Rattle.fm_algebra.proofs.Algebra.{mul_zero, zero_mul}
use Rattle.fm_algebra.proofs.Gf.{gf_laws, gf_field}
use Rattle.fm_algebra.proofs.Domain.{zero_or_head, head_mul}
use Rattle.fm_algebra.proofs.PolyRing.{coeff_mul, coeff_zero}
use Rattle.fm_algebra.proofs.PolynomialWords.{coefficient_other_length, coefficient_one_elsewhere}
use Rattle.fm_algebra.proofs.Sums.{IsSum, IsSum-tuple_sum, splits_same_if, splits_zero}
use Rattle.fm_algebra.proofs.Twist.{coeff_twist, twisted_at}
use Rattle.fm_algebra.proofs.TwistWords.{twist_at_multiple}
use Rattle.fm_poly.specs.Bounds.{ProductFits, ProductPasses, TwistFits, TwistPasses, PowerFits, PowerPasses, IsWithinBound, IsBeyondBound}
use Rattle.fm_poly.proofs.PowerSteps.{power_none, power_next}

-- ---- the order that looks at one variable first, and then as the lexicographic order
place_cmp : ℕ → List ℕ → List ℕ → Ordering
place_cmp i a b = then_cmp (on (λ c. get_or c i 0) nat_cmp) (slice_cmp nat_cmp) a b

second_equal : (r s : Ordering) → ordering_then r s ≡ Equal → s ≡ Equal
second_equal Less s e = cc
second_equal Equal s e = e
second_equal Greater s e = cc

entry_sum : (i : ℕ) (a c : List ℕ) → length a ≡ length c → get_or (tuple_sum a c) i 0 ≡ get_or a i 0 + get_or c i 0
entry_sum i a c l = elim (dec_lt i (length a)) [
  | yes below ↦ get_or_entrywise ◌+◌ a c i l below
  | no w ↦ get_or_past (tuple_sum a c) i 0 (at_most (length (tuple_sum a c)) (length_tuple_sum a c l) w)
      ∙ sym (ap₂ (λ x y. x + y) (get_or_past a i 0 (at_most (length a) refl w)) (get_or_past c i 0 (at_most (length c) (sym l) w)))
]
  where
    at_most : (m : ℕ) → m ≡ length a → ¬ (i < length a) → m ≤ i
    at_most m e w = omega arith

entry_cmp : (i : ℕ) (a b c : List ℕ) → length a ≡ length c → length b ≡ length c → nat_cmp (get_or (tuple_sum a c) i 0) (get_or (tuple_sum b c) i 0) ≡ nat_cmp (get_or a i 0) (get_or b i 0)
entry_cmp i a b c l m = ap₂ nat_cmp (entry_sum i a c l) (entry_sum i b c m) ∙ nat_cmp_alike x y (x + z) (y + z) (λ h. omega arith) (λ h. omega arith) (λ h. omega arith)
  where
    x : ℕ
    x = get_or a i 0

    y : ℕ
    y = get_or b i 0

    z : ℕ
    z = get_or c i 0

place_order : (i : ℕ) → IsMonomialOrder (place_cmp i)
unfolding place_cmp
place_order i = record {
  total = then_total (on_total (λ c. get_or c i 0) nat_cmp_total) nat_list_cmp_total;
  exact = λ a b e. monomial_cmp_exact Lex a b (second_equal (nat_cmp (get_or a i 0) (get_or b i 0)) (slice_cmp nat_cmp a b) e);
  respects = λ a b c l m. ap₂ ordering_then (entry_cmp i a b c l m) (monomial_cmp_sum Lex a b c l m);
}

greater_entry : (i : ℕ) (a b : List ℕ) → get_or b i 0 < get_or a i 0 → place_cmp i a b ≡ Greater
unfolding place_cmp
greater_entry i a b h = ap (λ r. ordering_then r (slice_cmp nat_cmp a b)) (sym (nat_cmp_is (get_or a i 0) (get_or b i 0) Greater h))

-- ---- a tuple above the bound has an entry above it
large_at : (i : ℕ) (a : List ℕ) (b : Bool) → nat_le i exponent_bound ≡ b → (b && is_bounded a) ≡ false
    → (is_bounded a ≡ false → (k : ℕ) × (k < length a) × (exponent_bound < get_or a k 0)) → (k : ℕ) × (k < length (i ∷ a)) × (exponent_bound < get_or (i ∷ a) k 0)
large_at i a true e h later = let found : (k : ℕ) × (k < length a) × (exponent_bound < get_or a k 0) = later h in (suc found.0, omega (arith, found.1), found.2)
large_at i a false e h later = (zero, omega arith, above i e)
  where
    above : (i : ℕ) → nat_le i exponent_bound ≡ false → exponent_bound < i
    above i e = grind (arith, nat_tests)

large_entry : (a : List ℕ) → is_bounded a ≡ false → (k : ℕ) × (k < length a) × (exponent_bound < get_or a k 0)
large_entry [] h = cc
large_entry (i ∷ a) h = large_at i a (nat_le i exponent_bound) refl h (large_entry a)

module _ (p : Prime) (n : ℕ) where
  -- ---- the largest exponent of a variable
  nonzero : (f : Polynomial p n) (a : List ℕ) → ¬ (coefficient p n f a ≡ 0) → ¬ (coeff f a ≡ (gf p).zero)
  unfolding coefficient
  nonzero f a w z = w (ap (λ c. c.number) z ∙ zero-mod (prime_value p))

  number_nonzero : (f : Polynomial p n) (a : List ℕ) → ¬ (coeff f a ≡ (gf p).zero) → ¬ (coefficient p n f a ≡ 0)
  unfolding coefficient
  number_nonzero f a w z = w (same_residue _ _ (z ∙ sym (zero-mod (prime_value p))))

  tuple_fits : (f : Polynomial p n) (a : List ℕ) → ¬ (coefficient p n f a ≡ 0) → length a ≡ n
  tuple_fits f a w = elim (ℕ_discrete (length a) n) [ yes l ↦ l | no v ↦ absurd (w (coefficient_other_length p n f a v)) ]

  record Largest (i : ℕ) (f : Polynomial p n) (a : List ℕ) : Type 0 where
    tuple : List ℕ
    head : IsHead (place_cmp i) f tuple
    above : get_or a i 0 ≤ get_or tuple i 0

  largest : (i : ℕ) (f : Polynomial p n) (a : List ℕ) → ¬ (coefficient p n f a ≡ 0) → Largest i f a
  largest i f a w = elim (zero_or_head (gf p) (gf_laws p) (gf_is_zero p) n (place_order i) f) [
    | inl z ↦ absurd (nonzero f a w (ap (λ g. coeff g a) z ∙ ap (λ h. h a) (coeff_zero (gf p) (gf_laws p) (gf_is_zero p) n)))
    | inr s ↦ record {
      tuple = s.0;
      head = s.1;
      above = elim (dec_lt (get_or s.0 i 0) (get_or a i 0)) [
        | yes h ↦ absurd (nonzero f a w (s.1.zero_above a (greater_entry i a s.0 h)))
        | no v ↦ at_most (get_or s.0 i 0) (get_or a i 0) v
      ];
    }
  ]
    where
      at_most : (x y : ℕ) → ¬ (x < y) → y ≤ x
      at_most x y v = omega arith

  -- ---- products
  pub product_beyond : (f g : Polynomial p n) → ProductPasses p n f g → IsBeyondBound p n (polynomial_product p n f g)
  unfolding polynomial_product
  product_beyond f g h =
      let fits : length h.a ≡ length h.b = tuple_fits f h.a h.a_of_f ∙ sym (tuple_fits g h.b h.b_of_g) in
      let large : (k : ℕ) × (k < length (tuple_sum h.a h.b)) × (exponent_bound < get_or (tuple_sum h.a h.b) k 0) = large_entry (tuple_sum h.a h.b) h.passes in
      let top_f : Largest large.0 f h.a = largest large.0 f h.a h.a_of_f in
      let top_g : Largest large.0 g h.b = largest large.0 g h.b h.b_of_g in
      let head : IsHead (place_cmp large.0) ((polynomials p n).mul f g) (tuple_sum top_f.tuple top_g.tuple) =
      head_mul (gf p) (gf_laws p) (gf_field p) (gf_is_zero p) n (place_order large.0) f g top_f.tuple top_g.tuple top_f.head top_g.head in
      let first : get_or (tuple_sum h.a h.b) large.0 0 ≡ get_or h.a large.0 0 + get_or h.b large.0 0 = entry_sum large.0 h.a h.b fits in
      let second : get_or (tuple_sum top_f.tuple top_g.tuple) large.0 0 ≡ get_or top_f.tuple large.0 0 + get_or top_g.tuple large.0 0 =
      entry_sum large.0 top_f.tuple top_g.tuple (top_f.head.fits ∙ sym top_g.head.fits) in
      let same_length : length (tuple_sum top_f.tuple top_g.tuple) ≡ length (tuple_sum h.a h.b) =
      head.fits ∙ sym (length_tuple_sum h.a h.b fits ∙ tuple_fits f h.a h.a_of_f) in
      record {
        a = tuple_sum top_f.tuple top_g.tuple;
        a_of_f = number_nonzero ((polynomials p n).mul f g) (tuple_sum top_f.tuple top_g.tuple) head.nonzero;
        passes = is_bounded_fails (tuple_sum top_f.tuple top_g.tuple) large.0 (subst (λ m. large.0 < m) (sym same_length) large.1)
            (more (get_or (tuple_sum h.a h.b) large.0 0) (get_or (tuple_sum top_f.tuple top_g.tuple) large.0 0) _ _ _ _ first second top_f.above top_g.above large.2);
      }
    where
      more : (s t x y u v : ℕ) → s ≡ x + y → t ≡ u + v → x ≤ u → y ≤ v → exponent_bound < s → exponent_bound < t
      more s t x y u v es et xu yv h = omega arith

  decided : (b : Bool) → ¬ (b ≡ false) → b ≡ true
  decided true w = refl
  decided false w = absurd (w refl)

  no_split : (f g : Polynomial p n) (c : List ℕ) → ProductFits p n f g → is_bounded c ≡ false → coefficient p n (polynomial_product p n f g) c ≡ 0
  unfolding coefficient polynomial_product
  no_split f g c h e =
      ap (λ k. k.number) (ap (λ x. x c) (coeff_mul (gf p) (gf_laws p) (gf_is_zero p) n f g)
      ∙ splits_same_if (gf p).add c (λ u v s. split_zero u v s) ∙ splits_zero (gf_laws p) c) ∙ zero-mod (prime_value p)
    where
      split_zero : (u v : List ℕ) → IsSum u v c → (gf p).mul (coeff f u) (coeff g v) ≡ (gf p).zero
      split_zero u v s = elim (gf_is_zero p (coeff f u)) [
        | yes z ↦ ap (λ x. (gf p).mul x (coeff g v)) z ∙ zero_mul (gf_laws p) (coeff g v)
        | no w ↦ elim (gf_is_zero p (coeff g v)) [
          | yes z ↦ ap (λ x. (gf p).mul (coeff f u) x) z ∙ mul_zero (gf_laws p) (coeff f u)
          | no t ↦ absurd (differ (sym (h.within u v (number_nonzero f u w) (number_nonzero g v t)) ∙ ap is_bounded (sym (IsSum-tuple_sum s)) ∙ e))
        ]
      ]
        where
          differ : ¬ (true ≡ false)
          differ z = cc

  pub product_within : (f g : Polynomial p n) → ProductFits p n f g → IsWithinBound p n (polynomial_product p n f g)
  product_within f g h = record { within = λ c w. decided (is_bounded c) (λ e. w (no_split f g c h e)) }

  -- ---- twists
  pub twist_beyond : (e : ℕ) (f : Polynomial p n) → TwistPasses p n e f → IsBeyondBound p n (frobenius_twist p n e f)
  twist_beyond e f h = record {
    a = tuple_multiple (prime_value p ^ e) h.a;
    a_of_f = λ z. h.a_of_f (sym (twist_at_multiple p n e f h.a) ∙ z);
    passes = h.passes;
  }

  -- ---- powers
  one_within : IsWithinBound p n (polynomial_one p n)
  one_within = record {
    within = λ a w. elim (same_tuple a (replicate n 0)) [
      | inl s ↦ ap is_bounded s.0 ∙ zeros_within n
      | inr v ↦ absurd (w (coefficient_one_elsewhere p n a (apart a (replicate n 0) v)))
    ];
  }

  pub power_within : (k : ℕ) (f : Polynomial p n) → PowerFits p n k f → IsWithinBound p n (polynomial_power p n k f)
  power_within zero f h = subst (IsWithinBound p n) (sym (power_none p n f)) one_within
  power_within (suc k) f h = subst (IsWithinBound p n) (power_next p n k f) (product_within (polynomial_power p n k f) f (h.within k (omega arith)))

  large_sum : (a b : List ℕ) → length a ≡ length b → is_bounded a ≡ false → is_bounded (tuple_sum a b) ≡ false
  large_sum a b l h =
      let large : (k : ℕ) × (k < length a) × (exponent_bound < get_or a k 0) = large_entry a h in
      is_bounded_fails (tuple_sum a b) large.0 (subst (λ m. large.0 < m) (sym (length_tuple_sum a b l)) large.1)
      (subst (λ m. exponent_bound < m) (sym (entry_sum large.0 a b l)) (at_least (get_or a large.0 0) (get_or b large.0 0) large.2))
    where
      at_least : (x y : ℕ) → exponent_bound < x → exponent_bound < x + y
      at_least x y w = omega arith

  beyond_next : (m : ℕ) (f : Polynomial p n) (b : List ℕ) → ¬ (coefficient p n f b ≡ 0) → IsBeyondBound p n (polynomial_power p n m f) → IsBeyondBound p n (polynomial_power p n (suc m) f)
  beyond_next m f b w h = subst (IsBeyondBound p n) (power_next p n m f) (product_beyond (polynomial_power p n m f) f record {
    a = h.a;
    b = b;
    a_of_f = h.a_of_f;
    b_of_g = w;
    passes = large_sum h.a b (tuple_fits (polynomial_power p n m f) h.a h.a_of_f ∙ sym (tuple_fits f b w)) h.passes;
  })

  beyond_later : (d j k : ℕ) (f : Polynomial p n) (b : List ℕ) → ¬ (coefficient p n f b ≡ 0) → d + suc j ≡ k → IsBeyondBound p n (polynomial_power p n (suc j) f) → IsBeyondBound p n (polynomial_power p n k f)
  beyond_later zero j k f b w e h = let same : suc j ≡ k = omega arith in subst (λ i. IsBeyondBound p n (polynomial_power p n i f)) same h
  beyond_later (suc d) j k f b w e h =
      let same : suc (d + suc j) ≡ k = omega arith in
      subst (λ i. IsBeyondBound p n (polynomial_power p n i f)) same (beyond_next (d + suc j) f b w (beyond_later d j (d + suc j) f b w refl h))

  pub power_beyond : (k : ℕ) (f : Polynomial p n) → PowerPasses p n k f → IsBeyondBound p n (polynomial_power p n k f)
  power_beyond k f h =
      let below : h.j < k = h.below in
      let count : (k - suc h.j) + suc h.j ≡ k = omega arith in
      beyond_later (k - suc h.j) h.j k f h.passes.b h.passes.b_of_g count (subst (IsBeyondBound p n) (power_next p n h.j f) (product_beyond (polynomial_power p n h.j f) f h.passes))

  twist_place : (e : ℕ) (f : Polynomial p n) (c : List ℕ) → ¬ (coefficient p n (frobenius_twist p n e f) c ≡ 0) → (b : List ℕ) × (c ≡ tuple_multiple (prime_value p ^ e) b)
  unfolding coefficient frobenius_twist
  twist_place e f c w = elim (twisted_at (gf p) (prime_value p ^ e) (coeff f) c) [
    | inl z ↦ absurd (w (ap (λ h. (h c).number) (coeff_twist (gf p) (gf_is_zero p) n (prime_value p ^ e) f) ∙ ap (λ k. k.number) z ∙ zero-mod (prime_value p)))
    | inr t ↦ (t.0, t.1)
  ]

  pub twist_within : (e : ℕ) (f : Polynomial p n) → TwistFits p n e f → IsWithinBound p n (frobenius_twist p n e f)
  twist_within e f h = record {
    within = λ c w.
        let place : (b : List ℕ) × (c ≡ tuple_multiple (prime_value p ^ e) b) = twist_place e f c w in
        ap is_bounded place.1 ∙ h.within place.0 (λ z. w (ap (coefficient p n (frobenius_twist p n e f)) place.1 ∙ twist_at_multiple p n e f place.0 ∙ z));
  }
