-- The binomial theorem, and powers of a sum in characteristic p
use Rattle.std.proofs.Common.{◌≡◌, ◌<◌, ℕ, zero, suc, ◌+◌, ◌-◌, ◌*◌, ◌/◌, ◌%◌, refl, ap, ap₂, sym, ◌∙◌, arith, suc-add, zero-add, zero-mul}
use Rattle.std.proofs.Math.Nat.{div-add-mod}
use Rattle.fm_gfp.specs.Primes.{prime_value}
use Rattle.fm_gfp.specs.Binomials.{choose}
use Rattle.fm_gfp.specs.declared.prime.Prime.{Prime}
use Rattle.fm_gfp.proofs.Residues.{prime_above_one, binomial_divisible}
use Rattle.fm_algebra.specs.Ring.{Ring, IsRing}
use Rattle.fm_algebra.specs.Splits.{over_pairs}
use Rattle.fm_algebra.specs.Power.{power, repeated}
use Rattle.fm_algebra.proofs.Algebra.{add_zero, mul_one, add_mul, mul_zero, zero_mul, mul_swap, mul_left_comm}
use Rattle.fm_algebra.proofs.Sums.{pairs_same_if, pairs_add, pairs_mul, pairs_last, pairs_zero}

module _ {R : Ring} (L : IsRing R) where
  open R use {Carrier, zero as 𝟘, one as 𝟙, add as ◌⊕◌, mul as ◌⊗◌, neg}
  open L use {add_assoc, add_comm, zero_add, neg_add, mul_assoc, mul_comm, one_mul, mul_add}

  infixl 60 ◌⊕◌
  infixl 70 ◌⊗◌
  pub repeated_add : (m n : ℕ) (f : Carrier) → repeated R (m + n) f ≡ repeated R m f ⊕ repeated R n f
  unfolding repeated
  repeated_add zero n f = ap (λ x. repeated R x f) (zero-add n) ∙ sym (zero_add _)
  repeated_add (suc m) n f = ap (λ x. repeated R x f) (suc-add m n) ∙ ap (λ x. f ⊕ x) (repeated_add m n f) ∙ sym (add_assoc f _ _)

  pub repeated_mul_right : (m : ℕ) (f g : Carrier) → f ⊗ repeated R m g ≡ repeated R m (f ⊗ g)
  unfolding repeated
  repeated_mul_right zero f g = mul_zero L f
  repeated_mul_right (suc m) f g = mul_add f g _ ∙ ap (λ x. f ⊗ g ⊕ x) (repeated_mul_right m f g)

  repeated_one : (f : Carrier) → repeated R 1 f ≡ f
  unfolding repeated
  repeated_one f = add_zero L f

  pub repeated_zero : (m : ℕ) → repeated R m 𝟘 ≡ 𝟘
  unfolding repeated
  repeated_zero zero = refl
  repeated_zero (suc m) = zero_add _ ∙ repeated_zero m

  pub repeated_multiple : (m n : ℕ) (f : Carrier) → repeated R (m * n) f ≡ repeated R m (repeated R n f)
  unfolding repeated
  repeated_multiple zero n f = ap (λ x. repeated R x f) (zero-mul n)
  repeated_multiple (suc m) n f =
      let e : suc m * n ≡ n + m * n = omega arith in
      ap (λ x. repeated R x f) e ∙ repeated_add n (m * n) f ∙ ap (λ x. repeated R n f ⊕ x) (repeated_multiple m n f)

  pub power_mul : (k : ℕ) (f g : Carrier) → power R k (f ⊗ g) ≡ power R k f ⊗ power R k g
  unfolding power
  power_mul zero f g = sym (one_mul 𝟙)
  power_mul (suc k) f g = ap (λ x. (f ⊗ g) ⊗ x) (power_mul k f g) ∙ mul_swap L f g _ _

  pub power_add : (i j : ℕ) (f : Carrier) → power R (i + j) f ≡ power R i f ⊗ power R j f
  unfolding power
  power_add zero j f = ap (λ x. power R x f) (zero-add j) ∙ sym (one_mul _)
  power_add (suc i) j f = ap (λ x. power R x f) (suc-add i j) ∙ ap (λ x. f ⊗ x) (power_add i j f) ∙ sym (mul_assoc f _ _)

  pub power_power : (i j : ℕ) (f : Carrier) → power R (i * j) f ≡ power R i (power R j f)
  unfolding power
  power_power zero j f = ap (λ x. power R x f) (zero-mul j)
  power_power (suc i) j f =
      let e : suc i * j ≡ j + i * j = omega arith in
      ap (λ x. power R x f) e ∙ power_add j (i * j) f ∙ ap (λ x. power R j f ⊗ x) (power_power i j f)

  pub power_one : (k : ℕ) → power R k 𝟙 ≡ 𝟙
  unfolding power
  power_one zero = refl
  power_one (suc k) = one_mul _ ∙ power_one k

  pub power_zero : (k : ℕ) → power R (suc k) 𝟘 ≡ 𝟘
  unfolding power
  power_zero k = zero_mul L _

  -- ---- the binomial theorem
  module _ (f g : Carrier) where
    pub term : ℕ → ℕ → Carrier
    term i j = repeated R (choose i j) (power R i f ⊗ power R j g)

    -- a term of the next power, by its two parents
    left : ℕ → ℕ → Carrier
    left zero j = 𝟘
    left (suc i) j = f ⊗ term i j

    right : ℕ → ℕ → Carrier
    right i zero = 𝟘
    right i (suc j) = g ⊗ term i j

    choose_zero : (i : ℕ) → choose i zero ≡ 1
    choose_zero zero = refl
    choose_zero (suc i) = refl

    raised : (i j : ℕ) → f ⊗ term i j ≡ repeated R (choose i j) (power R (suc i) f ⊗ power R j g)
    unfolding term power
    raised i j = repeated_mul_right (choose i j) f _ ∙ ap (repeated R (choose i j)) (sym (mul_assoc f _ _))

    raised_right : (i j : ℕ) → g ⊗ term i j ≡ repeated R (choose i j) (power R i f ⊗ power R (suc j) g)
    unfolding term power
    raised_right i j = repeated_mul_right (choose i j) g _ ∙ ap (repeated R (choose i j)) (mul_left_comm L g _ _)

    parents : (k i j : ℕ) → i + j ≡ suc k → term i j ≡ left i j ⊕ right i j
    unfolding left right term
    parents k zero zero e = absurd (omega arith)
    parents k zero (suc j) e = sym (zero_add _ ∙ raised_right 0 j)
    parents k (suc i) zero e = sym (add_zero L _ ∙ raised i 0 ∙ ap (λ x. repeated R x (power R (suc i) f ⊗ power R 0 g)) (choose_zero i))
    parents k (suc i) (suc j) e = repeated_add (choose i (suc j)) (choose (suc i) j) _ ∙ ap₂ (λ x y. x ⊕ y) (sym (raised i (suc j))) (sym (raised_right (suc i) j))

    pub binomial : (k : ℕ) → power R k (f ⊕ g) ≡ over_pairs ◌⊕◌ k term
    unfolding over_pairs power term left right
    binomial zero = sym (repeated_one _ ∙ one_mul 𝟙)
    binomial (suc k) =
        ap (λ x. (f ⊕ g) ⊗ x) (binomial k) ∙ add_mul L f g _ ∙ ap₂ (λ x y. x ⊕ y) (pairs_mul L k f term) (pairs_mul L k g term)
        ∙ sym (pairs_same_if ◌⊕◌ (suc k) (parents k) ∙ pairs_add L (suc k) left right ∙ ap₂ (λ x y. x ⊕ y) (zero_add _) (pairs_last L k right ∙ zero_add _))

  -- only the first and the last pair count
  pairs_ends : (k : ℕ) (F : ℕ → ℕ → Carrier) → ((i j : ℕ) → suc i + suc j ≡ suc (suc k) → F (suc i) (suc j) ≡ 𝟘)
      → over_pairs ◌⊕◌ (suc (suc k)) F ≡ F 0 (suc (suc k)) ⊕ F (suc (suc k)) 0
  unfolding over_pairs
  pairs_ends k F h =
      ap (λ x. F 0 (suc (suc k)) ⊕ x) (pairs_last L k (λ i j. F (suc i) j)
      ∙ ap (λ x. F (suc (suc k)) 0 ⊕ x) (pairs_same_if ◌⊕◌ k (λ i j e. h i j (omega arith)) ∙ pairs_zero L k) ∙ add_zero L _)

-- ---- in characteristic p
module _ {R : Ring} (L : IsRing R) (p : Prime) (char : (f : R.Carrier) → repeated R (prime_value p) f ≡ R.zero) where
  open R use {Carrier, zero as 𝟘, one as 𝟙, add as ◌⊕◌, mul as ◌⊗◌, neg}

  infixl 60 ◌⊕◌
  infixl 70 ◌⊗◌
  -- a multiple by a multiple of p is 0
  pub repeated_divisible : (m : ℕ) → m % prime_value p ≡ 0 → (f : Carrier) → repeated R m f ≡ 𝟘
  repeated_divisible m e f =
      ap (λ x. repeated R x f) (whole m (prime_value p) e) ∙ repeated_multiple L (m / prime_value p) (prime_value p) f
      ∙ ap (repeated R (m / prime_value p)) (char f) ∙ repeated_zero L (m / prime_value p)
    where
      whole : (m q : ℕ) → m % q ≡ 0 → m ≡ m / q * q
      whole m q e = let d : q * (m / q) + m % q ≡ m = div-add-mod m q in omega arith

  middle : (f g : Carrier) (i j : ℕ) → suc i + suc j ≡ prime_value p → term L f g (suc i) (suc j) ≡ 𝟘
  unfolding term
  middle f g i j e = repeated_divisible (choose (suc i) (suc j)) (binomial_divisible p i j e) _

  ends : (f g : Carrier) (k : ℕ) → prime_value p ≡ suc (suc k) → power R (suc (suc k)) (f ⊕ g) ≡ power R (suc (suc k)) f ⊕ power R (suc (suc k)) g
  unfolding term power
  ends f g k e =
      binomial L f g (suc (suc k)) ∙ pairs_ends L k (term L f g) (λ i j d. middle f g i j (d ∙ sym e))
      ∙ ap₂ (λ x y. x ⊕ y) (repeated_one L _ ∙ L.one_mul _) (repeated_one L _ ∙ mul_one L _) ∙ L.add_comm _ _

  -- (f + g) ^ p = f ^ p + g ^ p
  pub power_sum : (f g : Carrier) → power R (prime_value p) (f ⊕ g) ≡ power R (prime_value p) f ⊕ power R (prime_value p) g
  power_sum f g =
      let two_more : prime_value p ≡ suc (suc (prime_value p - 2)) = at_least_two (prime_value p) (prime_above_one p) in
      ap (λ k. power R k (f ⊕ g)) two_more ∙ ends f g (prime_value p - 2) two_more
      ∙ ap (λ k. power R k f ⊕ power R k g) (sym two_more)
    where
      at_least_two : (n : ℕ) → 1 < n → n ≡ suc (suc (n - 2))
      at_least_two n h = omega arith
