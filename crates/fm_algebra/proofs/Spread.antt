-- Sums over pairs and splits of what is 0 off the multiples of q
use Rattle.std.proofs.Common.{◌≡◌, ℕ, zero, suc, ◌+◌, ◌*◌, ◌/◌, ◌%◌, ◌<◌, List, [], ◌∷◌, length, refl, ap, ap₂, sym, ◌∙◌, arith, mod-eq_of_lt, mul-zero, zero-add, suc-add}
use Rattle.std.proofs.Math.Nat.{add-mod_left, mul-mod_right}
use native.Mathlib.Nat.{mul-div_cancel_left}
use Rattle.fm_algebra.specs.Ring.{Ring, IsRing}
use Rattle.fm_algebra.specs.Splits.{over_pairs, over_splits}
use Rattle.fm_algebra.specs.Series.{Series, times}
use Rattle.fm_algebra.specs.Twist.{tuple_place, AllBelow, twisted, where_zero}
use Rattle.fm_algebra.proofs.Algebra.{add_zero, zero_mul}
use Rattle.fm_algebra.proofs.Sums.{pairs_same, splits_same, splits_zero}

module _ {K : Ring} (L : IsRing K) where
  open K use {Carrier, zero as 𝟘, one as 𝟙, add as ◌⊕◌, mul as ◌⊗◌, neg}
  open L use {zero_add}

  infixl 60 ◌⊕◌
  infixl 70 ◌⊗◌
  -- the first pairs give 0
  pairs_skip : (s k : ℕ) (F : ℕ → ℕ → Carrier) → ((i j : ℕ) → i < s → F i j ≡ 𝟘) → over_pairs ◌⊕◌ (s + k) F ≡ over_pairs ◌⊕◌ k (λ i j. F (s + i) j)
  unfolding over_pairs
  pairs_skip zero k F h = simp zero-add
  pairs_skip (suc s) k F h =
      simp suc-add (ap (λ x. x ⊕ over_pairs ◌⊕◌ (s + k) (λ i j. F (suc i) j)) (h 0 (suc (s + k)) (omega arith)) ∙ zero_add _ ∙ pairs_skip s k (λ i j. F (suc i) j) (λ i j l. h (suc i) j (omega arith)))

  -- all pairs but the first give 0
  pairs_only_first : (r : ℕ) (F : ℕ → ℕ → Carrier) → ((i j : ℕ) → i < r → F (suc i) j ≡ 𝟘) → over_pairs ◌⊕◌ r F ≡ F 0 r
  unfolding over_pairs
  pairs_only_first zero F h = refl
  pairs_only_first (suc r) F h =
      ap (λ x. F 0 (suc r) ⊕ x) (pairs_only_first r (λ i j. F (suc i) j) (λ i j l. h (suc i) j (omega arith)) ∙ h 0 r (omega arith)) ∙ add_zero L _

  -- where F i j is 0 unless q divides i, for q = s + 1
  pub pairs_spread : (s m r : ℕ) (F : ℕ → ℕ → Carrier) → r < suc s → ((i j : ℕ) → 0 < i % suc s → F i j ≡ 𝟘)
      → over_pairs ◌⊕◌ (suc s * m + r) F ≡ over_pairs ◌⊕◌ m (λ i j. F (suc s * i) (suc s * j + r))
  unfolding over_pairs
  pairs_spread s zero r F lt h =
      simp (mul-zero, zero-add) (pairs_only_first r F (λ i j l. let e : suc i % suc s ≡ suc i = mod-eq_of_lt (omega arith) in h (suc i) j (omega arith)))
  pairs_spread s (suc m) r F lt h =
      let e : suc s * suc m + r ≡ suc (s + (suc s * m + r)) = omega arith in
      ap (λ x. over_pairs ◌⊕◌ x F) e
      ∙ ap₂ (λ x y. x ⊕ y) (ap₂ F (sym (mul-zero (suc s))) (sym e))
      (pairs_skip s (suc s * m + r) (λ i j. F (suc i) j) (λ i j l. let d : suc i % suc s ≡ suc i = mod-eq_of_lt (omega arith) in h (suc i) j (omega arith))
      ∙ pairs_spread s m r (λ i j. F (suc (s + i)) j) lt (λ i j l. h (suc (s + i)) j (rw (turned i) l))
      ∙ pairs_same ◌⊕◌ m (λ i j. ap (λ x. F x (suc s * j + r)) (next i)))
    where
      turned : (i : ℕ) → suc (s + i) % suc s ≡ i % suc s
      turned i = ap (λ x. x % suc s) (sym (suc-add s i)) ∙ add-mod_left (suc s) i

      next : (i : ℕ) → suc (s + suc s * i) ≡ suc s * suc i
      next i = omega arith

  where_positive : (r : ℕ) (c : Carrier) → 0 < r → where_zero K r c ≡ 𝟘
  where_positive zero c h = absurd (omega arith)
  where_positive (suc r) c h = refl

  -- at q * b + a the product with a twist is the product with the slice at b
  pub twisted_times : (s : ℕ) (b a : List ℕ) (f g : Series K) → length a ≡ length b → AllBelow (suc s) a
      → times K (twisted K (suc s) f) g (tuple_place (suc s) b a) ≡ times K f (λ v. g (tuple_place (suc s) v a)) b
  unfolding over_splits twisted
  twisted_times s [] [] f g l w = refl
  twisted_times s [] (r ∷ a) f g l w = absurd (omega arith)
  twisted_times s (m ∷ b) [] f g l w = absurd (omega arith)
  twisted_times s (m ∷ b) (r ∷ a) f g l w =
      pairs_spread s m r _ w.0 (λ i j p. splits_same ◌⊕◌ (tuple_place (suc s) b a) (λ u v. ap (λ x. x ⊗ g (j ∷ v)) (where_positive (i % suc s) _ p) ∙ zero_mul L _) ∙ splits_zero L (tuple_place (suc s) b a))
      ∙ pairs_same ◌⊕◌ m (λ i j. splits_same ◌⊕◌ (tuple_place (suc s) b a) (λ u v. ap (λ x. x ⊗ g ((suc s * j + r) ∷ v)) (at_multiple i u))
      ∙ twisted_times s b a (λ u. f (i ∷ u)) (λ v. g ((suc s * j + r) ∷ v)) (omega arith) w.1)
    where
      at_multiple : (i : ℕ) (u : List ℕ) → where_zero K (suc s * i % suc s) (twisted K (suc s) (λ x. f (suc s * i / suc s ∷ x)) u) ≡ twisted K (suc s) (λ x. f (i ∷ x)) u
      at_multiple i u = ap₂ (λ x y. where_zero K x (twisted K (suc s) (λ z. f (y ∷ z)) u)) (mul-mod_right (suc s) i) (mul-div_cancel_left i (omega arith))
