-- The laws of products of Kronecker
use Rattle.std.proofs.Common.{ℕ, zero, suc, ◌+◌, ◌*◌, ◌/◌, ◌%◌, ◌<◌, ◌≤◌, ◌≡◌, ◌∙◌, refl, sym, ap, ap₂, arith, add_comm}
use native.Mathlib.Nat.{mod-eq_of_lt, div-eq_of_lt, add-mul-mod_self_right, add-mul-div_right, mul-le-mul_right}
use Rattle.fm_algebra.specs.Ring.{Ring, IsRing, IsFrobenius}
use Rattle.fm_algebra.specs.FiniteSums.{finite_sum, below, last}
use Rattle.fm_algebra.specs.Families.{Mat, mul, each, families}
use Rattle.fm_algebra.proofs.FiniteSums.{index, sum_ext, mul_sum, sum_mul, sum_cast, sum_append}
use Rattle.fm_limit.specs.SystemInstances.{Kronecker}
use Rattle.fm_limit.specs.Kron.{in_block, in_place, kron}

block_of : (c k s : ℕ) → s < k → (c * k + s) / k ≡ c
block_of c k s h =
    let pos : 0 < k = omega arith in
    let z : s / k ≡ 0 = div-eq_of_lt h in
    ap (λ x. x / k) (add_comm (c * k) s) ∙ add-mul-div_right s c pos ∙ (let q : s / k + c ≡ c = omega arith in q)

place_of : (c k s : ℕ) → s < k → (c * k + s) % k ≡ s
place_of c k s h = ap (λ x. x % k) (add_comm (c * k) s) ∙ add-mul-mod_self_right s c k ∙ mod-eq_of_lt h

below_block : (m k c s : ℕ) → c < m → s < k → c * k + s < m * k
below_block m k c s a b =
    let e : c + 1 ≤ m = omega arith in
    let f : (c + 1) * k ≤ m * k = mul-le-mul_right k e in
    omega arith

-- an entry does not look at the proofs of its bounds
entry_at : {X : Type 0} {m n : ℕ} (A : (i : ℕ) → i < m → (j : ℕ) → j < n → X) {i k j l : ℕ} → i ≡ k → (a : i < m) (b : k < m) → j ≡ l → (c : j < n) (d : l < n) → A i a j c ≡ A k b l d
entry_at {X} {m} {n} A {i} {k} {j} {l} e a b q c d = ap (λ f. f j c) (index {X = (j : ℕ) → j < n → X} A e a b) ∙ index (A k b) q c d

module _ {R : Ring} (L : IsRing R) where
  open R use {Carrier, zero as 𝟘, add as ◌⊕◌, mul as ◌⊗◌}

  infixl 60 ◌⊕◌
  infixl 70 ◌⊗◌
  -- a sum block by block
  sum_blocks : (m k : ℕ) (f : (j : ℕ) → j < m * k → Carrier)
      → finite_sum R (m * k) f ≡ finite_sum R m (λ c h. finite_sum R k (λ s b. f (c * k + s) (below_block m k c s h b)))
  unfolding finite_sum
  sum_blocks zero k f = let q : zero * k ≡ zero = omega arith in sum_cast L (zero * k) zero f (λ j h. 𝟘) q (λ j a b. absurd (omega arith))
  sum_blocks (suc m) k f =
      let q : suc m * k ≡ m * k + k = omega arith in
      let front : (j : ℕ) → j < m * k → j < suc m * k = λ j h. omega arith in
      let all : (j : ℕ) → j < m * k + k → j < suc m * k = λ j h. omega arith in
      sum_cast L (suc m * k) (m * k + k) f (λ j h. f j (all j h)) q (λ j a b. index f refl a (all j b))
      ∙ sum_append L (m * k) k (λ j h. f j (all j h)) (λ j h. f j (front j h)) (λ s h. f (m * k + s) (below_block (suc m) k m s (last m) h)) (λ j a b. index f refl (all j a) (front j b)) (λ j a b. index f refl (all (m * k + j) a) (below_block (suc m) k m j (last m) b))
      ∙ ap (λ x. x ⊕ finite_sum R k (λ s h. f (m * k + s) (below_block (suc m) k m s (last m) h))) (sum_blocks m k (λ j h. f j (front j h)))
      ∙ ap₂ (λ x y. x ⊕ y) (sum_ext L m (λ c h. finite_sum R k (λ s b. f (c * k + s) (front (c * k + s) (below_block m k c s h b)))) (λ c h. finite_sum R k (λ s b. f (c * k + s) (below_block (suc m) k c s (below h) b))) (λ c h. sum_ext L k (λ s b. f (c * k + s) (front (c * k + s) (below_block m k c s h b))) (λ s b. f (c * k + s) (below_block (suc m) k c s (below h) b)) (λ s b. index f refl (front (c * k + s) (below_block m k c s h b)) (below_block (suc m) k c s (below h) b)))) refl

  swap_middle : (a b c d : Carrier) → (a ⊗ b) ⊗ (c ⊗ d) ≡ (a ⊗ c) ⊗ (b ⊗ d)
  swap_middle a b c d =
      L.mul_assoc a b (c ⊗ d)
      ∙ ap (λ x. a ⊗ x) (sym (L.mul_assoc b c d) ∙ ap (λ x. x ⊗ d) (L.mul_comm b c) ∙ L.mul_assoc c b d)
      ∙ sym (L.mul_assoc a c (b ⊗ d))

  sum_times : (m k : ℕ) (f : (j : ℕ) → j < m → Carrier) (g : (j : ℕ) → j < k → Carrier)
      → finite_sum R m f ⊗ finite_sum R k g ≡ finite_sum R m (λ r h. finite_sum R k (λ s b. f r h ⊗ g s b))
  sum_times m k f g =
      sum_mul L m (finite_sum R k g) f
      ∙ sum_ext L m (λ r h. f r h ⊗ finite_sum R k g) (λ r h. finite_sum R k (λ s b. f r h ⊗ g s b)) (λ r h. mul_sum L k (f r h) g)

  pub kron_mixed : {a b k c d l : ℕ} (A : Mat R a b) (B : Mat R b k) (C : Mat R c d) (D : Mat R d l)
      → kron R {a = a} {b = k} {c = c} {d = l} (mul R A B) (mul R C D) ≡ mul R (kron R {a = a} {b = b} {c = c} {d = d} A C) (kron R {a = b} {b = k} {c = d} {d = l} B D)
  unfolding kron mul
  kron_mixed {a} {b} {k} {c} {d} {l} A B C D = λ t i u j v. go i u j v t
    where
      go : (i : ℕ) (u : i < a * c) (j : ℕ) (v : j < k * l)
          → finite_sum R b (λ r h. A (i / c) (in_block a c i u) r h ⊗ B r h (j / l) (in_block k l j v)) ⊗ finite_sum R d (λ s h. C (i % c) (in_place a c i u) s h ⊗ D s h (j % l) (in_place k l j v))
          ≡ finite_sum R (b * d) (λ q h. (A (i / c) (in_block a c i u) (q / d) (in_block b d q h) ⊗ C (i % c) (in_place a c i u) (q % d) (in_place b d q h)) ⊗ (B (q / d) (in_block b d q h) (j / l) (in_block k l j v) ⊗ D (q % d) (in_place b d q h) (j % l) (in_place k l j v)))
      go i u j v =
          let i1 = in_block a c i u in
          let i2 = in_place a c i u in
          let j1 = in_block k l j v in
          let j2 = in_place k l j v in
          let f : (r : ℕ) → r < b → Carrier = λ r h. A (i / c) i1 r h ⊗ B r h (j / l) j1 in
          let g : (s : ℕ) → s < d → Carrier = λ s h. C (i % c) i2 s h ⊗ D s h (j % l) j2 in
          let w : (q : ℕ) → q < b * d → Carrier = λ q h. (A (i / c) i1 (q / d) (in_block b d q h) ⊗ C (i % c) i2 (q % d) (in_place b d q h)) ⊗ (B (q / d) (in_block b d q h) (j / l) j1 ⊗ D (q % d) (in_place b d q h) (j % l) j2) in
          let e : (r : ℕ) (h : r < b) (s : ℕ) (x : s < d) → f r h ⊗ g s x ≡ w (r * d + s) (below_block b d r s h x) = λ r h s x.
          let y = below_block b d r s h x in
          let br = sym (block_of r d s x) in
          let ps = sym (place_of r d s x) in
          let y1 = in_block b d (r * d + s) y in
          let y2 = in_place b d (r * d + s) y in
          swap_middle (A (i / c) i1 r h) (B r h (j / l) j1) (C (i % c) i2 s x) (D s x (j % l) j2)
          ∙ ap₂ (λ m n. m ⊗ n) (ap₂ (λ m n. m ⊗ n) (index (A (i / c) i1) br h y1) (index (C (i % c) i2) ps x y2)) (ap₂ (λ m n. m ⊗ n) (entry_at B br h y1 refl j1 j1) (entry_at D ps x y2 refl j2 j2)) in
          sum_times b d f g
          ∙ sum_ext L b (λ r h. finite_sum R d (λ s x. f r h ⊗ g s x)) (λ r h. finite_sum R d (λ s x. w (r * d + s) (below_block b d r s h x))) (λ r h. sum_ext L d (λ s x. f r h ⊗ g s x) (λ s x. w (r * d + s) (below_block b d r s h x)) (λ s x. e r h s x))
          ∙ sym (sum_blocks b d w)

  pub kron_twist : (twist : ℕ → Carrier → Carrier) → IsFrobenius R twist → (e : ℕ) {a b c d : ℕ} (A : Mat R a b) (B : Mat R c d)
      → each R (twist e) {m = a * c} {n = b * d} (kron R {a = a} {b = b} {c = c} {d = d} A B) ≡ kron R {a = a} {b = b} {c = c} {d = d} (each R (twist e) {m = a} {n = b} A) (each R (twist e) {m = c} {n = d} B)
  unfolding kron each
  kron_twist twist F e {a} {b} {c} {d} A B =
      λ t i u j v. F.twist_mul e (A (i / c) (in_block a c i u) (j / d) (in_block b d j v)) (B (i % c) (in_place a c i u) (j % d) (in_place b d j v)) t

  -- products of Kronecker over the interface
  abbrev pub kronecker : (twist : ℕ → Carrier → Carrier) → IsFrobenius R twist → Kronecker (families R twist)
  kronecker twist F = record {
    ◌⊗◌ = λ {a} {b} {c} {d} A B. kron R {a = a} {b = b} {c = c} {d = d} A B;
    mixed = λ {a} {b} {k} {c} {d} {l} A B C D. kron_mixed {a = a} {b = b} {k = k} {c = c} {d = d} {l = l} A B C D;
    twist_kron = λ e {a} {b} {c} {d} A B. kron_twist twist F e {a = a} {b = b} {c = c} {d = d} A B;
  }
