-- Laws of finite sums
use Rattle.std.proofs.Common.{ℕ, zero, suc, ◌+◌, ◌<◌, ◌≡◌, ◌≢◌, ◌∙◌, refl, sym, ap, subst, arith, add-zero, add-suc, cond, ◌⊎◌, inl, inr, eqb}
use Rattle.std.proofs.lemmas.Bool.{eq-eqb, ne_eqb, cases_eq}
use native.Mathlib.Bridge.{le_prop}
use Rattle.fm_algebra.specs.Ring.{Ring, IsRing}
use Rattle.fm_algebra.specs.FiniteSums.{below, last, finite_sum}
use Rattle.fm_algebra.proofs.Algebra.{add_zero, add_swap, mul_zero}

-- the bounds of the last summands of a sum of n + (m + 1)
pub shift : (n m : ℕ) {k : ℕ} → k < suc (n + m) → k < n + suc m
shift n m {k} h = omega arith

-- a family does not look at the proof of a bound
pub index : {X : Type 0} {n : ℕ} (f : (k : ℕ) → k < n → X) {k l : ℕ} → k ≡ l → (a : k < n) (b : l < n) → f k a ≡ f l b
index {X} {n} f {k} {l} e a b = subst (λ x. (c : x < n) → f k a ≡ f x c) e (λ c. ap (f k) (le_prop {n = suc k} {m = n} a c)) b

module _ {R : Ring} (L : IsRing R) where
  open R use {Carrier, zero as 𝟘, one as 𝟙, add as ◌⊕◌, mul as ◌⊗◌}

  infixl 60 ◌⊕◌
  infixl 70 ◌⊗◌
  pub sum_ext : (n : ℕ) (f g : (k : ℕ) → k < n → Carrier) → ((k : ℕ) (h : k < n) → f k h ≡ g k h) → finite_sum R n f ≡ finite_sum R n g
  sum_ext n f g h = ap (λ u. finite_sum R n u) (λ i k b. h k b i)

  pub sum_zero : (n : ℕ) → finite_sum R n (λ k h. 𝟘) ≡ 𝟘
  unfolding finite_sum
  sum_zero zero = refl
  sum_zero (suc n) = add_zero L (finite_sum R n (λ k h. 𝟘)) ∙ sum_zero n

  pub sum_add : (n : ℕ) (f g : (k : ℕ) → k < n → Carrier) → finite_sum R n (λ k h. f k h ⊕ g k h) ≡ finite_sum R n f ⊕ finite_sum R n g
  unfolding finite_sum
  sum_add zero f g = sym (L.zero_add 𝟘)
  sum_add (suc n) f g =
      ap (λ x. x ⊕ (f n (last n) ⊕ g n (last n))) (sum_add n (λ k h. f k (below h)) (λ k h. g k (below h)))
      ∙ add_swap L (finite_sum R n (λ k h. f k (below h))) (finite_sum R n (λ k h. g k (below h))) (f n (last n)) (g n (last n))

  pub mul_sum : (n : ℕ) (a : Carrier) (f : (k : ℕ) → k < n → Carrier) → a ⊗ finite_sum R n f ≡ finite_sum R n (λ k h. a ⊗ f k h)
  unfolding finite_sum
  mul_sum zero a f = mul_zero L a
  mul_sum (suc n) a f =
      L.mul_add a (finite_sum R n (λ k h. f k (below h))) (f n (last n)) ∙ ap (λ x. x ⊕ a ⊗ f n (last n)) (mul_sum n a (λ k h. f k (below h)))

  pub sum_mul : (n : ℕ) (a : Carrier) (f : (k : ℕ) → k < n → Carrier) → finite_sum R n f ⊗ a ≡ finite_sum R n (λ k h. f k h ⊗ a)
  sum_mul n a f =
      L.mul_comm (finite_sum R n f) a
      ∙ mul_sum n a f
      ∙ sum_ext n (λ k h. a ⊗ f k h) (λ k h. f k h ⊗ a) (λ k h. L.mul_comm a (f k h))

  pub sum_swap : (n m : ℕ) (f : (i : ℕ) → i < n → (j : ℕ) → j < m → Carrier)
      → finite_sum R n (λ i a. finite_sum R m (λ j b. f i a j b)) ≡ finite_sum R m (λ j b. finite_sum R n (λ i a. f i a j b))
  unfolding finite_sum
  sum_swap zero m f = sym (sum_zero m)
  sum_swap (suc n) m f =
      ap (λ x. x ⊕ finite_sum R m (λ j b. f n (last n) j b)) (sum_swap n m (λ i a j b. f i (below a) j b))
      ∙ sym (sum_add m (λ j b. finite_sum R n (λ i a. f i (below a) j b)) (λ j b. f n (last n) j b))

  -- a map that respects zero and sums
  pub sum_map : (t : Carrier → Carrier) → t 𝟘 ≡ 𝟘 → ((a b : Carrier) → t (a ⊕ b) ≡ t a ⊕ t b) → (n : ℕ) (f : (k : ℕ) → k < n → Carrier)
      → t (finite_sum R n f) ≡ finite_sum R n (λ k h. t (f k h))
  unfolding finite_sum
  sum_map t z s zero f = z
  sum_map t z s (suc n) f =
      s (finite_sum R n (λ k h. f k (below h))) (f n (last n)) ∙ ap (λ x. x ⊕ t (f n (last n))) (sum_map t z s n (λ k h. f k (below h)))

  -- a sum in which only the summand at i counts
  pub sum_only : (n i : ℕ) (f : (k : ℕ) → k < n → Carrier) (b : i < n) → ((k : ℕ) (h : k < n) → k ≢ i → f k h ≡ 𝟘) → finite_sum R n f ≡ f i b
  unfolding finite_sum
  sum_only zero i f b h = absurd (omega arith)
  sum_only (suc n) i f b h =
      split (cases_eq n i) (λ lt. sum_only n i (λ k c. f k (below c)) lt (λ k c ne. h k (below c) ne))
    where
      split : (n ≡ i) ⊎ (n ≡ i → ⊥) → ((lt : i < n) → finite_sum R n (λ k c. f k (below c)) ≡ f i (below lt)) → finite_sum R n (λ k c. f k (below c)) ⊕ f n (last n) ≡ f i b
      split (inl q) ih =
          let z : finite_sum R n (λ k c. f k (below c)) ≡ 𝟘 =
          sum_ext n (λ k c. f k (below c)) (λ k c. 𝟘) (λ k c. let ne : k ≢ i = omega arith in h k (below c) ne) ∙ sum_zero n in
          ap (λ y. y ⊕ f n (last n)) z ∙ L.zero_add (f n (last n)) ∙ index f q (last n) b
      split (inr q) ih =
          let lt : i < n = omega arith in
          ap (λ y. y ⊕ f n (last n)) (ih lt ∙ index f refl (below lt) b) ∙ ap (λ y. f i b ⊕ y) (h n (last n) q) ∙ add_zero L (f i b)

  pub sum_cast : (n m : ℕ) (f : (k : ℕ) → k < n → Carrier) (g : (k : ℕ) → k < m → Carrier) → n ≡ m
      → ((k : ℕ) (a : k < n) (b : k < m) → f k a ≡ g k b) → finite_sum R n f ≡ finite_sum R m g
  sum_cast n m f g e h =
      subst (λ x. (g : (k : ℕ) → k < x → Carrier) → ((k : ℕ) (a : k < n) (b : k < x) → f k a ≡ g k b) → finite_sum R n f ≡ finite_sum R x g) e (λ g h. sum_ext n f g (λ k b. h k b b)) g h

  -- a sum in two parts
  pub sum_append : (n m : ℕ) (f : (k : ℕ) → k < n + m → Carrier) (g : (k : ℕ) → k < n → Carrier) (u : (k : ℕ) → k < m → Carrier)
      → ((k : ℕ) (a : k < n + m) (b : k < n) → f k a ≡ g k b)
      → ((k : ℕ) (a : n + k < n + m) (b : k < m) → f (n + k) a ≡ u k b) → finite_sum R (n + m) f ≡ finite_sum R n g ⊕ finite_sum R m u
  unfolding finite_sum
  sum_append n zero f g u p q = sum_cast (n + zero) n f g (add-zero n) p ∙ sym (add_zero L (finite_sum R n g))
  sum_append n (suc m) f g u p q =
      sum_cast (n + suc m) (suc (n + m)) f (λ k a. f k (shift n m a)) (add-suc n m) (λ k a b. index f refl a (shift n m b))
      ∙ ap (λ y. y ⊕ f (n + m) (shift n m (last (n + m)))) (sum_append n m (λ k h. f k (shift n m (below h))) g (λ k b. u k (below b)) (λ k a b. p k (shift n m (below a)) b) (λ k a b. q k (shift n m (below a)) (below b)))
      ∙ ap (λ y. (finite_sum R n g ⊕ finite_sum R m (λ k b. u k (below b))) ⊕ y) (q m (shift n m (last (n + m))) (last m))
      ∙ L.add_assoc (finite_sum R n g) (finite_sum R m (λ k b. u k (below b))) (u m (last m))

  -- c where the indices agree, else 0
  pub where_same : (i : ℕ) (x : Carrier) → cond (eqb i i) x 𝟘 ≡ x
  where_same i x = ap (λ b. cond b x 𝟘) (eq-eqb i i refl)

  pub where_other : (i j : ℕ) (x : Carrier) → i ≢ j → cond (eqb i j) x 𝟘 ≡ 𝟘
  where_other i j x h = ap (λ b. cond b x 𝟘) (ne_eqb i j h)
