-- Matrices as families of entries: the laws of the interface
use Rattle.std.proofs.Common.{ℕ, zero, ◌+◌, ◌-◌, ◌<◌, ◌≤◌, ◌≡◌, ◌∙◌, refl, sym, ap, arith, cond, eqb, ◌⊎◌, inl, inr, Bool, true, false}
use Rattle.std.proofs.lemmas.Bool.{cases_lt}
use Rattle.fm_algebra.specs.Ring.{Ring, IsRing, IsFrobenius}
use Rattle.fm_algebra.specs.FiniteSums.{finite_sum}
use Rattle.fm_algebra.specs.Matrices.{IsMatrices}
use Rattle.fm_algebra.specs.Families.{only, rest, front, back, Mat, delta, mul, add, neg, nil, unit, flip, each, scalar, basis, either, beside, stack, families}
use Rattle.fm_algebra.proofs.Algebra.{add_zero, add_neg, mul_one, add_mul, add_cancel, mul_zero, zero_mul}
use Rattle.fm_algebra.proofs.FiniteSums.{index, sum_ext, sum_add, mul_sum, sum_mul, sum_swap, sum_map, sum_only, sum_append, where_same, where_other}

module _ {R : Ring} (L : IsRing R) where
  open R use {Carrier, zero as 𝟘, one as 𝟙, add as ◌⊕◌, mul as ◌⊗◌}

  infixl 60 ◌⊕◌
  infixl 70 ◌⊗◌
  -- ---- products
  pub assoc : {m n k l : ℕ} (A : Mat R m n) (B : Mat R n k) (C : Mat R k l) → mul R (mul R A B) C ≡ mul R A (mul R B C)
  unfolding mul
  assoc {m} {n} {k} {l} A B C = λ t i a j b. go i a j b t
    where
      go : (i : ℕ) (a : i < m) (j : ℕ) (b : j < l) → finite_sum R k (λ s h. finite_sum R n (λ r g. A i a r g ⊗ B r g s h) ⊗ C s h j b) ≡ finite_sum R n (λ r g. A i a r g ⊗ finite_sum R k (λ s h. B r g s h ⊗ C s h j b))
      go i a j b =
          sum_ext L k (λ s h. finite_sum R n (λ r g. A i a r g ⊗ B r g s h) ⊗ C s h j b) (λ s h. finite_sum R n (λ r g. (A i a r g ⊗ B r g s h) ⊗ C s h j b)) (λ s h. sum_mul L n (C s h j b) (λ r g. A i a r g ⊗ B r g s h))
          ∙ sum_swap L k n (λ s h r g. (A i a r g ⊗ B r g s h) ⊗ C s h j b)
          ∙ sum_ext L n (λ r g. finite_sum R k (λ s h. (A i a r g ⊗ B r g s h) ⊗ C s h j b)) (λ r g. A i a r g ⊗ finite_sum R k (λ s h. B r g s h ⊗ C s h j b)) (λ r g. sum_ext L k (λ s h. (A i a r g ⊗ B r g s h) ⊗ C s h j b) (λ s h. A i a r g ⊗ (B r g s h ⊗ C s h j b)) (λ s h. L.mul_assoc (A i a r g) (B r g s h) (C s h j b)) ∙ sym (mul_sum L k (A i a r g) (λ s h. B r g s h ⊗ C s h j b)))

  -- a sum against the unit matrix
  pub sum_at : (n i : ℕ) (f : (k : ℕ) → k < n → Carrier) (b : i < n) → finite_sum R n (λ k h. f k h ⊗ delta R k i) ≡ f i b
  sum_at n i f b =
      sum_only L n i (λ k h. f k h ⊗ delta R k i) b (λ k h ne. ap (λ x. f k h ⊗ x) (where_other L k i 𝟙 ne) ∙ mul_zero L (f k h))
      ∙ ap (λ x. f i b ⊗ x) (where_same L i 𝟙)
      ∙ mul_one L (f i b)

  pub unit_right : {m n : ℕ} (A : Mat R m n) → mul R A (unit R n) ≡ A
  unfolding mul unit
  unit_right {m} {n} A = λ t i a j b. sum_at n j (λ k h. A i a k h) b t

  -- a row of f times the unit matrix
  pub scaled_entry : {m n : ℕ} (f : Carrier) (A : Mat R m n) (i : ℕ) (a : i < m) (j : ℕ) (b : j < n)
      → finite_sum R m (λ s h. cond (eqb i s) f 𝟘 ⊗ A s h j b) ≡ f ⊗ A i a j b
  scaled_entry {m} {n} f A i a j b =
      sum_only L m i (λ s h. cond (eqb i s) f 𝟘 ⊗ A s h j b) a (λ s h ne. ap (λ x. x ⊗ A s h j b) (where_other L i s f (λ e. ne (sym e))) ∙ zero_mul L (A s h j b))
      ∙ ap (λ x. x ⊗ A i a j b) (where_same L i f)

  pub unit_left : {m n : ℕ} (A : Mat R m n) → mul R (unit R m) A ≡ A
  unfolding mul unit
  unit_left {m} {n} A = λ t i a j b. (scaled_entry 𝟙 A i a j b ∙ L.one_mul (A i a j b)) t

  -- ---- sums
  pub sum_comm : {m n : ℕ} (A B : Mat R m n) → add R A B ≡ add R B A
  unfolding add
  sum_comm A B = λ t i a j b. L.add_comm (A i a j b) (B i a j b) t

  pub sum_assoc : {m n : ℕ} (A B C : Mat R m n) → add R (add R A B) C ≡ add R A (add R B C)
  unfolding add
  sum_assoc A B C = λ t i a j b. L.add_assoc (A i a j b) (B i a j b) (C i a j b) t

  pub sum_nil : {m n : ℕ} (A : Mat R m n) → add R A (nil R m n) ≡ A
  unfolding add nil
  sum_nil A = λ t i a j b. add_zero L (A i a j b) t

  pub sum_neg : {m n : ℕ} (A : Mat R m n) → add R A (neg R A) ≡ nil R m n
  unfolding add neg nil
  sum_neg A = λ t i a j b. add_neg L (A i a j b) t

  pub dist_left : {m n k : ℕ} (A : Mat R m n) (B C : Mat R n k) → mul R A (add R B C) ≡ add R (mul R A B) (mul R A C)
  unfolding mul add
  dist_left {m} {n} {k} A B C = λ t i a j b. go i a j b t
    where
      go : (i : ℕ) (a : i < m) (j : ℕ) (b : j < k) → finite_sum R n (λ s h. A i a s h ⊗ (B s h j b ⊕ C s h j b)) ≡ finite_sum R n (λ s h. A i a s h ⊗ B s h j b) ⊕ finite_sum R n (λ s h. A i a s h ⊗ C s h j b)
      go i a j b =
          sum_ext L n (λ s h. A i a s h ⊗ (B s h j b ⊕ C s h j b)) (λ s h. A i a s h ⊗ B s h j b ⊕ A i a s h ⊗ C s h j b) (λ s h. L.mul_add (A i a s h) (B s h j b) (C s h j b))
          ∙ sum_add L n (λ s h. A i a s h ⊗ B s h j b) (λ s h. A i a s h ⊗ C s h j b)

  pub dist_right : {m n k : ℕ} (A B : Mat R m n) (C : Mat R n k) → mul R (add R A B) C ≡ add R (mul R A C) (mul R B C)
  unfolding mul add
  dist_right {m} {n} {k} A B C = λ t i a j b. go i a j b t
    where
      go : (i : ℕ) (a : i < m) (j : ℕ) (b : j < k) → finite_sum R n (λ s h. (A i a s h ⊕ B i a s h) ⊗ C s h j b) ≡ finite_sum R n (λ s h. A i a s h ⊗ C s h j b) ⊕ finite_sum R n (λ s h. B i a s h ⊗ C s h j b)
      go i a j b =
          sum_ext L n (λ s h. (A i a s h ⊕ B i a s h) ⊗ C s h j b) (λ s h. A i a s h ⊗ C s h j b ⊕ B i a s h ⊗ C s h j b) (λ s h. add_mul L (A i a s h) (B i a s h) (C s h j b))
          ∙ sum_add L n (λ s h. A i a s h ⊗ C s h j b) (λ s h. B i a s h ⊗ C s h j b)

  -- ---- the transpose
  pub flip_flip : {m n : ℕ} (A : Mat R m n) → flip R (flip R A) ≡ A
  unfolding flip
  flip_flip A = refl

  pub flip_mul : {m n k : ℕ} (A : Mat R m n) (B : Mat R n k) → flip R (mul R A B) ≡ mul R (flip R B) (flip R A)
  unfolding flip mul
  flip_mul {m} {n} {k} A B = λ t i a j b. finite_sum R n (λ l h. L.mul_comm (A j b l h) (B l h i a) t)

  pub flip_add : {m n : ℕ} (A B : Mat R m n) → flip R (add R A B) ≡ add R (flip R A) (flip R B)
  unfolding flip add
  flip_add A B = refl

  -- ---- joins
  pub either_left : {n k : ℕ} (j : ℕ) (b : j < n + k) (t : (j < n) ⊎ (n ≤ j)) (f : (j : ℕ) → j < n → Carrier) (g : (j : ℕ) → j < k → Carrier) (h : j < n)
      → either R {n = n} {k = k} j b t f g ≡ f j h
  unfolding either
  either_left j b (inl c) f g h = index f refl c h
  either_left j b (inr c) f g h = absurd (omega arith)

  pub either_right : {n k : ℕ} (j : ℕ) (b : n + j < n + k) (t : (n + j < n) ⊎ (n ≤ n + j)) (f : (j : ℕ) → j < n → Carrier) (g : (j : ℕ) → j < k → Carrier) (h : j < k)
      → either R {n = n} {k = k} (n + j) b t f g ≡ g j h
  unfolding either
  either_right j b (inl c) f g h = absurd (omega arith)
  either_right {n} {k} j b (inr c) f g h = let e : (n + j) - n ≡ j = omega arith in index g e (rest b c) h

  pub join_mul : {m n k l : ℕ} (A : Mat R m n) (B : Mat R m k) (x : Mat R n l) (y : Mat R k l)
      → mul R (beside R A B) (stack R x y) ≡ add R (mul R A x) (mul R B y)
  unfolding mul add beside stack
  join_mul {m} {n} {k} {l} A B x y = λ t i a j b. go i a j b t
    where
      go : (i : ℕ) (a : i < m) (j : ℕ) (b : j < l) → finite_sum R (n + k) (λ s h. beside R A B i a s h ⊗ stack R x y s h j b) ≡ finite_sum R n (λ s h. A i a s h ⊗ x s h j b) ⊕ finite_sum R k (λ s h. B i a s h ⊗ y s h j b)
      go i a j b =
          sum_append L n k (λ s h. beside R A B i a s h ⊗ stack R x y s h j b) (λ s h. A i a s h ⊗ x s h j b) (λ s h. B i a s h ⊗ y s h j b)
          (λ s c h. ap (λ v. v ⊗ stack R x y s c j b) (either_left {n = n} {k = k} s c (cases_lt s n) (λ j h. A i a j h) (λ j h. B i a j h) h) ∙ ap (λ v. A i a s h ⊗ v) (either_left {n = n} {k = k} s c (cases_lt s n) (λ i h. x i h j b) (λ i h. y i h j b) h))
          (λ s c h. ap (λ v. v ⊗ stack R x y (n + s) c j b) (either_right {n = n} {k = k} s c (cases_lt (n + s) n) (λ j h. A i a j h) (λ j h. B i a j h) h) ∙ ap (λ v. B i a s h ⊗ v) (either_right {n = n} {k = k} s c (cases_lt (n + s) n) (λ i h. x i h j b) (λ i h. y i h j b) h))

  pub flip_beside : {m n k : ℕ} (A : Mat R m n) (B : Mat R m k) → flip R (beside R A B) ≡ stack R (flip R A) (flip R B)
  unfolding flip beside stack
  flip_beside A B = refl

  -- the entries of a split are those of the whole
  either_whole : (n k : ℕ) (f : (i : ℕ) → i < n + k → Carrier) (i : ℕ) (a : i < n + k) (t : (i < n) ⊎ (n ≤ i))
      → f i a ≡ either R {n = n} {k = k} i a t (λ i h. f i (front k h)) (λ i h. f (n + i) (back n h))
  unfolding either
  either_whole n k f i a (inl h) = index f refl a (front k h)
  either_whole n k f i a (inr h) = let e : i ≡ n + (i - n) = omega arith in index f e a (back n (rest a h))

  pub split : {n k l : ℕ} (z : Mat R (n + k) l) → (x : Mat R n l) × (y : Mat R k l) × (z ≡ stack R x y)
  unfolding stack
  split {n} {k} {l} z = (
    λ i a j b. z i (front k a) j b,
    λ i a j b. z (n + i) (back n a) j b,
    λ t i a j b. either_whole n k (λ i a. z i a j b) i a (cases_lt i n) t,
  )

  -- ---- columns
  pub gather : {m n k : ℕ} (A : Mat R m n) (B : Mat R m k)
      → ((c : ℕ) (h : c < n) → (x : Mat R k 1) × (mul R B x ≡ mul R A (basis R n c h))) → (X : Mat R k n) × (mul R B X ≡ A)
  unfolding mul basis
  gather {m} {n} {k} A B f = (
    λ i a j b. (f j b).0 i a zero only,
    λ t i a j b. (ap (λ Y. Y i a zero only) (f j b).1 ∙ sum_at n j (λ s h. A i a s h) b) t,
  )

  -- ---- elements of the ring
  pub scalar_mul : (f : Mat R 1 1) {m n : ℕ} (A : Mat R m n) → mul R (scalar R f m) A ≡ mul R A (scalar R f n)
  unfolding mul scalar
  scalar_mul f {m} {n} A = λ t i a j b. go i a j b t
    where
      right : (i : ℕ) (a : i < m) (j : ℕ) (b : j < n) → finite_sum R n (λ s h. A i a s h ⊗ cond (eqb s j) (f zero only zero only) 𝟘) ≡ A i a j b ⊗ f zero only zero only
      right i a j b =
          sum_only L n j (λ s h. A i a s h ⊗ cond (eqb s j) (f zero only zero only) 𝟘) b (λ s h ne. ap (λ x. A i a s h ⊗ x) (where_other L s j (f zero only zero only) ne) ∙ mul_zero L (A i a s h))
          ∙ ap (λ x. A i a j b ⊗ x) (where_same L j (f zero only zero only))

      go : (i : ℕ) (a : i < m) (j : ℕ) (b : j < n) → finite_sum R m (λ s h. cond (eqb i s) (f zero only zero only) 𝟘 ⊗ A s h j b) ≡ finite_sum R n (λ s h. A i a s h ⊗ cond (eqb s j) (f zero only zero only) 𝟘)
      go i a j b =
          scaled_entry (f zero only zero only) A i a j b
          ∙ L.mul_comm (f zero only zero only) (A i a j b)
          ∙ sym (right i a j b)

  pub scalar_one : (f : Mat R 1 1) → scalar R f 1 ≡ f
  unfolding scalar
  scalar_one f = λ t i a j b. go i a j b t
    where
      go : (i : ℕ) (a : i < 1) (j : ℕ) (b : j < 1) → cond (eqb i j) (f zero only zero only) 𝟘 ≡ f i a j b
      go i a j b =
          let ei : zero ≡ i = omega arith in
          let ej : zero ≡ j = omega arith in
          let e : i ≡ j = omega arith in
          ap (λ x. cond (eqb i x) (f zero only zero only) 𝟘) (sym e)
          ∙ where_same L i (f zero only zero only)
          ∙ index (λ k h. f k h zero only) ei only a
          ∙ index (λ k h. f i a k h) ej only b

  -- ---- twists
  module _ {twist : ℕ → Carrier → Carrier} (F : IsFrobenius R twist) where
    pub twist_zero : (e : ℕ) → twist e 𝟘 ≡ 𝟘
    twist_zero e =
        add_cancel L (twist e 𝟘) (twist e 𝟘) 𝟘 (sym (F.twist_add e 𝟘 𝟘) ∙ ap (twist e) (L.zero_add 𝟘) ∙ sym (add_zero L (twist e 𝟘)))

    pub each_mul : (e : ℕ) {m n k : ℕ} (A : Mat R m n) (B : Mat R n k) → each R (twist e) (mul R A B) ≡ mul R (each R (twist e) A) (each R (twist e) B)
    unfolding each mul
    each_mul e {m} {n} {k} A B = λ t i a j b. go i a j b t
      where
        go : (i : ℕ) (a : i < m) (j : ℕ) (b : j < k) → twist e (finite_sum R n (λ s h. A i a s h ⊗ B s h j b)) ≡ finite_sum R n (λ s h. twist e (A i a s h) ⊗ twist e (B s h j b))
        go i a j b =
            sum_map L (twist e) (twist_zero e) (F.twist_add e) n (λ s h. A i a s h ⊗ B s h j b)
            ∙ sum_ext L n (λ s h. twist e (A i a s h ⊗ B s h j b)) (λ s h. twist e (A i a s h) ⊗ twist e (B s h j b)) (λ s h. F.twist_mul e (A i a s h) (B s h j b))

    pub each_add : (e : ℕ) {m n : ℕ} (A B : Mat R m n) → each R (twist e) (add R A B) ≡ add R (each R (twist e) A) (each R (twist e) B)
    unfolding each add
    each_add e A B = λ t i a j b. F.twist_add e (A i a j b) (B i a j b) t

    pub each_flip : (e : ℕ) {m n : ℕ} (A : Mat R m n) → each R (twist e) (flip R A) ≡ flip R (each R (twist e) A)
    unfolding each flip
    each_flip e A = refl

    twist_cond : (e : ℕ) (b : Bool) → twist e (cond b 𝟙 𝟘) ≡ cond b 𝟙 𝟘
    twist_cond e true = F.twist_one e
    twist_cond e false = twist_zero e

    pub each_unit : (e n : ℕ) → each R (twist e) (unit R n) ≡ unit R n
    unfolding each unit
    each_unit e n = λ t i a j b. twist_cond e (eqb i j) t

    pub each_basis : (e n c : ℕ) (h : c < n) → each R (twist e) (basis R n c h) ≡ basis R n c h
    unfolding each basis
    each_basis e n c h = λ t i a j b. twist_cond e (eqb i c) t

    pub each_none : {m n : ℕ} (A : Mat R m n) → each R (twist zero) A ≡ A
    unfolding each
    each_none A = λ t i a j b. F.twist_none (A i a j b) t

    pub each_each : (d e : ℕ) {m n : ℕ} (A : Mat R m n) → each R (twist d) (each R (twist e) A) ≡ each R (twist (e + d)) A
    unfolding each
    each_each d e A = λ t i a j b. F.twist_twist d e (A i a j b) t

    each_either : (e : ℕ) {n k : ℕ} (j : ℕ) (b : j < n + k) (t : (j < n) ⊎ (n ≤ j)) (f : (j : ℕ) → j < n → Carrier) (g : (j : ℕ) → j < k → Carrier)
        → twist e (either R {n = n} {k = k} j b t f g) ≡ either R {n = n} {k = k} j b t (λ j h. twist e (f j h)) (λ j h. twist e (g j h))
    unfolding either
    each_either e j b (inl h) f g = refl
    each_either e j b (inr h) f g = refl

    pub each_beside : (e : ℕ) {m n k : ℕ} (A : Mat R m n) (B : Mat R m k)
        → each R (twist e) (beside R A B) ≡ beside R (each R (twist e) A) (each R (twist e) B)
    unfolding each beside
    each_beside e {m} {n} {k} A B = λ t i a j b. each_either e {n = n} {k = k} j b (cases_lt j n) (λ j h. A i a j h) (λ j h. B i a j h) t

    pub each_stack : (e : ℕ) {m n k : ℕ} (A : Mat R m n) (B : Mat R k n)
        → each R (twist e) (stack R A B) ≡ stack R (each R (twist e) A) (each R (twist e) B)
    unfolding each stack
    each_stack e {m} {n} {k} A B = λ t i a j b. each_either e {n = m} {k = k} i a (cases_lt i m) (λ i h. A i h j b) (λ i h. B i h j b) t

    -- ---- the laws of the interface
    pub families_laws : IsMatrices (families R twist)
    families_laws = record {
      assoc = λ {m} {n} {k} {l} A B C. assoc A B C;
      unit_left = λ {m} {n} A. unit_left A;
      unit_right = λ {m} {n} A. unit_right A;
      add_comm = λ {m} {n} A B. sum_comm A B;
      add_assoc = λ {m} {n} A B C. sum_assoc A B C;
      add_nil = λ {m} {n} A. sum_nil A;
      add_neg = λ {m} {n} A. sum_neg A;
      dist_left = λ {m} {n} {k} A B C. dist_left A B C;
      dist_right = λ {m} {n} {k} A B C. dist_right A B C;
      flip_flip = λ {m} {n} A. flip_flip A;
      flip_mul = λ {m} {n} {k} A B. flip_mul A B;
      flip_add = λ {m} {n} A B. flip_add A B;
      twist_mul = λ e {m} {n} {k} A B. each_mul e A B;
      twist_add = λ e {m} {n} A B. each_add e A B;
      twist_flip = λ e {m} {n} A. each_flip e A;
      twist_unit = each_unit;
      twist_none = λ {m} {n} A. each_none A;
      twist_twist = λ d e {m} {n} A. each_each d e A;
      join_mul = λ {m} {n} {k} {l} A B x y. join_mul A B x y;
      split = λ {n} {k} {l} z. split {n = n} {k = k} z;
      twist_beside = λ e {m} {n} {k} A B. each_beside e A B;
      twist_basis = each_basis;
      gather = λ {m} {n} {k} A B f. gather A B f;
      scalar_mul = λ f {m} {n} A. scalar_mul f A;
      scalar_one = scalar_one;
    }
