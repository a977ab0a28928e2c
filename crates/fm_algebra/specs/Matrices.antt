-- Matrices over a commutative ring with a Frobenius, as an interface: typed by rows and columns.
-- The theory of the limit is stated and proved over this interface; `families` of Families is its one instance.
use Rattle.std.specs.Prelude.{ℕ, zero, ◌+◌, ◌<◌, ◌≡◌}

-- `Mat m n` has m rows and n columns; a vector of length m is a `Mat m 1`, and an element of the ring a `Mat 1 1`
pub record Matrices : Type 1 where
  infixl 70 ◌⊛◌
  infixl 60 ◌⊕◌
  pub Mat : ℕ → ℕ → Type 0
  -- the product and the sum
  pub ◌⊛◌ : {m n k : ℕ} → Mat m n → Mat n k → Mat m k
  pub ◌⊕◌ : {m n : ℕ} → Mat m n → Mat m n → Mat m n
  pub neg : {m n : ℕ} → Mat m n → Mat m n
  -- the zero matrix and the unit matrix
  pub nil : (m n : ℕ) → Mat m n
  pub unit : (n : ℕ) → Mat n n
  -- the transpose
  pub flip : {m n : ℕ} → Mat m n → Mat n m
  -- [A | B], and A above B
  pub beside : {m n k : ℕ} → Mat m n → Mat m k → Mat m (n + k)
  pub stack : {m n k : ℕ} → Mat m n → Mat k n → Mat (m + k) n
  -- unit vector c, from 0 on
  pub basis : (n c : ℕ) → c < n → Mat n 1
  -- an element times the unit matrix
  pub scalar : Mat 1 1 → (n : ℕ) → Mat n n
  -- each entry twisted by p ^ e
  pub twist : ℕ → {m n : ℕ} → Mat m n → Mat m n

module _ (M : Matrices) where
  open M use {Mat, ◌⊛◌, ◌⊕◌, neg, nil, unit, flip, beside, stack, basis, scalar, twist}

  infixl 70 ◌⊛◌
  infixl 60 ◌⊕◌
  -- what holds of matrices over a commutative ring with a Frobenius
  pub record IsMatrices : Type 0 where
    -- products
    pub assoc : {m n k l : ℕ} (A : Mat m n) (B : Mat n k) (C : Mat k l) → (A ⊛ B) ⊛ C ≡ A ⊛ (B ⊛ C)
    pub unit_left : {m n : ℕ} (A : Mat m n) → unit m ⊛ A ≡ A
    pub unit_right : {m n : ℕ} (A : Mat m n) → A ⊛ unit n ≡ A
    -- sums
    pub add_comm : {m n : ℕ} (A B : Mat m n) → A ⊕ B ≡ B ⊕ A
    pub add_assoc : {m n : ℕ} (A B C : Mat m n) → (A ⊕ B) ⊕ C ≡ A ⊕ (B ⊕ C)
    pub add_nil : {m n : ℕ} (A : Mat m n) → A ⊕ nil m n ≡ A
    pub add_neg : {m n : ℕ} (A : Mat m n) → A ⊕ neg A ≡ nil m n
    pub dist_left : {m n k : ℕ} (A : Mat m n) (B C : Mat n k) → A ⊛ (B ⊕ C) ≡ A ⊛ B ⊕ A ⊛ C
    pub dist_right : {m n k : ℕ} (A B : Mat m n) (C : Mat n k) → (A ⊕ B) ⊛ C ≡ A ⊛ C ⊕ B ⊛ C
    -- the transpose
    pub flip_flip : {m n : ℕ} (A : Mat m n) → flip (flip A) ≡ A
    pub flip_mul : {m n k : ℕ} (A : Mat m n) (B : Mat n k) → flip (A ⊛ B) ≡ flip B ⊛ flip A
    pub flip_add : {m n : ℕ} (A B : Mat m n) → flip (A ⊕ B) ≡ flip A ⊕ flip B
    -- the twist
    pub twist_mul : (e : ℕ) {m n k : ℕ} (A : Mat m n) (B : Mat n k) → twist e (A ⊛ B) ≡ twist e A ⊛ twist e B
    pub twist_add : (e : ℕ) {m n : ℕ} (A B : Mat m n) → twist e (A ⊕ B) ≡ twist e A ⊕ twist e B
    pub twist_flip : (e : ℕ) {m n : ℕ} (A : Mat m n) → twist e (flip A) ≡ flip (twist e A)
    pub twist_unit : (e n : ℕ) → twist e (unit n) ≡ unit n
    pub twist_none : {m n : ℕ} (A : Mat m n) → twist zero A ≡ A
    pub twist_twist : (d e : ℕ) {m n : ℕ} (A : Mat m n) → twist d (twist e A) ≡ twist (e + d) A
    -- joins
    pub join_mul : {m n k l : ℕ} (A : Mat m n) (B : Mat m k) (x : Mat n l) (y : Mat k l) → beside A B ⊛ stack x y ≡ A ⊛ x ⊕ B ⊛ y
    pub split : {n k l : ℕ} (z : Mat (n + k) l) → (x : Mat n l) × (y : Mat k l) × (z ≡ stack x y)
    pub twist_beside : (e : ℕ) {m n k : ℕ} (A : Mat m n) (B : Mat m k) → twist e (beside A B) ≡ beside (twist e A) (twist e B)
    -- columns
    pub twist_basis : (e n c : ℕ) (h : c < n) → twist e (basis n c h) ≡ basis n c h
    pub gather : {m n k : ℕ} (A : Mat m n) (B : Mat m k)
        → ((c : ℕ) (h : c < n) → (x : Mat k 1) × (B ⊛ x ≡ A ⊛ basis n c h)) → (X : Mat k n) × (B ⊛ X ≡ A)
    -- elements of the ring
    pub scalar_mul : (f : Mat 1 1) {m n : ℕ} (A : Mat m n) → scalar f m ⊛ A ≡ A ⊛ scalar f n
    pub scalar_one : (f : Mat 1 1) → scalar f 1 ≡ f
