-- Matrices over a ring as families of entries, typed by rows and columns: the instance of the interface.
use Rattle.std.specs.Prelude.{ℕ, zero, ◌+◌, ◌-◌, ◌<◌, ◌≤◌, ◌⊎◌, cond, eqb, List}
use mathlib.Core.Logic.{inl, inr}
use native.Mathlib.Nat.{zero-lt-suc, sub-lt_left_of_lt-add, lt_of_lt_of_le, le-add_right, add-lt-add_of_le_of_lt, le_refl}
use Rattle.std.proofs.lemmas.Bool.{cases_lt}
use Rattle.fm_algebra.specs.Ring.{Ring}
use Rattle.fm_algebra.specs.FiniteSums.{finite_sum}
use Rattle.fm_algebra.specs.Matrix.{Matrix, entry, component}
use Rattle.fm_algebra.specs.Matrices.{Matrices}

-- bounds: 0 is below 1; the place in B of a column of [A | B] beyond A; the places of the columns of A and of B in [A | B]
pub only : zero < 1
only = zero-lt-suc zero

pub rest : {n k j : ℕ} → j < n + k → n ≤ j → j - n < k
rest a b = sub-lt_left_of_lt-add b a

pub front : {n i : ℕ} (k : ℕ) → i < n → i < n + k
front {n} k h = lt_of_lt_of_le h (le-add_right n k)

pub back : (n : ℕ) {k i : ℕ} → i < k → n + i < n + k
back n h = add-lt-add_of_le_of_lt (le_refl n) h

module _ (R : Ring) where
  -- m rows and n columns
  abbrev pub Mat : ℕ → ℕ → Type 0
  Mat m n = (i : ℕ) → i < m → (j : ℕ) → j < n → R.Carrier

  -- 1 where the indices agree, else 0
  abbrev pub delta : ℕ → ℕ → R.Carrier
  delta i j = cond (eqb i j) R.one R.zero

  -- the entry of A * B in row i and column j is the sum of A i k * B k j over all k
  unfoldable pub mul : {m n k : ℕ} → Mat m n → Mat n k → Mat m k
  mul {m} {n} {k} A B i a j b = finite_sum R n (λ l h. R.mul (A i a l h) (B l h j b))

  unfoldable pub add : {m n : ℕ} → Mat m n → Mat m n → Mat m n
  add A B i a j b = R.add (A i a j b) (B i a j b)

  unfoldable pub neg : {m n : ℕ} → Mat m n → Mat m n
  neg A i a j b = R.neg (A i a j b)

  unfoldable pub nil : (m n : ℕ) → Mat m n
  nil m n i a j b = R.zero

  unfoldable pub unit : (n : ℕ) → Mat n n
  unit n i a j b = delta i j

  unfoldable pub flip : {m n : ℕ} → Mat m n → Mat n m
  flip A i a j b = A j b i a

  -- each entry by a map of the ring
  unfoldable pub each : (R.Carrier → R.Carrier) → {m n : ℕ} → Mat m n → Mat m n
  each t A i a j b = t (A i a j b)

  unfoldable pub scalar : Mat 1 1 → (n : ℕ) → Mat n n
  scalar f n i a j b = cond (eqb i j) (f zero only zero only) R.zero

  unfoldable pub basis : (n c : ℕ) → c < n → Mat n 1
  basis n c h i a j b = delta i c

  -- the entry of [A | B] in column j
  unfoldable pub either : {n k : ℕ} (j : ℕ)
      → j < n + k → (j < n) ⊎ (n ≤ j) → ((j : ℕ) → j < n → R.Carrier) → ((j : ℕ) → j < k → R.Carrier) → R.Carrier
  either j b (inl h) f g = f j h
  either {n} {k} j b (inr h) f g = g (j - n) (rest b h)

  unfoldable pub beside : {m n k : ℕ} → Mat m n → Mat m k → Mat m (n + k)
  beside {m} {n} {k} A B i a j b = either {n = n} {k = k} j b (cases_lt j n) (λ j h. A i a j h) (λ j h. B i a j h)

  unfoldable pub stack : {m n k : ℕ} → Mat m n → Mat k n → Mat (m + k) n
  stack {m} {n} {k} A B i a j b = either {n = m} {k = k} i a (cases_lt i m) (λ i h. A i h j b) (λ i h. B i h j b)

  -- the m by n matrix with the entries of A
  abbrev pub read : (m n : ℕ) → Matrix R → Mat m n
  read m n A i a j b = entry R A i j

  -- the vector of length n with the entries of v
  abbrev pub vector : (n : ℕ) → List R.Carrier → Mat n 1
  vector n v i a j b = component R v i

  -- an element of the ring
  abbrev pub element : R.Carrier → Mat 1 1
  element f i a j b = f

-- the interface over a ring with a twist for each exponent
abbrev pub families : (R : Ring) → (ℕ → R.Carrier → R.Carrier) → Matrices
families R twist = record {
  Mat = Mat R;
  ◌⊛◌ = λ {m} {n} {k} A B. mul R A B;
  ◌⊕◌ = λ {m} {n} A B. add R A B;
  neg = λ {m} {n} A. neg R A;
  nil = nil R;
  unit = unit R;
  flip = λ {m} {n} A. flip R A;
  beside = λ {m} {n} {k} A B. beside R A B;
  stack = λ {m} {n} {k} A B. stack R A B;
  basis = basis R;
  scalar = scalar R;
  twist = λ e {m} {n} A. each R (twist e) A;
}
