-- Finite sums in a ring.
use Rattle.std.specs.Prelude.{ℕ, zero, suc, ◌<◌}
use native.Mathlib.Nat.{le_step, lt-suc_self}
use Rattle.fm_algebra.specs.Ring.{Ring}

-- what is below n is below n + 1
pub below : {n k : ℕ} → k < n → k < suc n
below h = le_step h

-- n is below n + 1
pub last : (n : ℕ) → n < suc n
last n = lt-suc_self n

module _ (R : Ring) where
  -- f 0 + .. + f (n - 1)
  unfoldable pub finite_sum : (n : ℕ) → ((k : ℕ) → k < n → R.Carrier) → R.Carrier
  finite_sum zero f = R.zero
  finite_sum (suc n) f = R.add (finite_sum n (λ k h. f k (below h))) (f n (last n))
