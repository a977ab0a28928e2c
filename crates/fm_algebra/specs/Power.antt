-- Powers and multiples by whole numbers.
use Rattle.std.specs.Prelude.{ℕ, zero, suc}
use Rattle.fm_algebra.specs.Ring.{Ring}

module _ (R : Ring) where
  -- f * f * .. * f, with k factors
  unfoldable pub power : ℕ → R.Carrier → R.Carrier
  power zero f = R.one
  power (suc k) f = R.mul f (power k f)

  -- f + f + .. + f, with k summands
  unfoldable pub repeated : ℕ → R.Carrier → R.Carrier
  repeated zero f = R.zero
  repeated (suc k) f = R.add f (repeated k f)
