-- What a sink in memory is.
use Rattle.std.specs.Prelude.{ℕ, List}

-- the bytes taken, the room left, the most that a call takes, the numbers of the calls that fail, and the calls and faults so far
pub record Store : Type 0 where
  pub taken : List ℕ
  pub room : ℕ
  pub piece : ℕ
  pub failing : List ℕ
  pub calls : ℕ
  pub faults : ℕ
