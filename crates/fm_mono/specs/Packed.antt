-- How a monomial is kept.
use Rattle.std.specs.Prelude.{ℕ, ◌+◌, ◌*◌, ◌-◌, ◌≤◌, ◌≡◌, ◌++◌, length, take, replicate, sum, true}
use Rattle.fm_mono.specs.declared.mono.Mono.TheInside.{Inside}
use Rattle.fm_mono.specs.Bounded.{is_bounded}

-- one to eight exponents within the bound, zeros behind them, and their sum
pub record IsPacked (m : Inside) : Type 0 where
  pub some : 1 ≤ m.vars
  pub few : m.vars ≤ 8
  pub eight : length m.exponents ≡ 8
  pub padded : take m.vars m.exponents ++ replicate (8 - m.vars) 0 ≡ m.exponents
  pub within : is_bounded m.exponents ≡ true
  pub total : m.degree ≡ sum (take m.vars m.exponents)

-- two exponents as one number, the second one counting most
abbrev pub pair_word : ℕ → ℕ → ℕ
pair_word a b = a + 4294967296 * b
