-- Binomial coefficients.
use Rattle.std.specs.Prelude.{ℕ, zero, suc, ◌+◌}

-- i + j over i, by Pascal's rule
abbrev pub choose : ℕ → ℕ → ℕ
choose zero j = 1
choose (suc i) zero = 1
choose (suc i) (suc j) = choose i (suc j) + choose (suc i) j
