-- Tuples within the bound on exponents.
use Rattle.std.specs.Prelude.{ℕ, Bool, List, Option, Some, None, nat_le, if◌then◌else◌}
use Rattle.std.specs.List.{list_all}

-- the greatest exponent of a monomial
abbrev pub exponent_bound : ℕ
exponent_bound = 16777215

-- each exponent is at most the bound
abbrev pub is_bounded : List ℕ → Bool
is_bounded a = list_all (λ i. nat_le i exponent_bound) a

-- the tuple, if each of its exponents is at most the bound
abbrev pub bounded : List ℕ → Option (List ℕ)
bounded a = if is_bounded a then Some a else None
