-- Constants, and the powers of them that differ.
use Rattle.std.specs.Prelude.{ℕ, zero, suc, ◌-◌, ◌%◌, Bool, true, ◌&&◌, nat_eq, List, [], ◌∷◌, length, sum}
use Rattle.fm_gfp.specs.Primes.{prime_value}
use Rattle.fm_gfp.specs.declared.prime.Prime.{Prime}
use Rattle.fm_poly.specs.declared.term.Term.{Term}

-- no term, or one whose monomial is 1
abbrev pub is_constant : List Term → Bool
is_constant [] = true
is_constant (t ∷ ts) = nat_eq (length ts) 0 && nat_eq (sum t.mono) 0

-- the least exponent with which each constant modulo p has the same power: from 1 on they repeat after p - 1
abbrev pub least_exponent : Prime → ℕ → ℕ
least_exponent p zero = 0
least_exponent p (suc k) = suc (k % (prime_value p - 1))
