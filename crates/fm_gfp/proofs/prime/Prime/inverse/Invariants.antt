use Rattle.std.proofs.Common.{◌%◌, ◌*◌, ◌<◌, ◌≡◌, ℕ}
use Rattle.fm_gfp.specs.Primes.{prime_value}
use Rattle.fm_gfp.proofs.prime.Prime.inverse.Given as goal

-- no smaller number is the inverse
abbrev pub invariant-loop-k : goal.invariant-loop-k
invariant-loop-k l = (j : ℕ) → 0 < j → j < l.k → (l.a * j) % prime_value l.self ≡ 1 → ⊥
