use Rattle.std.proofs.Common.{◌≡◌, ◌<◌, length}
use Rattle.fm_gfp.specs.Primes.{prime_value}
use Rattle.fm_text.specs.Polynomials.{times_factors}
use Rattle.fm_text.specs.Views.{rules_view}
use Rattle.fm_text.proofs.polynomials.times_factors.Given as goal

abbrev pub invariant-factors : goal.invariant-factors
invariant-factors l =
    (times_factors (rules_view l.rules) (record { mono = l.exponents; coeff = l.product }) l.from ≡ times_factors (rules_view l.rules) (record { mono = l.initial.exponents; coeff = l.fn.coeff }) l.text)
    × (l.product < prime_value l.rules.ring.prime)
    × (length l.exponents ≡ length l.rules.names.now)

abbrev pub decreases-factors : goal.decreases-factors
decreases-factors l = length l.from
