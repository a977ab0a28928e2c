-- Modules that are done by hand.
use Rattle.std.specs.Prelude.{ℕ}
use Rattle.fm_gfp.specs.declared.prime.Prime.{Prime}
use Rattle.fm_algebra.specs.Polynomials.{Polynomial, frobenius_twist}
use Rattle.fm_limit.specs.SmallIdeals.{one_entry}
use Rattle.fm_limit.specs.GivenModules.{GivenModule}

module _ (p : Prime) (n : ℕ) where
  -- the ring modulo f, with the morphism that multiplies by f^[p]
  abbrev pub ring_modulo : Polynomial p n → GivenModule p n
  ring_modulo f = record { rank = 1; relations = one_entry p n f; morphism = one_entry p n (frobenius_twist p n 1 f) }
