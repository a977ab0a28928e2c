use Rattle.std.proofs.Common.{◌≡◌, length}
use Rattle.fm_text.specs.Factors.{are_polynomials}
use Rattle.fm_text.proofs.forms.are_polynomials.Given as goal

abbrev pub invariant-polynomials : goal.invariant-polynomials
invariant-polynomials l = are_polynomials l.from ≡ are_polynomials l.text

abbrev pub decreases-polynomials : goal.decreases-polynomials
decreases-polynomials l = length l.from
