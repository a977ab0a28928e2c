use Rattle.std.proofs.Common.{◌≡◌, ◌++◌, length}
use Rattle.fm_claims.proofs.problems.push_copies.Given as goal

abbrev pub invariant-polynomials : goal.invariant-polynomials
invariant-polynomials l = l.out.items ++ l.left ≡ l.initial.out.items ++ l.polynomials

abbrev pub decreases-polynomials : goal.decreases-polynomials
decreases-polynomials l = length l.left
