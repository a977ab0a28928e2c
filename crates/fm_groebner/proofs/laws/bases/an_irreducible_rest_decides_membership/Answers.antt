use Rattle.fm_groebner.proofs.Membership.{membership}
use Rattle.fm_groebner.proofs.laws.bases.an_irreducible_rest_decides_membership.Goals as goal

pub returns : goal.returns
returns c = λ p n m o bound members gens by v r basis falling f red end. membership p n m o members falling gens basis red f end
