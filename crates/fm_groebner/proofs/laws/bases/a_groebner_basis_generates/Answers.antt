use Rattle.fm_groebner.proofs.Consequences.{basis_generates}
use Rattle.fm_groebner.proofs.laws.bases.a_groebner_basis_generates.Goals as goal

pub returns : goal.returns
returns c = basis_generates
