use Rattle.fm_algebra.proofs.Gf.{gf_laws, gf_field}
use Rattle.fm_algebra.proofs.laws.polynomials.residues_are_a_field.Goals as goal

pub returns-clause-ring : goal.returns-clause-ring
returns-clause-ring c = gf_laws

pub returns-clause-field : goal.returns-clause-field
returns-clause-field c = gf_field
