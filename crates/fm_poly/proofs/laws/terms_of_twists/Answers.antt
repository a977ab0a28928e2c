use Rattle.fm_poly.proofs.KeptTerms.{kept_twist}
use Rattle.fm_poly.proofs.laws.terms_of_twists.Goals as goal

pub returns : goal.returns
returns c = kept_twist
