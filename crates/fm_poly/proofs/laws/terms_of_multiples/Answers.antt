use Rattle.fm_poly.proofs.KeptTerms.{kept_multiple}
use Rattle.fm_poly.proofs.laws.terms_of_multiples.Goals as goal

pub returns : goal.returns
returns c = kept_multiple
