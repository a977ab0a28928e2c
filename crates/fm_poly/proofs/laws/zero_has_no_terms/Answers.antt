use Rattle.fm_poly.proofs.KeptTerms.{zero_list}
use Rattle.fm_poly.proofs.laws.zero_has_no_terms.Goals as goal

pub returns : goal.returns
returns c = zero_list
