use Rattle.fm_poly.proofs.KeptTerms.{lists_unique}
use Rattle.fm_poly.proofs.laws.canonical_lists_are_unique.Goals as goal

pub returns : goal.returns
returns c = lists_unique
