use Rattle.fm_text.proofs.PrintingSteps.{listed_lengths}
use Rattle.fm_text.proofs.printing.push_poly.Goals as goal

pub push_terms-requires : goal.push_terms-requires
push_terms-requires c = rw c.terms.ensures.same (listed_lengths _ _ _ _ c.requires c.terms.ensures.canonical.listed)
