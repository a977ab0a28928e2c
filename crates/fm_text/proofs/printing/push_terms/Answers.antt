use Rattle.fm_text.proofs.PrintingSteps.{terms_written, zero_written}
use Rattle.fm_text.proofs.printing.push_terms.Goals as goal

pub returns-in_default-clause-ok : goal.returns-in_default-clause-ok
returns-in_default-clause-ok c = zero_written _ _ _ _ c.in_default.ensures.cases c.in_ok-push.ensures.items

pub returns-clause-ok : goal.returns-clause-ok
returns-clause-ok c = terms_written _ _ _ _ _ _ _ c.in-Some.ensures.cases.0 c.in_ok-push_term.ensures.ok c.in_ok-push_more_terms.ensures.ok
