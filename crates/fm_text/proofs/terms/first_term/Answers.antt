use Rattle.std.proofs.Common.{sym}
use Rattle.fm_text.proofs.TermCuts.{terms_at, one_term}
use Rattle.fm_text.proofs.terms.first_term.Goals as goal

pub returns-in-Some-clause-terms : goal.returns-in-Some-clause-terms
returns-in-Some-clause-terms c = let h = c.in-Some.ensures in terms_at _ _ _ _ c.bytes-test.true c.bytes.invariant.1 (sym h)

pub returns-clause-terms : goal.returns-clause-terms
returns-clause-terms c = one_term _ _ _ c.bytes-test.false c.bytes.invariant.1
