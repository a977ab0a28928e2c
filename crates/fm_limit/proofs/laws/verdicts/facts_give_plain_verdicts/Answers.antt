use Rattle.fm_limit.proofs.VerdictLaws.{ext_verdict, member_verdict, resolution_verdict}
use Rattle.fm_limit.proofs.laws.verdicts.facts_give_plain_verdicts.Goals as goal

pub returns-clause-member : goal.returns-clause-member
returns-clause-member c = member_verdict

pub returns-clause-resolution : goal.returns-clause-resolution
returns-clause-resolution c = resolution_verdict

pub returns-clause-ext : goal.returns-clause-ext
returns-clause-ext c = ext_verdict
