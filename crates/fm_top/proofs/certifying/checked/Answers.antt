use Rattle.fm_conditions.specs.Reasons.{reason_of}
use Rattle.fm_top.proofs.Certified.{reply_accepts, reply_refuses}
use Rattle.fm_top.proofs.certifying.checked.Goals as goal

pub returns-in-Ok-Accepted-clause-verdicts : goal.returns-in-Ok-Accepted-clause-verdicts
returns-in-Ok-Accepted-clause-verdicts c = reply_accepts c.acceptance.result c.in-Ok-Accepted.verdicts c.in-Ok-Accepted.passed c.acceptance.ensures.bytes

pub returns-in-Ok-Refused-clause-verdicts : goal.returns-in-Ok-Refused-clause-verdicts
returns-in-Ok-Refused-clause-verdicts c = reply_refuses c.refusal.result c.in-Ok-Refused.line (reason_of c.in-Ok-Refused.why) c.refusal.ensures.bytes
