use Rattle.fm_top.proofs.Verdicts.{usage_holds, taken_holds}
use Rattle.fm_top.proofs.running.write_usage.Goals as goal

pub returns-clause-verdicts : goal.returns-clause-verdicts
returns-clause-verdicts g c = taken_holds _ _ _ usage_holds c.write_reply.ensures.prefix
