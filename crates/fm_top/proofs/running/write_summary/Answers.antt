use Rattle.std.proofs.Common.{◌∙◌, subst, sym}
use Rattle.std.specs.Io.KnownBytes.{Appends}
use Rattle.fm_base.specs.Parts.{AppendsPrefix}
use Rattle.fm_report.proofs.Holding.{kept_holds}
use Rattle.fm_top.specs.Output.{HoldThroughout}
use Rattle.fm_top.proofs.Verdicts.{taken_holds}
use Rattle.fm_top.proofs.running.write_summary.Goals as goal

pub returns-in-Ok-clause-verdicts : goal.returns-in-Ok-clause-verdicts
returns-in-Ok-clause-verdicts g c = taken_holds _ _ _ (subst HoldThroughout (sym c.deref.ensures.value) c.in-Ok.ensures.verdicts) c.write_reply.ensures.prefix

pub returns-in-Err-clause-verdicts : goal.returns-in-Err-clause-verdicts
returns-in-Err-clause-verdicts g c = kept_holds _
