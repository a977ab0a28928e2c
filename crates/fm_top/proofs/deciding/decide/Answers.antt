use Rattle.fm_top.proofs.Verdicts.{reply_states, reply_faults}
use Rattle.fm_top.proofs.deciding.decide.Goals as goal

pub returns-in-Ok-clause-verdicts : goal.returns-in-Ok-clause-verdicts
returns-in-Ok-clause-verdicts c = reply_states c.report.result c.args.units c.args.text.now c.in-Ok.problem c.requires c.ranges.units.fits c.in-Ok.ensures.reads c.report.ensures.bytes c.report.ensures.small

pub returns-in-Err-Fault-clause-verdicts : goal.returns-in-Err-Fault-clause-verdicts
returns-in-Err-Fault-clause-verdicts c = reply_faults c.fault_line.result (record { line = c.in-Err-Fault.line; kind = c.in-Err-Fault.kind }) c.fault_line.ensures.bytes
