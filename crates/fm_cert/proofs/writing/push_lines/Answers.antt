use Rattle.fm_cert.proofs.LinesWritten.{none_written, one_written}
use Rattle.fm_cert.proofs.writing.push_lines.Goals as goal

pub returns-in_default : goal.returns-in_default
returns-in_default c = none_written c.args.problem.now _ _ _ c.in_default.ensures.cases c.lines.invariant.0

pub lines-preserved : goal.lines-preserved
lines-preserved c = one_written c.args.problem.now _ _ _ _ _ _ c.in-Some.ensures.cases.0 c.in_ok-push.ensures c.lines.invariant
