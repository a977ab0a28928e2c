use Rattle.std.proofs.Common.{string_bytes}
use Rattle.fm_cert.proofs.LinesWritten.{all_written, ideal_over, ideal_written}
use Rattle.fm_cert.proofs.heads.push_ideals.Goals as goal

pub push_ideal-requires : goal.push_ideal-requires
push_ideal-requires c =
    ideal_over string_bytes c.args.problem.now _ _ _ _ c.requires c.as_slice.ensures c.in-Some.ensures.cases.0 c.ideals.invariant.1

pub ideals-preserved : goal.ideals-preserved
ideals-preserved c =
    ideal_written c.args.problem.now.ring _ c.args.problem.now.vars _ _ _ _ _ _ c.as_slice.ensures c.in-Some.ensures.cases.0 c.in_ok-push_ideal.ensures c.ideals.invariant

pub returns-in_default : goal.returns-in_default
returns-in_default c = all_written c.args.problem.now.vars _ _ _ c.in_default.ensures.cases c.ideals.invariant.0
