use Rattle.std.proofs.Common.{sym}
use Rattle.fm_judge.specs.Judging.{judgement, start}
use Rattle.fm_check.specs.Heads.{after_version}
use Rattle.fm_check.proofs.Findings.{found_bad, found_more, found_nothing, judgement_found, judges_bad}
use Rattle.fm_check.proofs.checking.check.Goals as goal

pub returns-in_default : goal.returns-in_default
unfolding judgement start
returns-in_default c = found_nothing 1 start c.args.text.now c.missing.result c.in_default.ensures.lines (sym c.missing.ensures)

pub returns-in-Ok : goal.returns-in-Ok
returns-in-Ok c =
    judgement_found c.args.text.now c.check_ring.result
    (found_more 1 start c.args.text.now c.in-Some.line.now c.in-Some.left.now c.in-Some.ensures.lines (after_version c.in-Ok.version) c.check_ring.result c.in-Ok.ensures c.check_ring.ensures)

pub returns-in-Err : goal.returns-in-Err
returns-in-Err c =
    judgement_found c.args.text.now c.bad.result
    (found_bad 1 start c.args.text.now c.in-Some.line.now c.in-Some.left.now c.in-Some.ensures.lines c.in-Err.refused c.bad.result c.bad.ensures
    (judges_bad after_version c.in-Err.refused _ c.in-Err.ensures))
