use Rattle.std.proofs.Common.{refl}
use Rattle.fm_report.specs.Sheets.{blank}
use Rattle.fm_check.specs.Heads.{after_order, after_ring}
use Rattle.fm_check.proofs.Findings.{found_more}
use Rattle.fm_check.proofs.checking.check_order.Goals as goal

pub returns-in-Ok : goal.returns-in-Ok
unfolding blank
returns-in-Ok c =
    found_more 3 (after_ring c.args.version c.args.problem) c.args.text.now c.in-Some.line.now c.in-Some.left.now c.in-Some.ensures.lines (after_order c.args.version c.in-Ok.problem)
    c.check_lines.result c.in-Ok.ensures.judged (c.check_lines.ensures (after_order c.args.version c.in-Ok.problem) c.behind_head.ensures.tells (refl, refl))
