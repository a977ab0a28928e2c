use Rattle.std.proofs.Common.{◌∙◌, ap, sym}
use Rattle.fm_judge.specs.Judging.{all_lines, judged_lines}
use Rattle.fm_check.specs.Heads.{counts_of}
use Rattle.fm_check.proofs.Findings.{found_bad, found_left, found_nothing, judged_more, steps_bad}
use Rattle.fm_check.proofs.checking.check_lines.Goals as goal

pub returns-in_default : goal.returns-in_default
returns-in_default c = λ s tells stands.
    let i = c.lines.invariant.judged s tells stands in
    ap counts_of i.1 ∙ found_nothing c.lines.number i.0 c.lines.left.now c.at_end.result c.in_default.ensures.lines (c.at_end.ensures i.0 i.2 i.3)

pub returns-in-Err : goal.returns-in-Err
returns-in-Err c = λ s tells stands.
    let i = c.lines.invariant.judged s tells stands in
    found_left 4 c.lines.number s i.0 c.args.text.now c.lines.left.now c.bad.result i.1
    (found_bad c.lines.number i.0 c.lines.left.now c.in-Some.line.now c.in-Some.later.now c.in-Some.ensures.lines c.in-Err.refused c.bad.result c.bad.ensures
    (steps_bad (Unit {0}) c.judge_line.new.report c.judge_line.new.stage c.in-Err.refused _ (c.in-Err.ensures.judged i.0 i.2 i.3)))

pub lines-preserved : goal.lines-preserved
lines-preserved c = record {
  problem = c.in-Ok.ensures.problem;
  stage = c.in-Ok.ensures.stage;
  judged = λ s tells stands.
      let i = c.lines.invariant.judged s tells stands in
      let k = c.in-Ok.ensures.judged i.0 i.2 i.3 in
      let sum = c.in-Some-checked_add.ensures in (
        k.0,
        i.1 ∙ judged_more c.lines.number i.0 c.lines.left.now c.in-Some.line.now c.in-Some.later.now c.in-Some.ensures.lines k.0 k.1
            ∙ ap (λ n. judged_lines n k.0 (all_lines c.in-Some.later.now)) (sym sum.1),
        k.2,
        k.3,
      );
}
