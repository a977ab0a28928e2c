use Rattle.std.proofs.Common.{length}
use Rattle.fm_problem.specs.Sound.{IsProblem}
use Rattle.fm_judge.specs.Judging.{State}
use Rattle.fm_check.specs.Reports.{IsStage, StandsAt, Tells}
use Rattle.fm_check.specs.declared.stage.Stage.TheVariants as stages
use Rattle.fm_check.proofs.Findings.{IsLeft}
use Rattle.fm_check.proofs.checking.check_lines.Given as goal

abbrev pub invariant-lines : goal.invariant-lines
invariant-lines l = record {
  problem : IsProblem l.report.problem;
  stage : IsStage l.report.problem l.stage;
  judged : (s : State) → Tells l.fn.begun s → StandsAt l.fn.begun.problem stages.Between s → IsLeft s l.fn.text l.number l.report l.stage l.left;
}

abbrev pub decreases-lines : goal.decreases-lines
decreases-lines l = length l.left
