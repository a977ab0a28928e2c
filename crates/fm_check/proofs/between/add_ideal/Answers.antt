use Rattle.std.proofs.Common.{◌≡◌, ◌∙◌, false, true, refl, subst, sym}
use Rattle.std.proofs.lemmas.Bool.{ne_eqb}
use Rattle.fm_problem.specs.Statements.{statement_of}
use Rattle.fm_problem.proofs.NamedStatements.{statement_named}
use Rattle.fm_judge.specs.Judging.{between_queries, moved_to}
use Rattle.fm_check.specs.Reports.{StandsAt}
use Rattle.fm_check.proofs.BetweenLines.{head_elsewhere, ideal_faulty, ideal_late, ideal_tried}
use Rattle.fm_check.proofs.SoundHeads.{head_sound}
use Rattle.fm_check.proofs.between.add_ideal.Goals as goal

pub returns-in_default : goal.returns-in_default
returns-in_default c = record {
  said = λ s tells stands. head_elsewhere c.args.report.now.problem c.args.stage.now s (statement_of c.args.text.now) c.in_default.not-Between stands;
  problem = c.requires.problem;
  stage = λ e. absurd (let x : false ≡ true = e in cc);
  unchanged = λ e. refl;
}

pub returns-then-report-ne0-clause-said : goal.returns-then-report-ne0-clause-said
returns-then-report-ne0-clause-said c = λ s tells stands.
    let there = subst (λ stage. StandsAt c.args.report.now.problem stage s) c.in-Between.is stands in
    ideal_late s c.args.report.now.problem there.0 tells.head (statement_of c.args.text.now) (ne_eqb s.sheet.count 0 (λ e. c.if-report-ne0.true (sym tells.count ∙ e)))

pub returns-in-Ok-clause-said : goal.returns-in-Ok-clause-said
returns-in-Ok-clause-said c = λ s tells stands.
    ideal_tried c.args.report.now s c.args.stage.now (statement_of c.args.text.now) c.add_line.new.problem c.requires.head c.in-Ok.ensures.gives tells stands c.in-Between.is c.if-report-ne0.false

pub returns-in-Ok-clause-problem : goal.returns-in-Ok-clause-problem
returns-in-Ok-clause-problem c =
    head_sound c.args.report.now.problem c.add_line.new.problem (statement_of c.args.text.now) (statement_named c.args.text.now) c.requires.head c.requires.problem c.in-Ok.ensures.gives

pub returns-in-Err-Fault-clause-said : goal.returns-in-Err-Fault-clause-said
returns-in-Err-Fault-clause-said c = λ s tells stands.
    let there = subst (λ stage. StandsAt c.args.report.now.problem stage s) c.in-Between.is stands in
    ideal_faulty s c.args.report.now.problem there.0 tells.head (statement_of c.args.text.now) c.in-Err-Fault.field-0-0 (rw c.in-Err-Fault.field-0-is at c.in-Err-Fault.ensures.gives)
