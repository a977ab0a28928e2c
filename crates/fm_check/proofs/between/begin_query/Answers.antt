use Rattle.std.proofs.Common.{◌≡◌, ◌∙◌, false, true, suc, refl, subst, sym}
use Rattle.std.proofs.lemmas.Bool.{eq-eqb, ne_eqb}
use Rattle.fm_problem.specs.Sound.{IsQueryOf}
use Rattle.fm_problem.specs.Statements.{statement_of}
use Rattle.fm_problem.proofs.SoundProblems.{query_of_sound}
use Rattle.fm_check.specs.Reports.{StandsAt}
use Rattle.fm_check.proofs.BetweenLines.{next_number, question_elsewhere, question_faulty, question_misnumbered, question_tried}
use Rattle.fm_check.proofs.between.begin_query.Goals as goal

pub returns-in_default : goal.returns-in_default
returns-in_default c = record {
  said = λ s tells stands. question_elsewhere c.args.report.now.problem c.args.stage.now s c.args.number (statement_of c.args.question.now) c.in_default.not-Between stands;
  problem = refl;
  stage = λ e. absurd (let x : false ≡ true = e in cc);
  unchanged = λ e. (refl, refl);
}

pub returns-then-number-next-clause-said : goal.returns-then-number-next-clause-said
returns-then-number-next-clause-said c = λ s tells stands.
    let there = subst (λ stage. StandsAt c.args.report.now.problem stage s) c.in-Between.is stands in
    let sum = c.in-Some.ensures in
    question_misnumbered s c.args.report.now.problem there.0 tells.head c.args.number (statement_of c.args.question.now)
    (ne_eqb c.args.number (suc s.sheet.count) (λ e. c.if-number-next.true (e ∙ next_number c.args.report.now.count s.sheet.count c.in-Some.next tells.count sum.1)))

pub returns-in-Ok-clause-said : goal.returns-in-Ok-clause-said
returns-in-Ok-clause-said c = λ s tells stands.
    let sum = c.in-Some.ensures in
    question_tried c.args.report.now s c.args.stage.now c.args.number c.in-Some.next c.args.question.now c.in-Ok.query c.asked.result c.in-Ok.ensures c.asked.ensures.new tells stands c.in-Between.is
    sum.1 c.if-number-next.false

pub returns-in-Ok-clause-stage : goal.returns-in-Ok-clause-stage
returns-in-Ok-clause-stage c = λ e. (
  subst (IsQueryOf c.args.report.now.problem) (sym c.asked.ensures.new.query)
      (query_of_sound c.args.report.now.problem c.args.question.now c.in-Ok.query c.requires.problem c.in-Ok.ensures),
  c.asked.ensures.asked,
)

pub returns-in-Err-Fault-clause-said : goal.returns-in-Err-Fault-clause-said
returns-in-Err-Fault-clause-said c = λ s tells stands.
    let there = subst (λ stage. StandsAt c.args.report.now.problem stage s) c.in-Between.is stands in
    question_faulty s c.args.report.now.problem there.0 tells.head c.args.number c.args.question.now _ (rw c.in-Err-Fault.field-0-is at c.in-Err-Fault.ensures)
