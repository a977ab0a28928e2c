use Rattle.std.proofs.Common.{◌∙◌, sym, subst}
use Rattle.fm_lines.specs.Rows.{ending_line}
use Rattle.fm_places.specs.Meanings.{aim_of}
use Rattle.fm_claims.specs.Goals.{IsGoalIn, goal_in}
use Rattle.fm_check.specs.Standings.{parts_of}
use Rattle.fm_check.proofs.Endings.{answers_nothing, begins_before, ends_answered, ends_badly, ends_passed}
use Rattle.fm_check.proofs.answers.ending_row.Goals as goal

pub returns-then-not-may_end-clause-answers : goal.returns-then-not-may_end-clause-answers
returns-then-not-may_end-clause-answers c = λ s says none at.
    ends_badly c.args.problem.now c.args.asked.now s says at (ending_line c.args.ending.now) (sym c.is_answer.ensures ∙ c.if-not-is_answer.true) (sym c.may_end.ensures ∙ c.if-not-may_end.true)

pub returns-then-not-is_answer-clause-answers : goal.returns-then-not-is_answer-clause-answers
returns-then-not-is_answer-clause-answers c = λ s says none at.
    ends_passed c.args.problem.now c.args.asked.now s says at (ending_line c.args.ending.now) (sym c.is_answer.ensures ∙ c.if-not-is_answer.true) (sym c.may_end.ensures ∙ c.if-not-may_end.false)

pub returns-in_default-clause-answers : goal.returns-in_default-clause-answers
returns-in_default-clause-answers c = λ s says none at.
    let q = c.args.problem.now in
    let a = c.args.asked.now in
    answers_nothing q a s says at (ending_line c.args.ending.now) (sym c.is_answer.ensures ∙ c.if-not-is_answer.false)
    (subst (IsGoalIn q (parts_of a) (goal_in q a.query c.args.ending.now)) c.in_default.is (c.in_ok-goal.ensures (parts_of a)))

pub returns-clause-answers : goal.returns-clause-answers
returns-clause-answers c = λ s says none at.
    let q = c.args.problem.now in
    let a = c.args.asked.now in
    let found = subst (IsGoalIn q (parts_of a) (goal_in q a.query c.args.ending.now)) c.in-Some.is (c.in_ok-goal.ensures (parts_of a)) in
    ends_answered q a s says at (ending_line c.args.ending.now) (sym c.is_answer.ensures ∙ c.if-not-is_answer.false) none c.in-Some.goal c.first_place-place.result found.0
    (c.first_place-place.ensures.place q (parts_of a))

pub returns-clause-certificate : goal.returns-clause-certificate
returns-clause-certificate c =
    let q = c.args.problem.now in
    let a = c.args.asked.now in
    let found = subst (IsGoalIn q (parts_of a) (goal_in q a.query c.args.ending.now)) c.in-Some.is (c.in_ok-goal.ensures (parts_of a)) in (
      record { goal = found.1; place = c.first_place-place.ensures.there (parts_of a); log = tt; before = tt },
      begins_before q.ring (parts_of a) c.in-Some.goal.aim (aim_of q (parts_of a) c.in-Some.goal.aim) c.first_place-place.result (c.first_place-place.ensures.place q (parts_of a)),
    )
