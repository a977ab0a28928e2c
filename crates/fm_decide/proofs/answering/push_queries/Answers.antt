use Rattle.std.proofs.Common.{◌≡◌, ◌∙◌, ◌&&◌, All, not, ap, subst}
use Rattle.std.proofs.lemmas.List.Elements.{All-head}
use Rattle.fm_answers.specs.Answers.{is_unanswered}
use Rattle.fm_certificates.specs.Reports.{certified_report}
use Rattle.fm_problem.specs.Sound.{IsQueryOf}
use Rattle.fm_report.specs.Reports.{QueryReport}
use Rattle.fm_decide.proofs.Loops.{and_false, and_true, answered, finished, none_small, query_over}
use Rattle.fm_decide.proofs.answering.push_queries.Goals as goal
use Rattle.fm_decide.proofs.answering.push_queries.Goals.{then-all, else-all}

pub returns-in_default-clause-text : goal.returns-in_default-clause-text
returns-in_default-clause-text c = finished c.args.units c.args.problem.now _ c.queries.number _ _ c.in_default.ensures.cases c.queries.invariant.0

pub returns-in_default-clause-small : goal.returns-in_default-clause-small
returns-in_default-clause-small c = c.queries.invariant.4 (none_small c.args.units c.args.problem.now _ c.in_default.ensures.cases)

pub push_block-requires-clause-query : goal.push_block-requires-clause-query
push_block-requires-clause-query c =
    let q = c.args.problem.now in
    query_over q _ (All-head (IsQueryOf q) _ _ (subst (All (IsQueryOf q)) c.in-Some.ensures.cases.0 c.queries.invariant.2))

pub queries-preserved : goal.queries-preserved
queries-preserved c =
    let q = c.args.problem.now in
    let z = c.in-Some.query.now in
    let b = certified_report c.args.units q z in
    let h = c.in_ok-answer.ensures.value in
    let done = c.is_settled-answered.result in
    let both : c.if-all.all ≡ (c.queries.all && done) = elim c.if-all.branch [
      | then-all w ↦ w.all-is ∙ and_true c.queries.all done w.if-all.true
      | else-all w ↦ w.all-is ∙ and_false c.queries.all done w.if-all.false
    ] in
    answered c.args.units q z c.in-Some.rest.now _ c.queries.number c.queries.out.items c.push_block.new.out.items _ c.queries.all done c.if-all.all _ c.in-Some.ensures.cases.0
    (c.in_ok-push_block.ensures b h) (c.is_settled-answered.ensures ∙ ap (λ (b : QueryReport). not (is_unanswered b.kind)) h.report) h.small both c.queries.invariant
