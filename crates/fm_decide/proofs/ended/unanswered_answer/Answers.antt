use Rattle.std.proofs.Common.{◌∙◌, Err, IfOk, ap, subst, sym}
use Rattle.fm_algebra.specs.Poly.{Some-same}
use Rattle.fm_certificates.specs.Reports.{certified_end}
use Rattle.fm_plan.specs.Tasks.{Unanswered}
use Rattle.fm_queries.specs.Founds.{ended_by}
use Rattle.fm_decide.specs.Given.{IsAnswerOf}
use Rattle.fm_decide.proofs.EndedReports.{Tells}
use Rattle.fm_decide.proofs.ended.unanswered_answer.Goals as goal

pub returns-in-Stopped-clause-value : goal.returns-in-Stopped-clause-value
returns-in-Stopped-clause-value c = subst (λ e. IfOk c.stopped_answer.result (λ a. Tells (ended_by e) a)) (sym c.in-Stopped.is) c.stopped_answer.ensures.value

pub returns-in-Refused-clause-value : goal.returns-in-Refused-clause-value
returns-in-Refused-clause-value c = λ q z u e.
    subst (λ (u : Unanswered). IsAnswerOf q z c.refused_answer.result (certified_end q z (Err u))) (Some-same (sym (ap ended_by c.in-Refused.is) ∙ e)) (c.refused_answer.ensures.value q z)
