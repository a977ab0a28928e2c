use Rattle.std.proofs.Common.{◌∙◌, [], ap, ap₂, sym}
use Rattle.fm_answers.specs.Answers.{refused_report}
use Rattle.fm_cert.specs.declared.end.End.TheVariants as ends
use Rattle.fm_cert.specs.Kinds as kinds
use Rattle.fm_queries.specs.Founds.{refusal_value}
use Rattle.fm_queries.specs.declared.unanswered.Refusal.{Refusal}
use Rattle.fm_report.specs.Reports.{QueryReport}
use Rattle.fm_decide.specs.declared.ended.Answer.{Answer}
use Rattle.fm_decide.proofs.EndedReports.{without_lines}
use Rattle.fm_decide.proofs.ended.refused_answer.Goals as goal

pub returns-in-WrongLength-clause-value : goal.returns-in-WrongLength-clause-value
returns-in-WrongLength-clause-value c = λ q z.
    let a : Answer = record { end = ends.WrongLength c.from.result c.from-in-WrongLength.result; certificate = c.new-certificate.result } in
    without_lines q z a (refused_report z (refusal_value c.args.refusal)) c.new-certificate.ensures.items
    (ap₂ {C = QueryReport} (λ m n. record { question = z; kind = kinds.WrongLength; values = (m, (n, tt)); lines = [] }) c.from.ensures c.from-in-WrongLength.ensures
    ∙ sym (ap (λ (x : Refusal). refused_report z (refusal_value x)) c.in-WrongLength.is))

pub returns-in-NotCocycle-clause-value : goal.returns-in-NotCocycle-clause-value
returns-in-NotCocycle-clause-value c = λ q z.
    let a : Answer = record { end = ends.NotCocycle c.from-in-NotCocycle.result; certificate = c.new-certificate.result } in
    without_lines q z a (refused_report z (refusal_value c.args.refusal)) c.new-certificate.ensures.items
    (ap {B = QueryReport} (λ n. record { question = z; kind = kinds.NotCocycle; values = (n, tt); lines = [] }) c.from-in-NotCocycle.ensures
    ∙ sym (ap (λ (x : Refusal). refused_report z (refusal_value x)) c.in-NotCocycle.is))

pub returns-in-NotContained-clause-value : goal.returns-in-NotContained-clause-value
returns-in-NotContained-clause-value c = λ q z.
    let a : Answer = record { end = ends.NotContained c.from-in-NotContained.result; certificate = c.new-certificate.result } in
    without_lines q z a (refused_report z (refusal_value c.args.refusal)) c.new-certificate.ensures.items
    (ap {B = QueryReport} (λ n. record { question = z; kind = kinds.NotContained; values = (n, tt); lines = [] }) c.from-in-NotContained.ensures
    ∙ sym (ap (λ (x : Refusal). refused_report z (refusal_value x)) c.in-NotContained.is))
