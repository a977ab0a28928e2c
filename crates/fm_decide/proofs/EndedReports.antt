-- The answers of plans that stop, and of plans that end.
use Rattle.std.proofs.Common.{◌≡◌, ◌∙◌, ℕ, List, [], Option, Some, None, Vec, true, false, Result, Ok, Err, refl, sym, ap, subst}
use Rattle.std.specs.Global.{Global}
use Rattle.std.specs.Prelude.{IfOk, IsSome, option_map}
use Rattle.fm_algebra.specs.Poly.{Some-same}
use Rattle.fm_run.specs.Runs.{FollowsBy, Halt, Halts, halt_of, next_of, ready, ◌>>=◌}
use Rattle.fm_run.specs.declared.stop.Stop.{Stop}
use Rattle.fm_run.specs.declared.task.Stopped.{Stopped}
use Rattle.fm_cert.specs.Lines.{Line}
use Rattle.fm_cert.proofs.LinesWritten.{no_lines}
use Rattle.fm_problem.specs.declared.problem.Problem.{Problem}
use Rattle.fm_problem.specs.declared.query.Query.{Query}
use Rattle.fm_report.specs.Reports.{QueryReport}
use Rattle.fm_plan.specs.Following.{FollowsPlan, unanswered_by}
use Rattle.fm_plan.specs.Queries.{Found}
use Rattle.fm_plan.specs.Tasks.{Plan, Unanswered, stopped}
use Rattle.fm_answers.specs.Answers.{found_report, halted_report}
use Rattle.fm_standard.specs.Small.{AreSmallLines}
use Rattle.fm_certificates.specs.Certificates.{found_claims, found_lines}
use Rattle.fm_certificates.specs.Reports.{certified_answer, certified_end}
use Rattle.fm_writer.specs.Writers.{IsCertificate}
use Rattle.fm_decide.specs.declared.ended.Answer.{Answer}
use Rattle.fm_decide.specs.Given.{IsAnswerOf, report_with}

-- the answer tells this end of a plan, to every query
abbrev pub Tells : Option Unanswered → Answer → Type 0
Tells ended a = (q : Problem) (z : Query) (u : Unanswered) → ended ≡ Some u → IsAnswerOf q z a (certified_end q z (Err u))

module _ (q : Problem) (z : Query) where
  -- an answer with no line under it
  pub without_lines : (a : Answer) (b : QueryReport) → a.certificate.items ≡ [] → report_with z a [] ≡ b → IsAnswerOf q z a b
  unfolding AreSmallLines
  without_lines a b none is = subst (IsAnswerOf q z a) is (record { report = refl; text = none ∙ sym (no_lines q.vars); small = tt })

-- an answer with no line under it, to a query whose plan halts in a task
pub halted_told : (s : Stopped) (stop : Stop) (halt : Halt) (a : Answer) → s.stop ≡ stop → halt_of stop ≡ Some halt → a.certificate.items ≡ []
    → ((z : Query) → report_with z a [] ≡ halted_report z s.task halt) → Tells (unanswered_by s) a
halted_told s stop halt a is h none same = λ q z u e.
    let told : unanswered_by s ≡ Some (stopped s.task halt) = ap (option_map (stopped s.task)) (ap halt_of is ∙ h) in
    without_lines q z a (certified_end q z (Err u)) none (same z ∙ ap (λ (u : Unanswered). certified_end q z (Err u)) (Some-same (sym told ∙ e)))

module _ (q : Problem) (z : Query) where
  -- the text is the certificate of what is found
  abbrev pub Certifies : Found q.ring → Vec ℕ Global → Type 0
  Certifies x text = IsCertificate q.vars (found_claims q z x) text.items

  -- an answer that ends as what is found, with its certificate
  pub certified : (x : Found q.ring) (a : Answer) → ((lines : List Line) → report_with z a lines ≡ record (found_report q z x) { lines = lines }) → Certifies x a.certificate
      → IsAnswerOf q z a (certified_answer q z x)
  unfolding found_lines
  certified x a same h = record { report = same (found_lines q z x); text = h.is; small = h.small }

  module _ (units left : ℕ) where
    -- a plan that stops in its first part
    pub stopped_answered : {A X E : Type 0} (run : Plan A) (f : A → Plan (Found q.ring)) (view : X → A) (stop : Stopped) (result : Result Answer E)
        → FollowsPlan view (Err stop) units left (run units) → IfOk result (λ a. Tells (unanswered_by stop) a) → IfOk result (λ a. IsSome (unanswered_by stop))
        → IfOk result (λ a. IsAnswerOf q z a (certified_end q z ((run >>= f) units).end))
    stopped_answered run f view stop (Err e) follows value halts = tt
    stopped_answered run f view stop (Ok a) follows value halts = by (unanswered_by stop) refl halts follows
      where
        by : (o : Option Unanswered) → unanswered_by stop ≡ o → IsSome o → Halts units left (run units) o → IsAnswerOf q z a (certified_end q z ((run >>= f) units).end)
        by (Some u) is some h = subst (IsAnswerOf q z a) (sym (ap (λ d. certified_end q z (next_of f d.end d.left).end) h)) (value q z u is)
        by None is some h = absurd (let f : false ≡ true = some in cc)

    -- a plan that ends without an answer
    pub whole_stopped : {X E S : Type 0} (run : Plan (Found q.ring)) (view : X → Found q.ring) (told : S → Option Unanswered) (stop : S) (result : Result Answer E)
        → FollowsBy units left (run units) view told (Err stop) → IfOk result (λ a. Tells (told stop) a) → IfOk result (λ a. IsSome (told stop))
        → IfOk result (λ a. IsAnswerOf q z a (certified_end q z (run units).end))
    whole_stopped run view told stop (Err e) follows value halts = tt
    whole_stopped run view told stop (Ok a) follows value halts = by (told stop) refl halts follows
      where
        by : (o : Option Unanswered) → told stop ≡ o → IsSome o → Halts units left (run units) o → IsAnswerOf q z a (certified_end q z (run units).end)
        by (Some u) is some h = subst (IsAnswerOf q z a) (sym (ap (λ d. certified_end q z d.end) h)) (value q z u is)
        by None is some h = absurd (let f : false ≡ true = some in cc)

    -- a plan that comes to its end
    pub whole_answered : (run : Plan (Found q.ring)) (x : Found q.ring) (a : Answer) → IsAnswerOf q z a (certified_answer q z x) → run units ≡ record { end = Ok x; left = left }
        → IsAnswerOf q z a (certified_end q z (run units).end)
    whole_answered run x a is h = subst (IsAnswerOf q z a) (sym (ap (λ d. certified_end q z d.end) h)) is

    -- a plan whose first part finds what is told
    pub first_answered : {A : Type 0} (run : Plan A) (f : A → Found q.ring) (x : A) (a : Answer) → IsAnswerOf q z a (certified_answer q z (f x))
        → run units ≡ record { end = Ok x; left = left } → IsAnswerOf q z a (certified_end q z ((run >>= λ y. ready (f y)) units).end)
    first_answered run f x a is h = subst (IsAnswerOf q z a) (sym (ap (λ d. certified_end q z (next_of (λ y. ready (f y)) d.end d.left).end) h)) is
