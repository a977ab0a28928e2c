-- The answers to queries on Ext.
use Rattle.std.proofs.Common.{◌≡◌, ◌∙◌, ℕ, List, length, Vec, Result, Ok, Err, sym, ap, ap₂, subst}
use Rattle.std.specs.Global.{Global}
use Rattle.std.specs.Prelude.{IfOk, IsSome}
use Rattle.std.proofs.lemmas.List.{length-map}
use Rattle.fm_poly.specs.declared.ring.Ring.{Ring}
use Rattle.fm_run.specs.Runs.{next_of, ready, ◌>>=◌}
use Rattle.fm_run.specs.declared.task.Stopped.{Stopped}
use Rattle.fm_run.specs.declared.task.Side.TheVariants.{Alone}
use Rattle.fm_mat.specs.Matrices.{column_meaning}
use Rattle.fm_cert.specs.declared.end.End.TheVariants as ends
use Rattle.fm_cert.specs.Kinds as kinds
use Rattle.fm_cert.specs.Lines.{Line}
use Rattle.fm_problem.specs.declared.problem.Problem.{Problem}
use Rattle.fm_problem.specs.declared.query.Query.{Query}
use Rattle.fm_problem.specs.declared.query.Query as queries
use Rattle.fm_report.specs.Reports.{QueryReport}
use Rattle.fm_plan.specs.Base.{ext_plan, resolution_plan}
use Rattle.fm_plan.specs.Following.{FollowsPlan, unanswered_by}
use Rattle.fm_plan.specs.Queries.{Found, found_ext, plan}
use Rattle.fm_plan.specs.Results.{Resolution}
use Rattle.fm_plan.specs.Tasks.{Plan}
use Rattle.fm_answers.specs.Answers.{ideal_at}
use Rattle.fm_resolve.specs.Resolutions.{ResolutionValue, resolution_value}
use Rattle.fm_ext.specs.Exts.{ExtValue, cocycles_matrix, ext_meaning, relations_matrix}
use Rattle.fm_certificates.specs.Reports.{certified_end, certified_report}
use Rattle.fm_decide.specs.declared.ended.Answer.{Answer}
use Rattle.fm_decide.specs.Given.{IsAnswerOf}
use Rattle.fm_decide.proofs.EndedReports.{Certifies, Tells, certified, first_answered, stopped_answered}

module _ (q : Problem) (i k units : ℕ) where
  abbrev asked : Query
  asked = queries.TheVariants.ExtOf i k

  abbrev after : Resolution q.ring → Plan (Found q.ring)
  after x = ext_plan q.ring Alone i x >>= λ y. ready (found_ext i (ideal_at q k) y)

  pub resolution_stopped : {E : Type 0} (left : ℕ) (stop : Stopped) (result : Result Answer E)
      → FollowsPlan {X = ResolutionValue} (resolution_value q.ring) (Err stop) units left (resolution_plan q.ring Alone i (ideal_at q k) units)
      → IfOk result (λ a. Tells (unanswered_by stop) a) → IfOk result (λ a. IsSome (unanswered_by stop)) → IfOk result (λ a. IsAnswerOf q asked a (certified_report units q asked))
  unfolding plan
  resolution_stopped left stop result follows value halts =
      stopped_answered q asked units left (resolution_plan q.ring Alone i (ideal_at q k)) after (resolution_value q.ring) stop result follows value halts

  module _ (x : ResolutionValue) (mid left : ℕ) (ring : x.first.matrix.ring ≡ q.ring)
      (first : resolution_plan q.ring Alone i (ideal_at q k) units ≡ record { end = Ok (resolution_value q.ring x); left = mid }) where
    -- the report is that of what follows the resolution
    rest_is : certified_end q asked (after (resolution_value q.ring x) mid).end ≡ certified_report units q asked
    unfolding plan
    rest_is = sym (ap (λ d. certified_end q asked (next_of after d.end d.left).end) first)

    pub ext_stopped : {E : Type 0} (stop : Stopped) (result : Result Answer E)
        → (let r = x.first.matrix.ring in FollowsPlan {X = ExtValue} (ext_meaning r) (Err stop) mid left (ext_plan r Alone i (resolution_value r x) mid))
        → IfOk result (λ a. Tells (unanswered_by stop) a) → IfOk result (λ a. IsSome (unanswered_by stop)) → IfOk result (λ a. IsAnswerOf q asked a (certified_report units q asked))
    ext_stopped stop result follows value halts =
        let here = subst (λ (r : Ring). FollowsPlan {X = ExtValue} (ext_meaning r) (Err stop) mid left (ext_plan r Alone i (resolution_value r x) mid)) ring follows in
        subst (λ (b : QueryReport). IfOk result (λ a. IsAnswerOf q asked a b)) rest_is
        (stopped_answered q asked mid left (ext_plan q.ring Alone i (resolution_value q.ring x)) (λ y. ready (found_ext i (ideal_at q k) y)) (ext_meaning q.ring) stop result here value halts)

    pub ext_answered : (y : ExtValue) (g n : ℕ) (text : Vec ℕ Global)
        → (let r = x.first.matrix.ring in ext_plan r Alone i (resolution_value r x) mid ≡ record { end = Ok (ext_meaning r y); left = left })
        → g ≡ length (cocycles_matrix y).columns → n ≡ length (relations_matrix y).columns → Certifies q asked (found_ext i (ideal_at q k) (ext_meaning q.ring y)) text
        → IsAnswerOf q asked (record { end = ends.ExtOf g n; certificate = text }) (certified_report units q asked)
    ext_answered y g n text second eg en h =
        let here = subst (λ (r : Ring). ext_plan r Alone i (resolution_value r x) mid ≡ record { end = Ok (ext_meaning r y); left = left }) ring second in
        let found = found_ext i (ideal_at q k) (ext_meaning q.ring y) in
        let a : Answer = record { end = ends.ExtOf g n; certificate = text } in
        let report : List Line → ℕ → ℕ → QueryReport = λ lines g n. record { question = asked; kind = kinds.ExtOf; values = (g, (n, tt)); lines = lines } in
        subst (IsAnswerOf q asked a) rest_is
        (first_answered q asked mid left (ext_plan q.ring Alone i (resolution_value q.ring x)) (found_ext i (ideal_at q k)) (ext_meaning q.ring y) a
        (certified q asked found a (λ lines. ap₂ (report lines) (eg ∙ sym (length-map (cocycles_matrix y).columns (column_meaning q.ring)))
        (en ∙ sym (length-map (relations_matrix y).columns (column_meaning q.ring)))) h) here)
