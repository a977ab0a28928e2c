-- The answers to queries on membership and on resolutions.
use Rattle.std.proofs.Common.{◌≡◌, ◌∙◌, ◌+◌, ℕ, Bool, List, length, Vec, Result, Ok, Err, sym, ap, subst}
use Rattle.std.specs.Global.{Global}
use Rattle.std.specs.Prelude.{IfOk, IsSome}
use Rattle.fm_algebra.specs.Matrix.{listed}
use Rattle.fm_limit.specs.ResolvedIdeal.{rank}
use Rattle.fm_poly.specs.Polys.{PolyValue, meaning}
use Rattle.fm_poly.specs.declared.ring.Ring.{Ring}
use Rattle.fm_run.specs.Runs.{ready}
use Rattle.fm_run.specs.declared.task.Stopped.{Stopped}
use Rattle.fm_run.specs.declared.task.Side.TheVariants.{Alone}
use Rattle.fm_cert.specs.declared.end.End.TheVariants as ends
use Rattle.fm_cert.specs.Kinds as kinds
use Rattle.fm_cert.specs.Lines.{Line}
use Rattle.fm_problem.specs.declared.problem.Problem.{Problem}
use Rattle.fm_problem.specs.declared.query.Query.{Query}
use Rattle.fm_problem.specs.declared.query.Query as queries
use Rattle.fm_report.specs.Reports.{QueryReport}
use Rattle.fm_plan.specs.Base.{resolution_plan}
use Rattle.fm_plan.specs.Following.{FollowsPlan, unanswered_by}
use Rattle.fm_plan.specs.Queries.{ask_member, found_resolution, is_yes, plan}
use Rattle.fm_plan.specs.Results.{differentials_of}
use Rattle.fm_syz.specs.Insides.{inside_value}
use Rattle.fm_answers.specs.Answers.{ideal_at}
use Rattle.fm_resolve.specs.Memberships.{membership_value}
use Rattle.fm_resolve.specs.Resolutions.{ResolutionValue, resolution_value}
use Rattle.fm_resolve.specs.declared.membership.Membership.{Membership}
use Rattle.fm_certificates.specs.Reports.{certified_report}
use Rattle.fm_decide.specs.declared.ended.Answer.{Answer}
use Rattle.fm_decide.specs.Given.{IsAnswerOf}
use Rattle.fm_decide.proofs.EndedReports.{Certifies, Tells, certified, first_answered, stopped_answered, whole_answered}

-- ---- membership
module _ (q : Problem) (k : ℕ) (f : PolyValue) (units left : ℕ) where
  abbrev member_asked : Query
  member_asked = queries.TheVariants.Member k f

  pub member_answered : (x : Membership) (yes' : Bool) (text : Vec ℕ Global) → is_yes q.ring (inside_value q.ring x.inside) ≡ yes'
      → (let found = membership_value q.ring (ideal_at q k) (meaning q.ring f.terms) x in Certifies q member_asked found text
      → plan q.ring (ask_member (ideal_at q k) (meaning q.ring f.terms)) units ≡ record { end = Ok found; left = left }
      → IsAnswerOf q member_asked (record { end = ends.Member yes'; certificate = text }) (certified_report units q member_asked))
  member_answered x yes' text same h e =
      let found = membership_value q.ring (ideal_at q k) (meaning q.ring f.terms) x in
      let a : Answer = record { end = ends.Member yes'; certificate = text } in
      let report : Bool → List Line → QueryReport = λ y lines. record { question = member_asked; kind = kinds.Member; values = (y, tt); lines = lines } in
      whole_answered q member_asked units left (plan q.ring (ask_member (ideal_at q k) (meaning q.ring f.terms))) found a
      (certified q member_asked found a (λ lines. ap (λ y. report y lines) (sym same)) h) e

-- ---- resolutions
module _ (q : Problem) (i k units left : ℕ) where
  abbrev asked : Query
  asked = queries.TheVariants.Resolution i k

  pub resolution_stopped : {E : Type 0} (stop : Stopped) (result : Result Answer E)
      → FollowsPlan (resolution_value q.ring) (Err stop) units left (resolution_plan q.ring Alone i (ideal_at q k) units)
      → IfOk result (λ a. Tells (unanswered_by stop) a) → IfOk result (λ a. IsSome (unanswered_by stop)) → IfOk result (λ a. IsAnswerOf q asked a (certified_report units q asked))
  unfolding plan
  resolution_stopped stop result follows value halts =
      stopped_answered q asked units left (resolution_plan q.ring Alone i (ideal_at q k)) (λ x. ready (found_resolution i (ideal_at q k) x)) (resolution_value q.ring) stop result follows
      value halts

  pub resolution_answered : (x : ResolutionValue) (ranks text : Vec ℕ Global) → x.first.matrix.ring ≡ q.ring → length x.next ≡ i
      → (let r = x.first.matrix.ring in ranks.items ≡ listed (length x.next + 2) (rank r.prime r.vars (differentials_of r (resolution_value r x))))
      → Certifies q asked (found_resolution i (ideal_at q k) (resolution_value q.ring x)) text
      → resolution_plan q.ring Alone i (ideal_at q k) units ≡ record { end = Ok (resolution_value q.ring x); left = left }
      → IsAnswerOf q asked (record { end = ends.Ranks ranks; certificate = text }) (certified_report units q asked)
  unfolding plan
  resolution_answered x ranks text ring count same h e =
      let is = subst (λ (r : Ring). ranks.items ≡ listed (length x.next + 2) (rank r.prime r.vars (differentials_of r (resolution_value r x)))) ring same
      ∙ ap (λ n. listed (n + 2) (rank q.ring.prime q.ring.vars (differentials_of q.ring (resolution_value q.ring x)))) count in
      let a : Answer = record { end = ends.Ranks ranks; certificate = text } in
      let report : List ℕ → List Line → QueryReport = λ ns lines. record { question = asked; kind = kinds.Ranks; values = (ns, tt); lines = lines } in
      first_answered q asked units left (resolution_plan q.ring Alone i (ideal_at q k)) (found_resolution i (ideal_at q k)) (resolution_value q.ring x) a
      (certified q asked (found_resolution i (ideal_at q k) (resolution_value q.ring x)) a (λ lines. ap (λ ns. report ns lines) is) h) e
