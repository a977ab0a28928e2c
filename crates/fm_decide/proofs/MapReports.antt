-- The answers to queries on maps.
use Rattle.std.proofs.Common.{◌≡◌, ℕ, Bool, List, Option, Vec, Result, Ok, sym, ap₂, subst, subst₂, ◌∙◌, ap}
use Rattle.std.specs.Global.{Global}
use Rattle.fm_poly.specs.Polys.{PolyValue}
use Rattle.fm_mat.specs.Matrices.{column_meaning}
use Rattle.fm_syz.specs.Insides.{inside_value}
use Rattle.fm_cert.specs.declared.end.End.TheVariants as ends
use Rattle.fm_cert.specs.Kinds as kinds
use Rattle.fm_cert.specs.Lines.{Line}
use Rattle.fm_problem.specs.declared.problem.Problem.{Problem}
use Rattle.fm_problem.specs.declared.query.Query.{Query}
use Rattle.fm_problem.specs.declared.query.Query as queries
use Rattle.fm_report.specs.Reports.{QueryReport}
use Rattle.fm_plan.specs.Queries.{ask_map, is_yes, onto_of, plan}
use Rattle.fm_answers.specs.Answers.{generators_at, ideal_at}
use Rattle.fm_induced.specs.Joins.{onto_value}
use Rattle.fm_queries.specs.Founds.{FollowsQuery}
use Rattle.fm_queries.specs.Maps.{map_value}
use Rattle.fm_queries.specs.declared.map.Map.{Map}
use Rattle.fm_queries.specs.declared.unanswered.Unanswered.{Unanswered}
use Rattle.fm_certificates.specs.Reports.{certified_report}
use Rattle.fm_decide.specs.declared.ended.Answer.{Answer}
use Rattle.fm_decide.specs.Given.{IsAnswerOf}
use Rattle.fm_decide.proofs.EndedReports.{Certifies, certified, whole_answered}

module _ (q : Problem) (i k j units left : ℕ) where
  abbrev asked : Query
  asked = queries.TheVariants.Map i k j

  pub map_answered : (x : Map) (null one : Bool) (onto : Option ℕ) (text : Vec ℕ Global) → is_yes q.ring (inside_value q.ring x.null) ≡ null
      → is_yes q.ring (inside_value q.ring x.fibre.inside) ≡ one → onto_of q.ring (onto_value q.ring x.onto) ≡ onto
      → (let fs = ideal_at q k in let gs = ideal_at q j in let found = map_value q.ring i fs gs x in Certifies q asked found text
      → plan q.ring (ask_map i fs gs) units ≡ record { end = Ok found; left = left }
      → IsAnswerOf q asked (record { end = ends.Map null one onto; certificate = text }) (certified_report units q asked))
  map_answered x null one onto text n o s h e =
      let fs = ideal_at q k in
      let gs = ideal_at q j in
      let found = map_value q.ring i fs gs x in
      let a : Answer = record { end = ends.Map null one onto; certificate = text } in
      let report : List Line → Bool → Bool → Option ℕ → QueryReport = λ lines n o s. record { question = asked; kind = kinds.Map; values = (n, (o, (s, tt))); lines = lines } in
      whole_answered q asked units left (plan q.ring (ask_map i fs gs)) found a
      (certified q asked found a (λ lines. ap₂ (λ n o. report lines n o onto) (sym n) (sym o)
      ∙ ap (report lines (is_yes q.ring (inside_value q.ring x.null)) (is_yes q.ring (inside_value q.ring x.fibre.inside))) (sym s)) h) e

  -- a call on the generators of the two ideals follows the plan of the query
  pub map_followed : (outer inner : List PolyValue) (old : ℕ) (result : Result Map Unanswered) → outer ≡ generators_at q k → inner ≡ generators_at q j → old ≡ units
      → (let fs = column_meaning q.ring outer in let gs = column_meaning q.ring inner in FollowsQuery (map_value q.ring i fs gs) result old left (plan q.ring (ask_map i fs gs) old))
      → (let fs = ideal_at q k in let gs = ideal_at q j in FollowsQuery (map_value q.ring i fs gs) result units left (plan q.ring (ask_map i fs gs) units))
  map_followed outer inner old result fe ge oe h =
      let from = column_meaning q.ring outer in
      let to = ideal_at q j in
      subst (λ hs. let fs = column_meaning q.ring hs in FollowsQuery (map_value q.ring i fs to) result units left (plan q.ring (ask_map i fs to) units)) fe
      (subst₂ (λ hs u. let gs = column_meaning q.ring hs in FollowsQuery (map_value q.ring i from gs) result u left (plan q.ring (ask_map i from gs) u)) ge oe h)
