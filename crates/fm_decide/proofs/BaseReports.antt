-- The answers to queries on the limit.
use Rattle.std.proofs.Common.{◌≡◌, ◌∙◌, ◌+◌, ◌<◌, ◌^◌, ℕ, Bool, List, length, Option, Vec, Result, Ok, Err, sym, ap, ap₂, arith}
use Rattle.std.specs.Global.{Global}
use Rattle.std.specs.Prelude.{IfOk, IfSome, IsSome}
use Rattle.std.proofs.lemmas.List.{length-map}
use Rattle.fm_limit.specs.Facts.{first_entries}
use Rattle.fm_poly.specs.Polys.{PolyValue, meaning}
use Rattle.fm_poly.specs.declared.ring.Ring.{Ring}
use Rattle.fm_run.specs.Runs.{ready}
use Rattle.fm_run.specs.declared.task.Stopped.{Stopped}
use Rattle.fm_run.specs.declared.task.Side.TheVariants.{Alone}
use Rattle.fm_mat.specs.Matrices.{MatrixValue, column_meaning, matrix_meaning}
use Rattle.fm_cert.specs.declared.end.End.TheVariants as ends
use Rattle.fm_cert.specs.Kinds as kinds
use Rattle.fm_cert.specs.Lines.{Line}
use Rattle.fm_problem.specs.declared.problem.Problem.{Problem}
use Rattle.fm_problem.specs.declared.query.Query.{Query}
use Rattle.fm_problem.specs.declared.query.Query as queries
use Rattle.fm_report.specs.Reports.{QueryReport}
use Rattle.fm_plan.specs.Following.{FollowsPlan, unanswered_by}
use Rattle.fm_plan.specs.Queries.{ask_class, ask_invert, ask_support, ask_zero, base_plan, found_root, is_yes, plan, power_of, stage_of}
use Rattle.fm_plan.specs.Sizes.{IsKilledAtMost}
use Rattle.fm_plan.proofs.SizesOfMaps.{plan_sizes}
use Rattle.fm_syz.specs.Insides.{inside_value}
use Rattle.fm_answers.specs.Answers.{generators_at, ideal_at}
use Rattle.fm_answers.specs.Printed.{printed_vector}
use Rattle.fm_ext.specs.Exts.{cocycles_matrix}
use Rattle.fm_chain.specs.Chains.{outside_value}
use Rattle.fm_chain.specs.Stages.{killed_value}
use Rattle.fm_chain.specs.declared.stages.Killed.{Killed}
use Rattle.fm_chain.specs.declared.stages.Killed.TheVariants as kills
use Rattle.fm_support.specs.Inverting.{inverted_value}
use Rattle.fm_queries.specs.Bases.{BaseValue, base_meaning}
use Rattle.fm_queries.specs.Founds.{class_value, invert_value, support_value, zero_value}
use Rattle.fm_queries.specs.declared.class.Class.{Class}
use Rattle.fm_queries.specs.declared.invert.Inverting.{Inverting}
use Rattle.fm_queries.specs.declared.zero.Zero.{Zero}
use Rattle.fm_queries.specs.declared.support.Support.{Support}
use Rattle.fm_certificates.specs.Reports.{certified_report}
use Rattle.fm_decide.specs.declared.ended.Answer.{Answer}
use Rattle.fm_decide.specs.Given.{IsAnswerOf}
use Rattle.fm_decide.proofs.EndedReports.{Certifies, Tells, certified, first_answered, stopped_answered, whole_answered}

module _ (q : Problem) (i k units left : ℕ) where
  stable_are : (b : BaseValue) (stable : ℕ) → stable ≡ length b.chain.growth → stable ≡ length (base_meaning q.ring b).chain.growth
  stable_are b stable e = e ∙ sym (length-map b.chain.growth outside_value)

  -- ---- zero
  abbrev zero_asked : Query
  zero_asked = queries.TheVariants.Zero i k

  pub zero_answered : (x : Zero) (whole : Bool) (stable : ℕ) (text : Vec ℕ Global) → is_yes q.ring (inside_value q.ring x.whole) ≡ whole → stable ≡ length x.base.chain.growth
      → (let found = zero_value q.ring i (ideal_at q k) x in Certifies q zero_asked found text
      → plan q.ring (ask_zero i (ideal_at q k)) units ≡ record { end = Ok found; left = left }
      → IsAnswerOf q zero_asked (record { end = ends.Zero whole stable; certificate = text }) (certified_report units q zero_asked))
  zero_answered x whole stable text w s h e =
      let found = zero_value q.ring i (ideal_at q k) x in
      let a : Answer = record { end = ends.Zero whole stable; certificate = text } in
      let report : List Line → Bool → ℕ → QueryReport = λ lines y n. record { question = zero_asked; kind = kinds.Zero; values = (y, (n, tt)); lines = lines } in
      whole_answered q zero_asked units left (plan q.ring (ask_zero i (ideal_at q k))) found a
      (certified q zero_asked found a (λ lines. ap₂ (report lines) (sym w) (stable_are x.base stable s)) h) e

  -- ---- root
  abbrev root_asked : Query
  root_asked = queries.TheVariants.Root i k

  pub root_stopped : {E : Type 0} (stop : Stopped) (result : Result Answer E)
      → FollowsPlan {X = BaseValue} (base_meaning q.ring) (Err stop) units left (base_plan q.ring Alone i (ideal_at q k) units)
      → IfOk result (λ a. Tells (unanswered_by stop) a) → IfOk result (λ a. IsSome (unanswered_by stop))
      → IfOk result (λ a. IsAnswerOf q root_asked a (certified_report units q root_asked))
  unfolding plan
  root_stopped stop result follows value halts =
      stopped_answered q root_asked units left (base_plan q.ring Alone i (ideal_at q k)) (λ b. ready (found_root i (ideal_at q k) b)) (base_meaning q.ring) stop result follows value halts

  pub root_answered : (b : BaseValue) (rank stable : ℕ) (text : Vec ℕ Global) → rank ≡ length (cocycles_matrix b.ext).columns → stable ≡ length b.chain.growth
      → Certifies q root_asked (found_root i (ideal_at q k) (base_meaning q.ring b)) text
      → base_plan q.ring Alone i (ideal_at q k) units ≡ record { end = Ok (base_meaning q.ring b); left = left }
      → IsAnswerOf q root_asked (record { end = ends.Root rank stable; certificate = text }) (certified_report units q root_asked)
  unfolding plan
  root_answered b rank stable text n s h e =
      let found = found_root i (ideal_at q k) (base_meaning q.ring b) in
      let a : Answer = record { end = ends.Root rank stable; certificate = text } in
      let report : List Line → ℕ → ℕ → QueryReport = λ lines n s. record { question = root_asked; kind = kinds.Root; values = (n, (s, tt)); lines = lines } in
      first_answered q root_asked units left (base_plan q.ring Alone i (ideal_at q k)) (found_root i (ideal_at q k)) (base_meaning q.ring b) a
      (certified q root_asked found a (λ lines. ap₂ (report lines) (n ∙ sym (length-map (cocycles_matrix b.ext).columns (column_meaning q.ring))) (stable_are b stable s)) h) e

  -- ---- support
  abbrev support_asked : Query
  support_asked = queries.TheVariants.Support i k

  pub support_answered : (x : Support) (row : MatrixValue) (ideal : Vec PolyValue Global) (text : Vec ℕ Global) → row ≡ x.annihilator.generators.graph.matrix
      → ideal.items ≡ printed_vector q.ring (first_entries q.ring.prime q.ring.vars (matrix_meaning q.ring row))
      → (let found = support_value q.ring i (ideal_at q k) x in Certifies q support_asked found text
      → plan q.ring (ask_support i (ideal_at q k)) units ≡ record { end = Ok found; left = left }
      → IsAnswerOf q support_asked (record { end = ends.Support ideal; certificate = text }) (certified_report units q support_asked))
  support_answered x row ideal text m same h e =
      let found = support_value q.ring i (ideal_at q k) x in
      let a : Answer = record { end = ends.Support ideal; certificate = text } in
      let report : List Line → List PolyValue → QueryReport = λ lines fs. record { question = support_asked; kind = kinds.Support; values = (fs, tt); lines = lines } in
      whole_answered q support_asked units left (plan q.ring (ask_support i (ideal_at q k))) found a
      (certified q support_asked found a
      (λ lines. ap (report lines) (same ∙ ap (λ (m : MatrixValue). printed_vector q.ring (first_entries q.ring.prime q.ring.vars (matrix_meaning q.ring m))) m)) h) e

  -- ---- invert
  module _ (f : PolyValue) (x : Inverting) where
    abbrev invert_asked : Query
    invert_asked = queries.TheVariants.Invert i k f

    pub invert_answered : (power : Option ℕ) (text : Vec ℕ Global) → power_of q.ring (inverted_value q.ring x.inverted) ≡ power
        → (let g = meaning q.ring f.terms in let found = invert_value q.ring i (ideal_at q k) g x in Certifies q invert_asked found text
        → plan q.ring (ask_invert i (ideal_at q k) g) units ≡ record { end = Ok found; left = left }
        → IsAnswerOf q invert_asked (record { end = ends.Invert power; certificate = text }) (certified_report units q invert_asked))
    invert_answered power text p h e =
        let g = meaning q.ring f.terms in
        let found = invert_value q.ring i (ideal_at q k) g x in
        let a : Answer = record { end = ends.Invert power; certificate = text } in
        let report : List Line → Option ℕ → QueryReport = λ lines n. record { question = invert_asked; kind = kinds.Invert; values = (n, tt); lines = lines } in
        whole_answered q invert_asked units left (plan q.ring (ask_invert i (ideal_at q k) g)) found a (certified q invert_asked found a (λ lines. ap (report lines) (sym p)) h) e

  -- ---- class
  module _ (e : ℕ) (z : List PolyValue) (x : Class) (r : Ring) (ring : r ≡ q.ring) where
    abbrev class_asked : Query
    class_asked = queries.TheVariants.Class i k e z

    pub class_answered : (stage : Option ℕ) (text : Vec ℕ Global) → stage_of r e (killed_value r x.killed) ≡ stage
        → (let c = column_meaning q.ring z in let found = class_value q.ring i (ideal_at q k) e c x in Certifies q class_asked found text
        → plan q.ring (ask_class i (ideal_at q k) e c) units ≡ record { end = Ok found; left = left }
        → IsAnswerOf q class_asked (record { end = ends.Class stage; certificate = text }) (certified_report units q class_asked))
    class_answered stage text s h ends' =
        let c = column_meaning q.ring z in
        let found = class_value q.ring i (ideal_at q k) e c x in
        let a : Answer = record { end = ends.Class stage; certificate = text } in
        let report : List Line → Option ℕ → QueryReport = λ lines n. record { question = class_asked; kind = kinds.Class; values = (n, tt); lines = lines } in
        whole_answered q class_asked units left (plan q.ring (ask_class i (ideal_at q k) e c)) found a
        (certified q class_asked found a (λ lines. ap (report lines) (sym s ∙ ap (λ (r : Ring). stage_of r e (killed_value r x.killed)) ring)) h) ends'

    -- a stage is at most the units and the size of what is asked
    pub stage_fits : units < 2 ^ 32 → i < 2 ^ 8 → e < 2 ^ 8 → length (generators_at q k) + 1 < 2 ^ 32
        → (let c = column_meaning q.ring z in plan q.ring (ask_class i (ideal_at q k) e c) units ≡ record { end = Ok (class_value q.ring i (ideal_at q k) e c x); left = left })
        → IfSome (stage_of r e (killed_value r x.killed)) (λ s. s < 2 ^ 64)
    stage_fits enough degree low few h =
        let c = column_meaning q.ring z in
        by x.killed (plan_sizes q.ring (ask_class i (ideal_at q k) e c) units left (class_value q.ring i (ideal_at q k) e c x) h).2
      where
        by : (y : Killed) → IsKilledAtMost q.ring (units + (i + 2 + length (ideal_at q k))) (killed_value q.ring y) → IfSome (stage_of r e (killed_value r y)) (λ s. s < 2 ^ 64)
        by (kills.At moves w before) small = let most = small.0 in omega (arith, most, enough, degree, low, few, length-map (generators_at q k) (λ (f : PolyValue). meaning q.ring f.terms))
        by (kills.Never before) small = tt
