-- The blocks of queries that end without an answer, and of answers with matrices of one ideal.
use Rattle.std.proofs.Common.{ℕ, zero, suc, ◌+◌, ◌≡◌, ◌≤◌, ◌<◌, ◌^◌, true, false, List, [], ◌∷◌, All, length, slice_get, Some, None, option_map, refl, sym, ap, ap₂, ◌∙◌, subst, arith}
use Rattle.std.proofs.lemmas.List.{length-map}
use Rattle.std.proofs.lemmas.List.Elements.{All-head, All-tail}
use Rattle.std.proofs.lemmas.Bool.{and_from}
use Rattle.fm_limit.specs.Verdicts.{Verdict}
use Rattle.fm_poly.specs.declared.ring.Ring.{Ring}
use Rattle.fm_poly.specs.Polys.{PolyValue, meaning}
use Rattle.fm_text.specs.SumOfTerms.{IsPolynomialOf}
use Rattle.fm_words.specs.Words.{AreNames}
use Rattle.fm_graphs.specs.Within.{are_within, is_within}
use Rattle.fm_graphs.proofs.WithinPolynomials.{read_within}
use Rattle.fm_run.specs.Runs.{Halt, Budget, Exponent}
use Rattle.fm_run.specs.declared.task.Task.{Task}
use Rattle.fm_problem.specs.declared.problem.Problem.{Problem}
use Rattle.fm_problem.specs.declared.ideal.Ideal as problems
use Rattle.fm_problem.specs.declared.query.Query.{Query}
use Rattle.fm_problem.specs.Sound.{IsIdealOf, IsQueryOf, IsProblem, AreSmallTerms, AreSmall, AreSmallIdeals, IsSmallQuery, HasSmallExponents}
use Rattle.fm_cert.specs.Fields.{Values}
use Rattle.fm_cert.specs.Kinds.{EndKind, end_row}
use Rattle.fm_cert.specs.Kinds as kinds
use Rattle.fm_cert.specs.Ends.{task_words}
use Rattle.fm_cert.specs.Lines.{Line, Row}
use Rattle.fm_cert.specs.Naming.{Grid, Naming, naming_lines}
use Rattle.fm_cert.specs.Questions.{name_at}
use Rattle.fm_cert.specs.Writable.{AnswersQuery, AreWritableValues}
use Rattle.fm_report.specs.Parts.{meant, part_values}
use Rattle.fm_report.specs.Sheets.{Block, Answer, new_block, is_about, is_answer}
use Rattle.fm_report.specs.Verdicts.{verdict, verdict_of, stated, generators_in, resolved}
use Rattle.fm_report.specs.Holding.{IsHeld, AllHold}
use Rattle.fm_report.specs.Reports.{QueryReport, IsWritableBlock, block_says}
use Rattle.fm_report.proofs.HeadsRead.{named, writable_polynomial}
use Rattle.fm_report.proofs.NamingsSaid.{Laid, GridsGood, AllPut, names_said, leads_append}
use Rattle.fm_report.proofs.BlocksSaid.{BlockLeads, unanswered_writable, unanswered_says, body_writable, body_says, datum_leads}
use Rattle.fm_plan.specs.Results.{Ext}
use Rattle.fm_plan.specs.Results as plan_results
use Rattle.fm_answers.specs.Answers.{generators_of, generators_at, ideal_at, halted_report, block_of}
use Rattle.fm_answers.proofs.SpelledTasks.{task_some, task_spelled}

-- ---- the ideals of a problem
module _ (q : Problem) (sound : IsProblem q) (small : HasSmallExponents q) where
  -- an ideal of the list is sound
  ideal_of_list : (is : List problems.Ideal) (m : ℕ) (a : problems.Ideal) → slice_get is m ≡ Some a → All (IsIdealOf q.ring) is → AreSmallIdeals is
      → IsIdealOf q.ring a × AreSmall a.generators
  ideal_of_list [] m a e all low = absurd (cc)
  ideal_of_list (j ∷ is) zero a e all low =
      subst (λ (x : problems.Ideal). IsIdealOf q.ring x × AreSmall x.generators) (Rattle.fm_algebra.specs.Poly.Some-same e) (All-head (IsIdealOf q.ring) j is all, low.0)
  ideal_of_list (j ∷ is) (suc m) a e all low = ideal_of_list is m a e (All-tail (IsIdealOf q.ring) j is all) low.1

  -- a number within the list has an ideal
  there_is : (is : List problems.Ideal) (m : ℕ) → m < length is → (a : problems.Ideal) × (slice_get is m ≡ Some a)
  there_is [] m h = absurd (omega (arith, h))
  there_is (j ∷ is) zero h = (j, refl)
  there_is (j ∷ is) (suc m) h = there_is is m (omega (arith, h))

  pub polynomial_within : (f : PolyValue) → IsPolynomialOf q.ring f → AreSmallTerms f.terms → is_within q.ring.prime q.ring.vars (meaning q.ring f.terms) ≡ true
  polynomial_within f s l = read_within q.ring f.terms (writable_polynomial q.ring q.vars (named q sound small) sound.bounded.named f s l).within

  pub polynomials_within : (fs : List PolyValue) → All (IsPolynomialOf q.ring) fs → AreSmall fs → are_within q.ring.prime q.ring.vars (meant q.ring fs) ≡ true
  polynomials_within [] s l = refl
  polynomials_within (f ∷ fs) s l =
      and_from _ _ (polynomial_within f (All-head (IsPolynomialOf q.ring) f fs s) l.0) (polynomials_within fs (All-tail (IsPolynomialOf q.ring) f fs s) l.1)

  module _ (m : ℕ) (there : m < length q.ideals) where
    -- what is said of the generators of an ideal
    pub of_there : {A : Type 0} (f : List PolyValue → A) → option_map f (generators_in q.ring q.ideals m) ≡ Some (f (generators_at q m))
    of_there f =
        let a = there_is q.ideals m there in
        ap (λ o. option_map f (option_map (λ (x : problems.Ideal). x.generators) o)) a.1 ∙ ap (λ o. Some (f (generators_of o))) (sym a.1)

    pub generators_there : generators_in q.ring q.ideals m ≡ Some (generators_at q m)
    generators_there =
        let a = there_is q.ideals m there in
        ap (option_map (λ (x : problems.Ideal). x.generators)) a.1 ∙ ap (λ o. Some (generators_of o)) (sym a.1)

    pub ideal_within : are_within q.ring.prime q.ring.vars (ideal_at q m) ≡ true
    ideal_within =
        let a = there_is q.ideals m there in
        let s = ideal_of_list q.ideals m a.0 a.1 sound.ideals small.ideals in
        subst (λ o. are_within q.ring.prime q.ring.vars (meant q.ring (generators_of o)) ≡ true) (sym a.1) (polynomials_within (a.0).generators s.0.of_ring s.1)

    pub ideal_few : length (ideal_at q m) ≤ 64
    ideal_few =
        let a = there_is q.ideals m there in
        let s = ideal_of_list q.ideals m a.0 a.1 sound.ideals small.ideals in
        let few = s.0.few in
        let n = length-map (a.0).generators (λ (f : PolyValue). meaning q.ring f.terms) in
        subst (λ o. length (meant q.ring (generators_of o)) ≤ 64) (sym a.1) (omega (arith, few, n))

-- nothing is laid down
abbrev pub nothing : Laid
nothing = record { finished = []; block = None; identity = [] }

-- what a block of an ideal is resolved by
pub block_resolved : (r : Ring) (fs : List PolyValue) (b : Block) (x : Ext r) → part_values r b.differentials ≡ (plan_results.resolved r (meant r fs) x).differentials
    → part_values r b.lift ≡ x.lift → resolved r fs b ≡ plan_results.resolved r (meant r fs) x
block_resolved r fs b x d t = ap₂ (λ ds ts. record { generators = meant r fs; differentials = ds; lift = ts }) d t

module _ (q : Problem) (sound : IsProblem q) (small : HasSmallExponents q) (k : ℕ) (few : suc k < 2 ^ 64) (z : Query) (of : IsQueryOf q z) (low : IsSmallQuery z) where
  -- a block that can be written and that states what holds
  pub record Good (b : QueryReport) : Type 0 where
    pub writable : IsWritableBlock q k b
    pub holds : AllHold (block_says q k b)

  abbrev pub names_are : AreNames q.vars
  names_are = named q sound small

  -- ---- without an answer
  pub unanswered_good : (e : EndKind) (values : Values (end_row e)) → is_answer e ≡ false → AnswersQuery (Some z) (kinds.Ended e) → AreWritableValues q.ring (end_row e) values
      → Good (record { question = z; kind = e; values = values; lines = [] })
  unanswered_good e values none ans w = record {
    writable = unanswered_writable q sound small k few z of low e values none ans w;
    holds = subst AllHold (sym (unanswered_says q sound small k few z of low e values none ans w)) tt;
  }

  pub halted_good : (task : Task) (halt : Halt) → Good (halted_report z task halt)
  halted_good task Budget = unanswered_good kinds.Budget (task_words task, tt) refl tt ((task_some task, task_spelled task), tt)
  halted_good task Exponent = unanswered_good kinds.Exponents (task_words task, tt) refl tt ((task_some task, task_spelled task), tt)

  -- ---- with an answer
  module _ (e : EndKind) (values : Values (end_row e)) (yes_answer : is_answer e ≡ true) (answers : AnswersQuery (Some z) (kinds.Ended e)) (writable : AreWritableValues q.ring (end_row e) values) where
    -- the lines under it lead to what is laid down, and what it says there holds
    pub body_good : (body : List Line) (gs : List Grid) (d : Laid) → BlockLeads q sound small k few z of low e values yes_answer answers writable [] nothing body gs d → (v : Verdict q.ring.prime q.ring.vars)
        → verdict_of q.ring q.ideals z e values (Rattle.fm_report.specs.Sheets.with_last d.finished d.block) d.identity ≡ Some v → IsHeld (verdict q.ring.prime q.ring.vars v)
        → Good (record { question = z; kind = e; values = values; lines = body })
    body_good body gs d led v is held = record {
      writable = body_writable q sound small k few z of low e values yes_answer answers writable body gs d led;
      holds = subst AllHold
          (sym (body_says q sound small k few z of low e values yes_answer answers writable body gs d led ∙ ap (λ o. stated q.ring o ∷ []) is))
          (held, tt);
    }

    -- ---- matrices of one ideal
    module _ (m i : ℕ) (there : m < length q.ideals) (degree : i < 2 ^ 64) (about : is_about z [] m i ≡ true) (xs : List Naming) (b : Block) (good : GridsGood q names_are sound.bounded.named xs) (count : length xs + 1 < 2 ^ 64) where
      abbrev at : Block → Laid
      at c = record { finished = []; block = Some c; identity = [] }

      pub block_good : AllPut q names_are sound.bounded.named (suc k) z (record { kind = e; values = values }) xs (at (new_block m i)) (at b)
          → (v : Verdict q.ring.prime q.ring.vars) → verdict_of q.ring q.ideals z e values (b ∷ []) [] ≡ Some v → IsHeld (verdict q.ring.prime q.ring.vars v)
          → Good (record { question = z; kind = e; values = values; lines = block_of q m i xs })
      block_good put v is held =
          let a : Answer = record { kind = e; values = values } in
          let names = names_said q names_are sound.bounded.named (suc k) z a [] xs (at (new_block m i)) (at b) tt good (omega (arith, count)) put in
          body_good (block_of q m i xs) names.grids (at b)
          (leads_append q names_are sound.bounded.named (suc k) z a [] [] names.grids nothing (at (new_block m i)) (at b)
          (Row kinds.Datum (name_at q m, (i, tt)) ∷ []) (naming_lines q.vars xs [])
          (datum_leads q sound small k few z of low e values yes_answer answers writable [] nothing m i tt there degree about) names.leads)
          v is held
