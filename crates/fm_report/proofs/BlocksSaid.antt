-- The block of a query on one ideal is said.
use Rattle.std.proofs.Common.{◌≡◌, ℕ, suc, ◌+◌, ◌^◌, ◌<◌, Bool, true, false, nat_eq, List, [], ◌∷◌, ◌++◌, length, Option, Some, None, option_map, Ok, refl, sym, ap, ap₂, ◌∙◌, subst, arith}
use Rattle.std.proofs.lemmas.Bool.{eq-eqb}
use Rattle.fm_words.specs.Words.{AreNames}
use Rattle.fm_words.specs.Options.{◌>>=◌, where_so}
use Rattle.fm_words.specs.Steps.{place}
use Rattle.fm_problem.specs.Problems.{query_in, ideal_names}
use Rattle.fm_problem.specs.Sound.{IsQueryOf, IsSmallQuery, IsProblem, HasSmallExponents}
use Rattle.fm_problem.specs.declared.problem.Problem.{Problem}
use Rattle.fm_problem.specs.declared.query.Query.{Query}
use Rattle.fm_cert.specs.Fields.{Values}
use Rattle.fm_cert.specs.Kinds.{EndKind, end_row}
use Rattle.fm_cert.specs.Kinds as kinds
use Rattle.fm_cert.specs.Lines.{Line, Question, Row, line_text}
use Rattle.fm_cert.specs.Naming.{Grid, naming_lines, differentials, lifts}
use Rattle.fm_cert.specs.Writable.{AnswersQuery, AreWritableValues}
use Rattle.fm_report.specs.Parts.{Part}
use Rattle.fm_report.specs.Sheets.{Block, Answer, Sheet, new_block, from_result, begin_query, say_answer, is_answer, is_about, with_last, say}
use Rattle.fm_report.specs.Verdicts.{verdict_of, stated}
use Rattle.fm_report.specs.Reading.{stated_by, sheet_after}
use Rattle.fm_cert.specs.Questions.{name_at, question_line}
use Rattle.fm_report.specs.Reports.{QueryReport, says, after, IsWritableAfter, AreWritable, begun, between, IsWritableBlock, block_says}
use Rattle.fm_report.proofs.HeadsRead.{named, question_read, question_writable, ideal_found, ideal_named}
use Rattle.fm_report.proofs.Written.{says_append, after_append, writable_append}
use Rattle.fm_report.proofs.NamingsSaid.{Laid, parts_of, AllGood, GridsGood, AllPut, puts_append, Leads, leads_append, plain_leads, Names, under, names_said, differentials_put, lifts_put}

module _ (q : Problem) (sound : IsProblem q) (small : HasSmallExponents q) (k : ℕ) (few : suc k < 2 ^ 64) (z : Query) (of : IsQueryOf q z) (low : IsSmallQuery z) where
  -- the question has been said, and nothing else
  abbrev asked_sheet : Option Answer → Sheet
  asked_sheet a = record { head = Some (begun q q.ideals); count = suc k; asked = Some z; answer = a; parts = []; finished = []; block = None; identity = [] }

  question_said : say (between q k) (Question (suc k) (question_line q z)) ≡ Some (asked_sheet None)
  unfolding say between
  question_said =
      ap (λ (t : Bool). where_so t (option_map (begin_query (between q k) (suc k)) (from_result (query_in (begun q q.ideals) (question_line q z))))) (eq-eqb (suc k) (suc k) refl)
      ∙ ap (λ r. option_map (begin_query (between q k) (suc k)) (from_result r)) (question_read q sound small z of low)

  names_are : AreNames q.vars
  names_are = named q sound small

  question_after : IsWritableAfter q.vars (between q k) (Question (suc k) (question_line q z))
  unfolding between line_text
  question_after = record { named = names_are; listed = sound.bounded.named; printed = refl; writable = (few, question_writable q sound small z of low); next = asked_sheet None; said = question_said }

  done_said : (s : Sheet) → s.head ≡ Some (begun q q.ideals) → s.count ≡ suc k → s.asked ≡ Some z → say s (Row kinds.Done (suc k, tt)) ≡ Some (between q (suc k))
  unfolding say between
  done_said s head count asked =
      ap (λ n. where_so (nat_eq (suc k) n) (s.asked >>= λ z. Some (record { head = s.head; count = n; asked = None; answer = None; parts = []; finished = []; block = None; identity = [] }))) count
      ∙ ap₂ (λ (t : Bool) o. where_so t (o >>= λ z. Some (record { head = s.head; count = suc k; asked = None; answer = None; parts = []; finished = []; block = None; identity = [] }))) (eq-eqb (suc k) (suc k) refl) asked
      ∙ ap (λ o. Some (record { head = o; count = suc k; asked = None; answer = None; parts = []; finished = []; block = None; identity = [] })) head

  -- ---- an unanswered query
  module _ (e : EndKind) (values : Values (end_row e)) (no_answer : is_answer e ≡ false) (answers : AnswersQuery (Some z) (kinds.Ended e)) (writable : AreWritableValues q.ring (end_row e) values) where
    end_said : say (asked_sheet None) (Row (kinds.Ended e) values) ≡ Some (asked_sheet None)
    unfolding say
    end_said = ap (λ (t : Bool). Rattle.std.specs.Prelude.if◌then◌else◌ t (say_answer (asked_sheet None) (record { kind = e; values = values })) (Some (asked_sheet None))) no_answer

    unanswered : QueryReport
    unanswered = record { question = z; kind = e; values = values; lines = [] }

    pub unanswered_writable : IsWritableBlock q k (record { question = z; kind = e; values = values; lines = [] })
    unanswered_writable = record {
      lines = (
        question_after,
        subst (λ o. AreWritable q.vars (sheet_after (between q k) o) (Row (kinds.Ended e) values ∷ Row kinds.Done (suc k, tt) ∷ [])) (sym question_said) (
          end_after,
          subst (λ o. AreWritable q.vars (sheet_after (asked_sheet None) o) (Row kinds.Done (suc k, tt) ∷ [])) (sym end_said) (done_after, tt),
        ),
      );
      ends = ap (λ o. after (sheet_after (between q k) o) (Row (kinds.Ended e) values ∷ Row kinds.Done (suc k, tt) ∷ [])) question_said
          ∙ ap (λ o. after (sheet_after (asked_sheet None) o) (Row kinds.Done (suc k, tt) ∷ [])) end_said
          ∙ ap (sheet_after (asked_sheet None)) (done_said (asked_sheet None) refl refl refl);
    }
      where
        end_after : IsWritableAfter q.vars (asked_sheet None) (Row (kinds.Ended e) values)
        end_after = record { named = names_are; listed = sound.bounded.named; printed = refl; writable = (answers, writable); next = asked_sheet None; said = end_said }

        done_after : IsWritableAfter q.vars (asked_sheet None) (Row kinds.Done (suc k, tt))
        done_after = record { named = names_are; listed = sound.bounded.named; printed = refl; writable = (tt, (few, tt)); next = between q (suc k); said = done_said (asked_sheet None) refl refl refl }

    pub unanswered_says : block_says q k (record { question = z; kind = e; values = values; lines = [] }) ≡ []
    unanswered_says =
        ap (λ o. says (sheet_after (between q k) o) (Row (kinds.Ended e) values ∷ Row kinds.Done (suc k, tt) ∷ [])) question_said
        ∙ ap (λ o. says (sheet_after (asked_sheet None) o) (Row kinds.Done (suc k, tt) ∷ [])) end_said

  -- ---- an answered query, whose lines lead from nothing to what is laid down at its end
  abbrev pub nothing_laid : Laid
  nothing_laid = record { finished = []; block = None; identity = [] }

  module _ (e : EndKind) (values : Values (end_row e)) (yes_answer : is_answer e ≡ true) (answers : AnswersQuery (Some z) (kinds.Ended e)) (writable : AreWritableValues q.ring (end_row e) values) where
    abbrev answer : Answer
    answer = record { kind = e; values = values }

    abbrev sheet : List Grid → Laid → Sheet
    sheet gs d = under q (named q sound small) sound.bounded.named (suc k) z (record { kind = e; values = values }) (parts_of gs) d

    abbrev pub BlockLeads : List Grid → Laid → List Line → List Grid → Laid → Type 0
    BlockLeads gs c ls hs d = Leads q (named q sound small) sound.bounded.named (suc k) z (record { kind = e; values = values }) gs c ls hs d

    answer_said : say (asked_sheet None) (Row (kinds.Ended e) values) ≡ Some (sheet [] nothing_laid)
    unfolding say under
    answer_said = ap (λ (t : Bool). Rattle.std.specs.Prelude.if◌then◌else◌ t (say_answer (asked_sheet None) (record { kind = e; values = values })) (Some (asked_sheet None))) yes_answer

    answer_after : IsWritableAfter q.vars (asked_sheet None) (Row (kinds.Ended e) values)
    answer_after = record { named = names_are; listed = sound.bounded.named; printed = refl; writable = (answers, writable); next = sheet [] nothing_laid; said = answer_said }

    placed : (m : ℕ) → m < length q.ideals → place 0 (name_at q m) (ideal_names (begun q q.ideals)) ≡ Some m
    placed m there = by (place 0 (name_at q m) (ideal_names (begun q q.ideals))) (ideal_found q sound small m there)
      where
        by : (o : Option ℕ) → Rattle.fm_words.specs.Steps.or_fault Rattle.fm_problem.specs.declared.fault_kind.FaultKind.TheVariants.UnknownName o ≡ Ok m → o ≡ Some m
        by None h = absurd (cc)
        by (Some n) h = ap Some (Rattle.fm_words.proofs.FirstFaults.same_ok h)

    datum_said : (c : Laid) (m i : ℕ) → m < length q.ideals → is_about z (with_last c.finished c.block) m i ≡ true → (ps : List Part)
        → say (under q (named q sound small) sound.bounded.named (suc k) z (record { kind = e; values = values }) ps c) (Row kinds.Datum (name_at q m, (i, tt)))
        ≡ Some (under q (named q sound small) sound.bounded.named (suc k) z (record { kind = e; values = values }) ps (record { finished = with_last c.finished c.block; block = Some (new_block m i); identity = c.identity }))
    unfolding say under
    datum_said c m i there about ps =
        ap (λ o. o >>= λ n. where_so (is_about z (with_last c.finished c.block) n i) (Some (record (under q (named q sound small) sound.bounded.named (suc k) z answer ps c) { finished = with_last c.finished c.block; block = Some (new_block n i) }))) (placed m there)
        ∙ ap (λ (t : Bool). where_so t (Some (record (under q (named q sound small) sound.bounded.named (suc k) z answer ps c) { finished = with_last c.finished c.block; block = Some (new_block m i) }))) about

    -- `datum NAME DEGREE` begins a block
    pub datum_leads : (gs : List Grid) (c : Laid) (m i : ℕ) → AllGood q (named q sound small) sound.bounded.named gs → m < length q.ideals → i < 2 ^ 64 → is_about z (with_last c.finished c.block) m i ≡ true
        → BlockLeads gs c (Row kinds.Datum (name_at q m, (i, tt)) ∷ []) gs (record { finished = with_last c.finished c.block; block = Some (new_block m i); identity = c.identity })
    datum_leads gs c m i good there degree about =
        plain_leads q (named q sound small) sound.bounded.named (suc k) z (record { kind = e; values = values }) gs c (record { finished = with_last c.finished c.block; block = Some (new_block m i); identity = c.identity })
        (Row kinds.Datum (name_at q m, (i, tt))) good (tt, (ideal_named q sound small m there, (degree, tt))) (datum_said c m i there about) (λ s. refl)

    module _ (body : List Line) (gs : List Grid) (d : Laid) (led : BlockLeads [] nothing_laid body gs d) where
      last : Sheet
      last = sheet gs d

      done_last : say (sheet gs d) (Row kinds.Done (suc k, tt)) ≡ Some (between q (suc k))
      unfolding under
      done_last = done_said (sheet gs d) refl refl refl

      done_after : IsWritableAfter q.vars (sheet gs d) (Row kinds.Done (suc k, tt))
      unfolding under
      done_after = record { named = names_are; listed = sound.bounded.named; printed = refl; writable = (tt, (few, tt)); next = between q (suc k); said = done_last }

      abbrev rest : List Line
      rest = body ++ Row kinds.Done (suc k, tt) ∷ []

      abbrev begun_sheet : Sheet
      begun_sheet = sheet [] nothing_laid

      rest_writable : AreWritable q.vars begun_sheet rest
      rest_writable =
          writable_append q.vars begun_sheet body (Row kinds.Done (suc k, tt) ∷ []) led.writable (subst (λ s. AreWritable q.vars s (Row kinds.Done (suc k, tt) ∷ [])) (sym led.ends) (done_after, tt))

      rest_ends : after begun_sheet rest ≡ between q (suc k)
      rest_ends = after_append begun_sheet body (Row kinds.Done (suc k, tt) ∷ []) ∙ ap (λ s. after s (Row kinds.Done (suc k, tt) ∷ [])) led.ends ∙ ap (sheet_after (sheet gs d)) done_last

      stated_last : stated_by (sheet gs d) (Row kinds.Done (suc k, tt)) ≡ stated q.ring (verdict_of q.ring q.ideals z e values (with_last d.finished d.block) d.identity) ∷ []
      unfolding under
      stated_last = refl

      rest_says : says begun_sheet rest ≡ stated q.ring (verdict_of q.ring q.ideals z e values (with_last d.finished d.block) d.identity) ∷ []
      rest_says =
          says_append begun_sheet body (Row kinds.Done (suc k, tt) ∷ []) ∙ ap₂ (λ u s. u ++ says s (Row kinds.Done (suc k, tt) ∷ [])) led.silent led.ends ∙ ap (λ u. u ++ []) stated_last

      -- a block of these lines can be written
      pub body_writable : IsWritableBlock q k (record { question = z; kind = e; values = values; lines = body })
      body_writable = record {
        lines = (
          question_after,
          subst (λ o. AreWritable q.vars (sheet_after (between q k) o) (Row (kinds.Ended e) values ∷ rest)) (sym question_said)
              (answer_after, subst (λ o. AreWritable q.vars (sheet_after (asked_sheet None) o) rest) (sym answer_said) rest_writable),
        );
        ends = ap (λ o. after (sheet_after (between q k) o) (Row (kinds.Ended e) values ∷ rest)) question_said ∙ ap (λ o. after (sheet_after (asked_sheet None) o) rest) answer_said ∙ rest_ends;
      }

      -- what it says: the verdict of its answer
      pub body_says : block_says q k (record { question = z; kind = e; values = values; lines = body }) ≡ stated q.ring (verdict_of q.ring q.ideals z e values (with_last d.finished d.block) d.identity) ∷ []
      body_says = ap (λ o. says (sheet_after (between q k) o) (Row (kinds.Ended e) values ∷ rest)) question_said ∙ ap (λ o. says (sheet_after (asked_sheet None) o) rest) answer_said ∙ rest_says

    -- ---- a resolution and its lift in one block
    module _ (m i : ℕ) (there : m < length q.ideals) (degree : i < 2 ^ 64) (about : is_about z [] m i ≡ true) (ds ts : List Grid)
        (good : GridsGood q (named q sound small) sound.bounded.named (differentials 1 ds ++ lifts 0 ts)) (count : length (differentials 1 ds ++ lifts 0 ts) + 1 < 2 ^ 64) (few_ds : 1 + length ds < 2 ^ 64) (few_ts : length ts < 2 ^ 64) where
      -- the matrices that stand under the answer
      abbrev pub answer_block : Block
      answer_block = record { ideal = m; degree = i; differentials = parts_of ds; lift = parts_of ts; cocycles = []; kernels = []; morphism = [] }

      abbrev pub answer_report : QueryReport
      answer_report = record { question = z; kind = e; values = values; lines = Row kinds.Datum (name_at q m, (i, tt)) ∷ naming_lines q.vars (differentials 1 ds ++ lifts 0 ts) [] }

      abbrev at : Block → Laid
      at b = record { finished = []; block = Some b; identity = [] }

      put : AllPut q (named q sound small) sound.bounded.named (suc k) z (record { kind = e; values = values }) (differentials 1 ds ++ lifts 0 ts) (at (new_block m i)) (at answer_block)
      unfolding new_block
      put = puts_append q (named q sound small) sound.bounded.named (suc k) z (record { kind = e; values = values }) (differentials 1 ds) (lifts 0 ts) (at (new_block m i)) (at (record answer_block { lift = [] })) (at answer_block)
          (differentials_put q (named q sound small) sound.bounded.named (suc k) z (record { kind = e; values = values }) [] [] 1 ds (new_block m i) refl few_ds)
          (lifts_put q (named q sound small) sound.bounded.named (suc k) z (record { kind = e; values = values }) [] [] 0 ts (record answer_block { lift = [] }) refl (omega (arith, few_ts)))

      names : Names q (named q sound small) sound.bounded.named (suc k) z (record { kind = e; values = values }) [] (differentials 1 ds ++ lifts 0 ts) (at (new_block m i)) (at answer_block)
      names = names_said q (named q sound small) sound.bounded.named (suc k) z (record { kind = e; values = values }) [] (differentials 1 ds ++ lifts 0 ts) (at (new_block m i)) (at answer_block) tt good (omega (arith, count)) put

      led_there : BlockLeads [] nothing_laid (Row kinds.Datum (name_at q m, (i, tt)) ∷ naming_lines q.vars (differentials 1 ds ++ lifts 0 ts) []) names.grids (at answer_block)
      led_there = leads_append q (named q sound small) sound.bounded.named (suc k) z (record { kind = e; values = values }) [] [] names.grids nothing_laid (at (new_block m i)) (at answer_block)
          (Row kinds.Datum (name_at q m, (i, tt)) ∷ []) (naming_lines q.vars (differentials 1 ds ++ lifts 0 ts) []) (datum_leads [] nothing_laid m i tt there degree about) names.leads

      pub answer_writable : IsWritableBlock q k answer_report
      answer_writable = body_writable (Row kinds.Datum (name_at q m, (i, tt)) ∷ naming_lines q.vars (differentials 1 ds ++ lifts 0 ts) []) names.grids (at answer_block) led_there

      -- what the block says: the verdict of its answer
      pub answer_says : block_says q k answer_report ≡ stated q.ring (verdict_of q.ring q.ideals z e values (answer_block ∷ []) []) ∷ []
      answer_says = body_says (Row kinds.Datum (name_at q m, (i, tt)) ∷ naming_lines q.vars (differentials 1 ds ++ lifts 0 ts) []) names.grids (at answer_block) led_there
