-- The block of a query is said: its question, how it ends, and under an answer the lines of its certificate.
use Rattle.std.proofs.Common.{◌≡◌, ℕ, suc, ◌^◌, ◌<◌, Bool, true, false, nat_eq, if◌then◌else◌, List, [], ◌∷◌, ◌++◌, length, Option, Some, None, option_map, Ok, refl, sym, ap, ap₂, ◌∙◌, subst}
use Rattle.std.proofs.lemmas.Bool.{eq-eqb}
use Rattle.fm_limit.specs.Verdicts.{Verdict}
use Rattle.fm_words.specs.Words.{AreNames}
use Rattle.fm_words.specs.Options.{◌>>=◌, where_so}
use Rattle.fm_words.specs.Steps.{place, or_fault}
use Rattle.fm_words.proofs.FirstFaults.{same_ok}
use Rattle.fm_problem.specs.declared.fault_kind.FaultKind.TheVariants.{UnknownName}
use Rattle.fm_problem.specs.Problems.{query_in, ideal_names}
use Rattle.fm_problem.specs.Sound.{IsQueryOf, IsSmallQuery, IsProblem, HasSmallExponents}
use Rattle.fm_problem.specs.declared.problem.Problem.{Problem}
use Rattle.fm_problem.specs.declared.query.Query.{Query}
use Rattle.fm_cert.specs.Fields.{Values}
use Rattle.fm_cert.specs.Kinds.{EndKind, end_row}
use Rattle.fm_cert.specs.Kinds as kinds
use Rattle.fm_cert.specs.Lines.{Line, Question, Row, line_text}
use Rattle.fm_cert.specs.Questions.{name_at, question_line}
use Rattle.fm_cert.specs.Writable.{AnswersQuery, AreWritableValues}
use Rattle.fm_report.specs.Parts.{Part}
use Rattle.fm_report.specs.Sheets.{Answer, Sheet, new_block, from_result, begin_query, say_answer, is_answer, is_about, with_last, say}
use Rattle.fm_report.specs.Verdicts.{verdict, verdict_of, stated}
use Rattle.fm_report.specs.Reading.{stated_by, sheet_after}
use Rattle.fm_report.specs.Reports.{QueryReport, says, after, IsWritableAfter, AreWritable, begun, between, IsWritableBlock, block_says}
use Rattle.fm_report.specs.Holding.{IsHeld, AllHold}
use Rattle.fm_report.proofs.HeadsRead.{named, question_read, question_writable, ideal_found, ideal_named}
use Rattle.fm_report.proofs.Holding.{all_hold_append}
use Rattle.fm_report.proofs.Written.{says_append, after_append, writable_append}
use Rattle.fm_standard.specs.Small.{AreSmallLines}
use Rattle.fm_standard.specs.Writing.{Claim, bare, plain_claim, certificate_lines}
use Rattle.fm_standard.specs.Said.{AreWritableClaims, Laid, nothing, under, Puts, AllPut, IsCertified, certified}
use Rattle.fm_standard.proofs.Steps.{Leads}
use Rattle.fm_standard.proofs.Shelves.{bare_shelf}
use Rattle.fm_standard.proofs.ClaimsSaid.{claims_said}

module _ (q : Problem) (sound : IsProblem q) (small : HasSmallExponents q) (k : ℕ) (few : suc k < 2 ^ 64) (z : Query) (of : IsQueryOf q z) (low : IsSmallQuery z) where
  -- a block that can be written and that states what holds
  pub record Good (b : QueryReport) : Type 0 where
    pub writable : IsWritableBlock q k b
    pub holds : AllHold (block_says q k b)

  -- the question has been said, and nothing else
  abbrev asked_sheet : Sheet
  asked_sheet = record { head = Some (begun q q.ideals); count = suc k; asked = Some z; answer = None; parts = []; finished = []; block = None; identity = [] }

  question_said : say (between q k) (Question (suc k) (question_line q z)) ≡ Some asked_sheet
  unfolding say between
  question_said =
      ap (λ (t : Bool). where_so t (option_map (begin_query (between q k) (suc k)) (from_result (query_in (begun q q.ideals) (question_line q z))))) (eq-eqb (suc k) (suc k) refl)
      ∙ ap (λ r. option_map (begin_query (between q k) (suc k)) (from_result r)) (question_read q sound small z of low)

  abbrev pub names_are : AreNames q.vars
  names_are = named q sound small

  question_after : IsWritableAfter q.vars (between q k) (Question (suc k) (question_line q z))
  unfolding between line_text
  question_after = record { named = names_are; listed = sound.bounded.named; printed = refl; writable = (few, question_writable q sound small z of low); next = asked_sheet; said = question_said }

  done_said : (s : Sheet) → s.head ≡ Some (begun q q.ideals) → s.count ≡ suc k → s.asked ≡ Some z → say s (Row kinds.Done (suc k, tt)) ≡ Some (between q (suc k))
  unfolding say between
  done_said s head count asked =
      ap (λ n. where_so (nat_eq (suc k) n) (s.asked >>= λ z. Some (record { head = s.head; count = n; asked = None; answer = None; parts = []; finished = []; block = None; identity = [] }))) count
      ∙ ap₂ (λ (t : Bool) o. where_so t (o >>= λ z. Some (record { head = s.head; count = suc k; asked = None; answer = None; parts = []; finished = []; block = None; identity = [] }))) (eq-eqb (suc k) (suc k) refl) asked
      ∙ ap (λ o. Some (record { head = o; count = suc k; asked = None; answer = None; parts = []; finished = []; block = None; identity = [] })) head

  -- what stands after the question leads to the next query
  after_question : (e : EndKind) (values : Values (end_row e)) (body : List Line) (t : Sheet) → IsWritableAfter q.vars asked_sheet (Row (kinds.Ended e) values) → say asked_sheet (Row (kinds.Ended e) values) ≡ Some t
      → AreWritable q.vars t (body ++ Row kinds.Done (suc k, tt) ∷ []) → after t (body ++ Row kinds.Done (suc k, tt) ∷ []) ≡ between q (suc k) → AllHold (says t (body ++ Row kinds.Done (suc k, tt) ∷ []))
      → Good (record { question = z; kind = e; values = values; lines = body })
  after_question e values body t end said w ends held =
      let rest = body ++ Row kinds.Done (suc k, tt) ∷ [] in
      record {
        writable = record {
          lines = (
            question_after,
            subst (λ o. AreWritable q.vars (sheet_after (between q k) o) (Row (kinds.Ended e) values ∷ rest)) (sym question_said)
                (end, subst (λ o. AreWritable q.vars (sheet_after asked_sheet o) rest) (sym said) w),
          );
          ends = ap (λ o. after (sheet_after (between q k) o) (Row (kinds.Ended e) values ∷ rest)) question_said ∙ ap (λ o. after (sheet_after asked_sheet o) rest) said ∙ ends;
        };
        holds = subst AllHold (sym (ap (λ o. says (sheet_after (between q k) o) (Row (kinds.Ended e) values ∷ rest)) question_said ∙ ap (λ o. says (sheet_after asked_sheet o) rest) said)) held;
      }

  -- ---- a query without an answer
  module _ (e : EndKind) (values : Values (end_row e)) (no_answer : is_answer e ≡ false) (answers : AnswersQuery (Some z) (kinds.Ended e)) (writable : AreWritableValues q.ring (end_row e) values) where
    end_said : say asked_sheet (Row (kinds.Ended e) values) ≡ Some asked_sheet
    unfolding say
    end_said = ap (λ (t : Bool). if t then say_answer asked_sheet (record { kind = e; values = values }) else Some asked_sheet) no_answer

    pub unanswered_good : Good (record { question = z; kind = e; values = values; lines = [] })
    unanswered_good =
        let done = done_said asked_sheet refl refl refl in
        after_question e values [] asked_sheet (record { named = names_are; listed = sound.bounded.named; printed = refl; writable = (answers, writable); next = asked_sheet; said = end_said }) end_said
        (record { named = names_are; listed = sound.bounded.named; printed = refl; writable = (tt, (few, tt)); next = between q (suc k); said = done }, tt)
        (ap (sheet_after asked_sheet) done) tt

  -- ---- an answered query, whose lines lead from nothing to what is laid down at its end
  module _ (e : EndKind) (values : Values (end_row e)) (yes_answer : is_answer e ≡ true) (answers : AnswersQuery (Some z) (kinds.Ended e)) (writable : AreWritableValues q.ring (end_row e) values) where
    abbrev pub answer : Answer
    answer = record { kind = e; values = values }

    abbrev sheet : List Part → Laid → Sheet
    sheet ps d = under q (suc k) z (record { kind = e; values = values }) ps d

    -- what claims lay down under the answer
    abbrev pub Lays : List Claim → Laid → Laid → Type 0
    Lays cs c d = AllPut q (suc k) z (record { kind = e; values = values }) cs c d

    abbrev pub LaysOne : Claim → Laid → Laid → Type 0
    LaysOne x c d = Puts q (suc k) z (record { kind = e; values = values }) x c d

    answer_said : say asked_sheet (Row (kinds.Ended e) values) ≡ Some (sheet [] nothing)
    unfolding say under
    answer_said = ap (λ (t : Bool). if t then say_answer asked_sheet (record { kind = e; values = values }) else Some asked_sheet) yes_answer

    answer_after : IsWritableAfter q.vars asked_sheet (Row (kinds.Ended e) values)
    answer_after = record { named = names_are; listed = sound.bounded.named; printed = refl; writable = (answers, writable); next = sheet [] nothing; said = answer_said }

    -- ---- `datum NAME DEGREE` begins a block
    placed : (m : ℕ) → m < length q.ideals → place 0 (name_at q m) (ideal_names (begun q q.ideals)) ≡ Some m
    placed m there = by (place 0 (name_at q m) (ideal_names (begun q q.ideals))) (ideal_found q sound small m there)
      where
        by : (o : Option ℕ) → or_fault UnknownName o ≡ Ok m → o ≡ Some m
        by None h = absurd (cc)
        by (Some n) h = ap Some (same_ok h)

    datum_said : (c : Laid) (m i : ℕ) → m < length q.ideals → is_about z (with_last c.finished c.block) m i ≡ true → (ps : List Part)
        → say (sheet ps c) (Row kinds.Datum (name_at q m, (i, tt))) ≡ Some (sheet ps (record { finished = with_last c.finished c.block; block = Some (new_block m i); identity = c.identity }))
    unfolding say under
    datum_said c m i there about ps =
        ap (λ o. o >>= λ n. where_so (is_about z (with_last c.finished c.block) n i) (Some (record (sheet ps c) { finished = with_last c.finished c.block; block = Some (new_block n i) }))) (placed m there)
        ∙ ap (λ (t : Bool). where_so t (Some (record (sheet ps c) { finished = with_last c.finished c.block; block = Some (new_block m i) }))) about

    pub datum_puts : (c : Laid) (m i : ℕ) → m < length q.ideals → is_about z (with_last c.finished c.block) m i ≡ true
        → LaysOne (plain_claim (Row kinds.Datum (name_at q m, (i, tt)))) c (record { finished = with_last c.finished c.block; block = Some (new_block m i); identity = c.identity })
    datum_puts c m i there about = record {
      said = λ ps ns named. datum_said c m i there about ps;
      writable = λ ps ns named s. (tt, (ideal_named q sound small m there, (s.1.0, tt)));
      holds = λ ps ns named. tt;
    }

    -- ---- the verdict at the end
    abbrev pub verdict_after : Laid → Option (Verdict q.ring.prime q.ring.vars)
    verdict_after d = verdict_of q.ring q.ideals z e values (with_last d.finished d.block) d.identity

    stated_last : (qs : List Part) (d : Laid) → stated_by (sheet qs d) (Row kinds.Done (suc k, tt)) ≡ stated q.ring (verdict_after d) ∷ []
    unfolding under
    stated_last qs d = refl

    done_last : (qs : List Part) (d : Laid) → say (sheet qs d) (Row kinds.Done (suc k, tt)) ≡ Some (between q (suc k))
    unfolding under
    done_last qs d = done_said (sheet qs d) refl refl refl

    done_after : (qs : List Part) (d : Laid) → IsWritableAfter q.vars (sheet qs d) (Row kinds.Done (suc k, tt))
    unfolding under
    done_after qs d = record { named = names_are; listed = sound.bounded.named; printed = refl; writable = (tt, (few, tt)); next = between q (suc k); said = done_last qs d }

    -- the lines lead to what is laid down, and along it the verdict is true
    pub body_good : (body : List Line) (qs : List Part) (d : Laid) → Leads q names_are sound.bounded.named (suc k) z (record { kind = e; values = values }) [] nothing body qs d
        → (v : Verdict q.ring.prime q.ring.vars) → verdict_after d ≡ Some v → IsHeld (verdict q.ring.prime q.ring.vars v) → Good (record { question = z; kind = e; values = values; lines = body })
    body_good body qs d led v is held =
        let done : List Line = Row kinds.Done (suc k, tt) ∷ [] in
        let first = sheet [] nothing in
        let last : AllHold (says (sheet qs d) (Row kinds.Done (suc k, tt) ∷ [])) =
        subst AllHold (sym (ap (λ u. u ++ []) (stated_last qs d ∙ ap (λ o. stated q.ring o ∷ []) is))) (held, tt) in
        after_question e values body first answer_after answer_said
        (writable_append q.vars first body done led.writable (subst (λ s. AreWritable q.vars s done) (sym led.ends) (done_after qs d, tt)))
        (after_append first body done ∙ ap (λ s. after s done) led.ends ∙ ap (sheet_after (sheet qs d)) (done_last qs d))
        (subst AllHold (sym (says_append first body done)) (all_hold_append (says first body) (says (after first body) done) led.holds (subst (λ s. AllHold (says s done)) (sym led.ends) last)))

    -- the lines of a certificate under an answer
    pub certificate_good : (cs : List Claim) (d : Laid) → AreWritableClaims q.ring cs → AreSmallLines (certificate_lines q.vars cs) → Lays cs nothing d
        → (v : Verdict q.ring.prime q.ring.vars) → verdict_after d ≡ Some v → IsHeld (verdict q.ring.prime q.ring.vars v)
        → Good (record { question = z; kind = e; values = values; lines = certificate_lines q.vars cs })
    unfolding certificate_lines
    certificate_good cs d w few_numbers put v is held =
        let c = claims_said q names_are sound.bounded.named z (suc k) (record { kind = e; values = values }) cs bare [] nothing d (bare_shelf q names_are sound.bounded.named z) w few_numbers put in
        body_good (certificate_lines q.vars cs) c.parts d c.leads v is held

-- a certified answer
pub certified_good : (q : Problem) (k : ℕ) (z : Query) (a : Answer) (cs : List Claim) (d : Laid) (v : Verdict q.ring.prime q.ring.vars) (c : IsCertified q k z a cs d v)
    → Good q c.sound c.exponents k c.few z c.query c.low (certified q z a cs)
certified_good q k z a cs d v c = certificate_good q c.sound c.exponents k c.few z c.query c.low a.kind a.values c.answered c.answers c.values cs d c.parts c.numbers c.put v c.says c.holds
