-- Ideals and questions between queries.
use Rattle.std.proofs.Common.{◌≡◌, ℕ, suc, ◌+◌, Bool, true, false, nat_eq, List, [], map, Option, Some, None, option_map, Result, Ok, Err, refl, sym, ap, ◌∙◌, subst, add-one}
use Rattle.std.proofs.lemmas.Bool.{eq-eqb}
use Rattle.fm_words.specs.Parts.{Bytes}
use Rattle.fm_words.specs.Steps.{◌>>=◌, or_fault}
use Rattle.fm_words.proofs.FirstFaults.{no_fault, same_ok}
use Rattle.fm_problem.specs.Faults.{Fault}
use Rattle.fm_problem.specs.declared.fault_kind.FaultKind.{FaultKind}
use Rattle.fm_problem.specs.declared.problem.Problem.{Problem}
use Rattle.fm_problem.specs.declared.query.Query.{Query}
use Rattle.fm_problem.specs.Problems.{at_line, query_in, query_of, query_of_statement, with_ideal, with_line}
use Rattle.fm_problem.specs.Statements.{Statement, RingLine, OrderLine, IdealLine, ModuleLine, ClassLine, InvertLine, MapLine, MemberLine, statement_of}
use Rattle.fm_cert.specs.Lines.{Line, Head, Question}
use Rattle.fm_report.specs.Sheets.{Sheet, begin_query, from_result, say, with_head}
use Rattle.fm_words.specs.Options.{where_so}
use Rattle.fm_parts.specs.Replays.{Reason, Form, needs}
use Rattle.fm_judge.specs.Goals as goals
use Rattle.fm_judge.specs.Places as places
use Rattle.fm_judge.specs.Judging.{State, between_queries, at_answer, judged_at, judged_line, moved_to, said_then, stage_at}
use Rattle.fm_judge.specs.Judging as judging
use Rattle.fm_report.specs.Parts.{Part}
use Rattle.fm_pres.specs.Blocks.{block_of, parts_at}
use Rattle.fm_pres.specs.Tables.{parts_in}
use Rattle.fm_conditions.specs.Meanings.{logs_of}
use Rattle.fm_asked.specs.declared.asked.Asked.{Asked}
use Rattle.fm_asked.specs.declared.logs.OpenLog.{OpenLog}
use Rattle.fm_check.specs.Lines.{IsNew, IsOfHead, judged_if}
use Rattle.fm_check.specs.Reports.{StandsAt, Tells}
use Rattle.fm_check.specs.Standings.{Says, StandsWith}
use Rattle.fm_check.specs.declared.report.Report.{Report}
use Rattle.fm_check.specs.declared.stage.Stage.{Stage}
use Rattle.fm_check.specs.declared.stage.Stage.TheVariants as stages

-- ---- elsewhere they have no form
abbrev pub IsNoRow : Line → Type 0
IsNoRow (Head statement) = Unit {0}
IsNoRow (Question k statement) = Unit {0}
IsNoRow line = ⊥

at_place : (s : State) (g : goals.Goal) (p : places.Place) (l : Line) → IsNoRow l → judged_at s (stage_at g p) l ≡ Err Form
at_place s g places.end (Head statement) n = refl
at_place s g places.end (Question k statement) n = refl
at_place s g p (Head statement) n = refl
at_place s g p (Question k statement) n = refl
at_place s g p line n = absurd n

at_log : (s : State) (g : goals.Goal) (p : places.Place) (o : judging.OpenLog) (l : Line) → IsNoRow l → judged_at s (judging.in_log g p o) l ≡ Err Form
at_log s g p o (Head statement) n = refl
at_log s g p o (Question k statement) n = refl
at_log s g p o line n = absurd n

at_certificate : (s : State) (g : goals.Goal) (p : places.Place) (ps : List Part) (o : Option OpenLog) (l : Line) → IsNoRow l → StandsWith g p ps o s.stage
    → judged_at s s.stage l ≡ Err Form
at_certificate s g p ps None l n h = ap (λ stage. judged_at s stage l) h ∙ at_place s g p l n
at_certificate s g p ps (Some log) l n h = ap (λ stage. judged_at s stage l) h.1 ∙ at_log s g p h.0 l n

at_this_answer : (s : State) (l : Line) → IsNoRow l → judged_at s at_answer l ≡ Err Form
at_this_answer s (Head statement) n = refl
at_this_answer s (Question k statement) n = refl
at_this_answer s line n = absurd n

before_done : (s : State) (l : Line) → IsNoRow l → judged_at s judging.at_done l ≡ Err Form
before_done s (Head statement) n = refl
before_done s (Question k statement) n = refl
before_done s line n = absurd n

elsewhere : (q : Problem) (stage : Stage) (s : State) (l : Line) → IsNoRow l → (stage ≡ stages.Between → ⊥) → StandsAt q stage s → judged_line s l ≡ Err Form
unfolding judged_line
elsewhere q stages.Between s l n other h = absurd (other refl)
elsewhere q (stages.Answer a) s l n other h = ap (λ stage. judged_at s stage l) h.0 ∙ at_this_answer s l n
elsewhere q (stages.Certificate a c) s l n other h = at_certificate s _ _ _ c.log l n h.0
elsewhere q (stages.Done a) s l n other h = ap (λ stage. judged_at s stage l) h.0 ∙ before_done s l n
elsewhere q stages.End s l n other h = ap (λ stage. judged_at s stage l) h.0

pub head_elsewhere : (q : Problem) (stage : Stage) (s : State) (o : Option Statement) → (stage ≡ stages.Between → ⊥) → StandsAt q stage s
    → judged_if s (option_map Head o) ≡ Err Form
head_elsewhere q stage s None other h = refl
head_elsewhere q stage s (Some statement) other h = elsewhere q stage s (Head statement) tt other h

pub question_elsewhere : (q : Problem) (stage : Stage) (s : State) (k : ℕ) (o : Option Statement) → (stage ≡ stages.Between → ⊥) → StandsAt q stage s
    → judged_if s (option_map (Question k) o) ≡ Err Form
question_elsewhere q stage s k None other h = refl
question_elsewhere q stage s k (Some statement) other h = elsewhere q stage s (Question k statement) tt other h

-- ---- ideals
say_ideal : (sheet : Sheet) (q : Problem) (n : Bytes) (texts : List Bytes) → sheet.head ≡ Some q
    → say sheet (Head (IdealLine n texts)) ≡ with_head sheet (from_result (with_ideal q n texts))
unfolding say
say_ideal sheet q n texts e = ap (λ h. say (record sheet { head = h }) (Head (IdealLine n texts))) e

module _ (s : State) (q : Problem) (there : s.stage ≡ between_queries) (head : s.sheet.head ≡ Some q) where
  at_head : (statement : Statement) → judged_line s (Head statement) ≡ judged_at s between_queries (Head statement)
  unfolding judged_line
  at_head statement = ap (λ stage. judged_at s stage (Head statement)) there

  ideal_at : (n : Bytes) (texts : List Bytes) → judged_line s (Head (IdealLine n texts))
      ≡ (needs (nat_eq s.sheet.count 0) Form >>= λ _. or_fault Form (with_head s.sheet (from_result (with_ideal q n texts))) >>= λ sheet. Ok (moved_to s sheet between_queries))
  ideal_at n texts =
      at_head (IdealLine n texts)
      ∙ ap (λ o. needs (nat_eq s.sheet.count 0) Form >>= λ _. or_fault Form o >>= λ sheet. Ok (moved_to s sheet between_queries)) (say_ideal s.sheet q n texts head)

  -- the ideal is added before the first query
  pub ideal_said : (o : Option Statement) (t : Problem) → IsOfHead o → with_line q o ≡ Ok t → s.sheet.count ≡ 0
      → judged_if s (option_map Head o) ≡ Ok (moved_to s (record s.sheet { head = Some t }) between_queries)
  ideal_said (Some (IdealLine n texts)) t of read count =
      ideal_at n texts
      ∙ ap (λ k. needs (nat_eq k 0) Form >>= λ _. or_fault Form (with_head s.sheet (from_result (with_ideal q n texts))) >>= λ sheet. Ok (moved_to s sheet between_queries)) count
      ∙ ap (λ r. or_fault Form (with_head s.sheet (from_result r)) >>= λ sheet. Ok (moved_to s sheet between_queries)) read
  ideal_said (Some (ModuleLine a i n)) t of read count = absurd of
  ideal_said (Some (ClassLine i n e texts)) t of read count = absurd of
  ideal_said (Some (InvertLine i n text)) t of read count = absurd of
  ideal_said (Some (MapLine i n m)) t of read count = absurd of
  ideal_said (Some (MemberLine n text)) t of read count = absurd of
  ideal_said o t of read count = absurd (no_fault _ t read)

  unsaid : (b : Bool) (r : Result Problem FaultKind) (k : FaultKind) → r ≡ Err k
      → (needs b Form >>= λ _. or_fault Form (with_head s.sheet (from_result r)) >>= λ sheet. Ok (moved_to s sheet between_queries)) ≡ Err Form
  unsaid false r k e = refl
  unsaid true r k e = ap (λ r. or_fault Form (with_head s.sheet (from_result r)) >>= λ sheet. Ok (moved_to s sheet between_queries)) e

  -- nothing is said of a faulty line
  pub ideal_faulty : (o : Option Statement) (k : FaultKind) → with_line q o ≡ Err k → judged_if s (option_map Head o) ≡ Err Form
  ideal_faulty None k read = refl
  ideal_faulty (Some (IdealLine n texts)) k read = ideal_at n texts ∙ unsaid (nat_eq s.sheet.count 0) (with_ideal q n texts) k read
  ideal_faulty (Some statement) k read = at_head statement

  -- nor behind a query
  pub ideal_late : (o : Option Statement) → nat_eq s.sheet.count 0 ≡ false → judged_if s (option_map Head o) ≡ Err Form
  ideal_late None late = refl
  ideal_late (Some (IdealLine n texts)) late =
      ideal_at n texts
      ∙ ap (λ b. needs b Form >>= λ _. or_fault Form (with_head s.sheet (from_result (with_ideal q n texts))) >>= λ sheet. Ok (moved_to s sheet between_queries)) late
  ideal_late (Some statement) late = at_head statement

-- ---- questions

-- the state behind a question
abbrev pub asking : State → ℕ → Query → State
asking s k z = record s { sheet = begin_query s.sheet k z; stage = at_answer; logs = [] }

say_question_of : (sheet : Sheet) (q : Problem) (k : ℕ) (statement : Statement) → sheet.head ≡ Some q
    → say sheet (Question k statement) ≡ where_so (nat_eq k (suc sheet.count)) (option_map (begin_query sheet k) (from_result (query_in q statement)))
unfolding say
say_question_of sheet q k statement e = ap (λ h. say (record sheet { head = h }) (Question k statement)) e ∙ ap (λ h. where_so (nat_eq k (suc sheet.count)) (option_map (begin_query (record sheet { head = h }) k) (from_result (query_in q statement)))) (sym e)

module _ (s : State) (q : Problem) (there : s.stage ≡ between_queries) (head : s.sheet.head ≡ Some q) (k : ℕ) where
  abbrev asked_by : Bool → Result Query FaultKind → Result State Reason
  asked_by b r = or_fault Form (where_so b (option_map (begin_query s.sheet k) (from_result r))) >>= λ sheet. Ok (record s { sheet = sheet; stage = at_answer; logs = [] })

  question_at : (statement : Statement) → judged_line s (Question k statement) ≡ asked_by (nat_eq k (suc s.sheet.count)) (query_in q statement)
  unfolding judged_line
  question_at statement =
      ap (λ stage. judged_at s stage (Question k statement)) there
      ∙ ap (λ o. or_fault Form o >>= λ sheet. Ok (record s { sheet = sheet; stage = at_answer; logs = [] })) (say_question_of s.sheet q k statement head)

  of_line : (r : Result Query FaultKind) (z : Query) → at_line 1 r ≡ Ok z → r ≡ Ok z
  of_line (Ok x) z e = ap Ok (same_ok e)
  of_line (Err fault) z e = absurd (no_fault _ z e)

  unasked : (b : Bool) (r : Result Query FaultKind) (f : Fault) → at_line 1 r ≡ Err f → asked_by b r ≡ Err Form
  unasked true (Ok x) f e = absurd (no_fault f x (sym e))
  unasked true (Err fault) f e = refl
  unasked false r f e = refl

  pub question_said : (text : Bytes) (z : Query) → nat_eq k (suc s.sheet.count) ≡ true → query_of q text ≡ Ok z
      → judged_if s (option_map (Question k) (statement_of text)) ≡ Ok (asking s k z)
  unfolding query_of
  question_said text z next read = by (statement_of text) read where
    by : (o : Option Statement) → at_line 1 (query_of_statement q o) ≡ Ok z → judged_if s (option_map (Question k) o) ≡ Ok (asking s k z)
    by None e = absurd (no_fault _ z e)
    by (Some statement) e = question_at statement ∙ ap (λ b. asked_by b (query_in q statement)) next ∙ ap (asked_by true) (of_line (query_in q statement) z e)

  pub question_faulty : (text : Bytes) (f : Fault) → query_of q text ≡ Err f → judged_if s (option_map (Question k) (statement_of text)) ≡ Err Form
  unfolding query_of
  question_faulty text f read = by (statement_of text) read where
    by : (o : Option Statement) → at_line 1 (query_of_statement q o) ≡ Err f → judged_if s (option_map (Question k) o) ≡ Err Form
    by None e = refl
    by (Some statement) e = question_at statement ∙ unasked (nat_eq k (suc s.sheet.count)) (query_in q statement) f e

  pub question_misnumbered : (o : Option Statement) → nat_eq k (suc s.sheet.count) ≡ false → judged_if s (option_map (Question k) o) ≡ Err Form
  question_misnumbered None other = refl
  question_misnumbered (Some statement) other = question_at statement ∙ ap (λ b. asked_by b (query_in q statement)) other

-- ---- reports between queries
pub ideal_tried : (p : Report) (s : State) (stage : Stage) (o : Option Statement) (q : Problem) → IsOfHead o → with_line p.problem o ≡ Ok q → Tells p s
    → StandsAt p.problem stage s → stage ≡ stages.Between → p.count ≡ 0
    → (t : State) × (judged_if s (option_map Head o) ≡ Ok t) × Tells (record p { problem = q }) t × StandsAt q stage t
ideal_tried p s stage o q of read tells stands is none =
    let there = subst (λ stage. StandsAt p.problem stage s) is stands in
    let t : State = moved_to s (record s.sheet { head = Some q }) between_queries in (
      t,
      ideal_said s p.problem there.0 tells.head o q of read (tells.count ∙ none),
      record { head = refl; version = tells.version; count = tells.count; verdicts = tells.verdicts; passed = tells.passed },
      subst (λ stage. StandsAt q stage t) (sym is) (refl, there.1),
    )

pub next_number : (count n next : ℕ) → n ≡ count → next ≡ count + 1 → suc n ≡ next
next_number count n next same more = ap suc same ∙ sym (add-one count) ∙ sym more

new_says : (q : Problem) (s : State) (k : ℕ) (z : Query) (a : Asked) → s.sheet.head ≡ Some q → IsNew z a → Says q a (asking s k z)
new_says q s k z a head new = record {
  head = head;
  asked = record {
    asked = ap Some (sym new.query);
    parts = sym new.parts;
    finished = sym (ap (map (block_of (parts_in a.table))) new.finished);
    block = sym (ap (option_map (block_of (parts_in a.table))) new.block);
    identity = sym (ap (parts_at (parts_in a.table)) new.identity);
    logs = sym (ap (logs_of (parts_in a.table)) new.logs);
  };
}

pub question_tried : (p : Report) (s : State) (stage : Stage) (k next : ℕ) (text : Bytes) (z : Query) (a : Asked) → query_of p.problem text ≡ Ok z → IsNew z a → Tells p s
    → StandsAt p.problem stage s → stage ≡ stages.Between → next ≡ p.count + 1 → k ≡ next
    → (t : State) × (judged_if s (option_map (Question k) (statement_of text)) ≡ Ok t) × Tells (record p { count = next }) t
    × ((t.stage ≡ at_answer) × (t.sheet.answer ≡ None) × Says p.problem a t)
question_tried p s stage k next text z a read new tells stands is more same =
    let there = subst (λ stage. StandsAt p.problem stage s) is stands in (
      asking s k z,
      question_said s p.problem there.0 tells.head k text z (eq-eqb k (suc s.sheet.count) (same ∙ sym (next_number p.count s.sheet.count next tells.count more))) read,
      record { head = tells.head; version = tells.version; count = same; verdicts = tells.verdicts; passed = tells.passed },
      (refl, refl, new_says p.problem s k z a tells.head new),
    )
