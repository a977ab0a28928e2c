-- The first lines of reports: what the judgement says of them.
use Rattle.std.proofs.Common.{◌≡◌, ℕ, Bool, true, false, ◌||◌, nat_eq, List, [], Option, Some, None, option_map, Result, Ok, Err, refl, sym, ap, ◌∙◌, subst}
use Rattle.std.specs.List.{list_any}
use Rattle.fm_poly.specs.declared.ring.Ring.{Ring}
use Rattle.fm_words.specs.declared.mark.Mark.TheVariants.{Blank}
use Rattle.fm_words.specs.Steps.{◌>>=◌}
use Rattle.fm_words.specs.Parts.{Bytes, is_mark, parts, before_mark, after_mark}
use Rattle.fm_words.specs.Words.{words, is_digit, is_exact, is_number, same_bytes, value}
use Rattle.fm_words.proofs.Cuts.{first_of_parts}
use Rattle.fm_text.proofs.PolynomialsRead.{same_name}
use Rattle.fm_problem.specs.declared.query.Query.{Query}
use Rattle.fm_problem.specs.Statements.{Statement, RingLine, OrderLine, IdealLine, statement_of}
use Rattle.fm_cert.specs.Fields.{Values, exact_number, read_row}
use Rattle.fm_cert.specs.Kinds as kinds
use Rattle.fm_cert.specs.Kinds.{Kind, row, kind_of}
use Rattle.fm_cert.specs.Lines.{Line, Head, Question, Row, begins_head, exact_words, is_full, question_of, row_of, line_of}
use Rattle.fm_lines.specs.Versions.{version_of, version_in}
use Rattle.fm_report.specs.Sheets.{Sheet, blank, ring_in, names_in}
use Rattle.fm_report.specs.Reading.{line_in}
use Rattle.fm_parts.specs.Replays.{Reason, Form, needs}
use Rattle.fm_judge.specs.Judging.{State, start, at_start, at_ring, at_order, judged_at, judged_line, judged_read, step, unless_form, unread, without_exponents}
use Rattle.fm_judge.proofs.Options.{none_some, same_some, followed, mapped, where_true}
use Rattle.fm_asked.proofs.WithoutExponents.{nothing_left_out}
use Rattle.fm_check.specs.Heads.{after_version}
use Rattle.fm_check.proofs.ReportLines.{plain_line}
use Rattle.fm_check.proofs.HeadLines.{IsNoHead, IsOffHead, head_line, off_head, other_line}

-- ---- lines at which only a line of a head can stand
abbrev pub head_judged : State → Option Statement → Result State Reason
head_judged s None = Err Form
head_judged s (Some statement) = judged_line s (Head statement)

-- rows and questions have no form there, and of the statements at most those of heads
pub record IsInHead (s : State) : Type 0 where
  pub rows : (kind : Kind) (v : Values (row kind)) → judged_line s (Row kind v) ≡ Err Form
  pub questions : (k : ℕ) (statement : Statement) → judged_line s (Question k statement) ≡ Err Form
  pub others : (statement : Statement) → IsOffHead (Some statement) → judged_line s (Head statement) ≡ Err Form

module _ (s : State) (h : IsInHead s) where
  unread_there : (o : Option Line) → unread s o ≡ Form
  unread_there None = refl
  unread_there (Some (Head statement)) = refl
  unread_there (Some (Question k statement)) = refl
  unread_there (Some (Row kind v)) = ap unless_form (h.rows kind v)

  off_judged : (o : Option Statement) → IsOffHead o → head_judged s o ≡ Err Form
  off_judged None off = refl
  off_judged (Some statement) off = h.others statement off

  head_read : (text : Bytes) (o : Option Statement) → judged_read s text (option_map Head o) ≡ head_judged s o
  head_read text None = ap Err (unread_there (line_in s.sheet (without_exponents text)))
  head_read text (Some statement) = refl

  other_read : (text : Bytes) (o : Option Line) → IsNoHead o → judged_read s text o ≡ Err Form
  other_read text None n = ap Err (unread_there (line_in s.sheet (without_exponents text)))
  other_read text (Some (Head statement)) n = absurd n
  other_read text (Some (Question k statement)) n = h.questions k statement
  other_read text (Some (Row kind v)) n = h.rows kind v

  -- a text is judged by its statement alone
  pub head_step : (text : Bytes) → step s text ≡ head_judged s (statement_of text)
  unfolding step line_in
  head_step text = by (begins_head (words text)) refl where
    by : (b : Bool) → begins_head (words text) ≡ b → judged_read s text (line_in s.sheet text) ≡ head_judged s (statement_of text)
    by true e = ap (judged_read s text) (head_line (ring_in s.sheet.head) (names_in s.sheet.head) s.sheet.asked text e) ∙ head_read text (statement_of text)
    by false e =
        other_read text (line_in s.sheet text) (other_line (ring_in s.sheet.head) (names_in s.sheet.head) s.sheet.asked text e)
        ∙ sym (off_judged (statement_of text) (off_head text e))

pub at_ring_line : (s : State) → s.stage ≡ at_ring → IsInHead s
unfolding judged_line
at_ring_line s e = record {
  rows = λ kind v. ap (λ stage. judged_at s stage (Row kind v)) e;
  questions = λ k statement. ap (λ stage. judged_at s stage (Question k statement)) e;
  others = λ statement off. ap (λ stage. judged_at s stage (Head statement)) e ∙ none statement off;
} where
  none : (statement : Statement) → IsOffHead (Some statement) → judged_at s at_ring (Head statement) ≡ Err Form
  none (RingLine n names) off = absurd off
  none statement off = refl

pub at_order_line : (s : State) → s.stage ≡ at_order → IsInHead s
unfolding judged_line
at_order_line s e = record {
  rows = λ kind v. ap (λ stage. judged_at s stage (Row kind v)) e;
  questions = λ k statement. ap (λ stage. judged_at s stage (Question k statement)) e;
  others = λ statement off. ap (λ stage. judged_at s stage (Head statement)) e ∙ none statement off;
} where
  none : (statement : Statement) → IsOffHead (Some statement) → judged_at s at_order (Head statement) ≡ Err Form
  none (OrderLine o) off = absurd off
  none statement off = refl

-- ---- the line with the version
abbrev pub version_judged : Option ℕ → Result State Reason
version_judged None = Err Form
version_judged (Some v) = needs (nat_eq v 1 || nat_eq v 2) Form >>= λ _. Ok (after_version v)

at_version : (l : Line) → judged_at start at_start l ≡ version_judged (version_of l)
unfolding start
at_version (Row kinds.Report v) = refl
at_version (Row kind v) = refl
at_version (Head statement) = refl
at_version (Question k statement) = refl

version_line : (l : Line) → judged_line start l ≡ version_judged (version_of l)
unfolding judged_line start
version_line l = at_version l

-- what can't be read is no such line, whatever exponents are left out
unread_version : (text : Bytes) (o : Option Line) → line_in blank text ≡ None → line_in blank (without_exponents text) ≡ o → unread start o ≡ Form
unfolding line_in
unread_version text None none is = refl
unread_version text (Some (Head statement)) none is = refl
unread_version text (Some (Question k statement)) none is = refl
unread_version text (Some (Row kinds.Report v)) none is =
    let plain = plain_line (ring_in blank.head) (names_in blank.head) blank.asked (without_exponents text) (Row kinds.Report v) is in
    absurd (none_some (sym none ∙ ap (line_in blank) (sym (nothing_left_out text plain)) ∙ is))
unread_version text (Some (Row kind v)) none is = ap unless_form (version_line (Row kind v))

version_read : (text : Bytes) (o : Option Line) → line_in blank text ≡ o → judged_read start text o ≡ version_judged (version_in o)
unfolding start
version_read text None is = ap Err (unread_version text (line_in blank (without_exponents text)) is refl)
version_read text (Some l) is = version_line l

version_step : (text : Bytes) (version : Option ℕ) → ((r : Ring) (names : List Bytes) (asked : Option Query) → version ≡ version_in (line_of r names asked text))
    → step start text ≡ version_judged version
unfolding step start line_in
version_step text version said =
    version_read text (line_in blank text) refl ∙ sym (ap version_judged (said (ring_in blank.head) (names_in blank.head) blank.asked))

pub version_told : (text : Bytes) (version : Option ℕ) (v : ℕ) (b : Bool) → ((r : Ring) (names : List Bytes) (asked : Option Query) → version ≡ version_in (line_of r names asked text))
    → version ≡ Some v → (nat_eq v 1 || nat_eq v 2) ≡ b → step start text ≡ (needs b Form >>= λ _. Ok (after_version v))
version_told text version v b said is e = version_step text version said ∙ ap version_judged is ∙ ap (λ b. needs b Form >>= λ _. Ok (after_version v)) e

pub no_version : (text : Bytes) (version : Option ℕ) → ((r : Ring) (names : List Bytes) (asked : Option Query) → version ≡ version_in (line_of r names asked text))
    → version ≡ None → step start text ≡ Err Form
no_version text version said is = version_step text version said ∙ ap version_judged is
