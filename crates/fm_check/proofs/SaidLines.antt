-- Lines by what is read of them.
use Rattle.std.proofs.Common.{◌≡◌, ℕ, Bool, true, false, Option, Some, None, option_map, Result, Ok, Err, refl, sym, ap, ◌∙◌, subst}
use Rattle.fm_words.specs.Parts.{Bytes}
use Rattle.fm_words.proofs.FirstFaults.{no_fault}
use Rattle.fm_problem.specs.Statements.{Statement}
use Rattle.fm_cert.specs.Lines.{Line, Head, Question}
use Rattle.fm_lines.specs.Rows.{line_said, row_line}
use Rattle.fm_lines.specs.declared.line_text.LineText.{LineText}
use Rattle.fm_lines.specs.declared.line_text.LineText.TheVariants as texts
use Rattle.fm_lines.specs.declared.row.Row.{Row}
use Rattle.fm_report.specs.Sheets.{ring_in, names_in}
use Rattle.fm_report.specs.Reading.{line_in}
use Rattle.fm_parts.specs.Replays.{Reason, Form}
use Rattle.fm_judge.specs.Judging.{State, judged_line, judged_read, step, unread, without_exponents}
use Rattle.fm_conditions.specs.declared.why.Refused.{Refused}
use Rattle.fm_conditions.specs.declared.why.Refused.TheVariants.{Memory, Bad}
use Rattle.fm_check.specs.Lines.{IsReason, Tries, judged_if}
use Rattle.fm_check.specs.Reports.{StandsAt, Steps, Tells}
use Rattle.fm_check.specs.declared.report.Report.{Report}
use Rattle.fm_check.specs.declared.stage.Stage.{Stage}
use Rattle.fm_check.proofs.HeadLines.{head_begins, question_begins, unread_head, unread_question}

pub row_said : (o : Option LineText) (l : LineText) (row : Row) (x : Option Line) → o ≡ Some l → l ≡ texts.Row row → line_said o ≡ x → Some (row_line row) ≡ x
row_said o l row x some is e = sym (ap line_said (some ∙ ap Some is)) ∙ e

pub row_step : (s : State) (text : Bytes) (row : Row) → Some (row_line row) ≡ line_in s.sheet text → step s text ≡ judged_line s (row_line row)
unfolding step
row_step s text row e = ap (judged_read s text) (sym e)

-- ---- lines that are said
said_step : (s : State) (text : Bytes) (o : Option Line) (t : State) → o ≡ line_in s.sheet text → judged_if s o ≡ Ok t → step s text ≡ Ok t
unfolding step
said_step s text None t e h = absurd (no_fault Form t h)
said_step s text (Some l) t e h = ap (judged_read s text) (sym e) ∙ h

pub tried_step : {F : Type 0} (p : Report) (stage : Stage) (s : State) (text : Bytes) (o : Option Line) (said : Result Bool F) → said ≡ Ok true → o ≡ line_in s.sheet text
    → Tries p stage said (judged_if s o) → (t : State) × (step s text ≡ Ok t) × Tells p t × StandsAt p.problem stage t
tried_step p stage s text o said is e h =
    let k = subst (λ said. Tries p stage said (judged_if s o)) is h in (k.0, said_step s text o k.0 e k.1, k.2, k.3)

-- ---- and lines that aren't
abbrev pub IsUnread : State → Bytes → Type 0
IsUnread s text = step s text ≡ Err (unread s (line_in s.sheet (without_exponents text)))

pub unsaid_nothing : (s : State) (text : Bytes) → None ≡ line_in s.sheet text → IsUnread s text
unfolding step
unsaid_nothing s text e = ap (judged_read s text) (sym e)

unsaid_head : (s : State) (text : Bytes) (o : Option Statement) → option_map Head o ≡ line_in s.sheet text → judged_if s (option_map Head o) ≡ Err Form → IsUnread s text
unfolding step line_in
unsaid_head s text None e h = ap (judged_read s text) (sym e)
unsaid_head s text (Some statement) e h =
    ap (judged_read s text) (sym e) ∙ h
    ∙ ap Err (sym (unread_head s text (head_begins (ring_in s.sheet.head) (names_in s.sheet.head) s.sheet.asked text statement (sym e))))

unsaid_question : (s : State) (text : Bytes) (k : ℕ) (o : Option Statement) → option_map (Question k) o ≡ line_in s.sheet text
    → judged_if s (option_map (Question k) o) ≡ Err Form → IsUnread s text
unfolding step line_in
unsaid_question s text k None e h = ap (judged_read s text) (sym e)
unsaid_question s text k (Some statement) e h =
    ap (judged_read s text) (sym e) ∙ h
    ∙ ap Err (sym (unread_question s text (question_begins (ring_in s.sheet.head) (names_in s.sheet.head) s.sheet.asked text k statement (sym e))))

pub untried_head : {F : Type 0} (p : Report) (stage : Stage) (s : State) (text : Bytes) (o : Option Statement) (said : Result Bool F) → said ≡ Ok false
    → option_map Head o ≡ line_in s.sheet text → Tries p stage said (judged_if s (option_map Head o)) → IsUnread s text
untried_head p stage s text o said is e h = unsaid_head s text o e (subst (λ said. Tries p stage said (judged_if s (option_map Head o))) is h)

pub untried_question : {F : Type 0} (p : Report) (stage : Stage) (s : State) (text : Bytes) (k : ℕ) (o : Option Statement) (said : Result Bool F) → said ≡ Ok false
    → option_map (Question k) o ≡ line_in s.sheet text → Tries p stage said (judged_if s (option_map (Question k) o)) → IsUnread s text
untried_question p stage s text k o said is e h =
    unsaid_question s text k o e (subst (λ said. Tries p stage said (judged_if s (option_map (Question k) o))) is h)

pub unread_steps : (X : Type 0) (p : Report) (stage : Stage) (s : State) (text : Bytes) (refused : Refused) → IsUnread s text
    → IsReason refused (unread s (line_in s.sheet (without_exponents text))) → Steps {X = X} p stage (Err refused) (step s text)
unread_steps X p stage s text (Bad why) e h = e ∙ ap Err h
unread_steps X p stage s text Memory e h = tt
