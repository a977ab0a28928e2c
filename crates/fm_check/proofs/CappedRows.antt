-- Rows that are read without their exponents.
use Rattle.std.proofs.Common.{◌≡◌, ℕ, Option, Some, None, Result, Ok, Err, refl, sym, ap, ◌∙◌, subst}
use Rattle.fm_words.specs.Parts.{Bytes}
use Rattle.fm_lines.specs.Rows.{ending_line, part_line, row_line}
use Rattle.fm_lines.specs.declared.ending.Ending.{Ending}
use Rattle.fm_lines.specs.declared.ending.Ending.TheVariants as endings
use Rattle.fm_lines.specs.declared.part_form.PartForm.{PartForm}
use Rattle.fm_lines.specs.declared.part_form.PartForm.TheVariants as forms
use Rattle.fm_lines.specs.declared.row.Row.{Row}
use Rattle.fm_lines.specs.declared.row.Row.TheVariants as rows
use Rattle.fm_cert.specs.Lines.{Line}
use Rattle.fm_parts.specs.Replays.{Reason}
use Rattle.fm_judge.specs.Judging.{State, judged_line, unless_form, unread}
use Rattle.fm_conditions.specs.declared.why.Refused.{Refused}
use Rattle.fm_conditions.specs.declared.why.Refused.TheVariants.{Memory, Bad}
use Rattle.fm_conditions.specs.declared.why.Why.TheVariants as whys
use Rattle.fm_check.specs.Lines.{IsReason, capped_reason}
use Rattle.fm_check.specs.Reports.{Steps}
use Rattle.fm_check.specs.declared.report.Report.{Report}
use Rattle.fm_check.specs.declared.stage.Stage.{Stage}

unread_ending : (s : State) (e : Ending) → unread s (Some (ending_line e)) ≡ unless_form (judged_line s (ending_line e))
unread_ending s (endings.Zero is_zero stable) = refl
unread_ending s e = refl

unread_part : (s : State) (k : ℕ) (form : PartForm) → unread s (Some (part_line k form)) ≡ unless_form (judged_line s (part_line k form))
unread_part s k (forms.Flip part) = refl
unread_part s k form = refl

unread_row : (s : State) (row : Row) → unread s (Some (row_line row)) ≡ unless_form (judged_line s (row_line row))
unread_row s (rows.Ended e) = unread_ending s e
unread_row s (rows.Part k form) = unread_part s k form
unread_row s row = refl

capped_said : (X : Type 0) (p : Report) (stage : Stage) (result : Result X Refused) (said : Result State Reason) → Steps p stage result said
    → IsReason (capped_reason result) (unless_form said)
capped_said X p stage (Ok x) said h = ap unless_form h.1
capped_said X p stage (Err Memory) said h = tt
capped_said X p stage (Err (Bad whys.Form)) said h = ap unless_form h
capped_said X p stage (Err (Bad why)) said h = ap unless_form h

-- the reason of a row is that of the line that can't be read
pub capped_row : (X : Type 0) (p : Report) (stage : Stage) (result : Result X Refused) (s : State) (row : Row) (o : Option Line) (found : Refused)
    → Some (row_line row) ≡ o → found ≡ capped_reason result → Steps p stage result (judged_line s (row_line row)) → IsReason found (unread s o)
capped_row X p stage result s row o found read is h =
    subst (λ o. IsReason found (unread s o)) read (subst (λ reason. IsReason found reason) (sym (unread_row s row))
    (subst (λ f. IsReason f (unless_form (judged_line s (row_line row)))) (sym is) (capped_said X p stage result (judged_line s (row_line row)) h)))
