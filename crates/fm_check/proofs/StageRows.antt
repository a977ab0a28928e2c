-- Rows by where they stand.
use Rattle.std.proofs.Common.{◌≡◌, ℕ, suc, ◌+◌, Bool, true, false, nat_eq, [], Option, Some, None, Result, Ok, Err, refl, sym, ap, ◌∙◌, subst, add-one}
use Rattle.std.proofs.lemmas.Bool.{eq-eqb, ne_eqb}
use Rattle.fm_words.specs.Steps.{◌>>=◌, or_fault}
use Rattle.fm_words.specs.Options.{where_so}
use Rattle.fm_cert.specs.Kinds as kinds
use Rattle.fm_cert.specs.Lines as lines
use Rattle.fm_problem.specs.declared.query.Query.{Query}
use Rattle.fm_lines.specs.Rows.{ending_line, part_line, row_line}
use Rattle.fm_lines.specs.declared.ending.Ending.{Ending}
use Rattle.fm_lines.specs.declared.ending.Ending.TheVariants as endings
use Rattle.fm_lines.specs.declared.part_form.PartForm.{PartForm}
use Rattle.fm_lines.specs.declared.part_form.PartForm.TheVariants as forms
use Rattle.fm_lines.specs.declared.row.Row.{Row}
use Rattle.fm_lines.specs.declared.row.Row.TheVariants as rows
use Rattle.fm_report.specs.Sheets.{Sheet, say}
use Rattle.fm_parts.specs.Replays.{Reason, Form}
use Rattle.fm_judge.specs.Judging.{State, between_queries, at_answer, at_done, at_end, judged_at, judged_line, moved_to, said_then}
use Rattle.fm_asked.specs.declared.asked.Asked.{Asked}
use Rattle.fm_check.specs.Reports.{StandsAt, Tells}
use Rattle.fm_check.specs.Standings.{Answers, Goes, Says, StandsIn, parts_of}
use Rattle.fm_check.specs.declared.certificate.Certificate.{Certificate}
use Rattle.fm_check.specs.declared.report.Report.{Report}
use Rattle.fm_check.specs.declared.stage.Stage.{Stage}

-- ---- between queries
between_ending : (s : State) (e : Ending) → judged_at s between_queries (ending_line e) ≡ Err Form
between_ending s (endings.Zero is_zero stable) = refl
between_ending s e = refl

between_part : (s : State) (k : ℕ) (form : PartForm) → judged_at s between_queries (part_line k form) ≡ Err Form
between_part s k (forms.Flip part) = refl
between_part s k form = refl

between_row : (s : State) (row : Row) → (row ≡ rows.EndReport → ⊥) → judged_at s between_queries (row_line row) ≡ Err Form
between_row s rows.EndReport other = absurd (other refl)
between_row s (rows.Ended e) other = between_ending s e
between_row s (rows.Part k form) other = between_part s k form
between_row s row other = refl

-- no row but `end report`
pub no_end : (s : State) (row : Row) → s.stage ≡ between_queries → (row ≡ rows.EndReport → ⊥) → judged_line s (row_line row) ≡ Err Form
unfolding judged_line
no_end s row there other = ap (λ stage. judged_at s stage (row_line row)) there ∙ between_row s row other

report_ends : (s : State) → s.stage ≡ between_queries → judged_line s (row_line rows.EndReport) ≡ Ok (record s { stage = at_end })
unfolding judged_line
report_ends s there = ap (λ stage. judged_at s stage (row_line rows.EndReport)) there

pub report_ended : (p : Report) (s : State) (row : Row) → row ≡ rows.EndReport → Tells p s → s.stage ≡ between_queries → s.sheet.asked ≡ None
    → (t : State) × (judged_line s (row_line row) ≡ Ok t) × Tells p t × ((t.stage ≡ at_end) × (t.sheet.asked ≡ None))
report_ended p s row is tells there none = (
  record s { stage = at_end },
  ap (λ row. judged_line s (row_line row)) is ∙ report_ends s there,
  record { head = tells.head; version = tells.version; count = tells.count; verdicts = tells.verdicts; passed = tells.passed },
  (refl, none),
)

-- ---- under a query
answer_part : (s : State) (k : ℕ) (form : PartForm) → judged_at s at_answer (part_line k form) ≡ Err Form
answer_part s k (forms.Flip part) = refl
answer_part s k form = refl

answer_row : (s : State) (row : Row) → ((e : Ending) → row ≡ rows.Ended e → ⊥) → judged_at s at_answer (row_line row) ≡ Err Form
answer_row s (rows.Ended e) other = absurd (other e refl)
answer_row s (rows.Part k form) other = answer_part s k form
answer_row s row other = refl

pub no_ending : (s : State) (row : Row) → s.stage ≡ at_answer → ((e : Ending) → row ≡ rows.Ended e → ⊥) → judged_line s (row_line row) ≡ Err Form
unfolding judged_line
no_ending s row there other = ap (λ stage. judged_at s stage (row_line row)) there ∙ answer_row s row other

-- ---- before `done`
done_ending : (s : State) (e : Ending) → judged_at s at_done (ending_line e) ≡ Err Form
done_ending s (endings.Zero is_zero stable) = refl
done_ending s e = refl

done_part : (s : State) (k : ℕ) (form : PartForm) → judged_at s at_done (part_line k form) ≡ Err Form
done_part s k (forms.Flip part) = refl
done_part s k form = refl

done_row : (s : State) (row : Row) → ((n : ℕ) → row ≡ rows.Done n → ⊥) → judged_at s at_done (row_line row) ≡ Err Form
done_row s (rows.Done n) other = absurd (other n refl)
done_row s (rows.Ended e) other = done_ending s e
done_row s (rows.Part k form) other = done_part s k form
done_row s row other = refl

pub not_done : (s : State) (row : Row) → s.stage ≡ at_done → ((n : ℕ) → row ≡ rows.Done n → ⊥) → judged_line s (row_line row) ≡ Err Form
unfolding judged_line
not_done s row there other = ap (λ stage. judged_at s stage (row_line row)) there ∙ done_row s row other

-- what has been said when the query has ended
abbrev pub cleared : Sheet → Sheet
cleared s =
    record { head = s.head; count = s.count; asked = None; answer = None; parts = []; finished = []; block = None; identity = [] }

say_done_of : (sheet : Sheet) (z : Query) (n : ℕ) → sheet.asked ≡ Some z → say sheet (row_line (rows.Done n)) ≡ where_so (nat_eq n sheet.count) (Some (cleared sheet))
unfolding say
say_done_of sheet z n e = ap (λ a. say (record sheet { asked = a }) (row_line (rows.Done n))) e

done_at : (s : State) (z : Query) (n : ℕ) (b : Bool) → s.stage ≡ at_done → s.sheet.asked ≡ Some z → nat_eq n s.sheet.count ≡ b
    → judged_line s (row_line (rows.Done n)) ≡ (or_fault Form (where_so b (Some (cleared s.sheet))) >>= λ sheet. Ok (moved_to s sheet between_queries))
unfolding judged_line
done_at s z n b there asked e =
    ap (λ stage. judged_at s stage (row_line (rows.Done n))) there
    ∙ ap (λ o. or_fault Form o >>= λ sheet. Ok (moved_to s sheet between_queries)) (say_done_of s.sheet z n asked ∙ ap (λ b. where_so b (Some (cleared s.sheet))) e)

query_ends : (s : State) (z : Query) (n : ℕ) → s.stage ≡ at_done → s.sheet.asked ≡ Some z → nat_eq n s.sheet.count ≡ true
    → judged_line s (row_line (rows.Done n)) ≡ Ok (moved_to s (cleared s.sheet) between_queries)
query_ends s z n there asked e = done_at s z n true there asked e

misnumbered : (s : State) (z : Query) (n : ℕ) → s.stage ≡ at_done → s.sheet.asked ≡ Some z → nat_eq n s.sheet.count ≡ false
    → judged_line s (row_line (rows.Done n)) ≡ Err Form
misnumbered s z n there asked e = done_at s z n false there asked e

pub numbered_done : (p : Report) (s : State) (z : Query) (row : Row) (n count : ℕ) → row ≡ rows.Done n → n ≡ count → p.count ≡ count → Tells p s
    → s.stage ≡ at_done → s.sheet.asked ≡ Some z
    → (t : State) × (judged_line s (row_line row) ≡ Ok t) × Tells p t × ((t.stage ≡ between_queries) × (t.sheet.asked ≡ None))
numbered_done p s z row n count is same counted tells there asked = (
  moved_to s (cleared s.sheet) between_queries,
  ap (λ row. judged_line s (row_line row)) is ∙ query_ends s z n there asked (eq-eqb n s.sheet.count (same ∙ sym counted ∙ sym tells.count)),
  record { head = tells.head; version = tells.version; count = tells.count; verdicts = tells.verdicts; passed = tells.passed },
  (refl, refl),
)

pub other_done : (p : Report) (s : State) (z : Query) (row : Row) (n count : ℕ) → row ≡ rows.Done n → (n ≡ count → ⊥) → p.count ≡ count → Tells p s
    → s.stage ≡ at_done → s.sheet.asked ≡ Some z → judged_line s (row_line row) ≡ Err Form
other_done p s z row n count is other counted tells there asked =
    ap (λ row. judged_line s (row_line row)) is ∙ misnumbered s z n there asked (ne_eqb n s.sheet.count (λ e. other (e ∙ tells.count ∙ counted)))

-- ---- the ends of queries
pub answered : (p : Report) (a : Asked) (c : Certificate) (s : State) (row : Row) (e : Ending) (o : Option Certificate) (v : ℕ) → row ≡ rows.Ended e → o ≡ Some c
    → v ≡ p.verdicts + 1 → Tells p s → Answers p.problem a s (Ok o) (judged_line s (row_line (rows.Ended e)))
    → (t : State) × (judged_line s (row_line row) ≡ Ok t) × Tells (record p { verdicts = v }) t × (StandsIn p.problem (parts_of a) c t.stage × Says p.problem a t)
answered p a c s row e o v is found more tells h =
    let k = subst (λ o. Answers p.problem a s (Ok o) (judged_line s (row_line (rows.Ended e)))) found h in
    let w = k.2 in (
      k.0,
      ap (λ row. judged_line s (row_line row)) is ∙ k.1,
      record {
        head = w.says.head;
        version = w.version ∙ tells.version;
        count = w.count ∙ tells.count;
        verdicts = w.verdicts ∙ ap suc tells.verdicts ∙ sym (add-one p.verdicts) ∙ sym more;
        passed = w.passed ∙ tells.passed;
      },
      (w.stands, w.says),
    )

pub unanswered : (p : Report) (a : Asked) (s : State) (row : Row) (e : Ending) (o : Option Certificate) (v : ℕ) → row ≡ rows.Ended e → o ≡ None
    → v ≡ p.passed + 1 → Tells p s → Answers p.problem a s (Ok o) (judged_line s (row_line (rows.Ended e)))
    → (t : State) × (judged_line s (row_line row) ≡ Ok t) × Tells (record p { passed = v }) t × ((t.stage ≡ at_done) × (t.sheet.asked ≡ Some a.query))
unanswered p a s row e o v is none more tells h =
    let k = subst (λ o. Answers p.problem a s (Ok o) (judged_line s (row_line (rows.Ended e)))) none h in
    let w = k.2 in (
      k.0,
      ap (λ row. judged_line s (row_line row)) is ∙ k.1,
      record {
        head = w.says.head;
        version = w.version ∙ tells.version;
        count = w.count ∙ tells.count;
        verdicts = w.verdicts ∙ tells.verdicts;
        passed = w.passed ∙ ap suc tells.passed ∙ sym (add-one p.passed) ∙ sym more;
      },
      (w.stands, w.says.asked.asked),
    )

-- ---- behind the report
pub after_all : (s : State) (row : Row) → s.stage ≡ at_end → judged_line s (row_line row) ≡ Err Form
unfolding judged_line
after_all s row there = ap (λ stage. judged_at s stage (row_line row)) there

-- ---- rows of certificates
pub certified : (p : Report) (a : Asked) (c : Certificate) (s : State) (stage : Stage) (said : Result State Reason) → Tells p s
    → (t : State) × (said ≡ Ok t) × Goes p.problem a c s t
    → ((t : State) → Says p.problem a t → StandsIn p.problem (parts_of a) c t.stage → StandsAt p.problem stage t)
    → (t : State) × (said ≡ Ok t) × Tells p t × StandsAt p.problem stage t
certified p a c s stage said tells h stands =
    let w = h.2 in (
      h.0,
      h.1,
      record {
        head = w.says.head;
        version = w.version ∙ tells.version;
        count = w.count ∙ tells.count;
        verdicts = w.verdicts ∙ tells.verdicts;
        passed = w.passed ∙ tells.passed;
      },
      stands h.0 w.says w.stands,
    )
