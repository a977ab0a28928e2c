-- What is found in the lines of a report.
use Rattle.std.proofs.Common.{◌≡◌, ℕ, suc, ◌+◌, List, [], ◌∷◌, Option, Some, None, Result, Ok, Err, refl, sym, ap, ◌∙◌, subst, add-one}
use Rattle.std.specs.Prelude.{IfOk}
use Rattle.fm_words.specs.Parts.{Bytes}
use Rattle.fm_words.specs.Steps.{◌>>=◌}
use Rattle.fm_problem.specs.declared.problem.Problem.{Problem}
use Rattle.fm_report.specs.Parts.{Part}
use Rattle.fm_parts.specs.Replays.{Reason, Truncated}
use Rattle.fm_judge.specs.Goals as goals
use Rattle.fm_judge.specs.Places as places
use Rattle.fm_judge.specs.Judging as judging
use Rattle.fm_judge.specs.Judging.{State, BadLine, Counts, all_lines, at_line, ended, judged_lines, judgement, stage_at, start, step}
use Rattle.fm_conditions.specs.Reasons.{Judges, reason_of}
use Rattle.fm_conditions.specs.declared.why.Refused.{Refused}
use Rattle.fm_conditions.specs.declared.why.Refused.TheVariants.{Memory, Bad}
use Rattle.fm_asked.specs.declared.logs.OpenLog.{OpenLog}
use Rattle.fm_check.specs.Heads.{Finds, IsFoundBad, counts_of}
use Rattle.fm_check.specs.Reports.{StandsAt, Steps, Tells, finding}
use Rattle.fm_check.specs.Standings.{StandsWith}
use Rattle.fm_check.specs.declared.checked.Checked.{Checked}
use Rattle.fm_check.specs.declared.report.Report.{Report}
use Rattle.fm_check.specs.declared.stage.Stage.{Stage}
use Rattle.fm_check.specs.declared.stage.Stage.TheVariants as stages

-- ---- the end of a text
abbrev cut_off : ℕ → Result State BadLine
cut_off n = Err (record { line = n; why = Truncated })

at_place : (n : ℕ) (s : State) (g : goals.Goal) (p : places.Place) → ended n s (stage_at g p) ≡ cut_off n
at_place n s g places.end = refl
at_place n s g p = refl

at_certificate : (n : ℕ) (s : State) (g : goals.Goal) (p : places.Place) (ps : List Part) (o : Option OpenLog) → StandsWith g p ps o s.stage → ended n s s.stage ≡ cut_off n
at_certificate n s g p ps None h = ap (ended n s) h ∙ at_place n s g p
at_certificate n s g p ps (Some log) h = ap (ended n s) h.1

-- it is cut off everywhere but behind the report
pub not_ended : (n : ℕ) (q : Problem) (stage : Stage) (s : State) → (stage ≡ stages.End → ⊥) → StandsAt q stage s → ended n s s.stage ≡ cut_off n
not_ended n q stages.Between s other h = ap (ended n s) h.0
not_ended n q (stages.Answer a) s other h = ap (ended n s) h.0
not_ended n q (stages.Certificate a c) s other h = at_certificate n s _ _ _ c.log h.0
not_ended n q (stages.Done a) s other h = ap (ended n s) h.0
not_ended n q stages.End s other h = absurd (other refl)

-- ---- lines

-- exactly the reason, unless memory ran out
abbrev pub IsBad : Refused → Result State Reason → Type 0
IsBad (Bad why) said = said ≡ Err (reason_of why)
IsBad Memory said = Unit {0}

pub judges_bad : {A : Type 0} (view : A → State) (refused : Refused) (said : Result State Reason) → Judges view (Err refused) said → IsBad refused said
judges_bad view (Bad why) said h = h
judges_bad view Memory said h = tt

pub steps_bad : (X : Type 0) (p : Report) (stage : Stage) (refused : Refused) (said : Result State Reason) → Steps {X = X} p stage (Err refused) said → IsBad refused said
steps_bad X p stage (Bad why) said h = h
steps_bad X p stage Memory said h = tt

line_more : (n : ℕ) (s t : State) (l : Bytes) (ls : List Bytes) → step s l ≡ Ok t → judged_lines n s (l ∷ ls) ≡ judged_lines (n + 1) t ls
line_more n s t l ls e = ap (λ r. at_line n r >>= λ t. judged_lines (suc n) t ls) e ∙ ap (λ k. judged_lines k t ls) (sym (add-one n))

line_bad : (n : ℕ) (s : State) (why : Reason) (l : Bytes) (ls : List Bytes) → step s l ≡ Err why → judged_lines n s (l ∷ ls) ≡ Err (record { line = n; why = why })
line_bad n s why l ls e = ap (λ r. at_line n r >>= λ t. judged_lines (suc n) t ls) e

module _ (n : ℕ) (s : State) (text line left : Bytes) (lines : all_lines text ≡ line ∷ all_lines left) where
  -- a line that leads to a state
  pub judged_more : (t : State) → step s line ≡ Ok t → judged_lines n s (all_lines text) ≡ judged_lines (n + 1) t (all_lines left)
  judged_more t e = ap (judged_lines n s) lines ∙ line_more n s t line (all_lines left) e

  pub found_more : {F : Type 0} (t : State) (result : Result Checked F) → step s line ≡ Ok t → Finds (n + 1) t left result → Finds n s text result
  found_more t (Ok found) e h = ap counts_of (judged_more t e) ∙ h
  found_more t (Err e) f h = tt

  bad_line : (refused : Refused) (found : Checked) → IsFoundBad n refused found → IsBad refused (step s line) → counts_of (judged_lines n s (all_lines text)) ≡ finding found
  bad_line (Bad why) found h e = ap counts_of (ap (judged_lines n s) lines ∙ line_bad n s (reason_of why) line (all_lines left) e) ∙ sym h
  bad_line Memory found h e = absurd h

  -- and one that is bad
  pub found_bad : {F : Type 0} (refused : Refused) (result : Result Checked F) → IfOk result (IsFoundBad n refused) → IsBad refused (step s line) → Finds n s text result
  found_bad refused (Ok found) h e = bad_line refused found h e
  found_bad refused (Err f) h e = tt

-- what is found in the lines that are left is found in all
pub found_left : {F : Type 0} (m n : ℕ) (s t : State) (text left : Bytes) (result : Result Checked F)
    → judged_lines m s (all_lines text) ≡ judged_lines n t (all_lines left) → Finds n t left result → Finds m s text result
found_left m n s t text left (Ok found) e h = ap counts_of e ∙ h
found_left m n s t text left (Err f) e h = tt

-- a text without lines
pub found_nothing : (n : ℕ) (s : State) (text : Bytes) (found : Checked) → all_lines text ≡ [] → counts_of (ended n s s.stage) ≡ finding found
    → counts_of (judged_lines n s (all_lines text)) ≡ finding found
found_nothing n s text found none e = ap (λ ls. counts_of (judged_lines n s ls)) none ∙ e

-- ---- a loop over the lines

-- the lines of the text are judged as those that are left, from a state that is told
abbrev pub IsLeft : State → Bytes → ℕ → Report → Stage → Bytes → Type 0
IsLeft s text n p stage left =
    (t : State) × (judged_lines 4 s (all_lines text) ≡ judged_lines n t (all_lines left)) × Tells p t × StandsAt p.problem stage t

-- ---- the whole text
pub judgement_found : {F : Type 0} (text : Bytes) (result : Result Checked F) → Finds 1 start text result → IfOk result (λ found. judgement text ≡ finding found)
unfolding judgement
judgement_found text (Ok found) h = h
judgement_found text (Err e) h = tt
