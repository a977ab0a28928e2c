-- What a line `part` does, by the form that is kept of it.
use Rattle.std.proofs.Common.{◌≡◌, ℕ, suc, ◌<◌, Bool, true, false, if◌then◌else◌, List, [], ◌∷◌, ◌++◌, length, Option, Some, None, Result, Ok, Err, refl, sym, ap, ◌∙◌, subst, arith}
use Rattle.std.proofs.lemmas.Bool.{eq-eqb, ne_eqb}
use Rattle.fm_words.specs.Steps.{◌>>=◌, or_fault}
use Rattle.fm_poly.specs.declared.ring.Ring.{Ring}
use Rattle.fm_report.specs.Parts.{Part, given}
use Rattle.fm_report.specs.Sheets.{Sheet, numbered, say_part}
use Rattle.fm_parts.specs.Replays.{Reason, Reference, Shape, Depth, needs}
use Rattle.fm_parts.specs.Shapes.{fits, is_shallow}
use Rattle.fm_judge.specs.Judging.{State, Stage, columns_exist, part_line}
use Rattle.fm_lines.specs.Rows as rows
use Rattle.fm_lines.specs.declared.part_form.PartForm.{PartForm}
use Rattle.fm_lines.specs.declared.part_form.PartForm.TheVariants as lines
use Rattle.fm_pres.specs.Tables.{fault_of, refers, tree_of}
use Rattle.fm_pres.specs.declared.form.Form.{Form as TableForm}
use Rattle.fm_pres.specs.declared.part_fault.PartFault.{PartFault}
use Rattle.fm_pres.specs.declared.part_fault.PartFault.TheVariants as faults
use Rattle.fm_conditions.specs.Reasons.{Judges, reason_of}
use Rattle.fm_conditions.specs.declared.why.Refused.{Refused}
use Rattle.fm_conditions.specs.declared.why.Refused.TheVariants.{Memory, Bad}
use Rattle.fm_asked.specs.Forms.{IsForm, IsMisshapen}
use Rattle.fm_asked.specs.Narrowing.{MOST}
use Rattle.fm_asked.specs.Partings.{Enters, why_of, with_parts}
use Rattle.fm_asked.proofs.LineParts.{line_part, said_part, IsUnnamed, IsNamed, form_named}

-- ---- the tests of a part, one after the other

abbrev by_tests : Bool → Bool → Bool → State → Result State Reason
by_tests x y z t = needs x Reference >>= λ _. needs y Shape >>= λ _. needs z Depth >>= λ _. Ok t

abbrev judged_part : State → Stage → Option Part → Result State Reason
judged_part s stage None = Err Reference
judged_part s stage (Some a) = by_tests (columns_exist a) (fits a) (is_shallow a) (with_parts s (s.sheet.parts ++ a ∷ []) stage)

abbrev of_sheet : State → Stage → ℕ → Option Sheet → Result State Reason
of_sheet s stage k o =
    or_fault Reference o >>= λ sheet. or_fault Reference (numbered sheet.parts k) >>= λ b. needs (columns_exist b) Reference >>= λ _.
    needs (fits b) Shape >>= λ _. needs (is_shallow b) Depth >>= λ _. Ok (record s { sheet = sheet; stage = stage })

last_part : (ps : List Part) (a : Part) → numbered (ps ++ a ∷ []) (suc (length ps)) ≡ Some a
last_part [] a = refl
last_part (b ∷ ps) a = rw (ne_eqb (suc (length (b ∷ ps))) 1 (omega arith)) (ap (numbered (ps ++ a ∷ [])) (omega arith) ∙ last_part ps a)

of_sheet_is : (s : State) (stage : Stage) (k : ℕ) (o : Option Part) → k ≡ suc (length s.sheet.parts) → of_sheet s stage k (say_part s.sheet k o) ≡ judged_part s stage o
of_sheet_is s stage k None e = rw (eq-eqb k (suc (length s.sheet.parts)) e) refl
of_sheet_is s stage k (Some a) e =
    rw (eq-eqb k (suc (length s.sheet.parts)) e)
    (ap (λ (p : Option Part). or_fault Reference p >>= λ b. needs (columns_exist b) Reference >>= λ _.
    needs (fits b) Shape >>= λ _. needs (is_shallow b) Depth >>= λ _. Ok (with_parts s (s.sheet.parts ++ a ∷ []) stage))
    (ap (numbered (s.sheet.parts ++ a ∷ [])) e ∙ last_part s.sheet.parts a))

pub next_judged : (s : State) (stage : Stage) (k : ℕ) (form : PartForm) → k ≡ suc (length s.sheet.parts)
    → part_line s stage k (rows.part_line k form) ≡ judged_part s stage (line_part s.sheet.parts form)
next_judged s stage k form e =
    rw (eq-eqb k (suc (length s.sheet.parts)) e)
    (ap (of_sheet s stage k) (said_part s.sheet k form) ∙ of_sheet_is s stage k (line_part s.sheet.parts form) e)

-- ---- what becomes of the part

abbrev outcome : State → Stage → Part → Option PartFault → Result State Reason
outcome s stage a None = Ok (with_parts s (s.sheet.parts ++ a ∷ []) stage)
outcome s stage a (Some fault) = Err (reason_of (why_of fault))

unnamed_judged : (s : State) (stage : Stage) (o : Option Part) → IsUnnamed o → judged_part s stage o ≡ Err Reference
unnamed_judged s stage None h = refl
unnamed_judged s stage (Some a) h = ap (λ b. by_tests b (fits a) (is_shallow a) (with_parts s (s.sheet.parts ++ a ∷ []) stage)) h

tests_told : (s : State) (stage : Stage) (a : Part) (x y z : Bool) → x ≡ true → by_tests x y z (with_parts s (s.sheet.parts ++ a ∷ []) stage)
    ≡ outcome s stage a (if y then (if z then None else Some faults.Depth) else Some faults.Shape)
tests_told s stage a true true true h = refl
tests_told s stage a true true false h = refl
tests_told s stage a true false z h = refl
tests_told s stage a false y z h = absurd (cc h)

fault_told : (s : State) (stage : Stage) (o : Option Part) (f : TableForm) (b : Bool) → IsNamed s.sheet.parts o f b
    → judged_part s stage o ≡ outcome s stage (tree_of s.sheet.parts f)
    (if b then (if fits (tree_of s.sheet.parts f) then (if is_shallow (tree_of s.sheet.parts f) then None else Some faults.Depth) else Some faults.Shape)
    else Some faults.Reference)
fault_told s stage o f false h = unnamed_judged s stage o h
fault_told s stage o f true h =
    let a = tree_of s.sheet.parts f in
    ap (judged_part s stage) h.0 ∙ tests_told s stage a (columns_exist a) (fits a) (is_shallow a) h.1

entered : {X : Type 0} (s : State) (stage : Stage) (qs : List Part) (f : TableForm) (result : Result X Refused) → Enters s.sheet.parts qs f result
    → Judges (λ (_ : X). with_parts s qs stage) result (outcome s stage (tree_of s.sheet.parts f) (fault_of s.sheet.parts f))
entered s stage qs f (Ok x) h =
    ap (outcome s stage (tree_of s.sheet.parts f)) h.0 ∙ ap (λ ps. Ok (with_parts s ps stage)) (sym h.1)
entered s stage qs f (Err (Bad why)) h =
    ap (outcome s stage (tree_of s.sheet.parts f)) h.1 ∙ ap (λ w. Err (reason_of w)) (sym h.2)
entered s stage qs f (Err Memory) h = tt

-- a form that is kept is entered, or its fault is told
pub form_entered : {X : Type 0} (r : Ring) (s : State) (stage : Stage) (qs : List Part) (k : ℕ) (form : PartForm) (f : TableForm) (result : Result X Refused)
    → length s.sheet.parts < MOST → k ≡ suc (length s.sheet.parts) → IsForm r s.sheet.parts form f → Enters s.sheet.parts qs f result
    → Judges (λ (_ : X). with_parts s qs stage) result (part_line s stage k (rows.part_line k form))
form_entered {X} r s stage qs k form f result few e is h =
    let ps = s.sheet.parts in
    subst (Judges (λ (_ : X). with_parts s qs stage) result)
    (sym (next_judged s stage k form e ∙ fault_told s stage (line_part ps form) f (refers ps f) (form_named ps few r form f is)))
    (entered s stage qs f result h)

-- a matrix that has no form
pub misshapen : (s : State) (stage : Stage) (k : ℕ) (form : PartForm) → k ≡ suc (length s.sheet.parts) → IsMisshapen form
    → part_line s stage k (rows.part_line k form) ≡ Err Shape
misshapen s stage k (lines.Given n columns) e h =
    next_judged s stage k (lines.Given n columns) e
    ∙ ap (λ b. by_tests true b (is_shallow (given n (rows.columns_of columns.items))) (with_parts s (s.sheet.parts ++ given n (rows.columns_of columns.items) ∷ []) stage)) h
misshapen s stage k form e h = absurd h
