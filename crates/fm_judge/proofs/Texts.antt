-- A valid text states only what holds.
use Rattle.std.proofs.Common.{◌≡◌, ℕ, suc, List, [], ◌∷◌, ◌++◌, Option, Some, None, Result, Ok, Err, refl, sym, ap, ◌∙◌, subst₂}
use Rattle.fm_words.specs.Parts.{Bytes}
use Rattle.fm_words.proofs.FirstFaults.{no_fault, same_ok, first_read}
use Rattle.fm_cert.specs.Lines.{Line}
use Rattle.fm_report.specs.Sheets.{Sheet}
use Rattle.fm_report.specs.Verdicts.{Stated}
use Rattle.fm_report.specs.Reading.{lines_from, line_in, said_of, states, sheet_after, reading, statements}
use Rattle.fm_report.specs.Holding.{AllHold, VerdictsHold}
use Rattle.fm_parts.specs.Replays.{Reason}
use Rattle.fm_judge.specs.Judging.{State, start, judged_line, judged_read, unread, without_exponents, step, Counts, at_line, judged_lines, unended_from, all_lines, judgement}
use Rattle.fm_judge.proofs.Kept.{Kept}
use Rattle.fm_judge.proofs.Steps.{line_outcome}

hold_append : (xs ys : List Stated) → AllHold xs → AllHold ys → AllHold (xs ++ ys)
hold_append [] ys h k = k
hold_append (x ∷ xs) ys h k = (h.0, hold_append xs ys h.1 k)

-- a line that is judged well was read
line_read : (s t : State) (text : Bytes) → step s text ≡ Ok t → (l : Line) × (line_in s.sheet text ≡ Some l) × (judged_line s l ≡ Ok t)
unfolding step
line_read s t text e = go (line_in s.sheet text) refl e
  where
    go : (o : Option Line) → line_in s.sheet text ≡ o → judged_read s text o ≡ Ok t → (l : Line) × (line_in s.sheet text ≡ Some l) × (judged_line s l ≡ Ok t)
    go None i h = absurd (no_fault (unread s (line_in s.sheet (without_exponents text))) t h)
    go (Some l) i h = (l, i, h)

line_judged : (n : ℕ) (x : Result State Reason) (t : State) → at_line n x ≡ Ok t → x ≡ Ok t
line_judged n (Ok s) t e = ap (λ (y : State). Ok y) (same_ok e)
line_judged n (Err why) t e = absurd (no_fault (record { line = n; why = why }) t e)

-- what the first lines state holds
lines_hold : (n : ℕ) (s t : State) (xs ys : List Bytes) → Kept s → judged_lines n s (xs ++ ys) ≡ Ok t → AllHold (reading s.sheet xs)
unfolding judged_line
lines_hold n s t [] ys K e = tt
lines_hold n s t (x ∷ xs) ys K e =
    let a = first_read (at_line n (step s x)) (λ u. judged_lines (suc n) u (xs ++ ys)) t e in
    let u = a.0 in
    let r = line_read s u x (line_judged n (step s x) u a.1) in
    let o = line_outcome s u s.stage r.0 K r.2 in
    let rest = lines_hold (suc n) u t xs ys o.1 a.2 in
    let said : said_of s.sheet (line_in s.sheet x) ≡ Some u.sheet = ap (said_of s.sheet) r.1 ∙ o.0 in
    subst₂ (λ (l : Option Line) (sheet : Option Sheet). AllHold (states s.sheet x l sheet ++ reading (sheet_after s.sheet sheet) xs)) (sym r.1) (sym said) (hold_append _ _ o.2 rest)

pub text_holds : (text : Bytes) (c : Counts) → judgement text ≡ Ok c → VerdictsHold text
unfolding judgement VerdictsHold statements start
text_holds text c e =
    let a = first_read (judged_lines 1 start (all_lines text)) (λ s. Ok (record { verdicts = s.verdicts; passed = s.passed })) c e in
    lines_hold 1 start a.0 (lines_from [] text) (unended_from [] text) tt a.1
