-- A line on which no verdict rests states nothing at the beginning of a text.
use Rattle.std.proofs.Common.{◌≡◌, List, [], ◌∷◌, ◌++◌, refl, ap, subst, ◌∙◌}
use Rattle.std.specs.Prelude.{Option, Some, None, Bool, true, false, if◌then◌else◌, nat_eq, not}
use Rattle.std.specs.List.{list_all}
use Rattle.fm_words.specs.Parts.{Bytes}
use Rattle.fm_words.specs.Words.{words}
use Rattle.fm_cert.specs.Fields.{Values}
use Rattle.fm_cert.specs.Kinds.{Kind, row}
use Rattle.fm_cert.specs.Kinds as kinds
use Rattle.fm_cert.specs.Lines.{Line, Head, Question, Row}
use Rattle.fm_report.specs.Sheets.{Sheet, blank}
use Rattle.fm_report.specs.Verdicts.{unreadable}
use Rattle.fm_report.specs.Reading.{stated_by, rests_on, broken, line_in, said_of, states, sheet_after, reading, statements}
use Rattle.fm_report.specs.Holding.{VerdictsHold}
use Rattle.fm_report.proofs.Holding.{front_holds, silent_holds}
use Rattle.fm_report.proofs.Lines.{lines_at}

row_quiet : (k : Kind) (v : Values (row k)) → stated_by blank (Row k v) ≡ []
unfolding blank
row_quiet kinds.Done v = refl
row_quiet kinds.Stable v = refl
row_quiet kind v = refl

quiet : (l : Line) → stated_by blank l ≡ []
quiet (Head s) = refl
quiet (Question k s) = refl
quiet (Row k v) = row_quiet k v

not_broken : (text : Bytes) → rests_on (words text) ≡ false → broken text ≡ []
not_broken text h = ap (λ (t : Bool). if t then unreadable ∷ [] else []) h

nothing : (text : Bytes) (l : Option Line) (o : Option Sheet) → rests_on (words text) ≡ false → states blank text l o ≡ []
nothing text None o h = not_broken text h
nothing text (Some l) None h = not_broken text h
nothing text (Some l) (Some t) h = quiet l

both_empty : {A : Type 0} (xs ys : List A) → xs ≡ [] → ys ≡ [] → xs ++ ys ≡ []
both_empty xs ys e f = ap (λ zs. zs ++ ys) e ∙ f

line_is_silent : (line : Bytes) → list_all (λ b. not (nat_eq b 10)) line ≡ true → rests_on (words line) ≡ false → statements (line ++ 10 ∷ []) ≡ []
unfolding statements
line_is_silent line h r =
    ap (reading blank) (lines_at [] line [] h)
    ∙ both_empty (states blank line (line_in blank line) (said_of blank (line_in blank line))) (reading (sheet_after blank (said_of blank (line_in blank line))) [])
    (nothing line (line_in blank line) (said_of blank (line_in blank line)) r) refl

pub message_holds : (line : Bytes) → list_all (λ b. not (nat_eq b 10)) line ≡ true → rests_on (words line) ≡ false → (front back : Bytes) → line ++ 10 ∷ [] ≡ front ++ back → VerdictsHold front
message_holds line h r front back e = front_holds front back (subst VerdictsHold e (silent_holds (line ++ 10 ∷ []) (line_is_silent line h r)))
