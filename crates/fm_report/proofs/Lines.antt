-- The lines of a text; what a beginning of a text states.
use Rattle.std.proofs.Common.{◌≡◌, List, [], ◌∷◌, ◌++◌, refl, sym, ap, subst, ◌∙◌, append_assoc, append-nil}
use Rattle.std.specs.Prelude.{Bool, true, false, if◌then◌else◌, nat_eq, not}
use Rattle.std.specs.List.{list_all}
use Rattle.std.proofs.lemmas.Bool.{and_parts}
use Rattle.fm_words.specs.Parts.{Bytes}
use Rattle.fm_report.specs.Sheets.{Sheet, blank}
use Rattle.fm_report.specs.Reading.{line_in, said_of, states, sheet_after, reading, lines_from, statements}

-- ---- the beginning of a text
pub record Begins {A : Type 0} (xs all : List A) : Type 0 where
  pub more : List A
  pub is : all ≡ xs ++ more

lines_begin : (begun xs ys : Bytes) → Begins (lines_from begun xs) (lines_from begun (xs ++ ys))
lines_begin begun [] ys = record { more = lines_from begun ys; is = refl }
lines_begin begun (x ∷ xs) ys = by_test (nat_eq x 10) (lines_begin [] xs ys) (lines_begin (begun ++ x ∷ []) xs ys) where
  by_test : (t : Bool) → Begins (lines_from [] xs) (lines_from [] (xs ++ ys)) → Begins (lines_from (begun ++ x ∷ []) xs) (lines_from (begun ++ x ∷ []) (xs ++ ys))
      → Begins (if t then begun ∷ lines_from [] xs else lines_from (begun ++ x ∷ []) xs) (if t then begun ∷ lines_from [] (xs ++ ys) else lines_from (begun ++ x ∷ []) (xs ++ ys))
  by_test true a b = record { more = a.more; is = ap (λ ls. begun ∷ ls) a.is }
  by_test false a b = b

reading_begins : (s : Sheet) (xs ys : List Bytes) → Begins (reading s xs) (reading s (xs ++ ys))
reading_begins s [] ys = record { more = reading s ys; is = refl }
reading_begins s (x ∷ xs) ys =
    let next = said_of s (line_in s x) in
    let here = states s x (line_in s x) next in
    let rest = reading_begins (sheet_after s next) xs ys in
    record { more = rest.more; is = ap (λ zs. here ++ zs) rest.is ∙ sym (append_assoc here (reading (sheet_after s next) xs) rest.more) }

-- what a beginning of the bytes states is a beginning of what they state
pub statements_begin : (xs ys : Bytes) → Begins (statements xs) (statements (xs ++ ys))
unfolding statements
statements_begin xs ys =
    let ls = lines_begin [] xs ys in
    subst (λ all. Begins (reading blank (lines_from [] xs)) (reading blank all)) (sym ls.is) (reading_begins blank (lines_from [] xs) ls.more)

-- ---- lines
-- no byte is LF
abbrev pub is_one_line : Bytes → Bool
is_one_line bs = list_all (λ b. not (nat_eq b 10)) bs

pub lines_at : (begun xs ys : Bytes) → is_one_line xs ≡ true → lines_from begun (xs ++ 10 ∷ ys) ≡ (begun ++ xs) ∷ lines_from [] ys
lines_at begun [] ys h = ap (λ l. l ∷ lines_from [] ys) (sym (append-nil begun))
lines_at begun (x ∷ xs) ys h = by_test (nat_eq x 10) (and_parts _ _ h).0 (lines_at (begun ++ x ∷ []) xs ys (and_parts _ _ h).1) where
  by_test : (t : Bool) → not t ≡ true → lines_from (begun ++ x ∷ []) (xs ++ 10 ∷ ys) ≡ ((begun ++ x ∷ []) ++ xs) ∷ lines_from [] ys
      → (if t then begun ∷ lines_from [] (xs ++ 10 ∷ ys) else lines_from (begun ++ x ∷ []) (xs ++ 10 ∷ ys)) ≡ (begun ++ x ∷ xs) ∷ lines_from [] ys
  by_test true h e = absurd (let f : false ≡ true = h in cc)
  by_test false h e = e ∙ ap (λ l. l ∷ lines_from [] ys) (append_assoc begun (x ∷ []) xs)
