-- The lines of a text by its parts.
use Rattle.std.proofs.Common.{◌≡◌, ℕ, ◌-◌, ◌<◌, Bool, true, false, if◌then◌else◌, cond, nat_eq, List, [], ◌∷◌, ◌++◌, take, drop, length, refl, sym, ◌∙◌, ap, subst, arith}
use Rattle.std.proofs.lemmas.List.{append-nil, append_assoc, take_rest}
use Rattle.std.specs.List.{onto_first}
use Rattle.fm_words.specs.declared.mark.Mark.TheVariants.{Feed}
use Rattle.fm_words.specs.Parts.{Bytes, parts}
use Rattle.fm_words.proofs.Cuts.{first_of_parts}
use Rattle.fm_report.specs.Reading.{lines_from}
use Rattle.fm_judge.specs.Judging.{unended_from, all_lines}

-- the parts without a last one that is empty
abbrev ended : List Bytes → List Bytes
ended [] = []
ended ([] ∷ []) = []
ended ((b ∷ bs) ∷ []) = (b ∷ bs) ∷ []
ended (l ∷ k ∷ ls) = l ∷ ended (k ∷ ls)

abbrev before_first : Bytes → List Bytes → List Bytes
before_first line [] = []
before_first line (p ∷ ps) = (line ++ p) ∷ ps

one_ended : (line : Bytes) → lines_from line [] ++ unended_from line [] ≡ ended ((line ++ []) ∷ [])
one_ended [] = refl
one_ended (b ∷ line) = rw (append-nil line) refl

more_ended : (x : Bytes) (ps : List Bytes) → (q : Bytes) × (qs : List Bytes) × (ps ≡ q ∷ qs) → ended (x ∷ ps) ≡ x ∷ ended ps
more_ended [] ps h = ap (λ v. ended ([] ∷ v)) h.2 ∙ sym (ap (λ v. [] ∷ ended v) h.2)
more_ended (b ∷ bs) ps h = ap (λ v. ended ((b ∷ bs) ∷ v)) h.2 ∙ sym (ap (λ v. (b ∷ bs) ∷ ended v) h.2)

before_nothing : (ps : List Bytes) → before_first [] ps ≡ ps
before_nothing [] = refl
before_nothing (p ∷ ps) = refl

unended_more : (line : Bytes) (b : ℕ) (bs : Bytes) → unended_from line (b ∷ bs) ≡ (if nat_eq b 10 then unended_from [] bs else unended_from (line ++ b ∷ []) bs)
unended_more [] b bs = refl
unended_more (c ∷ line) b bs = refl

-- the lines of a byte and a text, where the lines of the text are known
step_lines : (line : Bytes) (b : ℕ) (bs : Bytes) (here : Bool) (ps : List Bytes) → (q : Bytes) × (qs : List Bytes) × (ps ≡ q ∷ qs)
    → lines_from [] bs ++ unended_from [] bs ≡ ended (before_first [] ps)
    → lines_from (line ++ b ∷ []) bs ++ unended_from (line ++ b ∷ []) bs ≡ ended (before_first (line ++ b ∷ []) ps)
    → (if here then line ∷ lines_from [] bs else lines_from (line ++ b ∷ []) bs) ++ (if here then unended_from [] bs else unended_from (line ++ b ∷ []) bs)
    ≡ ended (before_first line (cond here ([] ∷ ps) (onto_first b ps)))
step_lines line b bs true ps h one two =
    ap (λ v. line ∷ v) (one ∙ ap ended (before_nothing ps)) ∙ sym (ap (λ v. ended (v ∷ ps)) (append-nil line) ∙ more_ended line ps h)
step_lines line b bs false ps h one two =
    two ∙ ap (λ v. ended (before_first (line ++ b ∷ []) v)) h.2 ∙ ap (λ v. ended (v ∷ h.1)) (append_assoc line (b ∷ []) h.0)
    ∙ sym (ap (λ v. ended (before_first line (onto_first b v))) h.2)

by_parts : (line text : Bytes) → lines_from line text ++ unended_from line text ≡ ended (before_first line (parts Feed text))
by_parts line [] = one_ended line
by_parts line (b ∷ bs) =
    ap (λ v. (if nat_eq b 10 then line ∷ lines_from [] bs else lines_from (line ++ b ∷ []) bs) ++ v) (unended_more line b bs)
    ∙ step_lines line b bs (nat_eq b 10) (parts Feed bs) (first_of_parts Feed bs) (by_parts [] bs) (by_parts (line ++ b ∷ []) bs)

lines_by_parts : (text : Bytes) → all_lines text ≡ ended (parts Feed text)
lines_by_parts text = by_parts [] text ∙ ap ended (before_nothing (parts Feed text))

-- a line that is ended by LF
pub next_ended : (text line rest : Bytes) → parts Feed text ≡ line ∷ parts Feed rest → all_lines text ≡ line ∷ all_lines rest
next_ended text line rest e =
    lines_by_parts text ∙ ap ended e ∙ more_ended line (parts Feed rest) (first_of_parts Feed rest) ∙ ap (λ v. line ∷ v) (sym (lines_by_parts rest))

some_part : (b : ℕ) (here : Bool) (ps : List Bytes) (line : Bytes) → (q : Bytes) × (qs : List Bytes) × (ps ≡ q ∷ qs)
    → cond here ([] ∷ ps) (onto_first b ps) ≡ line ∷ []
    → ended (line ∷ []) ≡ line ∷ []
some_part b true ps line h e = absurd (none (sym (ap (λ v. [] ∷ v) h.2) ∙ e)) where
  none : {q : Bytes} {qs : List Bytes} {line : Bytes} → [] ∷ q ∷ qs ≡ line ∷ [] → ⊥
  none e = cc
some_part b false ps line h e = subst (λ l. ended (l ∷ []) ≡ l ∷ []) (first (sym (ap (onto_first b) h.2) ∙ e)) refl where
  first : {q : Bytes} {qs : List Bytes} {line : Bytes} → (b ∷ q) ∷ qs ≡ line ∷ [] → b ∷ q ≡ line
  first e = cc

-- a line behind the last LF, before a text without bytes
last_line : (text line : Bytes) → (0 < length text) → parts Feed text ≡ line ∷ [] → all_lines text ≡ line ∷ []
last_line [] line some e = absurd (omega arith)
last_line (b ∷ bs) line some e =
    lines_by_parts (b ∷ bs) ∙ ap ended e ∙ some_part b (nat_eq b 10) (parts Feed bs) line (first_of_parts Feed bs) e

nothing_left : (text : Bytes) → take (length text - length text) (drop (length text) text) ≡ []
nothing_left text = take_rest text (length text) ∙ none text where
  none : (xs : Bytes) → drop (length xs) xs ≡ []
  none [] = refl
  none (x ∷ xs) = none xs

pub last_of : (text line : Bytes) → (length text ≡ 0 → ⊥) → parts Feed text ≡ line ∷ []
    → all_lines text ≡ line ∷ all_lines (take (length text - length text) (drop (length text) text))
last_of text line some e = last_line text line (omega (arith, some)) e ∙ ap (λ v. line ∷ all_lines v) (sym (nothing_left text))
