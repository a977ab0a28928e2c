-- What stays of the first word of a text whose exponents are left out.
use Rattle.std.proofs.Common.{◌≡◌, ℕ, Bool, true, false, ◌||◌, if◌then◌else◌, cond, nat_eq, codes, List, [], ◌∷◌, inl, inr, refl, sym, ◌∙◌, ap, subst}
use Rattle.std.specs.List.{list_any, onto_first}
use Rattle.std.proofs.lemmas.Bool.{cases_eq, ne_eqb, eqb-false, eqb-true}
use Rattle.fm_words.specs.declared.mark.Mark.TheVariants.{Blank}
use Rattle.fm_words.specs.Parts.{Bytes, is_mark, parts, before_mark}
use Rattle.fm_words.specs.Words.{words, nonempty, same_bytes}
use Rattle.fm_problem.proofs.AsciiNames.{both}
use Rattle.fm_cert.specs.Lines.{begins_head}
use Rattle.fm_judge.specs.Judging.{capped_from, without_exponents}

abbrev has_caret : Bytes → Bool
has_caret bs = list_any (nat_eq 94) bs

-- the first word; nothing where there is none
abbrev first_word : Bytes → Bytes
first_word [] = []
first_word (b ∷ bs) = if is_mark Blank b then first_word bs else (b ∷ before_mark Blank bs)

abbrev is_head_word : Bytes → Bool
is_head_word w = same_bytes w (codes "ring") || (same_bytes w (codes "order") || same_bytes w (codes "ideal"))

first_part_is : (bs : Bytes) → (ps : List Bytes) × (parts Blank bs ≡ before_mark Blank bs ∷ ps)
first_part_is [] = ([], refl)
first_part_is (b ∷ bs) = cut (is_mark Blank b) (first_part_is bs) where
  cut : (here : Bool) → (ps : List Bytes) × (parts Blank bs ≡ before_mark Blank bs ∷ ps)
      → (ps : List Bytes) × (cond here ([] ∷ parts Blank bs) (onto_first b (parts Blank bs)) ≡ (if here then [] else (b ∷ before_mark Blank bs)) ∷ ps)
  cut true h = (parts Blank bs, refl)
  cut false h = (h.0, ap (onto_first b) h.1)

begins_by : (text : Bytes) → begins_head (words text) ≡ is_head_word (first_word text)
begins_by [] = refl
begins_by (b ∷ bs) = cut (is_mark Blank b) (first_part_is bs) (begins_by bs) where
  cut : (here : Bool) → (ps : List Bytes) × (parts Blank bs ≡ before_mark Blank bs ∷ ps) → begins_head (words bs) ≡ is_head_word (first_word bs)
      → begins_head (nonempty (cond here ([] ∷ parts Blank bs) (onto_first b (parts Blank bs))))
      ≡ is_head_word (if here then first_word bs else (b ∷ before_mark Blank bs))
  cut true h e = e
  cut false h e = ap (λ v. begins_head (nonempty (onto_first b v))) h.1

turned : (b : ℕ) → nat_eq 94 b ≡ false → nat_eq b 94 ≡ false
turned b h = ne_eqb b 94 (λ e. eqb-false 94 b h (sym e))

-- the part before the first blank stays, where no exponent stands in it
part_kept : (bs : Bytes) → has_caret (before_mark Blank bs) ≡ false → before_mark Blank (capped_from false false bs) ≡ before_mark Blank bs
part_kept [] h = refl
part_kept (b ∷ bs) h = cut (is_mark Blank b) (nat_eq 94 b) refl (part_kept bs) h where
  other : (t : Bool) → nat_eq 94 b ≡ t → (has_caret (before_mark Blank bs) ≡ false → before_mark Blank (capped_from false false bs) ≡ before_mark Blank bs)
      → (t || has_caret (before_mark Blank bs)) ≡ false → before_mark Blank (capped_from (nat_eq b 94) false bs) ≡ before_mark Blank bs
  other true is kept h = cc
  other false is kept h = rw (turned b is) (kept h)

  cut : (here t : Bool) → nat_eq 94 b ≡ t → (has_caret (before_mark Blank bs) ≡ false → before_mark Blank (capped_from false false bs) ≡ before_mark Blank bs)
      → has_caret (if here then [] else (b ∷ before_mark Blank bs)) ≡ false
      → (if here then [] else (b ∷ before_mark Blank (capped_from (nat_eq b 94) false bs))) ≡ (if here then [] else (b ∷ before_mark Blank bs))
  cut true t is kept h = refl
  cut false t is kept h = ap (λ v. b ∷ v) (other t is kept (subst (λ u. (u || has_caret (before_mark Blank bs)) ≡ false) is h))

no_caret : (b : ℕ) → is_mark Blank b ≡ true → nat_eq b 94 ≡ false
no_caret b is = elim (cases_eq b 94) [
  | inl e ↦ absurd (cc (is, ap (is_mark Blank) e))
  | inr n ↦ ne_eqb b 94 n
]

first_kept : (bs : Bytes) → has_caret (first_word bs) ≡ false → first_word (capped_from false false bs) ≡ first_word bs
first_kept [] h = refl
first_kept (b ∷ bs) h = cut (is_mark Blank b) refl (first_kept bs) (part_kept (b ∷ bs)) h where
  cut_off : (here : Bool) → here ≡ false
      → (if here then [] else (b ∷ before_mark Blank (capped_from (nat_eq b 94) false bs))) ≡ (if here then [] else (b ∷ before_mark Blank bs))
      → b ∷ before_mark Blank (capped_from (nat_eq b 94) false bs) ≡ b ∷ before_mark Blank bs
  cut_off true is e = cc
  cut_off false is e = e

  cut : (here : Bool) → is_mark Blank b ≡ here → (has_caret (first_word bs) ≡ false → first_word (capped_from false false bs) ≡ first_word bs)
      → (has_caret (before_mark Blank (b ∷ bs)) ≡ false → before_mark Blank (capped_from false false (b ∷ bs)) ≡ before_mark Blank (b ∷ bs))
      → has_caret (if here then first_word bs else (b ∷ before_mark Blank bs)) ≡ false
      → (if here then first_word (capped_from (nat_eq b 94) false bs) else (b ∷ before_mark Blank (capped_from (nat_eq b 94) false bs)))
      ≡ (if here then first_word bs else (b ∷ before_mark Blank bs))
  cut true is one two h = rw (no_caret b is) (one h)
  cut false is one two h = cut_off (is_mark Blank b) is (two (subst (λ u. has_caret (if u then [] else (b ∷ before_mark Blank bs)) ≡ false) (sym is) h))

same_name : (m n : Bytes) → same_bytes m n ≡ true → m ≡ n
same_name [] [] h = refl
same_name [] (y ∷ ys) h = cc
same_name (x ∷ xs) [] h = cc
same_name (x ∷ xs) (y ∷ ys) h =
    let s = both (nat_eq x y) (same_bytes xs ys) h in ap (λ v. v ∷ xs) (eqb-true x y s.0) ∙ ap (λ v. y ∷ v) (same_name xs ys s.1)

one_of : (w : Bytes) (s t : Bool) → same_bytes w (codes "ring") ≡ s → same_bytes w (codes "order") ≡ t → (s || (t || same_bytes w (codes "ideal"))) ≡ true
    → has_caret w ≡ false
one_of w true t ring order h = ap has_caret (same_name w (codes "ring") ring)
one_of w false true ring order h = ap has_caret (same_name w (codes "order") order)
one_of w false false ring order h = ap has_caret (same_name w (codes "ideal") h)

-- a text that begins a line of the head still does
pub head_kept : (text : Bytes) → begins_head (words text) ≡ true → begins_head (words (without_exponents text)) ≡ true
head_kept text h =
    begins_by (without_exponents text)
    ∙ ap is_head_word (first_kept text (one_of (first_word text) _ _ refl refl (sym (begins_by text) ∙ h)))
    ∙ (sym (begins_by text) ∙ h)

-- and so does one that begins with `query`
pub query_kept : (text : Bytes) → same_bytes (before_mark Blank text) (codes "query") ≡ true
    → same_bytes (before_mark Blank (without_exponents text)) (codes "query") ≡ true
query_kept text h =
    ap (λ w. same_bytes w (codes "query")) (part_kept text (ap has_caret (same_name (before_mark Blank text) (codes "query") h))) ∙ h

-- a text in which no exponent is left is the text itself
pub nothing_left_out : (text : Bytes) → has_caret (without_exponents text) ≡ false → without_exponents text ≡ text
nothing_left_out [] h = refl
nothing_left_out (b ∷ bs) h = other (nat_eq 94 b) refl (nothing_left_out bs) h where
  other : (t : Bool) → nat_eq 94 b ≡ t → (has_caret (without_exponents bs) ≡ false → without_exponents bs ≡ bs)
      → (t || has_caret (capped_from (nat_eq b 94) false bs)) ≡ false → b ∷ capped_from (nat_eq b 94) false bs ≡ b ∷ bs
  other true is kept h = cc
  other false is kept h = rw (turned b is) (ap (λ v. b ∷ v) (kept (rw (turned b is) at h)))
