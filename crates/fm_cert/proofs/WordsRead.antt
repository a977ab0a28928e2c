-- The words of printed lines: they have no blanks, so a line is cut into them again.
use Rattle.std.proofs.Common.{◌≡◌, ℕ, ◌^◌, ◌<◌, Bool, true, false, if◌then◌else◌, List, [], ◌∷◌, ◌++◌, map, length, Option, Some, None, refl, sym, ap, ◌∙◌, subst, arith}
use Rattle.std.specs.Prelude.{cond, decimal}
use Rattle.std.specs.List.{list_all, join_with_byte, slice_split, onto_first}
use Rattle.std.proofs.lemmas.Bool.{and_parts, and_from}
use Rattle.std.proofs.lemmas.Bool.Decides.{nat_tests}
use Rattle.fm_poly.specs.Polys.{PolyValue, pairs}
use Rattle.fm_words.specs.Words.{AreNames, nonempty, words, after_word, is_digit, is_name}
use Rattle.fm_text.specs.Texts.{vector_text, poly_text}
use Rattle.fm_poly.specs.declared.ring.Ring.{Ring}
use Rattle.fm_text.proofs.PrintedPolys.{poly_is_text}
use Rattle.fm_words.specs.declared.mark.Mark.TheVariants.{Blank}
use Rattle.fm_words.specs.Parts.{Bytes, is_mark, parts, before_mark, after_mark}
use Rattle.fm_cert.specs.Fields.{Field, number, times, name, yes_no, yes_with, keep_or_zero, by_numbers, numbers, free_words, generators, columns, Value, by_words, comma_words, polynomial_word, vector_word, printed, yes_with_words, Item, word, field, Values, printed_row}
use Rattle.fm_cert.specs.Lines.{exact_words, is_full}
use Rattle.fm_cert.specs.Writable.{is_inner, is_word, AreSmall, IsWritablePolynomial, AreWritablePolynomials, AreWritableVectors, IsWritableValue, AreWritableValues}
use Rattle.fm_text.proofs.Bytes.{is_plain, are_plain, all_append, all_weaker, AllAre, all_joined, not_split, decimal_is, number_digits, name_is_plain}
use Rattle.fm_text.proofs.PolynomialsRead.{polynomial_is_plain}
use Rattle.fm_cert.proofs.RowsRead.{is_row, is_good, polynomial_printable}

-- ---- words
pub word_parts : (w : Bytes) → is_word w ≡ true → (0 < length w) × (list_all is_inner w ≡ true)
word_parts [] h = absurd (let e : false ≡ true = h in cc)
word_parts (b ∷ bs) h = (omega arith, h)

pub word_from : (w : Bytes) → 0 < length w → list_all is_inner w ≡ true → is_word w ≡ true
word_from [] l h = absurd (omega (arith, l))
word_from (b ∷ bs) l h = h

no_blank : (b : ℕ) → is_inner b ≡ true → (if is_mark Blank b then false else true) ≡ true
no_blank b h = grind (arith, nat_tests)

pub unbroken : (w : Bytes) → list_all is_inner w ≡ true → list_all (λ b. if is_mark Blank b then false else true) w ≡ true
unbroken w h = all_weaker is_inner (λ b. if is_mark Blank b then false else true) no_blank w h

-- ---- cutting at a mark
none_at : (p : ℕ → Bool) (b : ℕ) → (if p b then false else true) ≡ true → p b ≡ false
none_at p b h = by (p b) h
  where
    by : (t : Bool) → (if t then false else true) ≡ true → t ≡ false
    by true h = absurd (let e : false ≡ true = h in cc)
    by false h = refl

pub split_at : (p : ℕ → Bool) (c : ℕ) → p c ≡ true → (xs ys : Bytes) → list_all (λ b. if p b then false else true) xs ≡ true → slice_split p (xs ++ c ∷ ys) ≡ xs ∷ slice_split p ys
split_at p c h [] ys n = ap (λ (t : Bool). cond t ([] ∷ slice_split p ys) (onto_first c (slice_split p ys))) h
split_at p c h (x ∷ xs) ys n =
    ap (λ (t : Bool). cond t ([] ∷ slice_split p (xs ++ c ∷ ys)) (onto_first x (slice_split p (xs ++ c ∷ ys)))) (none_at p x (and_parts _ _ n).0)
    ∙ ap (onto_first x) (split_at p c h xs ys (and_parts _ _ n).1)

abbrev pub NoneIn : (ℕ → Bool) → List Bytes → Type 0
NoneIn p [] = Unit {0}
NoneIn p (x ∷ xs) = (list_all (λ b. if p b then false else true) x ≡ true) × NoneIn p xs

pub split_joined : (p : ℕ → Bool) (c : ℕ) → p c ≡ true → (x : Bytes) (xs : List Bytes) → NoneIn p (x ∷ xs) → slice_split p (join_with_byte c (x ∷ xs)) ≡ x ∷ xs
split_joined p c h x [] n = not_split p x n.0
split_joined p c h x (y ∷ ys) n = split_at p c h x (join_with_byte c (y ∷ ys)) n.0 ∙ ap (λ zs. x ∷ zs) (split_joined p c h y ys n.1)

pub words_unbroken : (ws : List Bytes) → list_all is_word ws ≡ true → NoneIn (is_mark Blank) ws
words_unbroken [] h = tt
words_unbroken (w ∷ ws) h = (unbroken w (word_parts w (and_parts _ _ h).0).1, words_unbroken ws (and_parts _ _ h).1)

pub words_full : (ws : List Bytes) → list_all is_word ws ≡ true → list_all is_full ws ≡ true
words_full [] h = refl
words_full ([] ∷ ws) h = absurd (let e : false ≡ true = h in cc)
words_full ((b ∷ bs) ∷ ws) h = words_full ws (and_parts _ _ h).1

pub all_nonempty : (ws : List Bytes) → list_all is_word ws ≡ true → nonempty ws ≡ ws
all_nonempty [] h = refl
all_nonempty ([] ∷ ws) h = absurd (let e : false ≡ true = h in cc)
all_nonempty ((b ∷ bs) ∷ ws) h = ap (λ x. (b ∷ bs) ∷ x) (all_nonempty ws (and_parts _ _ h).1)

pub blanks_cut : (w : Bytes) (ws : List Bytes) → list_all is_word (w ∷ ws) ≡ true → parts Blank (join_with_byte 32 (w ∷ ws)) ≡ w ∷ ws
blanks_cut w ws h = split_joined (is_mark Blank) 32 refl w ws (words_unbroken (w ∷ ws) h)

pub words_cut : (w : Bytes) (ws : List Bytes) → list_all is_word (w ∷ ws) ≡ true → words (join_with_byte 32 (w ∷ ws)) ≡ w ∷ ws
words_cut w ws h = ap nonempty (blanks_cut w ws h) ∙ all_nonempty (w ∷ ws) h

pub exactly_cut : (w : Bytes) (ws : List Bytes) → list_all is_word (w ∷ ws) ≡ true → exact_words (join_with_byte 32 (w ∷ ws)) ≡ Some (w ∷ ws)
exactly_cut w ws h =
    ap (λ ps. Rattle.fm_words.specs.Options.where_so (list_all is_full ps) (Some ps)) (blanks_cut w ws h)
    ∙ ap (λ (t : Bool). Rattle.fm_words.specs.Options.where_so t (Some (w ∷ ws))) (words_full (w ∷ ws) h)

-- ---- before and after the first blank
pub before_blank : (w rest : Bytes) → list_all is_inner w ≡ true → before_mark Blank (w ++ 32 ∷ rest) ≡ w
before_blank [] rest h = refl
before_blank (b ∷ bs) rest h =
    ap (λ (t : Bool). if t then [] else (b ∷ before_mark Blank (bs ++ 32 ∷ rest))) (none_at (is_mark Blank) b (no_blank b (and_parts _ _ h).0)) ∙ ap (λ x. b ∷ x) (before_blank bs rest (and_parts _ _ h).1)

pub before_none : (w : Bytes) → list_all is_inner w ≡ true → before_mark Blank w ≡ w
before_none [] h = refl
before_none (b ∷ bs) h =
    ap (λ (t : Bool). if t then [] else (b ∷ before_mark Blank bs)) (none_at (is_mark Blank) b (no_blank b (and_parts _ _ h).0)) ∙ ap (λ x. b ∷ x) (before_none bs (and_parts _ _ h).1)

pub after_blank : (w rest : Bytes) → list_all is_inner w ≡ true → after_mark Blank (w ++ 32 ∷ rest) ≡ rest
after_blank [] rest h = refl
after_blank (b ∷ bs) rest h =
    ap (λ (t : Bool). if t then bs ++ 32 ∷ rest else after_mark Blank (bs ++ 32 ∷ rest)) (none_at (is_mark Blank) b (no_blank b (and_parts _ _ h).0)) ∙ after_blank bs rest (and_parts _ _ h).1

-- the text after the first word
pub after_first : (w rest : Bytes) → is_word w ≡ true → after_word (w ++ 32 ∷ rest) ≡ rest
after_first [] rest h = absurd (let e : false ≡ true = h in cc)
after_first (b ∷ bs) rest h =
    ap (λ (t : Bool). if t then after_word (bs ++ 32 ∷ rest) else after_mark Blank (b ∷ bs ++ 32 ∷ rest)) (none_at (is_mark Blank) b (no_blank b (and_parts _ _ h).0)) ∙ after_blank (b ∷ bs) rest h

-- the first word, and the words after it
pub words_after : (w rest : Bytes) → is_word w ≡ true → words (w ++ 32 ∷ rest) ≡ w ∷ words rest
words_after [] rest h = absurd (let e : false ≡ true = h in cc)
words_after (b ∷ bs) rest h = ap nonempty (split_at (is_mark Blank) 32 refl (b ∷ bs) rest (unbroken (b ∷ bs) h))

-- ---- the words of fields
digit_inner : (b : ℕ) → is_digit b ≡ true → is_inner b ≡ true
digit_inner b h = grind (arith, nat_tests)

plain_inner : (b : ℕ) → is_plain b ≡ true → is_inner b ≡ true
plain_inner b h = grind (arith, nat_tests)

long : (ds : Bytes) (first : ℕ) (others : Bytes) → ds ≡ first ∷ others → 0 < length ds
long ds first others e = subst (λ x. 0 < length x) (sym e) (omega arith)

pub number_word : (n : ℕ) → n < 2 ^ 64 → is_word (decimal n) ≡ true
number_word n h = word_from (decimal n) (long (decimal n) (decimal_is n h).first (decimal_is n h).others (decimal_is n h).is) (all_weaker is_digit is_inner digit_inner (decimal n) (number_digits n h))

pub plain_word : (w : Bytes) → 0 < length w → are_plain w ≡ true → is_word w ≡ true
plain_word w l h = word_from w l (all_weaker is_plain is_inner plain_inner w h)

name_long : (m : Bytes) → is_name m ≡ true → 0 < length m
name_long [] h = absurd (let e : false ≡ true = h in cc)
name_long (b ∷ bs) h = omega arith

pub name_word : (m : Bytes) → is_name m ≡ true → is_word m ≡ true
name_word m h = plain_word m (name_long m h) (name_is_plain m h)

number_words : (ns : List ℕ) → AreSmall ns → list_all is_word (map decimal ns) ≡ true
number_words [] s = refl
number_words (n ∷ ns) s = and_from _ _ (number_word n s.0) (number_words ns s.1)

by_are_words : (ks : List ℕ) → AreSmall ks → list_all is_word (by_words ks) ≡ true
by_are_words [] s = refl
by_are_words (k ∷ ks) s = number_words (k ∷ ks) s

pub all_words_append : (us vs : List Bytes) → list_all is_word us ≡ true → list_all is_word vs ≡ true → list_all is_word (us ++ vs) ≡ true
all_words_append [] vs h k = k
all_words_append (u ∷ us) vs h k = and_from _ _ (and_parts _ _ h).0 (all_words_append us vs (and_parts _ _ h).1 k)

module _ (r : Ring) (names : List Bytes) (h : AreNames names) (l : length names ≡ r.vars) where
  pub polynomial_is_word : (f : PolyValue) → IsWritablePolynomial r f → is_word (polynomial_word names f) ≡ true
  polynomial_is_word f w =
      plain_word (polynomial_word names f) (poly_is_text names (pairs f.terms) h (polynomial_printable r names h l f w)).some (polynomial_is_plain r names f.terms h l w.canonical w.within)

  comma_word : (w : Bytes) → is_word w ≡ true → is_word (w ++ 44 ∷ []) ≡ true
  comma_word [] h = absurd (let e : false ≡ true = h in cc)
  comma_word (b ∷ bs) h = all_append is_inner (b ∷ bs) (44 ∷ []) h refl

  generator_words : (fs : List PolyValue) → AreWritablePolynomials r fs → list_all is_word (comma_words (map (polynomial_word names) fs)) ≡ true
  generator_words [] w = refl
  generator_words (f ∷ []) w = and_from _ _ (polynomial_is_word f w.0) refl
  generator_words (f ∷ g ∷ fs) w = and_from _ _ (comma_word (polynomial_word names f) (polynomial_is_word f w.0)) (generator_words (g ∷ fs) w.1)

  entries_inner : (fs : List PolyValue) → AreWritablePolynomials r fs → AllAre is_inner (map (poly_text names) (map (λ (f : PolyValue). pairs f.terms) fs))
  entries_inner [] w = tt
  entries_inner (f ∷ fs) w = ((word_parts (polynomial_word names f) (polynomial_is_word f w.0)).1, entries_inner fs w.1)

  vector_is_word : (fs : List PolyValue) → AreWritablePolynomials r fs → is_word (vector_word names fs) ≡ true
  unfolding vector_text
  vector_is_word fs w =
      all_append is_inner (join_with_byte 44 (map (poly_text names) (map (λ (f : PolyValue). pairs f.terms) fs))) (41 ∷ []) (all_joined is_inner 44 refl (map (poly_text names) (map (λ (f : PolyValue). pairs f.terms) fs)) (entries_inner fs w)) refl

  vectors_are_words : (vs : List (List PolyValue)) → AreWritableVectors r vs → list_all is_word (map (vector_word names) vs) ≡ true
  vectors_are_words [] w = refl
  vectors_are_words (v ∷ vs) w = and_from _ _ (vector_is_word v w.0) (vectors_are_words vs w.1)

  yes_words : (u : Bytes) (o : Option ℕ) → is_word u ≡ true → IsWritableValue r (yes_with u) o → list_all is_word (yes_with_words u o) ≡ true
  yes_words u None k w = refl
  yes_words u (Some n) k w = and_from _ _ k (and_from _ _ (number_word n w) refl)

  field_words : (f : Field) (v : Value f) → is_good f ≡ true → IsWritableValue r f v → list_all is_word (printed names f v) ≡ true
  field_words number n k w = and_from _ _ (number_word n w) refl
  field_words times n k w = and_from _ _ (number_word n (omega (arith, w))) refl
  field_words name m k w = and_from _ _ (name_word m w) refl
  field_words yes_no true k w = refl
  field_words yes_no false k w = refl
  field_words (yes_with u) o k w = yes_words u o k w
  field_words keep_or_zero true k w = refl
  field_words keep_or_zero false k w = refl
  field_words by_numbers ks k w = by_are_words ks w
  field_words numbers ks k w = number_words ks w.1
  field_words free_words ws k w = w.1
  field_words generators fs k w = generator_words fs w.0
  field_words columns vs k w = and_from _ _ (number_word (length vs) w.0) (vectors_are_words vs w.1)

  pub row_words : (items : List Item) (vs : Values items) → is_row items ≡ true → AreWritableValues r items vs → list_all is_word (printed_row names items vs) ≡ true
  row_words [] vs t w = refl
  row_words (word u ∷ items) vs t w = and_from _ _ (and_parts _ _ t).0 (row_words items vs (and_parts _ _ t).1 w)
  row_words (field f ∷ items) vs t w =
      all_words_append (printed names f vs.0) (printed_row names items vs.1) (field_words f vs.0 (and_parts _ _ (and_parts _ _ t).0).0 w.0) (row_words items vs.1 (and_parts _ _ t).1 w.1)
