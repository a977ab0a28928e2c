-- Forms with equal texts are equal.
use Rattle.std.proofs.Common.{◌≡◌, ℕ, zero, suc, ◌^◌, ◌<◌, ◌≤◌, true, List, [], ◌∷◌, ◌++◌, map, length, Some, refl, sym, ap, ◌∙◌, subst, arith}
use Rattle.std.specs.Prelude.{decimal, codes, drop}
use Rattle.std.specs.List.{list_all, join_with_byte}
use Rattle.std.proofs.lemmas.Bool.{and_parts, and_from}
use Rattle.std.proofs.lemmas.List.{append_cancel_right}
use Rattle.fm_algebra.specs.Poly.{Some-same}
use Rattle.fm_poly.specs.Polys.{PolyValue}
use Rattle.fm_words.specs.Words.{AreNames}
use Rattle.fm_words.specs.Parts.{Bytes, parts}
use Rattle.fm_words.specs.declared.mark.Mark.TheVariants.{Blank}
use Rattle.fm_text.specs.Texts.{vector_text}
use Rattle.fm_problem.specs.declared.problem.Problem.{Problem}
use Rattle.fm_problem.specs.declared.query.Query.{Query}
use Rattle.fm_cert.specs.Fields.{columns as vectors, field, vector_word}
use Rattle.fm_cert.specs.Lines.{line_text, line_words, line_of}
use Rattle.fm_cert.specs.Writable.{is_word, AreSmall, AreWritablePolynomials, AreWritableVectors, IsWritableLine}
use Rattle.fm_cert.proofs.LinesRead.{line_read}
use Rattle.fm_cert.proofs.WordsRead.{all_words_append, blanks_cut, row_words}
use Rattle.fm_standard.specs.Writing.{form_text}
use Rattle.fm_standard.specs.Small.{IsSmallLine}
use Rattle.fm_standard.proofs.Forms.{Form, given, twist, flip, beside, stack, times, pick, form_line, form_of, form_back}
use Rattle.fm_standard.proofs.NumbersPrinted.{decimal_word, decimal_words, no_decimal, small_printed}

cut : (ws : List Bytes) → 0 < length ws → list_all is_word ws ≡ true → parts Blank (join_with_byte 32 ws) ≡ ws
cut [] some h = absurd (omega (arith, some))
cut (w ∷ ws) some h = blanks_cut w ws h

-- the numbers among these words are small
AreSmallWords : List Bytes → Type 0
AreSmallWords [] = Unit {0}
AreSmallWords (w ∷ ws) = ((n : ℕ) → decimal n ≡ w → n < 2 ^ 64) × AreSmallWords ws

module _ (q : Problem) (h : AreNames q.vars) (l : length q.vars ≡ q.ring.vars) (z : Query) where
  -- what can be printed of a form, whatever its numbers are
  abbrev pub IsProper : Form → Type 0
  IsProper (given rows columns) = AreWritableVectors q.ring columns
  IsProper (twist a e) = e ≤ 16
  IsProper (pick a columns) = 0 < length columns
  IsProper f = Unit {0}

  -- a form whose line can be written
  abbrev pub IsWritableForm : Form → Type 0
  IsWritableForm f = IsWritableLine q.ring (Some z) (form_line f zero)

  abbrev form_words : Form → List Bytes
  form_words f = drop 2 (line_words q.vars (form_line f zero))

  -- ---- the words of a form
  vector_is_word : (v : List PolyValue) → AreWritablePolynomials q.ring v → is_word (vector_word q.vars v) ≡ true
  vector_is_word v w = (and_parts _ _ (and_parts _ _ (row_words q.ring q.vars h l (field vectors ∷ []) (v ∷ [], tt) refl ((omega arith, (w, tt)), tt))).1).0

  vectors_are_words : (vs : List (List PolyValue)) → AreWritableVectors q.ring vs → list_all is_word (map (vector_word q.vars) vs) ≡ true
  vectors_are_words [] w = refl
  vectors_are_words (v ∷ vs) w = and_from _ _ (vector_is_word v w.0) (vectors_are_words vs w.1)

  some_words : (f : Form) → 0 < length (form_words f)
  some_words (given rows columns) = omega arith
  some_words (twist a e) = omega arith
  some_words (flip a) = omega arith
  some_words (beside a b) = omega arith
  some_words (stack a b) = omega arith
  some_words (times a b) = omega arith
  some_words (pick a columns) = omega arith

  two_numbers : (a b : ℕ) → list_all is_word (decimal a ∷ decimal b ∷ []) ≡ true
  two_numbers a b = and_from _ _ (decimal_word a) (and_from _ _ (decimal_word b) refl)

  are_words : (f : Form) → IsProper f → list_all is_word (form_words f) ≡ true
  are_words (given rows columns) p =
      and_from _ _ (decimal_word rows) (and_from _ _ (decimal_word (length columns)) (all_words_append (map (vector_word q.vars) columns) [] (vectors_are_words columns p) refl))
  are_words (twist a e) p = two_numbers a e
  are_words (flip a) p = and_from _ _ (decimal_word a) refl
  are_words (beside a b) p = two_numbers a b
  are_words (stack a b) p = two_numbers a b
  are_words (times a b) p = two_numbers a b
  are_words (pick a columns) p = and_from _ _ (decimal_word a) (all_words_append (map decimal (map suc columns)) [] (decimal_words (map suc columns)) refl)

  -- ---- numbers of a form that can be written are small
  small_word : (m : ℕ) → m < 2 ^ 64 → (n : ℕ) → decimal n ≡ decimal m → n < 2 ^ 64
  small_word m s n e = small_printed n m e s

  no_vector : (v : List PolyValue) (n : ℕ) → decimal n ≡ vector_word q.vars v → n < 2 ^ 64
  unfolding vector_text
  no_vector v n e = no_decimal n 40 _ refl e

  vectors_small : (vs : List (List PolyValue)) → AreSmallWords (map (vector_word q.vars) vs ++ [])
  unfolding AreSmallWords
  vectors_small [] = tt
  vectors_small (v ∷ vs) = (no_vector v, vectors_small vs)

  numbers_small : (ns : List ℕ) → AreSmall ns → AreSmallWords (map decimal ns ++ [])
  unfolding AreSmallWords
  numbers_small [] s = tt
  numbers_small (n ∷ ns) s = (small_word n s.0, numbers_small ns s.1)

  numbers_were : (ns : List ℕ) → AreSmallWords (map decimal ns ++ []) → AreSmall ns
  unfolding AreSmallWords
  numbers_were [] s = tt
  numbers_were (n ∷ ns) s = (s.0 n refl, numbers_were ns s.1)

  written_small : (f : Form) → IsWritableForm f → AreSmallWords (form_words f)
  unfolding AreSmallWords
  written_small (given rows columns) w = (λ n e. no_decimal n 103 _ refl e, (small_word rows w.1.1.0, (small_word (length columns) w.1.1.1.0.0, vectors_small columns)))
  written_small (twist a e) w = (λ n e. no_decimal n 116 _ refl e, (small_word a w.1.1.0, (small_word e (let b = w.1.1.1.0 in omega (arith, b)), tt)))
  written_small (flip a) w = (λ n e. no_decimal n 102 _ refl e, (small_word a w.1.1.0, tt))
  written_small (beside a b) w = (λ n e. no_decimal n 98 _ refl e, (small_word a w.1.1.0, (small_word b w.1.1.1.0, tt)))
  written_small (stack a b) w = (λ n e. no_decimal n 115 _ refl e, (small_word a w.1.1.0, (small_word b w.1.1.1.0, tt)))
  written_small (times a b) w = (λ n e. no_decimal n 116 _ refl e, (small_word a w.1.1.0, (small_word b w.1.1.1.0, tt)))
  written_small (pick a columns) w = (λ n e. no_decimal n 112 _ refl e, (small_word a w.1.1.0, numbers_small (map suc columns) w.1.1.1.0.1))

  small_written : (f : Form) → IsProper f → AreSmallWords (form_words f) → IsWritableForm f
  unfolding AreSmallWords
  small_written (given rows columns) p s = (tt, (omega arith, (s.1.0 rows refl, ((s.1.1.0 (length columns) refl, p), tt))))
  small_written (twist a e) p s = (tt, (omega arith, (s.1.0 a refl, (p, tt))))
  small_written (flip a) p s = (tt, (omega arith, (s.1.0 a refl, tt)))
  small_written (beside a b) p s = (tt, (omega arith, (s.1.0 a refl, (s.1.1.0 b refl, tt))))
  small_written (stack a b) p s = (tt, (omega arith, (s.1.0 a refl, (s.1.1.0 b refl, tt))))
  small_written (times a b) p s = (tt, (omega arith, (s.1.0 a refl, (s.1.1.0 b refl, tt))))
  small_written (pick a columns) p s = (tt, (omega arith, (s.1.0 a refl, ((some_more columns p, numbers_were (map suc columns) s.1.1), tt))))
    where
      some_more : (js : List ℕ) → 0 < length js → 0 < length (map suc js)
      some_more [] h = absurd (omega (arith, h))
      some_more (j ∷ js) h = omega arith

  -- ---- equal texts
  line_joined : (f : Form) → line_text q.vars (form_line f zero) ≡ join_with_byte 32 (codes "part" ∷ decimal zero ∷ form_words f)
  unfolding line_text
  line_joined (given rows columns) = refl
  line_joined (twist a e) = refl
  line_joined (flip a) = refl
  line_joined (beside a b) = refl
  line_joined (stack a b) = refl
  line_joined (times a b) = refl
  line_joined (pick a columns) = refl

  -- a form with the text of one that can be written is that form
  pub same_form : (f g : Form) → IsProper f → IsProper g → IsWritableForm g → form_text q.vars (form_line f zero) ≡ form_text q.vars (form_line g zero) → f ≡ g
  same_form f g p r w e =
      let joined = append_cancel_right (join_with_byte 32 (form_words f)) (join_with_byte 32 (form_words g)) (10 ∷ []) e in
      let same : form_words f ≡ form_words g = sym (cut (form_words f) (some_words f) (are_words f p)) ∙ ap (parts Blank) joined ∙ cut (form_words g) (some_words g) (are_words g r) in
      let v : IsWritableForm f = small_written f p (subst AreSmallWords (sym same) (written_small g w)) in
      let text : line_text q.vars (form_line f zero) ≡ line_text q.vars (form_line g zero) = line_joined f ∙ ap (λ ws. join_with_byte 32 (codes "part" ∷ decimal zero ∷ ws)) same ∙ sym (line_joined g) in
      let lines : form_line f zero ≡ form_line g zero =
      Some-same (sym (line_read q.ring q.vars h l (Some z) (form_line f zero) v) ∙ ap (line_of q.ring q.vars (Some z)) text ∙ line_read q.ring q.vars h l (Some z) (form_line g zero) w) in
      Some-same (sym (form_back f zero) ∙ ap form_of lines ∙ form_back g zero)

  -- ---- a form whose line has small numbers
  pub form_small : (f : Form) (n : ℕ) → IsProper f → IsSmallLine (form_line f n) → IsWritableLine q.ring (Some z) (form_line f n)
  form_small (given rows columns) n p s = (tt, (s.0, (s.1.0, ((s.1.1.0, p), tt))))
  form_small (twist a e) n p s = (tt, s)
  form_small (flip a) n p s = (tt, s)
  form_small (beside a b) n p s = (tt, s)
  form_small (stack a b) n p s = (tt, s)
  form_small (times a b) n p s = (tt, s)
  form_small (pick a columns) n p s = (tt, s)

  pub number_less : (f : Form) (n : ℕ) → IsWritableLine q.ring (Some z) (form_line f n) → IsWritableForm f
  number_less (given rows columns) n w = (tt, (omega arith, w.1.1))
  number_less (twist a e) n w = (tt, (omega arith, w.1.1))
  number_less (flip a) n w = (tt, (omega arith, w.1.1))
  number_less (beside a b) n w = (tt, (omega arith, w.1.1))
  number_less (stack a b) n w = (tt, (omega arith, w.1.1))
  number_less (times a b) n w = (tt, (omega arith, w.1.1))
  number_less (pick a columns) n w = (tt, (omega arith, w.1.1))

  pub proper_written : (f : Form) → IsWritableForm f → IsProper f
  proper_written (given rows columns) w = w.1.1.1.0.1
  proper_written (twist a e) w = w.1.1.1.0
  proper_written (flip a) w = tt
  proper_written (beside a b) w = tt
  proper_written (stack a b) w = tt
  proper_written (times a b) w = tt
  proper_written (pick a columns) w = some_fewer columns w.1.1.1.0.0
    where
      some_fewer : (js : List ℕ) → 0 < length (map suc js) → 0 < length js
      some_fewer [] h = absurd (omega (arith, h))
      some_fewer (j ∷ js) h = omega arith
