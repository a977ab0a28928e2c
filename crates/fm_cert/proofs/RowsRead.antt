-- Printed fields and rows are read back.
use Rattle.std.proofs.Common.{◌≡◌, ℕ, ◌^◌, ◌<◌, ◌≤◌, Bool, true, false, ◌&&◌, if◌then◌else◌, nat_eq, nat_lt, List, [], ◌∷◌, ◌++◌, map, length, Option, Some, None, option_map, refl, sym, ap, ap₂, ◌∙◌, subst, arith, append-nil}
use Rattle.std.specs.Prelude.{decimal, codes}
use Rattle.std.specs.List.{join_with_byte}
use Rattle.std.proofs.lemmas.Bool.{and_parts, and_from, eq-eqb, le-leb}
use Rattle.std.proofs.lemmas.Bool.Decides.{nat_tests}
use Rattle.std.proofs.lemmas.List.{length-map}
use Rattle.fm_algebra.specs.Twist.{AllBelow}
use Rattle.fm_algebra.specs.Polynomials.{AreListedTerms}
use Rattle.fm_mono.specs.Bounded.{exponent_bound}
use Rattle.fm_poly.specs.Polys.{PolyValue, IsCanonical, pairs}
use Rattle.fm_words.specs.Parts.{Bytes, pieces}
use Rattle.fm_words.specs.Words.{AreNames, same_bytes, value}
use Rattle.fm_text.specs.Texts.{ArePrintable, IsPrintableTerm, AllPrintable, poly_text, vector_text}
use Rattle.fm_words.specs.Options.{◌>>=◌, where_so, all_of}
use Rattle.fm_poly.specs.declared.ring.Ring.{Ring}
use Rattle.fm_poly.specs.declared.term.Term.{Term}
use Rattle.fm_words.proofs.Cutting.{Within, AreTexts, texts_more, pieces_at, pieces_join, join_text}
use Rattle.fm_text.proofs.PrintedFactors.{same_refl}
use Rattle.fm_text.proofs.PrintedPolys.{all_read, poly_is_text, polys_are_texts}
use Rattle.fm_cert.specs.Fields
use Rattle.fm_cert.specs.Fields.{Field, number, times, name, yes_no, yes_with, keep_or_zero, by_numbers, numbers, free_words, generators, columns, Value, yes_with_words, keep_word, by_words, comma_words, polynomial_word, vector_word, printed, exact_number, exact_numbers, some_numbers, up_to, before_number, leading_numbers, some_leading, read_by, polynomial_or_none, without_comma, unless_zero, nonzero, read_polynomial, generators_of, entries_of, closed_entries, read_vector, counted_vectors, read, Item, word, field, Values, printed_row, read_row}
use Rattle.fm_cert.specs.Writable.{AreSmall, IsWritablePolynomial, AreWritablePolynomials, AreWritableVectors, AreNotZero, IsWritableValue, AreWritableValues, is_word}
use Rattle.fm_text.proofs.Bytes.{decimal_is, decimal_is_number, number_value}
use Rattle.fm_text.proofs.PolynomialsRead.{prime_small, polynomial_read, terms_at_most, TermsAtMost, AreAtMost}

-- ---- numbers
less_test : (n : ℕ) → n < 2 ^ 64 → nat_lt n (2 ^ 64) ≡ true
less_test n h = grind (arith, nat_tests)

-- a printed number is read back
pub number_read : (n : ℕ) → n < 2 ^ 64 → exact_number (decimal n) ≡ Some n
unfolding exact_number
number_read n h =
    ap (λ t. where_so t (Some (value (decimal n)))) (and_from _ _ (decimal_is_number n h) (and_from _ _ (decimal_is n h).exact (ap (λ x. nat_lt x (2 ^ 64)) (number_value n h) ∙ less_test n h)))
    ∙ ap Some (number_value n h)

pub numbers_read : (ns : List ℕ) → AreSmall ns → exact_numbers (map decimal ns) ≡ Some ns
numbers_read [] s = refl
numbers_read (n ∷ ns) s = ap₂ (λ x y. x >>= λ a. option_map (λ rest. a ∷ rest) y) (number_read n s.0) (numbers_read ns s.1)

some_numbers_read : (ns : List ℕ) → 0 < length ns → AreSmall ns → some_numbers (map decimal ns) ≡ Some ns
some_numbers_read [] h s = absurd (omega (arith, h))
some_numbers_read (n ∷ ns) h s = numbers_read (n ∷ ns) s

-- the first word is no number
abbrev pub no_number_first : List Bytes → Type 0
no_number_first [] = Unit {0}
no_number_first (w ∷ ws) = (exact_number w ≡ None) × (same_bytes w (codes "by") ≡ false)

stopped_at : (rest : List Bytes) → no_number_first rest → leading_numbers rest ≡ ([], rest)
stopped_at [] h = refl
stopped_at (w ∷ ws) h = ap (λ o. before_number o w ws (leading_numbers ws)) h.0

leading_read : (ns : List ℕ) (rest : List Bytes) → AreSmall ns → no_number_first rest → leading_numbers (map decimal ns ++ rest) ≡ (ns, rest)
leading_read [] rest s h = stopped_at rest h
leading_read (n ∷ ns) rest s h =
    ap₂ (λ o x. before_number o (decimal n) (map decimal ns ++ rest) x) (number_read n s.0) (leading_read ns rest s.1 h)

no_by : (rest : List Bytes) → no_number_first rest → read_by rest ≡ Some ([], rest)
no_by [] h = refl
no_by (w ∷ ws) h = ap (λ (b : Bool). if b then some_leading (leading_numbers ws) else Some ([], w ∷ ws)) h.1

by_read : (ks : List ℕ) (rest : List Bytes) → AreSmall ks → no_number_first rest → read_by (by_words ks ++ rest) ≡ Some (ks, rest)
by_read [] rest s h = no_by rest h
by_read (k ∷ ks) rest s h = ap some_leading (leading_read (k ∷ ks) rest s h)

empty_canonical : (r : Ring) → IsCanonical r []
empty_canonical r = record { listed = tt; falls = tt }

-- ---- polynomials
module _ (r : Ring) (names : List Bytes) (h : AreNames names) (l : length names ≡ r.vars) where
  polynomial_back : (f : PolyValue) → IsWritablePolynomial r f → read_polynomial r names (polynomial_word names f) ≡ Some f
  unfolding read_polynomial
  polynomial_back f w = ap polynomial_or_none (polynomial_read r names f.terms h l w.canonical w.within) ∙ ap (λ x. Some (record { ring = x; terms = f.terms })) (sym w.of_ring)

  all_low : (bound : ℕ) (es : List ℕ) → bound < 2 ^ 64 → AreAtMost bound es → AllBelow (2 ^ 64) es
  all_low bound [] b a = tt
  all_low bound (e ∷ es) b a = (below e a.0, all_low bound es b a.1)
    where
      below : (e : ℕ) → e ≤ bound → e < 2 ^ 64
      below e k = omega (arith, b)

  terms_printable : (ts : List Term) → AreListedTerms r.prime r.vars (pairs ts) → TermsAtMost exponent_bound ts → ArePrintable (length names) (pairs ts)
  unfolding IsPrintableTerm
  terms_printable [] c a = tt
  terms_printable (t ∷ ts) c a = ((c.0 ∙ sym l, all_low exponent_bound t.mono (omega arith) a.0, c.1, prime_small r.prime t.coeff c.2), terms_printable ts c.3 a.1)

  pub polynomial_printable : (f : PolyValue) → IsWritablePolynomial r f → ArePrintable (length names) (pairs f.terms)
  polynomial_printable f w = terms_printable f.terms w.canonical.listed (terms_at_most f.terms w.within)

  pub polynomials_printable : (fs : List PolyValue) → AreWritablePolynomials r fs → AllPrintable (length names) (map (λ f. pairs f.terms) fs)
  polynomials_printable [] w = tt
  polynomials_printable (f ∷ fs) w = (polynomial_printable f w.0, polynomials_printable fs w.1)

  polynomials_back : (fs : List PolyValue) → AreWritablePolynomials r fs → all_of (map (read_polynomial r names) (map (polynomial_word names) fs)) ≡ Some fs
  polynomials_back fs w = all_read (read_polynomial r names) (polynomial_word names) fs (IsWritablePolynomial r) (AreWritablePolynomials r) (λ x rest q. (q.0, q.1)) (λ f q. polynomial_back f q) w

  texts_of_polynomials : (fs : List PolyValue) → map (poly_text names) (map (λ f. pairs f.terms) fs) ≡ map (polynomial_word names) fs
  texts_of_polynomials [] = refl
  texts_of_polynomials (f ∷ fs) = ap (λ x. polynomial_word names f ∷ x) (texts_of_polynomials fs)

  some_entries : (inner : Bytes) → 0 < length inner → entries_of r names inner ≡ all_of (map (read_polynomial r names) (pieces 44 inner))
  some_entries [] p = absurd (omega (arith, p))
  some_entries (b ∷ bs) p = refl

  entries_back : (fs : List PolyValue) → AreWritablePolynomials r fs
      → (entries_of r names (join_with_byte 44 (map (polynomial_word names) fs)) ≡ Some fs) × Within 5 (join_with_byte 44 (map (polynomial_word names) fs))
  entries_back [] w = (refl, tt)
  entries_back (f ∷ fs) w =
      let texts : AreTexts 4 (map (polynomial_word names) (f ∷ fs)) =
      subst (AreTexts 4) (texts_of_polynomials (f ∷ fs)) (polys_are_texts names (map (λ (g : PolyValue). pairs g.terms) (f ∷ fs)) h (polynomials_printable (f ∷ fs) w)) in
      let text = join_text 5 44 (omega arith) (polynomial_word names f) (map (polynomial_word names) fs) (texts_more 4 5 (omega arith) (map (polynomial_word names) (f ∷ fs)) texts) in (
        some_entries (join_with_byte 44 (map (polynomial_word names) (f ∷ fs))) text.some
            ∙ ap (λ ps. all_of (map (read_polynomial r names) ps)) (pieces_join 4 44 (omega arith) (polynomial_word names f) (map (polynomial_word names) fs) texts)
            ∙ polynomials_back (f ∷ fs) w,
        text.within,
      )

  vector_back : (fs : List PolyValue) → AreWritablePolynomials r fs → read_vector r names (vector_word names fs) ≡ Some fs
  unfolding read_vector vector_text
  vector_back fs w =
      ap (λ x. read_vector r names (40 ∷ join_with_byte 44 x ++ 41 ∷ [])) (texts_of_polynomials fs)
      ∙ ap (closed_entries r names) (pieces_at 5 41 (omega arith) (join_with_byte 44 (map (polynomial_word names) fs)) [] (entries_back fs w).1) ∙ (entries_back fs w).0

  vectors_back : (vs : List (List PolyValue)) → AreWritableVectors r vs → all_of (map (read_vector r names) (map (vector_word names) vs)) ≡ Some vs
  vectors_back vs w = all_read (read_vector r names) (vector_word names) vs (AreWritablePolynomials r) (AreWritableVectors r) (λ x rest q. (q.0, q.1)) (λ v q. vector_back v q) w

  columns_back : (vs : List (List PolyValue)) → length vs < 2 ^ 64 → AreWritableVectors r vs → counted_vectors r names (decimal (length vs) ∷ map (vector_word names) vs) ≡ Some vs
  columns_back vs b w =
      ap (λ o. o >>= λ c. where_so (nat_eq c (length (map (vector_word names) vs))) (all_of (map (read_vector r names) (map (vector_word names) vs)))) (number_read (length vs) b)
      ∙ ap (λ (t : Bool). where_so t (all_of (map (read_vector r names) (map (vector_word names) vs)))) (eq-eqb (length vs) (length (map (vector_word names) vs)) (sym (length-map vs (vector_word names))))
      ∙ vectors_back vs w

  -- ---- generators
  comma_first : (f : PolyValue) (fs : List PolyValue) → (first : Bytes) × (more : List Bytes) × (comma_words (map (polynomial_word names) (f ∷ fs)) ≡ first ∷ more)
  comma_first f [] = (polynomial_word names f, [], refl)
  comma_first f (g ∷ fs) = (polynomial_word names f ++ 44 ∷ [], comma_words (map (polynomial_word names) (g ∷ fs)), refl)

  with_comma : (w : Bytes) (ws : List Bytes) (first : Bytes) (more : List Bytes) → ws ≡ first ∷ more
      → generators_of r names (w ∷ ws) ≡ (without_comma (pieces 44 w) >>= λ u. read_polynomial r names u >>= λ f. option_map (λ fs. f ∷ fs) (generators_of r names ws))
  with_comma w ws first more e =
      ap (λ vs. generators_of r names (w ∷ vs)) e ∙ ap (λ vs. without_comma (pieces 44 w) >>= λ u. read_polynomial r names u >>= λ f. option_map (λ fs. f ∷ fs) (generators_of r names vs)) (sym e)

  generators_back : (f : PolyValue) (fs : List PolyValue) → AreWritablePolynomials r (f ∷ fs) → generators_of r names (comma_words (map (polynomial_word names) (f ∷ fs))) ≡ Some (f ∷ fs)
  generators_back f [] w = ap (option_map (λ f. f ∷ [])) (polynomial_back f w.0)
  generators_back f (g ∷ fs) w =
      let c = comma_first g fs in
      with_comma (polynomial_word names f ++ 44 ∷ []) (comma_words (map (polynomial_word names) (g ∷ fs))) c.0 c.1 c.2
      ∙ ap (λ ps. without_comma ps >>= λ u. read_polynomial r names u >>= λ f. option_map (λ fs. f ∷ fs) (generators_of r names (comma_words (map (polynomial_word names) (g ∷ fs)))))
      (pieces_at 4 44 (omega arith) (polynomial_word names f) [] (poly_is_text names (pairs f.terms) h (polynomial_printable f w.0)).within)
      ∙ ap (λ o. o >>= λ f. option_map (λ fs. f ∷ fs) (generators_of r names (comma_words (map (polynomial_word names) (g ∷ fs))))) (polynomial_back f w.0)
      ∙ ap (option_map (λ fs. f ∷ fs)) (generators_back g fs w.1)

  kept : (f : PolyValue) (ts : List Term) (fs : List PolyValue) → 0 < length ts → unless_zero f ts fs ≡ f ∷ fs
  kept f [] fs p = absurd (omega (arith, p))
  kept f (t ∷ ts) fs p = refl

  all_kept : (fs : List PolyValue) → AreNotZero r fs → nonzero fs ≡ fs
  all_kept [] n = refl
  all_kept (f ∷ fs) n = kept f f.terms (nonzero fs) n.0 ∙ ap (λ x. f ∷ x) (all_kept fs n.1)

  zero_back : read_polynomial r names (codes "0") ≡ Some (record { ring = r; terms = [] })
  unfolding poly_text
  zero_back = polynomial_back (record { ring = r; terms = [] }) (record { of_ring = refl; canonical = empty_canonical r; within = tt })

  ideal_back : (fs : List PolyValue) → AreWritablePolynomials r fs → AreNotZero r fs → option_map nonzero (generators_of r names (comma_words (map (polynomial_word names) fs))) ≡ Some fs
  ideal_back [] w n = ap (λ o. option_map nonzero (option_map (λ f. f ∷ []) o)) zero_back
  ideal_back (f ∷ fs) w n = ap (option_map nonzero) (generators_back f fs w) ∙ ap Some (all_kept (f ∷ fs) n)

  -- ---- fields
  -- the words after a field that doesn't end by itself
  abbrev pub IsClear : Field → List Bytes → Type 0
  IsClear number rest = Unit {0}
  IsClear times rest = Unit {0}
  IsClear name rest = Unit {0}
  IsClear yes_no rest = Unit {0}
  IsClear (yes_with w) rest = Unit {0}
  IsClear keep_or_zero rest = Unit {0}
  IsClear by_numbers rest = no_number_first rest
  IsClear numbers rest = rest ≡ []
  IsClear free_words rest = rest ≡ []
  IsClear generators rest = rest ≡ []
  IsClear columns rest = rest ≡ []

  sixteen : (n : ℕ) → n ≤ 16 → n < 2 ^ 64
  sixteen n b = omega (arith, b)

  yes_back : (w : Bytes) (o : Option ℕ) (rest : List Bytes) → IsWritableValue r (yes_with w) o → Fields.read_yes_with w (yes_with_words w o ++ rest) ≡ Some (o, rest)
  yes_back w None rest v = refl
  yes_back w (Some n) rest v =
      ap (λ (t : Bool). where_so t (option_map (λ k. (Some k, rest)) (exact_number (decimal n)))) (same_refl w) ∙ ap (option_map (λ k. (Some k, rest))) (number_read n v)

  words_back : (ws : List Bytes) → 0 < length ws → Fields.some_words ws ≡ Some ws
  words_back [] p = absurd (omega (arith, p))
  words_back (w ∷ ws) p = refl

  ended : {A : Type 0} (f : List Bytes → Option (A × List Bytes)) (ws rest : List Bytes) (x : A) → rest ≡ [] → f ws ≡ Some (x, []) → f (ws ++ rest) ≡ Some (x, rest)
  ended f ws rest x e g = ap (λ y. f (ws ++ y)) e ∙ ap f (append-nil ws) ∙ g ∙ ap (λ y. Some (x, y)) (sym e)

  field_read : (f : Field) (v : Value f) (rest : List Bytes) → IsWritableValue r f v → IsClear f rest → read r names f (printed names f v ++ rest) ≡ Some (v, rest)
  field_read number n rest w c = ap (option_map (λ x. (x, rest))) (number_read n w)
  field_read times n rest w c =
      ap (λ o. option_map (λ x. (x, rest)) (up_to 16 o)) (number_read n (sixteen n w)) ∙ ap (λ (t : Bool). option_map (λ x. (x, rest)) (where_so t (Some n))) (le-leb n 16 w)
  field_read name m rest w c = ap (λ (t : Bool). option_map (λ x. (x, rest)) (where_so t (Some m))) w
  field_read yes_no true rest w c = refl
  field_read yes_no false rest w c = refl
  field_read (yes_with u) o rest w c = yes_back u o rest w
  field_read keep_or_zero true rest w c = refl
  field_read keep_or_zero false rest w c = refl
  field_read by_numbers ks rest w c = by_read ks rest w c
  field_read numbers ks rest w c = ended (λ ws. Fields.all_words (some_numbers ws)) (map decimal ks) rest ks c (ap Fields.all_words (some_numbers_read ks w.0 w.1))
  field_read free_words ws rest w c = ended (λ us. Fields.all_words (Fields.some_words us)) ws rest ws c (ap Fields.all_words (words_back ws w.0))
  field_read generators fs rest w c =
      ended (λ us. Fields.all_words (option_map nonzero (generators_of r names us))) (comma_words (map (polynomial_word names) fs)) rest fs c (ap Fields.all_words (ideal_back fs w.0 w.1))
  field_read columns vs rest w c =
      ended (λ us. Fields.all_words (counted_vectors r names us)) (decimal (length vs) ∷ map (vector_word names) vs) rest vs c (ap Fields.all_words (columns_back vs w.0 w.1))

  -- ---- rows
  pub record IsRowRead (items : List Item) (vs : Values items) : Type 0 where
    pub is : read_row r names items (printed_row names items vs) ≡ Some vs

-- what may stand after a field
abbrev pub may_stand : Field → List Item → Bool
may_stand by_numbers [] = true
may_stand by_numbers (field keep_or_zero ∷ items) = true
may_stand by_numbers items = false
may_stand numbers [] = true
may_stand numbers (i ∷ items) = false
may_stand free_words [] = true
may_stand free_words (i ∷ items) = false
may_stand generators [] = true
may_stand generators (i ∷ items) = false
may_stand columns [] = true
may_stand columns (i ∷ items) = false
may_stand f items = true

-- the word in a field is one
abbrev pub is_good : Field → Bool
is_good (yes_with w) = is_word w
is_good f = true

-- rows that can be read: fields that go to the end of the line stand at the end, and their words are words
abbrev pub is_row : List Item → Bool
is_row [] = true
is_row (word w ∷ items) = is_word w && is_row items
is_row (field f ∷ items) = (is_good f && may_stand f items) && is_row items

module _ (r : Ring) (names : List Bytes) (h : AreNames names) (l : length names ≡ r.vars) where
  keep_is_clear : (b : Bool) (ws : List Bytes) → no_number_first (keep_word b ∷ ws)
  unfolding exact_number
  keep_is_clear true ws = (refl, refl)
  keep_is_clear false ws = (refl, refl)

  not_true : false ≡ true → ⊥
  not_true e = cc

  clear : (f : Field) (items : List Item) (vs : Values items) → may_stand f items ≡ true → IsClear r names h l f (printed_row names items vs)
  clear number items vs m = tt
  clear times items vs m = tt
  clear name items vs m = tt
  clear yes_no items vs m = tt
  clear (yes_with w) items vs m = tt
  clear keep_or_zero items vs m = tt
  clear by_numbers [] vs m = tt
  clear by_numbers (word w ∷ items) vs m = absurd (not_true m)
  clear by_numbers (field keep_or_zero ∷ items) vs m = keep_is_clear vs.0 (printed_row names items vs.1)
  clear by_numbers (field number ∷ items) vs m = absurd (not_true m)
  clear by_numbers (field times ∷ items) vs m = absurd (not_true m)
  clear by_numbers (field name ∷ items) vs m = absurd (not_true m)
  clear by_numbers (field yes_no ∷ items) vs m = absurd (not_true m)
  clear by_numbers (field (yes_with w) ∷ items) vs m = absurd (not_true m)
  clear by_numbers (field by_numbers ∷ items) vs m = absurd (not_true m)
  clear by_numbers (field numbers ∷ items) vs m = absurd (not_true m)
  clear by_numbers (field free_words ∷ items) vs m = absurd (not_true m)
  clear by_numbers (field generators ∷ items) vs m = absurd (not_true m)
  clear by_numbers (field columns ∷ items) vs m = absurd (not_true m)
  clear numbers [] vs m = refl
  clear numbers (i ∷ items) vs m = absurd (not_true m)
  clear free_words [] vs m = refl
  clear free_words (i ∷ items) vs m = absurd (not_true m)
  clear generators [] vs m = refl
  clear generators (i ∷ items) vs m = absurd (not_true m)
  clear columns [] vs m = refl
  clear columns (i ∷ items) vs m = absurd (not_true m)

  pub row_read : (items : List Item) (vs : Values items) → is_row items ≡ true → AreWritableValues r items vs → read_row r names items (printed_row names items vs) ≡ Some vs
  row_read [] tt t w = refl
  row_read (word u ∷ items) vs t w = ap (λ (b : Bool). where_so b (read_row r names items (printed_row names items vs))) (same_refl u) ∙ row_read items vs (and_parts _ _ t).1 w
  row_read (field f ∷ items) vs t w =
      ap (λ o. o >>= λ x. option_map (λ ys. (x.0, ys)) (read_row r names items x.1)) (field_read r names h l f vs.0 (printed_row names items vs.1) w.0 (clear f items vs.1 (and_parts _ _ (and_parts _ _ t).0).1))
      ∙ ap (option_map (λ ys. (vs.0, ys))) (row_read items vs.1 (and_parts _ _ t).1 w.1)
