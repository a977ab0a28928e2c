-- Printed lines are read back.
use Rattle.std.proofs.Common.{◌≡◌, ℕ, ◌^◌, ◌<◌, Bool, true, false, ◌&&◌, ◌||◌, if◌then◌else◌, List, [], ◌∷◌, ◌++◌, length, Option, Some, None, option_map, refl, sym, ap, ap₂, ◌∙◌, subst, arith, append_assoc}
use Rattle.std.specs.Prelude.{decimal, codes}
use Rattle.std.specs.List.{list_all, join_with_byte}
use Rattle.std.proofs.lemmas.Bool.{and_parts, and_from}
use Rattle.std.proofs.lemmas.Bool.Decides.{nat_tests}
use Rattle.fm_mono.specs.declared.order.Order.{Order}
use Rattle.fm_mono.specs.declared.order.Order.TheVariants.{Grevlex, Deglex, Lex}
use Rattle.fm_words.specs.Words.{AreNames, words, after_word, is_empty, is_blank, is_digit, is_number, is_name, is_name_byte, same_bytes, value}
use Rattle.fm_words.specs.Options.{◌>>=◌}
use Rattle.fm_poly.specs.declared.ring.Ring.{Ring}
use Rattle.fm_words.specs.declared.mark.Mark.TheVariants.{Blank, Comma, Equals, Open, Close}
use Rattle.fm_words.specs.Parts.{Bytes, is_mark, parts, before_mark, after_mark, only, pair, triple}
use Rattle.fm_problem.specs.declared.keyword.Question.{Question}
use Rattle.fm_problem.specs.declared.keyword.Question.TheVariants.{Zero, Root, Support, Resolution, Ext}
use Rattle.fm_problem.specs.declared.keyword.Keyword.TheVariants.{Module}
use Rattle.fm_problem.specs.declared.query.Query.{Query}
use Rattle.fm_text.specs.Factors.{is_polynomial, are_polynomials}
use Rattle.fm_problem.specs.Statements.{Statement, RingLine, OrderLine, IdealLine, ModuleLine, ClassLine, InvertLine, MapLine, MemberLine, ring_line, named_ideal, ideal_line, module_line, entries_of, are_entries, class_parts, class_line, invert_line, map_line, member_line, after_keyword, keyword_of, by_words, statement_of}
use Rattle.fm_cert.specs.Fields.{Values, printed_row, read_row}
use Rattle.fm_cert.specs.Kinds.{Kind, row}
use Rattle.fm_cert.specs.Statements.{order_word, question_word, vector_of_texts, statement_words}
use Rattle.fm_cert.specs.Lines.{Line, Head, Question as Asks, Row, line_text, begins_head, question_of, exact_words, row_of, line_of}
use Rattle.fm_cert.specs.Writable.{is_inner, is_word, is_poly_byte, is_spelled, IsHead, IsWritableStatement, AnswersQuery, AreWritableValues, IsWritableLine}
use Rattle.fm_text.proofs.Bytes.{all_append, all_weaker, not_split, number_digits, number_value, decimal_is_number, name_bytes}
use Rattle.fm_cert.proofs.RowsRead.{number_read, row_read}
use Rattle.fm_cert.proofs.KindsRead.{row_is, kind_is, other_line, no_query, some_words, first_of}
use Rattle.fm_cert.proofs.WordsRead.{word_parts, NoneIn, split_at, split_joined, words_cut, exactly_cut, before_blank, before_none, after_blank, after_first, words_after, number_word, name_word, row_words}

-- ---- rows
first_joined : (w : Bytes) (ws : List Bytes) → is_word w ≡ true → before_mark Blank (join_with_byte 32 (w ∷ ws)) ≡ w
first_joined w [] h = before_none w (word_parts w h).1
first_joined w (v ∷ ws) h = before_blank w (join_with_byte 32 (v ∷ ws)) (word_parts w h).1

module _ (r : Ring) (names : List Bytes) (h : AreNames names) (l : length names ≡ r.vars) (asked : Option Query) where
  by_words_read : (ws : List Bytes) (first : Bytes) (more : List Bytes) → ws ≡ first ∷ more → list_all is_word ws ≡ true → begins_head ws ≡ false → same_bytes (first_of ws) (codes "query") ≡ false
      → line_of r names asked (join_with_byte 32 ws) ≡ row_of r names asked ws
  unfolding line_of
  by_words_read ws first more e good head query = subst (λ us. Good us → line_of r names asked (join_with_byte 32 us) ≡ row_of r names asked us) (sym e) some (good, head, query)
    where
      Good : List Bytes → Type 0
      Good us = (list_all is_word us ≡ true) × (begins_head us ≡ false) × (same_bytes (first_of us) (codes "query") ≡ false)

      some : Good (first ∷ more) → line_of r names asked (join_with_byte 32 (first ∷ more)) ≡ row_of r names asked (first ∷ more)
      some g =
          let text = join_with_byte 32 (first ∷ more) in
          let same : before_mark Blank text ≡ first = first_joined first more (and_parts _ _ g.0).0 in
          ap (λ us. if begins_head us then option_map Head (statement_of text) else (if same_bytes (before_mark Blank text) (codes "query") then question_of (after_mark Blank text) else (exact_words text >>= row_of r names asked)))
          (words_cut first more g.0)
          ∙ ap (λ (t : Bool). if t then option_map Head (statement_of text) else (if same_bytes (before_mark Blank text) (codes "query") then question_of (after_mark Blank text) else (exact_words text >>= row_of r names asked))) g.1
          ∙ ap (λ (t : Bool). if t then question_of (after_mark Blank text) else (exact_words text >>= row_of r names asked)) (ap (λ u. same_bytes u (codes "query")) same ∙ g.2)
          ∙ ap (λ o. o >>= row_of r names asked) (exactly_cut first more g.0)

  row_line : (k : Kind) (vs : Values (row k)) → AnswersQuery asked k → AreWritableValues r (row k) vs → line_of r names asked (line_text names (Row k vs)) ≡ Some (Row k vs)
  unfolding line_text
  row_line k vs a w =
      let s = some_words names asked k vs in
      by_words_read (printed_row names (row k) vs) s.0 s.1 s.2 (row_words r names h l (row k) vs (row_is k) w) (other_line names asked k vs) (no_query names asked k vs)
      ∙ ap (λ o. o >>= λ kind. option_map (Row kind) (read_row r names (row kind) (printed_row names (row k) vs))) (kind_is names asked k vs a)
      ∙ ap (option_map (Row k)) (row_read r names h l (row k) vs (row_is k) w)

-- ---- lines of a problem text
-- what stands after the first word
keyword_read : (w rest : Bytes) → is_word w ≡ true → statement_of (w ++ 32 ∷ rest) ≡ after_keyword (keyword_of w) rest
keyword_read w rest h = ap₂ (λ ws u. by_words ws u) (words_after w rest h) (after_first w rest h)

one : (w : Bytes) → is_word w ≡ true → words w ≡ w ∷ []
one w h = words_cut w [] (and_from _ _ h refl)

number_and_name : (i : ℕ) → i < 2 ^ 64 → (is_number (decimal i) ≡ true) × (value (decimal i) ≡ i)
number_and_name i h = (decimal_is_number i h, number_value i h)

names_words : (names : List Bytes) → list_all is_name names ≡ true → list_all is_word names ≡ true
names_words [] h = refl
names_words (m ∷ ms) h = and_from _ _ (name_word m (and_parts _ _ h).0) (names_words ms (and_parts _ _ h).1)

ring_read : (p : ℕ) (names : List Bytes) → p < 2 ^ 64 → 0 < length names → list_all is_name names ≡ true → statement_of (join_with_byte 32 (codes "ring" ∷ decimal p ∷ names)) ≡ Some (RingLine p names)
ring_read p [] b l n = absurd (omega (arith, l))
ring_read p (m ∷ ms) b l n =
    keyword_read (codes "ring") (join_with_byte 32 (decimal p ∷ m ∷ ms)) refl
    ∙ ap ring_line (words_cut (decimal p) (m ∷ ms) (and_from _ _ (number_word p b) (names_words (m ∷ ms) n)))
    ∙ ap₂ (λ (x y : Bool). if x && y then Some (RingLine (value (decimal p)) (m ∷ ms)) else None) (decimal_is_number p b) n
    ∙ ap (λ q. Some (RingLine q (m ∷ ms))) (number_value p b)

order_read : (o : Order) → statement_of (join_with_byte 32 (codes "order" ∷ order_word o ∷ [])) ≡ Some (OrderLine o)
order_read Grevlex = refl
order_read Deglex = refl
order_read Lex = refl

-- ---- texts of polynomials
spelled_byte : (b : ℕ) → is_poly_byte b ≡ true → (if is_mark Comma b then false else true) ≡ true
spelled_byte b h = grind (arith, nat_tests)

no_equals : (b : ℕ) → is_poly_byte b ≡ true → (if is_mark Equals b then false else true) ≡ true
no_equals b h = grind (arith, nat_tests)

no_close : (b : ℕ) → is_poly_byte b ≡ true → (if is_mark Close b then false else true) ≡ true
no_close b h = grind (arith, nat_tests)

no_commas : (texts : List Bytes) → list_all is_spelled texts ≡ true → NoneIn (is_mark Comma) texts
no_commas [] h = tt
no_commas (t ∷ ts) h = (all_weaker is_poly_byte (λ b. if is_mark Comma b then false else true) spelled_byte t (and_parts _ _ (and_parts _ _ h).0).1, no_commas ts (and_parts _ _ h).1)

commas_cut : (t : Bytes) (ts : List Bytes) → list_all is_spelled (t ∷ ts) ≡ true → parts Comma (join_with_byte 44 (t ∷ ts)) ≡ t ∷ ts
commas_cut t ts h = split_joined (is_mark Comma) 44 refl t ts (no_commas (t ∷ ts) h)

all_polynomials : (texts : List Bytes) → list_all is_spelled texts ≡ true → list_all is_polynomial texts ≡ true
all_polynomials [] h = refl
all_polynomials (t ∷ ts) h = and_from _ _ (and_parts _ _ (and_parts _ _ h).0).0 (all_polynomials ts (and_parts _ _ h).1)

joined_without : (p : ℕ → Bool) → p 44 ≡ false → ((b : ℕ) → is_poly_byte b ≡ true → (if p b then false else true) ≡ true) → (texts : List Bytes) → list_all is_spelled texts ≡ true
    → list_all (λ b. if p b then false else true) (join_with_byte 44 texts) ≡ true
joined_without p c w [] h = refl
joined_without p c w (t ∷ []) h = all_weaker is_poly_byte (λ b. if p b then false else true) w t (and_parts _ _ (and_parts _ _ h).0).1
joined_without p c w (t ∷ u ∷ ts) h =
    all_append (λ b. if p b then false else true) t (44 ∷ join_with_byte 44 (u ∷ ts)) (all_weaker is_poly_byte (λ b. if p b then false else true) w t (and_parts _ _ (and_parts _ _ h).0).1)
    (and_from _ _ (ap (λ (x : Bool). if x then false else true) c) (joined_without p c w (u ∷ ts) (and_parts _ _ h).1))

-- ---- ideals
name_no_equals : (b : ℕ) → is_name_byte b ≡ true → (if is_mark Equals b then false else true) ≡ true
name_no_equals b h = grind (arith, nat_tests)

name_no_open : (b : ℕ) → is_name_byte b ≡ true → (if is_mark Open b then false else true) ≡ true
name_no_open b h = grind (arith, nat_tests)

digit_no_open : (b : ℕ) → is_digit b ≡ true → (if is_mark Open b then false else true) ≡ true
digit_no_open b h = grind (arith, nat_tests)

-- a word, and a blank after it
one_before_blank : (w : Bytes) → is_word w ≡ true → words (w ++ 32 ∷ []) ≡ w ∷ []
one_before_blank w h = words_after w [] h

ideal_read : (m : Bytes) (texts : List Bytes) → is_name m ≡ true → 0 < length texts → list_all is_spelled texts ≡ true
    → statement_of (join_with_byte 32 (codes "ideal" ∷ m ∷ (codes "=" ++ join_with_byte 44 texts) ∷ [])) ≡ Some (IdealLine m texts)
ideal_read m [] n l s = absurd (omega (arith, l))
ideal_read m (t ∷ ts) n l s =
    let inner = join_with_byte 44 (t ∷ ts) in
    let bare = all_weaker is_name_byte (λ b. if is_mark Equals b then false else true) name_no_equals m (name_bytes m n) in
    let blanked : list_all (λ b. if is_mark Equals b then false else true) (m ++ 32 ∷ []) ≡ true = all_append (λ b. if is_mark Equals b then false else true) m (32 ∷ []) bare refl in
    keyword_read (codes "ideal") (m ++ 32 ∷ 61 ∷ inner) refl
    ∙ ap (λ x. ideal_line (pair (parts Equals x))) (sym (append_assoc m (32 ∷ []) (61 ∷ inner)))
    ∙ ap (λ ps. ideal_line (pair ps)) (split_at (is_mark Equals) 61 refl (m ++ 32 ∷ []) inner blanked
    ∙ ap (λ ps. (m ++ 32 ∷ []) ∷ ps) (not_split (is_mark Equals) inner (joined_without (is_mark Equals) refl no_equals (t ∷ ts) s)))
    ∙ ap (λ ws. named_ideal (only ws) inner) (one_before_blank m (name_word m n))
    ∙ ap₂ (λ (x y : Bool). if x && y then Some (IdealLine m (parts Comma inner)) else None) n (ap (list_all is_polynomial) (commas_cut t ts s) ∙ all_polynomials (t ∷ ts) s)
    ∙ ap (λ ps. Some (IdealLine m ps)) (commas_cut t ts s)

-- ---- queries
module_keyword : (a : Question) → keyword_of (question_word a) ≡ Some (Module a)
module_keyword Zero = refl
module_keyword Root = refl
module_keyword Support = refl
module_keyword Resolution = refl
module_keyword Ext = refl

question_is_word : (a : Question) → is_word (question_word a) ≡ true
question_is_word Zero = refl
question_is_word Root = refl
question_is_word Support = refl
question_is_word Resolution = refl
question_is_word Ext = refl

module_read : (a : Question) (i : ℕ) (m : Bytes) → i < 2 ^ 64 → is_name m ≡ true → statement_of (join_with_byte 32 (question_word a ∷ decimal i ∷ m ∷ [])) ≡ Some (ModuleLine a i m)
module_read a i m b n =
    keyword_read (question_word a) (join_with_byte 32 (decimal i ∷ m ∷ [])) (question_is_word a)
    ∙ ap (λ k. after_keyword k (join_with_byte 32 (decimal i ∷ m ∷ []))) (module_keyword a)
    ∙ ap (λ ws. module_line a (pair ws)) (words_cut (decimal i) (m ∷ []) (and_from _ _ (number_word i b) (and_from _ _ (name_word m n) refl)))
    ∙ ap₂ (λ (x y : Bool). if x && y then Some (ModuleLine a (value (decimal i)) m) else None) (decimal_is_number i b) n
    ∙ ap (λ v. Some (ModuleLine a v m)) (number_value i b)

map_read : (i : ℕ) (m k : Bytes) → i < 2 ^ 64 → is_name m ≡ true → is_name k ≡ true → statement_of (join_with_byte 32 (codes "map" ∷ decimal i ∷ m ∷ k ∷ [])) ≡ Some (MapLine i m k)
map_read i m k b n o =
    keyword_read (codes "map") (join_with_byte 32 (decimal i ∷ m ∷ k ∷ [])) refl
    ∙ ap (λ ws. map_line (triple ws)) (words_cut (decimal i) (m ∷ k ∷ []) (and_from _ _ (number_word i b) (and_from _ _ (name_word m n) (and_from _ _ (name_word k o) refl))))
    ∙ ap₂ (λ (x y : Bool). if x && y then Some (MapLine (value (decimal i)) m k) else None) (decimal_is_number i b) (and_from _ _ n o)
    ∙ ap (λ v. Some (MapLine v m k)) (number_value i b)

invert_read : (i : ℕ) (m text : Bytes) → i < 2 ^ 64 → is_name m ≡ true → is_spelled text ≡ true → is_word text ≡ true
    → statement_of (join_with_byte 32 (codes "invert" ∷ decimal i ∷ m ∷ text ∷ [])) ≡ Some (InvertLine i m text)
invert_read i m text b n s w =
    keyword_read (codes "invert") (decimal i ++ 32 ∷ (m ++ 32 ∷ text)) refl
    ∙ ap₂ invert_line (words_cut (decimal i) (m ∷ text ∷ []) (and_from _ _ (number_word i b) (and_from _ _ (name_word m n) (and_from _ _ w refl))))
    (ap after_word (after_first (decimal i) (m ++ 32 ∷ text) (number_word i b)) ∙ after_first m text (name_word m n))
    ∙ ap₂ (λ (x y : Bool). if x && y then Some (InvertLine (value (decimal i)) m text) else None) (decimal_is_number i b) (and_from _ _ n (and_parts _ _ s).0)
    ∙ ap (λ v. Some (InvertLine v m text)) (number_value i b)

member_read : (m text : Bytes) → is_name m ≡ true → is_spelled text ≡ true → is_word text ≡ true → statement_of (join_with_byte 32 (codes "member" ∷ m ∷ text ∷ [])) ≡ Some (MemberLine m text)
member_read m text n s w =
    keyword_read (codes "member") (m ++ 32 ∷ text) refl
    ∙ ap₂ member_line (words_cut m (text ∷ []) (and_from _ _ (name_word m n) (and_from _ _ w refl))) (after_first m text (name_word m n))
    ∙ ap₂ (λ (x y : Bool). if x && y then Some (MemberLine m text) else None) n (and_parts _ _ s).0

-- the entries of a printed vector
joined_word : (t : Bytes) (ts : List Bytes) → list_all is_word (t ∷ ts) ≡ true → is_word (join_with_byte 44 (t ∷ ts)) ≡ true
joined_word t [] w = (and_parts _ _ w).0
joined_word [] (u ∷ ts) w = absurd (let e : false ≡ true = (and_parts false (is_word u && list_all is_word ts) w).0 in cc)
joined_word (b ∷ bs) (u ∷ ts) w =
    all_append is_inner (b ∷ bs) (44 ∷ join_with_byte 44 (u ∷ ts)) (and_parts _ _ w).0 (and_from _ _ refl (word_parts (join_with_byte 44 (u ∷ ts)) (joined_word u ts (and_parts _ _ w).1)).1)

entries_read : (texts : List Bytes) → list_all is_spelled texts ≡ true → list_all is_word texts ≡ true
    → (are_entries (join_with_byte 44 texts) ≡ true) × (entries_of (join_with_byte 44 texts) ≡ texts)
entries_read [] s w = (refl, refl)
entries_read (t ∷ ts) s w =
    let blank : is_blank (join_with_byte 44 (t ∷ ts)) ≡ false = ap is_empty (one (join_with_byte 44 (t ∷ ts)) (joined_word t ts w)) in (
      ap (λ (x : Bool). x || are_polynomials (join_with_byte 44 (t ∷ ts))) blank ∙ ap (list_all is_polynomial) (commas_cut t ts s) ∙ all_polynomials (t ∷ ts) s,
      ap (λ (x : Bool). if x then [] else parts Comma (join_with_byte 44 (t ∷ ts))) blank ∙ commas_cut t ts s,
    )

class_read : (i : ℕ) (m : Bytes) (e : ℕ) (texts : List Bytes) → i < 2 ^ 64 → is_name m ≡ true → e < 2 ^ 64 → list_all is_spelled texts ≡ true → list_all is_word texts ≡ true
    → statement_of (join_with_byte 32 (codes "class" ∷ decimal i ∷ m ∷ decimal e ∷ vector_of_texts texts ∷ [])) ≡ Some (ClassLine i m e texts)
class_read i m e texts b n c s w =
    let inner = join_with_byte 44 texts in
    let open_free : list_all (λ b. if is_mark Open b then false else true) (decimal i ++ 32 ∷ (m ++ 32 ∷ (decimal e ++ 32 ∷ []))) ≡ true =
    all_append (λ b. if is_mark Open b then false else true) (decimal i) (32 ∷ (m ++ 32 ∷ (decimal e ++ 32 ∷ []))) (digits_free i b)
    (and_from _ _ refl (all_append (λ b. if is_mark Open b then false else true) m (32 ∷ (decimal e ++ 32 ∷ [])) (all_weaker is_name_byte (λ b. if is_mark Open b then false else true) name_no_open m (name_bytes m n))
    (and_from _ _ refl (all_append (λ b. if is_mark Open b then false else true) (decimal e) (32 ∷ []) (digits_free e c) refl)))) in
    let front : parts Open (decimal i ++ 32 ∷ (m ++ 32 ∷ (decimal e ++ 32 ∷ 40 ∷ (inner ++ 41 ∷ [])))) ≡ (decimal i ++ 32 ∷ (m ++ 32 ∷ (decimal e ++ 32 ∷ []))) ∷ (inner ++ 41 ∷ []) ∷ [] =
    ap (parts Open) (regrouped (decimal i) m (decimal e) (40 ∷ (inner ++ 41 ∷ [])))
    ∙ split_at (is_mark Open) 40 refl (decimal i ++ 32 ∷ (m ++ 32 ∷ (decimal e ++ 32 ∷ []))) (inner ++ 41 ∷ []) open_free
    ∙ ap (λ ps. (decimal i ++ 32 ∷ (m ++ 32 ∷ (decimal e ++ 32 ∷ []))) ∷ ps) (not_split (is_mark Open) (inner ++ 41 ∷ []) (all_append (λ b. if is_mark Open b then false else true) inner (41 ∷ []) (joined_without (is_mark Open) refl no_open texts s) refl)) in
    let back : parts Close (inner ++ 41 ∷ []) ≡ inner ∷ [] ∷ [] = split_at (is_mark Close) 41 refl inner [] (joined_without (is_mark Close) refl no_close texts s) in
    let three : words (decimal i ++ 32 ∷ (m ++ 32 ∷ (decimal e ++ 32 ∷ []))) ≡ decimal i ∷ m ∷ decimal e ∷ [] =
    words_after (decimal i) (m ++ 32 ∷ (decimal e ++ 32 ∷ [])) (number_word i b) ∙ ap (λ ws. decimal i ∷ ws) (words_after m (decimal e ++ 32 ∷ []) (name_word m n))
    ∙ ap (λ ws. decimal i ∷ m ∷ ws) (words_after (decimal e) [] (number_word e c)) in
    let entries = entries_read texts s w in
    keyword_read (codes "class") (decimal i ++ 32 ∷ (m ++ 32 ∷ (decimal e ++ 32 ∷ 40 ∷ (inner ++ 41 ∷ [])))) refl
    ∙ ap (λ ps. class_line (pair ps)) front
    ∙ ap₂ (λ us ps. class_parts (triple us) (pair ps)) three back
    ∙ ap₂ (λ (x y : Bool). if x && (is_name m && (y && (are_entries inner && true))) then Some (ClassLine (value (decimal i)) m (value (decimal e)) (entries_of inner)) else None) (decimal_is_number i b) (decimal_is_number e c)
    ∙ ap₂ (λ (x y : Bool). if true && (x && (true && (y && true))) then Some (ClassLine (value (decimal i)) m (value (decimal e)) (entries_of inner)) else None) n entries.0
    ∙ ap₂ (λ v u. Some (ClassLine v m u (entries_of inner))) (number_value i b) (number_value e c) ∙ ap (λ ts. Some (ClassLine i m e ts)) entries.1
  where
    digits_free : (k : ℕ) → k < 2 ^ 64 → list_all (λ b. if is_mark Open b then false else true) (decimal k) ≡ true
    digits_free k h = all_weaker is_digit (λ b. if is_mark Open b then false else true) digit_no_open (decimal k) (number_digits k h)

    no_open : (b : ℕ) → is_poly_byte b ≡ true → (if is_mark Open b then false else true) ≡ true
    no_open b h = grind (arith, nat_tests)

    regrouped : (x y z rest : Bytes) → x ++ 32 ∷ (y ++ 32 ∷ (z ++ 32 ∷ rest)) ≡ (x ++ 32 ∷ (y ++ 32 ∷ (z ++ 32 ∷ []))) ++ rest
    regrouped x y z rest =
        sym (append_assoc x (32 ∷ (y ++ 32 ∷ (z ++ 32 ∷ []))) rest ∙ ap (λ u. x ++ 32 ∷ u) (append_assoc y (32 ∷ (z ++ 32 ∷ [])) rest ∙ ap (λ u. y ++ 32 ∷ u) (append_assoc z (32 ∷ []) rest)))

-- a printed line of a problem text is read back
pub statement_read : (s : Statement) → IsWritableStatement s → statement_of (join_with_byte 32 (statement_words s)) ≡ Some s
statement_read (RingLine p names) w = ring_read p names w.0 w.1 w.2
statement_read (OrderLine o) w = order_read o
statement_read (IdealLine m texts) w = ideal_read m texts w.0 w.1 w.2
statement_read (ModuleLine a i m) w = module_read a i m w.0 w.1
statement_read (ClassLine i m e texts) w = class_read i m e texts w.0 w.1 w.2 w.3 w.4
statement_read (InvertLine i m text) w = invert_read i m text w.0 w.1 w.2 w.3
statement_read (MapLine i source target) w = map_read i source target w.0 w.1 w.2
statement_read (MemberLine m text) w = member_read m text w.0 w.1 w.2

-- ---- lines
head_text : (w rest : Bytes) → is_word w ≡ true → begins_head (w ∷ words rest) ≡ true → begins_head (words (w ++ 32 ∷ rest)) ≡ true
head_text w rest h b = ap begins_head (words_after w rest h) ∙ b

head_begins : (s : Statement) → IsHead s → 0 < length (statement_words s) → begins_head (words (join_with_byte 32 (statement_words s))) ≡ true
head_begins (RingLine p names) h l = head_text (codes "ring") (join_with_byte 32 (decimal p ∷ names)) refl refl
head_begins (OrderLine o) h l = head_text (codes "order") (order_word o) refl refl
head_begins (IdealLine m texts) h l = head_text (codes "ideal") (join_with_byte 32 (m ∷ (codes "=" ++ join_with_byte 44 texts) ∷ [])) refl refl
head_begins (ModuleLine a i m) h l = absurd h
head_begins (ClassLine i m e texts) h l = absurd h
head_begins (InvertLine i m text) h l = absurd h
head_begins (MapLine i source target) h l = absurd h
head_begins (MemberLine m text) h l = absurd h

words_of_statement : (s : Statement) → (first : Bytes) × (more : List Bytes) × (statement_words s ≡ first ∷ more)
words_of_statement (RingLine p names) = (_, _, refl)
words_of_statement (OrderLine o) = (_, _, refl)
words_of_statement (IdealLine m texts) = (_, _, refl)
words_of_statement (ModuleLine a i m) = (_, _, refl)
words_of_statement (ClassLine i m e texts) = (_, _, refl)
words_of_statement (InvertLine i m text) = (_, _, refl)
words_of_statement (MapLine i source target) = (_, _, refl)
words_of_statement (MemberLine m text) = (_, _, refl)

joined_after : (k : Bytes) (ws : List Bytes) (first : Bytes) (more : List Bytes) → ws ≡ first ∷ more → join_with_byte 32 (k ∷ ws) ≡ k ++ 32 ∷ join_with_byte 32 ws
joined_after k ws first more e = ap (λ us. join_with_byte 32 (k ∷ us)) e ∙ ap (λ us. k ++ 32 ∷ join_with_byte 32 us) (sym e)

module _ (r : Ring) (names : List Bytes) (h : AreNames names) (l : length names ≡ r.vars) (asked : Option Query) where
  head_line : (s : Statement) → IsHead s → IsWritableStatement s → line_of r names asked (line_text names (Head s)) ≡ Some (Head s)
  unfolding line_of line_text
  head_line s i w =
      let text = join_with_byte 32 (statement_words s) in
      let some = words_of_statement s in
      ap (λ (t : Bool). if t then option_map Head (statement_of text) else (if same_bytes (before_mark Blank text) (codes "query") then question_of (after_mark Blank text) else (exact_words text >>= row_of r names asked)))
      (head_begins s i (subst (λ ws. 0 < length ws) (sym some.2) (omega arith)))
      ∙ ap (option_map Head) (statement_read s w)

  query_line : (k : ℕ) (s : Statement) → k < 2 ^ 64 → IsWritableStatement s → line_of r names asked (line_text names (Asks k s)) ≡ Some (Asks k s)
  unfolding line_of line_text
  query_line k s b w =
      let some = words_of_statement s in
      let back = join_with_byte 32 (statement_words s) in
      let whole : join_with_byte 32 (codes "query" ∷ decimal k ∷ statement_words s) ≡ codes "query" ++ 32 ∷ (decimal k ++ 32 ∷ back) =
      ap (λ x. codes "query" ++ 32 ∷ x) (joined_after (decimal k) (statement_words s) some.0 some.1 some.2) in
      let number = word_parts (decimal k) (number_word k b) in
      ap (λ text. if begins_head (words text) then option_map Head (statement_of text) else (if same_bytes (before_mark Blank text) (codes "query") then question_of (after_mark Blank text) else (exact_words text >>= row_of r names asked))) whole
      ∙ ap (λ us. if begins_head us then option_map Head (statement_of (codes "query" ++ 32 ∷ (decimal k ++ 32 ∷ back))) else question_of (decimal k ++ 32 ∷ back)) (words_after (codes "query") (decimal k ++ 32 ∷ back) refl)
      ∙ ap₂ (λ u v. Rattle.fm_cert.specs.Fields.exact_number u >>= λ n. option_map (Asks n) (statement_of v)) (before_blank (decimal k) back number.1) (after_blank (decimal k) back number.1)
      ∙ ap (λ o. o >>= λ n. option_map (Asks n) (statement_of back)) (number_read k b)
      ∙ ap (option_map (Asks k)) (statement_read s w)

  -- a printed line is read back
  pub line_read : (x : Line) → IsWritableLine r asked x → line_of r names asked (line_text names x) ≡ Some x
  line_read (Head s) w = head_line s w.0 w.1
  line_read (Asks k s) w = query_line k s w.0 w.1
  line_read (Row k vs) w = row_line r names h l asked k vs w.0 w.1
