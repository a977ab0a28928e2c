-- The first word of a text tells whether it is a line of a head, a question or a row.
use Rattle.std.proofs.Common.{◌≡◌, ℕ, Bool, true, false, ◌&&◌, ◌||◌, if◌then◌else◌, List, [], ◌∷◌, codes, Option, Some, None, option_map, Result, Ok, Err, refl, sym, ap, ap₂, ◌∙◌, subst}
use Rattle.std.specs.Prelude.{IfOk}
use Rattle.std.specs.List.{list_all}
use Rattle.fm_poly.specs.declared.ring.Ring.{Ring}
use Rattle.fm_words.specs.declared.mark.Mark.TheVariants.{Blank, Comma, Equals, Open, Close}
use Rattle.fm_words.specs.Options.{◌>>=◌, where_so}
use Rattle.fm_words.specs.Parts.{Bytes, parts, before_mark, after_mark, pair, triple}
use Rattle.fm_words.specs.Words.{words, after_word, is_number, is_name, is_blank, value, same_bytes}
use Rattle.fm_text.specs.Factors.{one_word, is_polynomial, are_polynomials}
use Rattle.fm_problem.specs.declared.keyword.Question.{Question as Asks}
use Rattle.fm_problem.specs.declared.keyword.Keyword.{Keyword}
use Rattle.fm_problem.specs.declared.keyword.Keyword.TheVariants.{Ring as RingWord, Order as OrderWord, Ideal, Module, Class, Invert, Map, Member}
use Rattle.fm_problem.specs.declared.query.Query.{Query}
use Rattle.fm_problem.specs.Statements.{Statement, RingLine, OrderLine, IdealLine, ModuleLine, ClassLine, InvertLine, MapLine, MemberLine, ring_line, order_of, order_line, named_ideal, ideal_line, module_line, are_entries, entries_of, class_parts, class_line, invert_line, map_line, member_line, after_keyword, by_words, statement_of}
use Rattle.fm_mono.specs.declared.order.Order.{Order}
use Rattle.fm_cert.specs.Fields.{Values, exact_number, read_row}
use Rattle.fm_cert.specs.Kinds.{Kind, row, kind_of}
use Rattle.fm_cert.specs.Lines.{Line, Head, Question, Row, begins_head, exact_words, is_full, question_of, row_of, line_of}
use Rattle.fm_problem.specs.declared.problem.Problem.{Problem}
use Rattle.fm_lines.specs.Rows.{line_said}
use Rattle.fm_lines.specs.declared.line_text.LineText.{LineText}
use Rattle.fm_lines.specs.declared.line_text.LineText.TheVariants as texts
use Rattle.fm_report.specs.Sheets.{Sheet, ring_in, names_in}
use Rattle.fm_report.specs.Reading.{line_in}
use Rattle.fm_parts.specs.Replays.{Form}
use Rattle.fm_judge.specs.Judging.{State, unread, without_exponents}
use Rattle.fm_judge.proofs.Options.{none_some, same_some, followed, mapped, where_true}
use Rattle.fm_asked.proofs.WithoutExponents.{head_kept, query_kept}
use Rattle.fm_check.specs.Lines.{IsOfHead, IsOfHeadIf}

-- the statement is that of a query, or of none
abbrev pub IsOffHead : Option Statement → Type 0
IsOffHead (Some (RingLine n names)) = ⊥
IsOffHead (Some (OrderLine o)) = ⊥
IsOffHead (Some (IdealLine name texts)) = ⊥
IsOffHead s = Unit {0}

either : (P : Option Statement → Type 0) (b : Bool) (s : Statement) → P (Some s) → P None → P (if b then Some s else None)
either P true s h n = h
either P false s h n = n

-- ---- lines of heads
ring_head : (ws : List Bytes) → IsOfHead (ring_line ws)
ring_head [] = tt
ring_head (p ∷ []) = tt
ring_head (p ∷ m ∷ ms) = either IsOfHead (is_number p && list_all is_name (m ∷ ms)) (RingLine (value p) (m ∷ ms)) tt tt

mapped_order : (o : Option Order) → IsOfHead (option_map OrderLine o)
mapped_order None = tt
mapped_order (Some o) = tt

order_head : (w : Option Bytes) → IsOfHead (order_line w)
order_head None = tt
order_head (Some w) = mapped_order (order_of w)

named_head : (n : Option Bytes) (text : Bytes) → IsOfHead (named_ideal n text)
named_head None text = tt
named_head (Some n) text = either IsOfHead (is_name n && are_polynomials text) (IdealLine n (parts Comma text)) tt tt

ideal_head : (f : Option (Bytes × Bytes)) → IsOfHead (ideal_line f)
ideal_head None = tt
ideal_head (Some f) = named_head (one_word f.0) f.1

by_head : (a b c : Bool) (k : Option Keyword) (rest : Bytes) → (a || (b || c)) ≡ true
    → IsOfHead (after_keyword (if a then Some RingWord else (if b then Some OrderWord else (if c then Some Ideal else k))) rest)
by_head true b c k rest h = ring_head (words rest)
by_head false true c k rest h = order_head (one_word rest)
by_head false false true k rest h = ideal_head (pair (parts Equals rest))
by_head false false false k rest h = absurd (let e : false ≡ true = h in cc)

words_head : (ws : List Bytes) (rest : Bytes) → begins_head ws ≡ true → IsOfHead (by_words ws rest)
words_head [] rest h = tt
words_head (w ∷ ws) rest h = by_head (same_bytes w (codes "ring")) (same_bytes w (codes "order")) (same_bytes w (codes "ideal")) _ rest h

-- a text that begins as a line of a head
pub of_head : (text : Bytes) → begins_head (words text) ≡ true → IsOfHead (statement_of text)
of_head text h = words_head (words text) (after_word text) h

-- ---- questions
module_off : (a : Asks) (f : Option (Bytes × Bytes)) → IsOffHead (module_line a f)
module_off a None = tt
module_off a (Some f) = either IsOffHead (is_number f.0 && is_name f.1) (ModuleLine a (value f.0) f.1) tt tt

class_parts_off : (f : Option (Bytes × Bytes × Bytes)) (g : Option (Bytes × Bytes)) → IsOffHead (class_parts f g)
class_parts_off None g = tt
class_parts_off (Some f) None = tt
class_parts_off (Some f) (Some g) =
    either IsOffHead (is_number f.0 && (is_name f.1 && (is_number f.2 && (are_entries g.0 && is_blank g.1)))) (ClassLine (value f.0) f.1 (value f.2) (entries_of g.0)) tt tt

class_off : (f : Option (Bytes × Bytes)) → IsOffHead (class_line f)
class_off None = tt
class_off (Some f) = class_parts_off (triple (words f.0)) (pair (parts Close f.1))

invert_off : (ws : List Bytes) (text : Bytes) → IsOffHead (invert_line ws text)
invert_off [] text = tt
invert_off (i ∷ []) text = tt
invert_off (i ∷ n ∷ ws) text = either IsOffHead (is_number i && (is_name n && is_polynomial text)) (InvertLine (value i) n text) tt tt

map_off : (f : Option (Bytes × Bytes × Bytes)) → IsOffHead (map_line f)
map_off None = tt
map_off (Some f) = either IsOffHead (is_number f.0 && (is_name f.1 && is_name f.2)) (MapLine (value f.0) f.1 f.2) tt tt

member_off : (ws : List Bytes) (text : Bytes) → IsOffHead (member_line ws text)
member_off [] text = tt
member_off (n ∷ ws) text = either IsOffHead (is_name n && is_polynomial text) (MemberLine n text) tt tt

choice : (t : Bool) (j k : Option Keyword) (rest : Bytes) → IsOffHead (after_keyword j rest) → IsOffHead (after_keyword k rest)
    → IsOffHead (after_keyword (if t then j else k) rest)
choice true j k rest h n = h
choice false j k rest h n = n

by_other : (a b c : Bool) (k : Option Keyword) (rest : Bytes) → (a || (b || c)) ≡ false → IsOffHead (after_keyword k rest)
    → IsOffHead (after_keyword (if a then Some RingWord else (if b then Some OrderWord else (if c then Some Ideal else k))) rest)
by_other true b c k rest e h = absurd (let x : true ≡ false = e in cc)
by_other false true c k rest e h = absurd (let x : true ≡ false = e in cc)
by_other false false true k rest e h = absurd (let x : true ≡ false = e in cc)
by_other false false false k rest e h = h

words_off : (ws : List Bytes) (rest : Bytes) → begins_head ws ≡ false → IsOffHead (by_words ws rest)
words_off [] rest e = tt
words_off (w ∷ ws) rest e =
    by_other (same_bytes w (codes "ring")) (same_bytes w (codes "order")) (same_bytes w (codes "ideal")) _ rest e
    (choice (same_bytes w (codes "zero")) _ _ rest (module_off _ (pair (words rest))) (choice (same_bytes w (codes "root")) _ _ rest (module_off _ (pair (words rest)))
    (choice (same_bytes w (codes "support")) _ _ rest (module_off _ (pair (words rest))) (choice (same_bytes w (codes "resolution")) _ _ rest (module_off _ (pair (words rest)))
    (choice (same_bytes w (codes "ext")) _ _ rest (module_off _ (pair (words rest))) (choice (same_bytes w (codes "class")) _ _ rest (class_off (pair (parts Open rest)))
    (choice (same_bytes w (codes "invert")) _ _ rest (invert_off (words rest) (after_word (after_word rest))) (choice (same_bytes w (codes "map")) _ _ rest (map_off (triple (words rest)))
    (choice (same_bytes w (codes "member")) (Some Member) None rest (member_off (words rest) (after_word rest)) tt)))))))))

-- and one that doesn't
pub off_head : (text : Bytes) → begins_head (words text) ≡ false → IsOffHead (statement_of text)
off_head text e = words_off (words text) (after_word text) e

-- ---- the lines that a text can be
abbrev pub IsNoHead : Option Line → Type 0
IsNoHead (Some (Head statement)) = ⊥
IsNoHead line = Unit {0}

abbrev IsNoQuestion : Option Line → Type 0
IsNoQuestion (Some (Question k statement)) = ⊥
IsNoQuestion line = Unit {0}

no_head : (k : Option ℕ) (o : Option Statement) → IsNoHead (k >>= λ n. option_map (Question n) o)
no_head None o = tt
no_head (Some n) None = tt
no_head (Some n) (Some statement) = tt

module _ (r : Ring) (names : List Bytes) (asked : Option Query) where
  no_head_row : (kind : Option Kind) (ws : List Bytes) → IsNoHead (kind >>= λ k. option_map (Row k) (read_row r names (row k) ws))
  no_head_row None ws = tt
  no_head_row (Some k) ws = of_values k (read_row r names (row k) ws) where
    of_values : (k : Kind) (o : Option (Values (row k))) → IsNoHead (option_map (Row k) o)
    of_values k None = tt
    of_values k (Some v) = tt

  no_head_words : (ws : Option (List Bytes)) → IsNoHead (ws >>= row_of r names asked)
  no_head_words None = tt
  no_head_words (Some ws) = no_head_row (kind_of asked ws) ws

  pub head_line : (text : Bytes) → begins_head (words text) ≡ true → line_of r names asked text ≡ option_map Head (statement_of text)
  unfolding line_of
  head_line text h =
      ap (λ (t : Bool). if t then option_map Head (statement_of text)
      else (if same_bytes (before_mark Blank text) (codes "query") then question_of (after_mark Blank text) else (exact_words text >>= row_of r names asked))) h

  pub other_line : (text : Bytes) → begins_head (words text) ≡ false → IsNoHead (line_of r names asked text)
  unfolding line_of
  other_line text e = by (begins_head (words text)) e (same_bytes (before_mark Blank text) (codes "query")) where
    by : (b : Bool) → b ≡ false → (t : Bool) → IsNoHead (if b then option_map Head (statement_of text)
        else (if t then question_of (after_mark Blank text) else (exact_words text >>= row_of r names asked)))
    by true e t = absurd (let x : true ≡ false = e in cc)
    by false e true = no_head (exact_number (before_mark Blank (after_mark Blank text))) (statement_of (after_mark Blank (after_mark Blank text)))
    by false e false = no_head_words (exact_words text)

  -- a line of a head begins with its word
  pub head_begins : (text : Bytes) (statement : Statement) → line_of r names asked text ≡ Some (Head statement) → begins_head (words text) ≡ true
  head_begins text statement e = by (begins_head (words text)) refl where
    by : (b : Bool) → begins_head (words text) ≡ b → b ≡ true
    by true h = refl
    by false h = absurd (subst IsNoHead e (other_line text h))

  -- and a statement that it says is one of a head
  pub head_said : (text said : Bytes) → option_map Head (statement_of said) ≡ line_of r names asked text → IsOfHead (statement_of said)
  head_said text said e = by (statement_of said) e where
    by : (o : Option Statement) → option_map Head o ≡ line_of r names asked text → IsOfHead o
    by None e = tt
    by (Some statement) e =
        let begins = head_begins text statement (sym e) in
        let m = mapped Head (statement_of text) (Head statement) (sym (head_line text begins) ∙ sym e) in
        subst (λ x. IsOfHead (Some x)) (same m.2) (subst IsOfHead m.1 (of_head text begins))
      where
        same : {x y : Statement} → Head x ≡ Head y → x ≡ y
        same e = cc

  -- a question begins with the word `query`
  pub question_begins : (text : Bytes) (k : ℕ) (statement : Statement) → line_of r names asked text ≡ Some (Question k statement)
      → same_bytes (before_mark Blank text) (codes "query") ≡ true
  unfolding line_of
  question_begins text k statement e = by (begins_head (words text)) (same_bytes (before_mark Blank text) (codes "query")) e where
    head_is_none : (o : Option Statement) → IsNoQuestion (option_map Head o)
    head_is_none None = tt
    head_is_none (Some statement) = tt

    row_is_none : (kind : Option Kind) (ws : List Bytes) → IsNoQuestion (kind >>= λ k. option_map (Row k) (read_row r names (row k) ws))
    row_is_none None ws = tt
    row_is_none (Some k) ws = of_values k (read_row r names (row k) ws) where
      of_values : (k : Kind) (o : Option (Values (row k))) → IsNoQuestion (option_map (Row k) o)
      of_values k None = tt
      of_values k (Some v) = tt

    words_are_none : (ws : Option (List Bytes)) → IsNoQuestion (ws >>= row_of r names asked)
    words_are_none None = tt
    words_are_none (Some ws) = row_is_none (kind_of asked ws) ws

    by : (b t : Bool) → (if b then option_map Head (statement_of text)
        else (if t then question_of (after_mark Blank text) else (exact_words text >>= row_of r names asked))) ≡ Some (Question k statement) → t ≡ true
    by true t e = absurd (subst IsNoQuestion e (head_is_none (statement_of text)))
    by false true e = refl
    by false false e = absurd (subst IsNoQuestion e (words_are_none (exact_words text)))

-- ---- lines that are read behind a head
pub line_there : (q : Problem) (s : State) (names : List Bytes) (asked : Option Query) (text : Bytes) → s.sheet.head ≡ Some q → names ≡ q.vars → s.sheet.asked ≡ asked
    → line_of q.ring names asked text ≡ line_in s.sheet text
unfolding line_in
line_there q s names asked text head same at_hand =
    sym (ap (λ h. line_of (ring_in h) (names_in h) s.sheet.asked text) head ∙ ap₂ (λ ns a. line_of q.ring ns a text) (sym same) at_hand)

pub heads_read : {F : Type 0} (r : Ring) (names : List Bytes) (asked : Option Query) (text : Bytes) (result : Result (Option LineText) F)
    → IfOk result (λ o. line_said o ≡ line_of r names asked text) → IfOk result IsOfHeadIf
heads_read r names asked text (Ok None) e = tt
heads_read r names asked text (Ok (Some (texts.Head said))) e = head_said r names asked text said.now e
heads_read r names asked text (Ok (Some (texts.Question k question))) e = tt
heads_read r names asked text (Ok (Some (texts.Row row))) e = tt
heads_read r names asked text (Err f) e = tt

-- ---- what can't be read of them has no form, whatever exponents are left out
unread_of_head : (s : State) (o : Option Statement) → unread s (option_map Head o) ≡ Form
unread_of_head s None = refl
unread_of_head s (Some statement) = refl

unread_of_question : (s : State) (k : Option ℕ) (o : Option Statement) → unread s (k >>= λ n. option_map (Question n) o) ≡ Form
unread_of_question s None o = refl
unread_of_question s (Some n) None = refl
unread_of_question s (Some n) (Some statement) = refl

pub unread_head : (s : State) (text : Bytes) → begins_head (words text) ≡ true → unread s (line_in s.sheet (without_exponents text)) ≡ Form
unfolding line_in
unread_head s text h =
    ap (unread s) (head_line (ring_in s.sheet.head) (names_in s.sheet.head) s.sheet.asked (without_exponents text) (head_kept text h))
    ∙ unread_of_head s (statement_of (without_exponents text))

pub unread_question : (s : State) (text : Bytes) → same_bytes (before_mark Blank text) (codes "query") ≡ true
    → unread s (line_in s.sheet (without_exponents text)) ≡ Form
unfolding line_in line_of
unread_question s text h = by (without_exponents text) (begins_head (words (without_exponents text))) (query_kept text h) where
  by : (capped : Bytes) (b : Bool) → same_bytes (before_mark Blank capped) (codes "query") ≡ true
      → unread s (if b then option_map Head (statement_of capped)
      else (if same_bytes (before_mark Blank capped) (codes "query") then question_of (after_mark Blank capped)
      else (exact_words capped >>= row_of (ring_in s.sheet.head) (names_in s.sheet.head) s.sheet.asked))) ≡ Form
  by capped true k = unread_of_head s (statement_of capped)
  by capped false k =
      ap (λ (t : Bool). unread s (if t then question_of (after_mark Blank capped)
      else (exact_words capped >>= row_of (ring_in s.sheet.head) (names_in s.sheet.head) s.sheet.asked))) k
      ∙ unread_of_question s (exact_number (before_mark Blank (after_mark Blank capped))) (statement_of (after_mark Blank (after_mark Blank capped)))
