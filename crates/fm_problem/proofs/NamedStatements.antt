-- The names in statements are names.
use Rattle.std.proofs.Common.{◌≡◌, ◌<◌, ℕ, Bool, true, false, ◌&&◌, if◌then◌else◌, List, [], ◌∷◌, length, Option, Some, None, option_map, refl, sym, subst, arith}
use Rattle.std.specs.List.{list_all}
use Rattle.fm_mono.specs.declared.order.Order.{Order}
use Rattle.fm_words.specs.declared.mark.Mark.TheVariants.{Comma, Equals, Open, Close}
use Rattle.fm_words.specs.Parts.{Bytes, parts, pair, triple}
use Rattle.fm_words.specs.Words.{words, after_word, is_number, is_name, is_blank, value}
use Rattle.fm_problem.specs.declared.keyword.Question.{Question}
use Rattle.fm_problem.specs.declared.keyword.Keyword.{Keyword}
use Rattle.fm_problem.specs.declared.keyword.Keyword.TheVariants.{Ring, Order as OrderWord, Ideal, Module, Class, Invert, Map, Member}
use Rattle.fm_text.specs.Factors.{one_word, is_polynomial, are_polynomials}
use Rattle.fm_problem.specs.Statements.{Statement, RingLine, OrderLine, IdealLine, ModuleLine, ClassLine, InvertLine, MapLine, MemberLine, ring_line, order_of, order_line, named_ideal, ideal_line, module_line, are_entries, entries_of, class_parts, class_line, invert_line, map_line, member_line, keyword_of, after_keyword, by_words, statement_of}
use Rattle.fm_problem.proofs.AsciiNames.{both}

-- a statement defines names that are names, and a ring line at least one
abbrev pub Named : Option Statement → Type 0
Named (Some (RingLine p names)) = (list_all is_name names ≡ true) × (0 < length names)
Named (Some (IdealLine n texts)) = is_name n ≡ true
Named s = Unit {0}

unless : (b : Bool) (s : Statement) → (b ≡ true → Named (Some s)) → Named (if b then Some s else None)
unless true s h = h refl
unless false s h = tt

ring_named : (ws : List Bytes) → Named (ring_line ws)
ring_named [] = tt
ring_named (p ∷ []) = tt
ring_named (p ∷ m ∷ ms) =
    unless (is_number p && list_all is_name (m ∷ ms)) (RingLine (value p) (m ∷ ms)) (λ h. ((both (is_number p) (list_all is_name (m ∷ ms)) h).1, omega arith))

order_named : (o : Option Order) → Named (option_map OrderLine o)
order_named None = tt
order_named (Some o) = tt

order_line_named : (w : Option Bytes) → Named (order_line w)
order_line_named None = tt
order_line_named (Some w) = order_named (order_of w)

ideal_named : (n : Option Bytes) (text : Bytes) → Named (named_ideal n text)
ideal_named None text = tt
ideal_named (Some n) text = unless (is_name n && are_polynomials text) (IdealLine n (parts Comma text)) (λ h. (both (is_name n) (are_polynomials text) h).0)

ideal_line_named : (f : Option (Bytes × Bytes)) → Named (ideal_line f)
ideal_line_named None = tt
ideal_line_named (Some f) = ideal_named (one_word f.0) f.1

module_named : (a : Question) (f : Option (Bytes × Bytes)) → Named (module_line a f)
module_named a None = tt
module_named a (Some f) = unless (is_number f.0 && is_name f.1) (ModuleLine a (value f.0) f.1) (λ h. tt)

class_parts_named : (f : Option (Bytes × Bytes × Bytes)) (g : Option (Bytes × Bytes)) → Named (class_parts f g)
class_parts_named None g = tt
class_parts_named (Some f) None = tt
class_parts_named (Some f) (Some g) =
    unless (is_number f.0 && (is_name f.1 && (is_number f.2 && (are_entries g.0 && is_blank g.1)))) (ClassLine (value f.0) f.1 (value f.2) (entries_of g.0)) (λ h. tt)

class_named : (f : Option (Bytes × Bytes)) → Named (class_line f)
class_named None = tt
class_named (Some f) = class_parts_named (triple (words f.0)) (pair (parts Close f.1))

invert_named : (ws : List Bytes) (text : Bytes) → Named (invert_line ws text)
invert_named [] text = tt
invert_named (i ∷ []) text = tt
invert_named (i ∷ n ∷ ws) text = unless (is_number i && (is_name n && is_polynomial text)) (InvertLine (value i) n text) (λ h. tt)

map_named : (f : Option (Bytes × Bytes × Bytes)) → Named (map_line f)
map_named None = tt
map_named (Some f) = unless (is_number f.0 && (is_name f.1 && is_name f.2)) (MapLine (value f.0) f.1 f.2) (λ h. tt)

member_named : (ws : List Bytes) (text : Bytes) → Named (member_line ws text)
member_named [] text = tt
member_named (n ∷ ws) text = unless (is_name n && is_polynomial text) (MemberLine n text) (λ h. tt)

keyword_named : (k : Option Keyword) (rest : Bytes) → Named (after_keyword k rest)
keyword_named None rest = tt
keyword_named (Some Ring) rest = ring_named (words rest)
keyword_named (Some OrderWord) rest = order_line_named (one_word rest)
keyword_named (Some Ideal) rest = ideal_line_named (pair (parts Equals rest))
keyword_named (Some (Module a)) rest = module_named a (pair (words rest))
keyword_named (Some Class) rest = class_named (pair (parts Open rest))
keyword_named (Some Invert) rest = invert_named (words rest) (after_word (after_word rest))
keyword_named (Some Map) rest = map_named (triple (words rest))
keyword_named (Some Member) rest = member_named (words rest) (after_word rest)

words_named : (ws : List Bytes) (rest : Bytes) → Named (by_words ws rest)
words_named [] rest = tt
words_named (w ∷ ws) rest = keyword_named (keyword_of w) rest

pub statement_named : (line : Bytes) → Named (statement_of line)
statement_named line = words_named (words line) (after_word line)

pub ideal_line_name : (line n : Bytes) (texts : List Bytes) → Some (IdealLine n texts) ≡ statement_of line → is_name n ≡ true
ideal_line_name line n texts e = subst Named (sym e) (statement_named line)

pub ring_line_names : (line : Bytes) (p : ℕ) (names : List Bytes) → Some (RingLine p names) ≡ statement_of line → (list_all is_name names ≡ true) × (0 < length names)
ring_line_names line p names e = subst Named (sym e) (statement_named line)
