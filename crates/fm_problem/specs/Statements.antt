-- The form of lines: which words and signs make which line.
use Rattle.std.specs.Prelude.{ℕ, Bool, ◌&&◌, ◌||◌, if◌then◌else◌, List, [], ◌∷◌, codes, Option, Some, None, option_map}
use Rattle.std.specs.List.{list_all}
use Rattle.fm_mono.specs.declared.order.Order.{Order}
use Rattle.fm_mono.specs.declared.order.Order.TheVariants.{Grevlex, Deglex, Lex}
use Rattle.fm_words.specs.declared.mark.Mark.TheVariants.{Comma, Equals, Open, Close}
use Rattle.fm_words.specs.Parts.{Bytes, parts, pair, triple}
use Rattle.fm_words.specs.Words.{words, after_word, is_blank, is_number, is_name, value, same_bytes}
use Rattle.fm_problem.specs.declared.keyword.Question.{Question}
use Rattle.fm_problem.specs.declared.keyword.Question.TheVariants.{Zero, Root, Support, Resolution, Ext}
use Rattle.fm_problem.specs.declared.keyword.Keyword.{Keyword}
use Rattle.fm_problem.specs.declared.keyword.Keyword.TheVariants.{Ring, Order as OrderWord, Ideal, Module, Class, Invert, Map, Member}
use Rattle.fm_text.specs.Factors.{one_word, is_polynomial, are_polynomials}

-- what a line of each form says; the texts of polynomials have been tested for their form alone
pub data Statement : Type 0 where
  -- the characteristic and the names of the variables
  RingLine : ℕ → List Bytes → Statement
  OrderLine : Order → Statement
  -- the name and the generators
  IdealLine : Bytes → List Bytes → Statement
  -- the degree and the ideal
  ModuleLine : Question → ℕ → Bytes → Statement
  -- the degree, the ideal, the stage and the entries of the vector
  ClassLine : ℕ → Bytes → ℕ → List Bytes → Statement
  -- the degree, the ideal and the polynomial
  InvertLine : ℕ → Bytes → Bytes → Statement
  -- the degree, the source and the target
  MapLine : ℕ → Bytes → Bytes → Statement
  -- the ideal and the polynomial
  MemberLine : Bytes → Bytes → Statement

-- the words of queries that name more than a degree and an ideal
abbrev pub query_keyword_of : Bytes → Option Keyword
query_keyword_of w =
    if same_bytes w (codes "class") then Some Class
    else (if same_bytes w (codes "invert") then Some Invert
    else (if same_bytes w (codes "map") then Some Map
    else (if same_bytes w (codes "member") then Some Member else None)))

abbrev pub keyword_of : Bytes → Option Keyword
keyword_of w =
    if same_bytes w (codes "ring") then Some Ring
    else (if same_bytes w (codes "order") then Some OrderWord
    else (if same_bytes w (codes "ideal") then Some Ideal
    else (if same_bytes w (codes "zero") then Some (Module Zero)
    else (if same_bytes w (codes "root") then Some (Module Root)
    else (if same_bytes w (codes "support") then Some (Module Support)
    else (if same_bytes w (codes "resolution") then Some (Module Resolution)
    else (if same_bytes w (codes "ext") then Some (Module Ext) else query_keyword_of w)))))))

-- `ring P NAME ..`
abbrev pub ring_line : List Bytes → Option Statement
ring_line [] = None
ring_line (p ∷ []) = None
ring_line (p ∷ m ∷ ms) = if is_number p && list_all is_name (m ∷ ms) then Some (RingLine (value p) (m ∷ ms)) else None

abbrev pub order_of : Bytes → Option Order
order_of w =
    if same_bytes w (codes "grevlex") then Some Grevlex
    else (if same_bytes w (codes "deglex") then Some Deglex
    else (if same_bytes w (codes "lex") then Some Lex else None))

-- `order ORDER`
abbrev pub order_line : Option Bytes → Option Statement
order_line None = None
order_line (Some w) = option_map OrderLine (order_of w)

abbrev pub named_ideal : Option Bytes → Bytes → Option Statement
named_ideal None text = None
named_ideal (Some n) text = if is_name n && are_polynomials text then Some (IdealLine n (parts Comma text)) else None

-- `ideal NAME = POLY, POLY, ..`
abbrev pub ideal_line : Option (Bytes × Bytes) → Option Statement
ideal_line None = None
ideal_line (Some f) = named_ideal (one_word f.0) f.1

-- `zero DEGREE NAME`, and so on
abbrev pub module_line : Question → Option (Bytes × Bytes) → Option Statement
module_line a None = None
module_line a (Some f) = if is_number f.0 && is_name f.1 then Some (ModuleLine a (value f.0) f.1) else None

-- the entries of a vector, of whose text blanks alone mean that there are none
abbrev pub entries_of : Bytes → List Bytes
entries_of text = if is_blank text then [] else parts Comma text

abbrev pub are_entries : Bytes → Bool
are_entries text = is_blank text || are_polynomials text

abbrev pub class_parts : Option (Bytes × Bytes × Bytes) → Option (Bytes × Bytes) → Option Statement
class_parts None g = None
class_parts (Some f) None = None
class_parts (Some f) (Some g) =
    if is_number f.0 && (is_name f.1 && (is_number f.2 && (are_entries g.0 && is_blank g.1)))
    then Some (ClassLine (value f.0) f.1 (value f.2) (entries_of g.0)) else None

-- `class DEGREE NAME STAGE ( POLY, .. )`, cut at the `(`
abbrev pub class_line : Option (Bytes × Bytes) → Option Statement
class_line None = None
class_line (Some f) = class_parts (triple (words f.0)) (pair (parts Close f.1))

-- `invert DEGREE NAME POLY`, with the text after the name
abbrev pub invert_line : List Bytes → Bytes → Option Statement
invert_line [] text = None
invert_line (i ∷ []) text = None
invert_line (i ∷ n ∷ ws) text = if is_number i && (is_name n && is_polynomial text) then Some (InvertLine (value i) n text) else None

-- `map DEGREE SOURCE TARGET`
abbrev pub map_line : Option (Bytes × Bytes × Bytes) → Option Statement
map_line None = None
map_line (Some f) = if is_number f.0 && (is_name f.1 && is_name f.2) then Some (MapLine (value f.0) f.1 f.2) else None

-- `member NAME POLY`, with the text after the name
abbrev pub member_line : List Bytes → Bytes → Option Statement
member_line [] text = None
member_line (n ∷ ws) text = if is_name n && is_polynomial text then Some (MemberLine n text) else None

-- what stands after the keyword
abbrev pub after_keyword : Option Keyword → Bytes → Option Statement
after_keyword None rest = None
after_keyword (Some Ring) rest = ring_line (words rest)
after_keyword (Some OrderWord) rest = order_line (one_word rest)
after_keyword (Some Ideal) rest = ideal_line (pair (parts Equals rest))
after_keyword (Some (Module a)) rest = module_line a (pair (words rest))
after_keyword (Some Class) rest = class_line (pair (parts Open rest))
after_keyword (Some Invert) rest = invert_line (words rest) (after_word (after_word rest))
after_keyword (Some Map) rest = map_line (triple (words rest))
after_keyword (Some Member) rest = member_line (words rest) (after_word rest)

abbrev pub by_words : List Bytes → Bytes → Option Statement
by_words [] rest = None
by_words (w ∷ ws) rest = after_keyword (keyword_of w) rest

-- what a line says, by its form; None where it has no form
abbrev pub statement_of : Bytes → Option Statement
statement_of line = by_words (words line) (after_word line)
