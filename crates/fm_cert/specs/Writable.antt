-- Which lines can be written: those whose words are words, whose numbers are below 2^64, and whose polynomials are of the ring.
use Rattle.std.specs.Prelude.{◌≡◌, ◌≤◌, ◌<◌, ◌^◌, ℕ, Bool, true, false, ◌&&◌, ◌||◌, not, List, [], ◌∷◌, length, Option, Some, None, option_map}
use Rattle.std.specs.List.{list_all}
use Rattle.fm_poly.specs.Polys.{PolyValue, IsCanonical, pairs}
use Rattle.fm_poly.specs.Bounds.{AreWithinBound}
use Rattle.fm_poly.specs.declared.ring.Ring.{Ring}
use Rattle.fm_words.specs.declared.mark.Mark.TheVariants.{Blank, Feed, Comma, Equals, Open, Close}
use Rattle.fm_words.specs.Parts.{Bytes, is_mark}
use Rattle.fm_words.specs.Words.{is_name}
use Rattle.fm_text.specs.Factors.{is_polynomial}
use Rattle.fm_problem.specs.Statements.{Statement, RingLine, OrderLine, IdealLine, ModuleLine, ClassLine, InvertLine, MapLine, MemberLine}
use Rattle.fm_cert.specs.Lines.{Line, Head, Question, Row}
use Rattle.fm_problem.specs.declared.query.Query.{Query}
use Rattle.fm_cert.specs.Kinds.{Zero, Class, Invert, Support, Root, Ranks, ExtOf, Map, Member, Budget, Exponents, WrongLength, NotCocycle, NotContained, Kind, Ended, row, answer_kind}
use Rattle.fm_cert.specs.Fields.{Field, number, times, name, yes_no, yes_with, keep_or_zero, by_numbers, numbers, free_words, generators, columns, Value, Item, word, field, Values}

-- no blank and no LF
abbrev pub is_inner : ℕ → Bool
is_inner b = not (is_mark Blank b || is_mark Feed b)

-- a text that isn't empty, without blanks and without LF
abbrev pub is_word : Bytes → Bool
is_word [] = false
is_word (b ∷ bs) = list_all is_inner (b ∷ bs)

abbrev pub AreSmall : List ℕ → Type 0
AreSmall [] = Unit {0}
AreSmall (n ∷ ns) = (n < 2 ^ 64) × AreSmall ns

module _ (r : Ring) where
  -- a polynomial of the ring within the bound on exponents
  pub record IsWritablePolynomial (f : PolyValue) : Type 0 where
    pub of_ring : f.ring ≡ r
    pub canonical : IsCanonical r f.terms
    pub within : AreWithinBound (pairs f.terms)

  abbrev pub AreWritablePolynomials : List PolyValue → Type 0
  AreWritablePolynomials [] = Unit {0}
  AreWritablePolynomials (f ∷ fs) = IsWritablePolynomial f × AreWritablePolynomials fs

  abbrev pub AreWritableVectors : List (List PolyValue) → Type 0
  AreWritableVectors [] = Unit {0}
  AreWritableVectors (v ∷ vs) = AreWritablePolynomials v × AreWritableVectors vs

  abbrev pub AreNotZero : List PolyValue → Type 0
  AreNotZero [] = Unit {0}
  AreNotZero (f ∷ fs) = (0 < length f.terms) × AreNotZero fs

  abbrev pub IsWritableNumber : Option ℕ → Type 0
  IsWritableNumber None = Unit {0}
  IsWritableNumber (Some n) = n < 2 ^ 64

  -- what can be said in a field
  abbrev pub IsWritableValue : (f : Field) → Value f → Type 0
  IsWritableValue number n = n < 2 ^ 64
  IsWritableValue times n = n ≤ 16
  IsWritableValue name m = is_name m ≡ true
  IsWritableValue yes_no b = Unit {0}
  IsWritableValue (yes_with w) o = IsWritableNumber o
  IsWritableValue keep_or_zero b = Unit {0}
  IsWritableValue by_numbers ks = AreSmall ks
  IsWritableValue numbers ks = (0 < length ks) × AreSmall ks
  IsWritableValue free_words ws = (0 < length ws) × (list_all is_word ws ≡ true)
  IsWritableValue generators fs = AreWritablePolynomials fs × AreNotZero fs
  IsWritableValue columns vs = (length vs < 2 ^ 64) × AreWritableVectors vs

  -- what can be said in a row
  abbrev pub AreWritableValues : (items : List Item) → Values items → Type 0
  AreWritableValues [] vs = Unit {0}
  AreWritableValues (word w ∷ items) vs = AreWritableValues items vs
  AreWritableValues (field f ∷ items) vs = IsWritableValue f vs.0 × AreWritableValues items vs.1

-- the text of a polynomial, of any form: it holds none of the signs by which lines are cut
abbrev pub is_poly_byte : ℕ → Bool
is_poly_byte b = not (is_mark Comma b || (is_mark Equals b || (is_mark Open b || (is_mark Close b || is_mark Feed b))))

abbrev pub is_spelled : Bytes → Bool
is_spelled text = is_polynomial text && list_all is_poly_byte text

-- a line of a problem text that can be written: with names, numbers, and texts of polynomials, which have no blanks but in ideals
abbrev pub IsWritableStatement : Statement → Type 0
IsWritableStatement (RingLine p names) = (p < 2 ^ 64) × (0 < length names) × (list_all is_name names ≡ true)
IsWritableStatement (OrderLine o) = Unit {0}
IsWritableStatement (IdealLine m texts) = (is_name m ≡ true) × (0 < length texts) × (list_all is_spelled texts ≡ true)
IsWritableStatement (ModuleLine a i m) = (i < 2 ^ 64) × (is_name m ≡ true)
IsWritableStatement (ClassLine i m e texts) =
    (i < 2 ^ 64) × (is_name m ≡ true) × (e < 2 ^ 64) × (list_all is_spelled texts ≡ true) × (list_all is_word texts ≡ true)
IsWritableStatement (InvertLine i m text) = (i < 2 ^ 64) × (is_name m ≡ true) × (is_spelled text ≡ true) × (is_word text ≡ true)
IsWritableStatement (MapLine i source target) = (i < 2 ^ 64) × (is_name source ≡ true) × (is_name target ≡ true)
IsWritableStatement (MemberLine m text) = (is_name m ≡ true) × (is_spelled text ≡ true) × (is_word text ≡ true)

-- a line of a head
abbrev pub IsHead : Statement → Type 0
IsHead (RingLine p names) = Unit {0}
IsHead (OrderLine o) = Unit {0}
IsHead (IdealLine m texts) = Unit {0}
IsHead s = ⊥

-- an answer is one to the query that was asked
abbrev pub AnswersQuery : Option Query → Kind → Type 0
AnswersQuery asked (Ended Zero) = option_map answer_kind asked ≡ Some Zero
AnswersQuery asked (Ended Class) = option_map answer_kind asked ≡ Some Class
AnswersQuery asked (Ended Invert) = option_map answer_kind asked ≡ Some Invert
AnswersQuery asked (Ended Support) = option_map answer_kind asked ≡ Some Support
AnswersQuery asked (Ended Root) = option_map answer_kind asked ≡ Some Root
AnswersQuery asked (Ended Ranks) = option_map answer_kind asked ≡ Some Ranks
AnswersQuery asked (Ended ExtOf) = option_map answer_kind asked ≡ Some ExtOf
AnswersQuery asked (Ended Map) = option_map answer_kind asked ≡ Some Map
AnswersQuery asked (Ended Member) = option_map answer_kind asked ≡ Some Member
AnswersQuery asked (Ended Budget) = Unit {0}
AnswersQuery asked (Ended Exponents) = Unit {0}
AnswersQuery asked (Ended WrongLength) = Unit {0}
AnswersQuery asked (Ended NotCocycle) = Unit {0}
AnswersQuery asked (Ended NotContained) = Unit {0}
AnswersQuery asked kind = Unit {0}

-- a line that can be written over a ring, under the query that was asked last
abbrev pub IsWritableLine : Ring → Option Query → Line → Type 0
IsWritableLine r asked (Head s) = IsHead s × IsWritableStatement s
IsWritableLine r asked (Question k s) = (k < 2 ^ 64) × IsWritableStatement s
IsWritableLine r asked (Row kind values) = AnswersQuery asked kind × AreWritableValues r (row kind) values
