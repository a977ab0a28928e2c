-- The fields of lines: what stands between the blanks of a line, how it is printed and how it is read.
use Rattle.std.specs.Prelude.{ℕ, ◌^◌, Bool, true, false, ◌&&◌, if◌then◌else◌, nat_eq, nat_le, nat_lt, List, [], ◌∷◌, ◌++◌, map, length, codes, decimal, Option, Some, None, option_map, Result, Ok, Err}
use Rattle.fm_poly.specs.Polys.{PolyValue, pairs}
use Rattle.fm_text.specs.Texts.{poly_text, vector_text}
use Rattle.fm_words.specs.Options.{◌>>=◌, where_so, all_of}
use Rattle.fm_poly.specs.declared.ring.Ring.{Ring}
use Rattle.fm_words.specs.declared.mark.Mark.TheVariants.{Comma, Close}
use Rattle.fm_words.specs.Parts.{Bytes, parts}
use Rattle.fm_words.specs.Words.{is_number, is_exact, is_name, same_bytes, value}
use Rattle.fm_text.specs.Certificates.{certificate_polynomial}

-- the kinds of fields
pub data Field : Type 0 where
  -- a number below 2^64, without leading zeros
  number : Field
  -- how often a twist is done: a number up to 16
  times : Field
  name : Field
  -- `yes` or `no`
  yes_no : Field
  -- `no`, or `yes WORD N`
  yes_with : Bytes → Field
  -- `keep` or `zero`
  keep_or_zero : Field
  -- nothing, or `by` and one or more numbers
  by_numbers : Field
  -- one or more numbers, to the end of the line
  numbers : Field
  -- one or more words, to the end of the line
  free_words : Field
  -- polynomials joined by `, `, or `0`, to the end of the line
  generators : Field
  -- how many vectors there are, and these vectors, to the end of the line
  columns : Field

-- what is said in a field
abbrev pub Value : Field → Type 0
Value number = ℕ
Value times = ℕ
Value name = Bytes
Value yes_no = Bool
Value (yes_with w) = Option ℕ
Value keep_or_zero = Bool
Value by_numbers = List ℕ
Value numbers = List ℕ
Value free_words = List Bytes
Value generators = List PolyValue
Value columns = List (List PolyValue)

-- ---- printing

abbrev pub yes_word : Bool → Bytes
yes_word true = codes "yes"
yes_word false = codes "no"

abbrev pub yes_with_words : Bytes → Option ℕ → List Bytes
yes_with_words w None = codes "no" ∷ []
yes_with_words w (Some n) = codes "yes" ∷ w ∷ decimal n ∷ []

abbrev pub keep_word : Bool → Bytes
keep_word true = codes "keep"
keep_word false = codes "zero"

abbrev pub by_words : List ℕ → List Bytes
by_words [] = []
by_words (k ∷ ks) = codes "by" ∷ map decimal (k ∷ ks)

-- texts, each but the last with a comma at its end; `0` where there are none
abbrev pub comma_words : List Bytes → List Bytes
comma_words [] = codes "0" ∷ []
comma_words (w ∷ []) = w ∷ []
comma_words (w ∷ v ∷ ws) = (w ++ 44 ∷ []) ∷ comma_words (v ∷ ws)

module _ (names : List Bytes) where
  abbrev pub polynomial_word : PolyValue → Bytes
  polynomial_word f = poly_text names (pairs f.terms)

  abbrev pub vector_word : List PolyValue → Bytes
  vector_word fs = vector_text names (map (λ f. pairs f.terms) fs)

  -- the words of a field
  abbrev pub printed : (f : Field) → Value f → List Bytes
  printed number n = decimal n ∷ []
  printed times n = decimal n ∷ []
  printed name m = m ∷ []
  printed yes_no b = yes_word b ∷ []
  printed (yes_with w) o = yes_with_words w o
  printed keep_or_zero b = keep_word b ∷ []
  printed by_numbers ks = by_words ks
  printed numbers ks = map decimal ks
  printed free_words ws = ws
  printed generators fs = comma_words (map polynomial_word fs)
  printed columns vs = decimal (length vs) ∷ map vector_word vs

-- ---- reading: what a field says, and the words after it

-- decimal digits without leading zeros, of a number below 2^64
unfoldable pub exact_number : Bytes → Option ℕ
exact_number w = where_so (is_number w && (is_exact w && nat_lt (value w) (2 ^ 64))) (Some (value w))

abbrev pub exact_numbers : List Bytes → Option (List ℕ)
exact_numbers ws = all_of (map exact_number ws)

abbrev pub some_numbers : List Bytes → Option (List ℕ)
some_numbers [] = None
some_numbers (w ∷ ws) = exact_numbers (w ∷ ws)

abbrev pub up_to : ℕ → Option ℕ → Option ℕ
up_to bound o = o >>= λ n. where_so (nat_le n bound) (Some n)

abbrev pub yes_or_no : Bytes → Option Bool
yes_or_no w = if same_bytes w (codes "yes") then Some true else where_so (same_bytes w (codes "no")) (Some false)

abbrev pub keep_or_zero_of : Bytes → Option Bool
keep_or_zero_of w = if same_bytes w (codes "keep") then Some true else where_so (same_bytes w (codes "zero")) (Some false)

-- the first word, read so
abbrev pub first_word : {A : Type 0} → (Bytes → Option A) → List Bytes → Option (A × List Bytes)
first_word read [] = None
first_word read (w ∷ ws) = option_map (λ x. (x, ws)) (read w)

-- all words
abbrev pub all_words : {A : Type 0} → Option A → Option (A × List Bytes)
all_words o = option_map (λ x. (x, [])) o

-- `WORD N` after `yes`
abbrev pub number_with : Bytes → List Bytes → Option (Option ℕ × List Bytes)
number_with w [] = None
number_with w (v ∷ []) = None
number_with w (v ∷ n ∷ ws) = where_so (same_bytes v w) (option_map (λ k. (Some k, ws)) (exact_number n))

abbrev pub read_yes_with : Bytes → List Bytes → Option (Option ℕ × List Bytes)
read_yes_with w [] = None
read_yes_with w (v ∷ ws) = if same_bytes v (codes "no") then Some (None, ws) else where_so (same_bytes v (codes "yes")) (number_with w ws)

-- the numbers that stand first, and the words after them
abbrev pub before_number : Option ℕ → Bytes → List Bytes → List ℕ × List Bytes → List ℕ × List Bytes
before_number None w ws rest = ([], w ∷ ws)
before_number (Some k) w ws rest = (k ∷ rest.0, rest.1)

abbrev pub leading_numbers : List Bytes → List ℕ × List Bytes
leading_numbers [] = ([], [])
leading_numbers (w ∷ ws) = before_number (exact_number w) w ws (leading_numbers ws)

abbrev pub some_leading : List ℕ × List Bytes → Option (List ℕ × List Bytes)
some_leading ([], ws) = None
some_leading (k ∷ ks, ws) = Some (k ∷ ks, ws)

abbrev pub read_by : List Bytes → Option (List ℕ × List Bytes)
read_by [] = Some ([], [])
read_by (w ∷ ws) = if same_bytes w (codes "by") then some_leading (leading_numbers ws) else Some ([], w ∷ ws)

abbrev pub some_words : List Bytes → Option (List Bytes)
some_words [] = None
some_words (w ∷ ws) = Some (w ∷ ws)

abbrev pub polynomial_or_none : Result PolyValue Rattle.fm_text.specs.declared.poly_fault.PolyFault.PolyFault → Option PolyValue
polynomial_or_none (Ok f) = Some f
polynomial_or_none (Err e) = None

-- a word before its comma
abbrev pub without_comma : List Bytes → Option Bytes
without_comma [] = None
without_comma (w ∷ []) = None
without_comma (w ∷ [] ∷ []) = Some w
without_comma (w ∷ (b ∷ bs) ∷ []) = None
without_comma (w ∷ v ∷ u ∷ ws) = None

-- zeros are left out
abbrev pub unless_zero : PolyValue → List Rattle.fm_poly.specs.declared.term.Term.Term → List PolyValue → List PolyValue
unless_zero f [] fs = fs
unless_zero f (t ∷ ts) fs = f ∷ fs

abbrev pub nonzero : List PolyValue → List PolyValue
nonzero [] = []
nonzero (f ∷ fs) = unless_zero f f.terms (nonzero fs)

module _ (r : Ring) (names : List Bytes) where
  -- in any form without blanks
  unfoldable pub read_polynomial : Bytes → Option PolyValue
  read_polynomial text = polynomial_or_none (certificate_polynomial r names text)

  abbrev pub generators_of : List Bytes → Option (List PolyValue)
  generators_of [] = None
  generators_of (w ∷ []) = option_map (λ f. f ∷ []) (read_polynomial w)
  generators_of (w ∷ v ∷ ws) =
      without_comma (parts Comma w) >>= λ u. read_polynomial u >>= λ f. option_map (λ fs. f ∷ fs) (generators_of (v ∷ ws))

  abbrev pub entries_of : Bytes → Option (List PolyValue)
  entries_of [] = Some []
  entries_of (b ∷ bs) = all_of (map read_polynomial (parts Comma (b ∷ bs)))

  abbrev pub closed_entries : List Bytes → Option (List PolyValue)
  closed_entries [] = None
  closed_entries (inner ∷ []) = None
  closed_entries (inner ∷ [] ∷ []) = entries_of inner
  closed_entries (inner ∷ (b ∷ bs) ∷ []) = None
  closed_entries (inner ∷ v ∷ u ∷ ws) = None

  -- `(`, the entries joined by `,`, and `)`
  unfoldable pub read_vector : Bytes → Option (List PolyValue)
  read_vector [] = None
  read_vector (b ∷ bs) = where_so (nat_eq b 40) (closed_entries (parts Close bs))

  -- as many vectors as are told
  abbrev pub counted_vectors : List Bytes → Option (List (List PolyValue))
  counted_vectors [] = None
  counted_vectors (c ∷ vs) = exact_number c >>= λ c. where_so (nat_eq c (length vs)) (all_of (map read_vector vs))

  -- what a field says that stands first in these words, and the words after it
  abbrev pub read : (f : Field) → List Bytes → Option (Value f × List Bytes)
  read number ws = first_word exact_number ws
  read times ws = first_word (λ w. up_to 16 (exact_number w)) ws
  read name ws = first_word (λ w. where_so (is_name w) (Some w)) ws
  read yes_no ws = first_word yes_or_no ws
  read (yes_with w) ws = read_yes_with w ws
  read keep_or_zero ws = first_word keep_or_zero_of ws
  read by_numbers ws = read_by ws
  read numbers ws = all_words (some_numbers ws)
  read free_words ws = all_words (some_words ws)
  read generators ws = all_words (option_map nonzero (generators_of ws))
  read columns ws = all_words (counted_vectors ws)

-- ---- rows of fields

-- what stands in a line: a word, or a field
pub data Item : Type 0 where
  word : Bytes → Item
  field : Field → Item

-- what is said in the fields of a row
abbrev pub Values : List Item → Type 0
Values [] = Unit {0}
Values (word w ∷ items) = Values items
Values (field f ∷ items) = Value f × Values items

abbrev pub printed_row : List Bytes → (items : List Item) → Values items → List Bytes
printed_row names [] vs = []
printed_row names (word w ∷ items) vs = w ∷ printed_row names items vs
printed_row names (field f ∷ items) vs = printed names f vs.0 ++ printed_row names items vs.1

module _ (r : Ring) (names : List Bytes) where
  -- what a row of fields says; the words end with the row
  abbrev pub read_row : (items : List Item) → List Bytes → Option (Values items)
  read_row [] [] = Some tt
  read_row [] (w ∷ ws) = None
  read_row (word w ∷ items) [] = None
  read_row (word w ∷ items) (v ∷ ws) = where_so (same_bytes v w) (read_row items ws)
  read_row (field f ∷ items) ws = read r names f ws >>= λ x. option_map (λ vs. (x.0, vs)) (read_row items x.1)
