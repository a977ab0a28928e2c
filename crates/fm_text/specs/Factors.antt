-- The form of polynomials: signs cut a text into terms, and stars cut a term into factors.
use Rattle.std.specs.Prelude.{ℕ, Bool, ◌&&◌, if◌then◌else◌, nat_eq, List, [], ◌∷◌, map, Option, Some, None, is_some}
use Rattle.std.specs.List.{list_all}
use Rattle.fm_words.specs.declared.mark.Mark.TheVariants.{Blank, Comma, Star, Caret}
use Rattle.fm_words.specs.Parts.{Bytes, is_mark, parts, only}
use Rattle.fm_words.specs.Words.{words, is_number, is_name, value}
use Rattle.fm_text.specs.declared.sign.Sign.{Sign}
use Rattle.fm_text.specs.declared.sign.Sign.TheVariants.{Plus, Minus}

-- a number, or a power of a named variable
pub data Factor : Type 0 where
  Number : ℕ → Factor
  Power : Bytes → ℕ → Factor

-- the text of a term, with the sign that stands before it
pub record SignedText : Type 0 where
  pub sign : Sign
  pub text : Bytes

-- the only word of a text that has exactly one
abbrev pub one_word : Bytes → Option Bytes
one_word text = only (words text)

-- `NUMBER`, or `NAME`
abbrev pub simple_factor : Bytes → Option Factor
simple_factor w = if is_number w then Some (Number (value w)) else (if is_name w then Some (Power w 1) else None)

-- `NAME ^ NUMBER`
abbrev pub power_factor : Bytes → Bytes → Option Factor
power_factor w e = if is_name w && is_number e then Some (Power w (value e)) else None

abbrev pub factor_of_words : List (Option Bytes) → Option Factor
factor_of_words ((Some w) ∷ []) = simple_factor w
factor_of_words ((Some w) ∷ (Some e) ∷ []) = power_factor w e
factor_of_words ws = None

-- `NUMBER`, `NAME` or `NAME ^ NUMBER`, with any blanks between
abbrev pub factor_of : Bytes → Option Factor
factor_of text = factor_of_words (map one_word (parts Caret text))

-- b before the text of the first term
abbrev pub onto_term : Sign → ℕ → List SignedText → List SignedText
onto_term s b [] = []
onto_term s b (t ∷ ts) = record { sign = s; text = b ∷ t.text } ∷ ts

-- the sign that a byte is
abbrev pub sign_of_byte : ℕ → Option Sign
sign_of_byte b = if nat_eq b 43 then Some Plus else (if nat_eq b 45 then Some Minus else None)

abbrev pub signed_from : Sign → ℕ → Option Sign → List SignedText → (Sign → List SignedText) → List SignedText
signed_from s b None same next = onto_term s b same
signed_from s b (Some new) same next = record { sign = s; text = [] } ∷ next new

-- the terms of a text after a sign: each `+` and each `-` ends a term and is the sign of the next
abbrev pub signed : Sign → Bytes → List SignedText
signed s [] = record { sign = s; text = [] } ∷ []
signed s (b ∷ bs) = signed_from s b (sign_of_byte b) (signed s bs) (λ new. signed new bs)

abbrev pub after_sign : Option Sign → ℕ → Bytes → List SignedText
after_sign None b bs = signed Plus (b ∷ bs)
after_sign (Some s) b bs = signed s bs

-- the terms of a text, before which one sign may stand
abbrev pub terms_of : Bytes → List SignedText
terms_of [] = signed Plus []
terms_of (b ∷ bs) = if is_mark Blank b then terms_of bs else after_sign (sign_of_byte b) b bs

-- factors joined by `*`
abbrev pub is_term : Bytes → Bool
is_term text = list_all (λ f. is_some (factor_of f)) (parts Star text)

-- terms joined by signs
abbrev pub is_polynomial : Bytes → Bool
is_polynomial text = list_all (λ t. is_term t.text) (terms_of text)

-- one or more polynomials joined by `,`
abbrev pub are_polynomials : Bytes → Bool
are_polynomials text = list_all is_polynomial (parts Comma text)
