-- The polynomials of certificates: no blanks, and form before exponents.
use Rattle.std.specs.Prelude.{◌^◌, Bool, false, ◌&&◌, not, if◌then◌else◌, nat_lt, List, Option, Some, None, is_some, Result, Ok, Err}
use Rattle.std.specs.List.{list_all, list_any}
use Rattle.fm_mono.specs.Bounded.{exponent_bound}
use Rattle.fm_poly.specs.Polys.{PolyValue}
use Rattle.fm_poly.specs.declared.ring.Ring.{Ring}
use Rattle.fm_poly.specs.declared.term.Term.{Term}
use Rattle.fm_words.specs.declared.mark.Mark.TheVariants.{Blank, Star}
use Rattle.fm_words.specs.Parts.{Bytes, is_mark, parts}
use Rattle.fm_text.specs.declared.text_fault.TextFault.{TextFault}
use Rattle.fm_text.specs.declared.poly_fault.PolyFault.{PolyFault}
use Rattle.fm_text.specs.declared.poly_fault.PolyFault.TheVariants.{Form, Exponent}
use Rattle.fm_text.specs.Factors.{Factor, Number, Power, factor_of, terms_of}
use Rattle.fm_text.specs.Polynomials.{written_terms}
use Rattle.fm_words.specs.Steps.{place}
use Rattle.fm_text.specs.SumOfTerms.{polynomial_of_terms}

-- a number below 2^64, or a power of a variable of the ring
abbrev pub is_sound_factor : List Bytes → Option Factor → Bool
is_sound_factor names None = false
is_sound_factor names (Some (Number n)) = nat_lt n (2 ^ 64)
is_sound_factor names (Some (Power name e)) = is_some (place 0 name names)

abbrev pub is_sound_term : List Bytes → Bytes → Bool
is_sound_term names text = list_all (λ f. is_sound_factor names (factor_of f)) (parts Star text)

abbrev pub has_blank : Bytes → Bool
has_blank text = list_any (is_mark Blank) text

-- the text has the form of a polynomial of the ring and no blanks, whatever its exponents are
abbrev pub is_sound : List Bytes → Bytes → Bool
is_sound names text = not (has_blank text) && list_all (λ t. is_sound_term names t.text) (terms_of text)

-- what else can be wrong is an exponent
abbrev pub within_bound : Ring → Result (List Term) TextFault → Result PolyValue PolyFault
within_bound r (Ok ts) = Ok (polynomial_of_terms r ts)
within_bound r (Err k) = Err Exponent

-- the polynomial that a text of a certificate spells
unfoldable pub certificate_polynomial : Ring → List Bytes → Bytes → Result PolyValue PolyFault
certificate_polynomial r names text =
    if is_sound names text then within_bound r (written_terms (record { ring = r; names = names; bound = exponent_bound }) text) else Err Form
