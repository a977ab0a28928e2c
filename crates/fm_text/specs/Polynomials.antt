-- Which polynomial a text spells: the sum of its terms, with numbers modulo p and exponents added.
use Rattle.std.specs.Prelude.{ℕ, ◌+◌, ◌-◌, ◌*◌, ◌%◌, ◌^◌, if◌then◌else◌, nat_le, nat_lt, List, [], ◌∷◌, ◌++◌, length, replicate, slice_index, slice_set, Option, Some, None, Result, Ok, Err}
use Rattle.fm_gfp.specs.Primes.{prime_value}
use Rattle.fm_gfp.specs.declared.prime.Prime.{Prime}
use Rattle.fm_poly.specs.Polys.{PolyValue}
use Rattle.fm_poly.specs.declared.ring.Ring.{Ring}
use Rattle.fm_poly.specs.declared.term.Term.{Term}
use Rattle.fm_words.specs.declared.mark.Mark.TheVariants.{Star}
use Rattle.fm_words.specs.Parts.{Bytes, parts}
use Rattle.fm_text.specs.declared.text_fault.TextFault.{TextFault}
use Rattle.fm_text.specs.declared.text_fault.TextFault.TheVariants.{Syntax, UnknownName, Limit}
use Rattle.fm_text.specs.declared.sign.Sign.{Sign}
use Rattle.fm_text.specs.declared.sign.Sign.TheVariants.{Plus, Minus}
use Rattle.fm_text.specs.Factors.{Factor, Number, Power, SignedText, factor_of, terms_of}
use Rattle.fm_words.specs.Steps.{◌>>=◌, steps, place}
use Rattle.fm_text.specs.SumOfTerms.{polynomial_of_terms}

-- the ring, the names of its variables, and the bound on the exponents of a written term
pub record Rules : Type 0 where
  pub ring : Ring
  pub names : List Bytes
  pub bound : ℕ

-- the term 1
abbrev pub term_one : Rules → Term
term_one r = record { mono = replicate (length r.names) 0; coeff = 1 }

-- the exponents of a term times a power of the variable at this place: an unknown name comes before an exponent that is too great
abbrev pub raised : ℕ → List ℕ → ℕ → Option ℕ → Result (List ℕ) TextFault
raised bound a e None = Err UnknownName
raised bound a e (Some k) = if nat_le (slice_index a k + e) bound then Ok (slice_set a k (slice_index a k + e)) else Err Limit

-- times a factor; numbers are below 2^64 and count modulo p
abbrev pub times_factor : Rules → Term → Option Factor → Result Term TextFault
times_factor r t None = Err Syntax
times_factor r t (Some (Number n)) =
    if nat_lt n (2 ^ 64) then Ok (record { mono = t.mono; coeff = (t.coeff * (n % prime_value r.ring.prime)) % prime_value r.ring.prime }) else Err Limit
times_factor r t (Some (Power name e)) = raised r.bound t.mono e (place 0 name r.names) >>= λ a. Ok (record { mono = a; coeff = t.coeff })

-- times the factors that a text joins by `*`
abbrev pub times_factors : Rules → Term → Bytes → Result Term TextFault
times_factors r t text = steps (λ u f. times_factor r u (factor_of f)) t (parts Star text)

-- a term without its sign: the product of its factors
abbrev pub unsigned_term : Rules → Bytes → Result Term TextFault
unsigned_term r text = times_factors r (term_one r) text

-- a number modulo p with a sign
abbrev pub signed_coefficient : Prime → Sign → ℕ → ℕ
signed_coefficient p Plus c = c
signed_coefficient p Minus c = (prime_value p - c) % prime_value p

-- a term with its sign
abbrev pub signed_term : Rules → SignedText → Result Term TextFault
signed_term r t = unsigned_term r t.text >>= λ u. Ok (record { mono = u.mono; coeff = signed_coefficient r.ring.prime t.sign u.coeff })

-- one more written term
abbrev pub plus_term : Rules → List Term → SignedText → Result (List Term) TextFault
plus_term r ts t = signed_term r t >>= λ u. Ok (ts ++ u ∷ [])

-- the terms as they are written
abbrev pub written_terms : Rules → Bytes → Result (List Term) TextFault
written_terms r text = steps (plus_term r) [] (terms_of text)

-- the polynomial that a text spells, or the first fault from left to right
abbrev pub spelled_polynomial : Rules → Bytes → Result PolyValue TextFault
spelled_polynomial r text = written_terms r text >>= λ ts. Ok (polynomial_of_terms r.ring ts)
