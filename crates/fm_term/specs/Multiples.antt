-- Multiples and twists of lists of terms.
use Rattle.std.specs.Prelude.{ℕ, ◌*◌, ◌%◌, ◌&&◌, Bool, true, List, [], ◌∷◌}
use Rattle.fm_gfp.specs.Primes.{prime_value}
use Rattle.fm_gfp.specs.declared.prime.Prime.{Prime}
use Rattle.fm_tuple.specs.Tuple.{tuple_sum, tuple_multiple}
use Rattle.fm_term.specs.declared.vterm.VTerm.{VTerm}

-- c * x^a * t
abbrev pub multiple_term : Prime → ℕ → List ℕ → VTerm → VTerm
multiple_term p c a t = record { component = t.component; mono = tuple_sum a t.mono; coeff = (c * t.coeff) % prime_value p }

-- c * x^a times a vector
abbrev pub multiple : Prime → ℕ → List ℕ → List VTerm → List VTerm
multiple p c a [] = []
multiple p c a (t ∷ ts) = multiple_term p c a t ∷ multiple p c a ts

-- x^a times each term has exponents that fit
abbrev pub is_multiple_within : (List ℕ → Bool) → List ℕ → List VTerm → Bool
is_multiple_within fits a [] = true
is_multiple_within fits a (t ∷ ts) = fits (tuple_sum a t.mono) && is_multiple_within fits a ts

-- c * t
abbrev pub scaled_term : Prime → ℕ → VTerm → VTerm
scaled_term p c t = record { component = t.component; mono = t.mono; coeff = (c * t.coeff) % prime_value p }

-- c times a vector
abbrev pub scaled : Prime → ℕ → List VTerm → List VTerm
scaled p c [] = []
scaled p c (t ∷ ts) = scaled_term p c t ∷ scaled p c ts

-- every exponent of t multiplied by q
abbrev pub twisted_term : ℕ → VTerm → VTerm
twisted_term q t = record { component = t.component; mono = tuple_multiple q t.mono; coeff = t.coeff }

-- every exponent multiplied by q: the Frobenius twist, where q is a power of the characteristic
abbrev pub twisted : ℕ → List VTerm → List VTerm
twisted q [] = []
twisted q (t ∷ ts) = twisted_term q t ∷ twisted q ts
