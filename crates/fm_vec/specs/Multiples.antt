-- The operations on falling lists of terms. A sum is defined by insertion: each term of a multiple is put into its place.
use Rattle.std.specs.Prelude.{ℕ, ◌+◌, ◌-◌, ◌%◌, ◌^◌, ◌==◌, ◌&&◌, if◌then◌else◌, Bool, true, List, [], ◌∷◌, ◌++◌}
use Rattle.std.specs.declared.cmp.Ordering.{Ordering}
use Rattle.std.specs.declared.cmp.Ordering.TheVariants.{Less, Equal, Greater}
use Rattle.fm_tuple.specs.Tuple.{tuple_sum, tuple_difference, tuple_maximum, tuple_multiple}
use Rattle.fm_gfp.specs.Primes.{prime_value}
use Rattle.fm_mono.specs.Bounded.{is_bounded}
use Rattle.fm_poly.specs.declared.ring.Ring.{Ring}
use Rattle.fm_term.specs.declared.vterm.VTerm.{VTerm}
use Rattle.fm_term.specs.Places.{term_cmp}
use Rattle.fm_term.specs.Multiples.{multiple_term, multiple, is_multiple_within, scaled}

-- ---- coefficients
-- - c modulo p
abbrev pub negated : Ring → ℕ → ℕ
negated r c = (prime_value r.prime - c) % prime_value r.prime

-- 1 / c modulo p, which is c ^ (p - 2) by the little theorem of Fermat
abbrev pub inverse_of : Ring → ℕ → ℕ
inverse_of r c = c ^ (prime_value r.prime - 2) % prime_value r.prime

-- ---- sums
-- u + t for terms of one place: nothing where the sum is zero
abbrev pub sum_term : Ring → VTerm → VTerm → List VTerm
sum_term r u t =
    if (u.coeff + t.coeff) % prime_value r.prime == 0 then []
    else record { component = t.component; mono = t.mono; coeff = (u.coeff + t.coeff) % prime_value r.prime } ∷ []

-- u ∷ us and one more term t, by how u compares with t; later is us and t
abbrev pub put_at : Ring → VTerm → VTerm → List VTerm → List VTerm → Ordering → List VTerm
put_at r t u us later Less = t ∷ u ∷ us
put_at r t u us later Equal = sum_term r u t ++ us
put_at r t u us later Greater = u ∷ later

-- a falling list and one more term, which is put into its place
abbrev pub put : Ring → VTerm → List VTerm → List VTerm
put r t [] = t ∷ []
put r t (u ∷ us) = put_at r t u us (put r t us) (term_cmp r.order u t)

-- ---- multiples
-- f + d * x^m * g
abbrev pub plus_multiple : Ring → ℕ → List ℕ → List VTerm → List VTerm → List VTerm
plus_multiple r d m [] f = f
plus_multiple r d m (t ∷ ts) f = put r (multiple_term r.prime d m t) (plus_multiple r d m ts f)

-- f - c * x^m * g
abbrev pub minus_multiple : Ring → ℕ → List ℕ → List VTerm → List VTerm → List VTerm
minus_multiple r c m g f = if c == 0 then f else plus_multiple r (negated r c) m g f

-- no exponent of x^m times a term of g passes the bound
abbrev pub multiple_fits : List ℕ → List VTerm → Bool
multiple_fits m ts = is_multiple_within is_bounded m ts

-- ---- monic vectors and S-vectors
-- divided by the head's coefficient
abbrev pub monic_of : Ring → List VTerm → List VTerm
monic_of r [] = []
monic_of r (t ∷ ts) = scaled r.prime (inverse_of r t.coeff) (t ∷ ts)

-- the monomial by which that of t becomes the least common multiple of those of t and u
abbrev pub cofactor : VTerm → VTerm → List ℕ
cofactor t u = tuple_difference (tuple_maximum t.mono u.mono) t.mono

-- the S-vector of two monic vectors with heads in one component (Buchberger)
abbrev pub s_vector_of : Ring → List VTerm → List VTerm → List VTerm
s_vector_of r [] g = []
s_vector_of r (t ∷ ts) [] = []
s_vector_of r (t ∷ ts) (u ∷ us) = plus_multiple r (negated r 1) (cofactor u t) (u ∷ us) (multiple r.prime 1 (cofactor t u) (t ∷ ts))

-- neither of its two multiples passes the bound
abbrev pub s_vector_fits : List VTerm → List VTerm → Bool
s_vector_fits [] g = true
s_vector_fits (t ∷ ts) [] = true
s_vector_fits (t ∷ ts) (u ∷ us) = multiple_fits (cofactor t u) (t ∷ ts) && multiple_fits (cofactor u t) (u ∷ us)

-- ---- twists
-- no exponent of the twist by q passes the bound
abbrev pub twist_fits : ℕ → List VTerm → Bool
twist_fits q [] = true
twist_fits q (t ∷ ts) = is_bounded (tuple_multiple q t.mono) && twist_fits q ts
