-- The lists of terms that operations go through.
use Rattle.std.specs.Prelude.{ℕ, Bool, ◌+◌, ◌*◌, ◌%◌, ◌^◌, ◌==◌, if◌then◌else◌, List, [], ◌∷◌, map}
use Rattle.std.specs.List.{list_all}
use Rattle.fm_tuple.specs.Tuple.{tuple_sum, tuple_multiple}
use Rattle.fm_gfp.specs.Primes.{prime_value}
use Rattle.fm_mono.specs.Bounded.{is_bounded}
use Rattle.fm_poly.specs.declared.ring.Ring.{Ring}
use Rattle.fm_poly.specs.declared.term.Term.{Term}

-- the term, unless its coefficient is zero
abbrev pub kept : Term → List Term
kept t = if t.coeff == 0 then [] else t ∷ []

-- the sum of two like terms, unless it is zero
abbrev pub like_sum : Ring → Term → Term → List Term
like_sum r t u = kept (record { mono = t.mono; coeff = (t.coeff + u.coeff) % prime_value r.prime })

-- t times each term
abbrev pub row_terms : Ring → Term → List Term → List Term
row_terms r t us = map (λ u. record { mono = tuple_sum t.mono u.mono; coeff = (t.coeff * u.coeff) % prime_value r.prime }) us

-- t times each term is within the bound on exponents
abbrev pub row_fits : Term → List Term → Bool
row_fits t us = list_all (λ u. is_bounded (tuple_sum t.mono u.mono)) us

-- each term of the first list times each of the second is within the bound
abbrev pub products_fit : List Term → List Term → Bool
products_fit ts us = list_all (λ t. row_fits t us) ts

-- each term with its coefficient multiplied by c
abbrev pub scaled_terms : Ring → ℕ → List Term → List Term
scaled_terms r c ts = map (λ t. record { mono = t.mono; coeff = (c * t.coeff) % prime_value r.prime }) ts

-- each term with its exponents multiplied by q = p ^ e
abbrev pub twist_terms : Ring → ℕ → List Term → List Term
twist_terms r e ts = map (λ t. record { mono = tuple_multiple (prime_value r.prime ^ e) t.mono; coeff = t.coeff }) ts

-- each of these is within the bound
abbrev pub twists_fit : Ring → ℕ → List Term → Bool
twists_fit r e ts = list_all (λ t. is_bounded (tuple_multiple (prime_value r.prime ^ e) t.mono)) ts
