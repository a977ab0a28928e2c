-- What joins and multiples of lists of terms mean, and the blocks of their vectors.
use Rattle.std.proofs.Common.{◌≡◌, ℕ, zero, suc, ◌*◌, ◌%◌, ◌<◌, ◌≤◌, Bool, true, false, cond, eqb, List, [], ◌∷◌, ◌++◌, map, length, replicate, replicate, refl, sym, ap, ap₂, ◌∙◌, arith, mod-eq_of_lt, mod-lt}
use native.Mathlib.Decide.{dec_lt}
use Rattle.fm_groebner.proofs.Vectors.{length_vector, component_of_vector}
use Rattle.std.proofs.lemmas.List.{length-replicate}
use Rattle.fm_gfp.specs.Primes.{prime_value}
use Rattle.fm_gfp.specs.declared.prime.Prime.{Prime}
use Rattle.fm_tuple.specs.Tuple.{tuple_sum}
use Rattle.fm_algebra.specs.Gf.{prime_positive}
use Rattle.fm_algebra.specs.Matrix.{component}
use Rattle.fm_algebra.specs.Polynomials.{Polynomial, polynomials, polynomial_zero, polynomial_of, polynomial_sum, polynomial_product, polynomial_term, AllFit}
use Rattle.fm_algebra.proofs.Algebra.{mul_zero}
use Rattle.fm_algebra.proofs.Concrete.{polynomials_laws}
use Rattle.fm_algebra.proofs.TermWords.{of_append, of_modulo, term_times, shifted_terms}
use Rattle.std.proofs.Math.ListN.{get_or-eq_default}
use Rattle.fm_term.specs.declared.vterm.VTerm.{VTerm}
use Rattle.fm_term.specs.Falling.{IsFalling}
use Rattle.fm_term.specs.Multiples.{multiple, scaled}
use Rattle.fm_term.specs.Meanings.{HaveExponents, terms_in, vector_of}
use Rattle.fm_mono.specs.declared.order.Order.{Order}
use Rattle.fm_groebner.proofs.GraphMatrices.{same_components}
use Rattle.fm_groebner.specs.Bases.{vector_component}
use Rattle.fm_term.proofs.Multiples.{scaled_is_multiple, terms_have_exponents}

module _ (p : Prime) (n m : ℕ) where
  beyond : (ts : List VTerm) (i : ℕ) → ¬ (i < m) → component (polynomials p n) (vector_of p n m ts) i ≡ (polynomials p n).zero
  unfolding component
  beyond ts i w = get_or-eq_default (vector_of p n m ts) (polynomials p n).zero (let l = length_vector p n m ts in omega (arith, l, w))

  in_append_by : (x : Bool) (t : List ℕ × ℕ) (ts us : List (List ℕ × ℕ)) → cond x (t ∷ (ts ++ us)) (ts ++ us) ≡ cond x (t ∷ ts) ts ++ us
  in_append_by true t ts us = refl
  in_append_by false t ts us = refl

  in_append : (i : ℕ) (ts us : List VTerm) → terms_in i (ts ++ us) ≡ terms_in i ts ++ terms_in i us
  unfolding terms_in
  in_append i [] us = refl
  in_append i (t ∷ ts) us = let pair : List ℕ × ℕ = (t.mono, t.coeff) in
      ap (λ x. cond (eqb t.component i) (pair ∷ x) x) (in_append i ts us) ∙ in_append_by (eqb t.component i) pair (terms_in i ts) (terms_in i us)

  -- a join of lists means the sum
  pub component_append : (ts us : List VTerm) (i : ℕ) → vector_component p n (vector_of p n m (ts ++ us)) i ≡ polynomial_sum p n (vector_component p n (vector_of p n m ts) i) (vector_component p n (vector_of p n m us) i)
  unfolding polynomial_sum polynomial_zero
  component_append ts us zero = sym ((polynomials_laws p n).zero_add (polynomials p n).zero)
  component_append ts us (suc i) = elim (dec_lt i m) [
    | yes l ↦ component_of_vector p n m (ts ++ us) i l ∙ ap (polynomial_of p n) (in_append (suc i) ts us) ∙ of_append p n (terms_in (suc i) ts) (terms_in (suc i) us)
        ∙ sym (ap₂ (polynomials p n).add (component_of_vector p n m ts i l) (component_of_vector p n m us i l))
    | no w ↦ beyond (ts ++ us) i w ∙ sym (ap₂ (polynomials p n).add (beyond ts i w) (beyond us i w) ∙ (polynomials_laws p n).zero_add (polynomials p n).zero)
  ]

  abbrev multiple_pair : ℕ → List ℕ → List ℕ × ℕ → List ℕ × ℕ
  multiple_pair c a t = (tuple_sum a t.0, (c * t.1) % prime_value p)

  in_multiple_by : (c : ℕ) (a : List ℕ) (x : Bool) (t : List ℕ × ℕ) (ts : List (List ℕ × ℕ)) → cond x (multiple_pair c a t ∷ map (multiple_pair c a) ts) (map (multiple_pair c a) ts) ≡ map (multiple_pair c a) (cond x (t ∷ ts) ts)
  in_multiple_by c a true t ts = refl
  in_multiple_by c a false t ts = refl

  in_multiple : (c : ℕ) (a : List ℕ) (i : ℕ) (ts : List VTerm) → terms_in i (multiple p c a ts) ≡ map (multiple_pair c a) (terms_in i ts)
  unfolding terms_in
  in_multiple c a i [] = refl
  in_multiple c a i (t ∷ ts) = let pair : List ℕ × ℕ = (t.mono, t.coeff) in
      ap (λ x. cond (eqb t.component i) (multiple_pair c a pair ∷ x) x) (in_multiple c a i ts) ∙ in_multiple_by c a (eqb t.component i) pair (terms_in i ts)

  in_fits_by : (x : Bool) (t : List ℕ × ℕ) (ts : List (List ℕ × ℕ)) → length t.0 ≡ n → AllFit n ts → AllFit n (cond x (t ∷ ts) ts)
  in_fits_by true t ts l f = (l, f)
  in_fits_by false t ts l f = f

  in_fits : (i : ℕ) (ts : List VTerm) → HaveExponents n ts → AllFit n (terms_in i ts)
  unfolding terms_in
  in_fits i [] h = tt
  in_fits i (t ∷ ts) h = in_fits_by (eqb t.component i) (t.mono, t.coeff) (terms_in i ts) h.0 (in_fits i ts h.1)

  -- coefficients count modulo p
  modulo : (c : ℕ) (a : List ℕ) (ts : List (List ℕ × ℕ)) → polynomial_of p n (map (multiple_pair c a) ts) ≡ polynomial_of p n (shifted_terms p n c a ts)
  unfolding polynomial_of
  modulo c a [] = refl
  modulo c a (t ∷ ts) = ap (polynomial_sum p n (polynomial_term p n ((c * t.1) % prime_value p) (tuple_sum a t.0))) (modulo c a ts)
      ∙ of_modulo p n (tuple_sum a t.0) ((c * t.1) % prime_value p) (c * t.1) (shifted_terms p n c a ts) (mod-eq_of_lt (mod-lt (c * t.1) (prime_positive p)))

  -- the multiple of a list means the product with a term
  pub component_multiple : (c : ℕ) (a : List ℕ) (ts : List VTerm) → length a ≡ n → HaveExponents n ts → (i : ℕ)
      → vector_component p n (vector_of p n m (multiple p c a ts)) i ≡ polynomial_product p n (polynomial_term p n c a) (vector_component p n (vector_of p n m ts) i)
  unfolding polynomial_product polynomial_zero
  component_multiple c a ts l h zero = sym (mul_zero (polynomials_laws p n) (polynomial_term p n c a))
  component_multiple c a ts l h (suc i) = elim (dec_lt i m) [
    | yes k ↦ component_of_vector p n m (multiple p c a ts) i k ∙ ap (polynomial_of p n) (in_multiple c a (suc i) ts) ∙ modulo c a (terms_in (suc i) ts)
        ∙ sym (term_times p n c a (terms_in (suc i) ts) l (in_fits (suc i) ts h)) ∙ ap ((polynomials p n).mul (polynomial_term p n c a)) (sym (component_of_vector p n m ts i k))
    | no w ↦ beyond (multiple p c a ts) i w ∙ sym (ap ((polynomials p n).mul (polynomial_term p n c a)) (beyond ts i w) ∙ mul_zero (polynomials_laws p n) (polynomial_term p n c a))
  ]

  -- the scaled list means the product with a constant
  pub component_scaled : (c : ℕ) (ts : List VTerm) → HaveExponents n ts → (i : ℕ)
      → vector_component p n (vector_of p n m (scaled p c ts)) i ≡ polynomial_product p n (polynomial_term p n c (replicate n 0)) (vector_component p n (vector_of p n m ts) i)
  component_scaled c ts h i = ap (λ x. vector_component p n (vector_of p n m x) i) (scaled_is_multiple p n c ts h) ∙ component_multiple c (replicate n 0) ts (length-replicate n 0) h i

  -- a vector is told by its components
  pub same_vectors : (u v : List (Polynomial p n)) → length u ≡ m → length v ≡ m → ((i : ℕ) → 0 < i → i ≤ m → vector_component p n u i ≡ vector_component p n v i) → u ≡ v
  same_vectors u v k l e = same_components (polynomials p n) (polynomials_laws p n) m u v k l (λ i h. e (suc i) (omega arith) h)

  -- the terms of a falling list have n exponents
  pub falling_exponents : (o : Order) (ts : List VTerm) → IsFalling p n m o ts → HaveExponents n ts
  falling_exponents o ts f = terms_have_exponents p n ts f.proper
