-- Twists and multiples of canonical lists
use Rattle.std.proofs.Common.{◌≡◌, ◌<◌, ℕ, ◌+◌, ◌*◌, ◌%◌, ◌^◌, Bool, true, false, if◌then◌else◌, List, [], ◌∷◌, refl, ap, ap₂, sym, ◌∙◌, subst}
use Rattle.std.proofs.Math.Nat.{zero-mod, mod-eq_of_lt, mul-zero, mul-add, zero-mul}
use Rattle.std.proofs.Math.Nat.{add-mod}
use Rattle.std.proofs.lemmas.Nat.{mod_below, mul-mod_second}
use Rattle.fm_tuple.specs.Tuple.{tuple_multiple}
use Rattle.fm_tuple.proofs.Tuples.{length_tuple_multiple}
use Rattle.fm_gfp.specs.Primes.{prime_value}
use Rattle.fm_gfp.proofs.Residues.{prime_positive}
use Rattle.fm_mono.proofs.OrderLaws.{monomial_cmp_multiple}
use Rattle.fm_algebra.specs.Poly.{tuple_eq}
use Rattle.fm_algebra.specs.Polynomials.{coefficient, polynomial_multiple, polynomial_of, frobenius_twist, listed_coefficient}
use Rattle.fm_algebra.proofs.Concrete.{q_positive}
use Rattle.fm_algebra.proofs.PolynomialWords.{same_coefficients, coefficient_zero, coefficient_multiple}
use Rattle.fm_algebra.proofs.TermWords.{coefficient_of}
use Rattle.fm_algebra.proofs.TwistWords.{twisted_terms, twist_of_terms}
use Rattle.fm_poly.specs.declared.ring.Ring.{Ring}
use Rattle.fm_poly.specs.declared.term.Term.{Term}
use Rattle.fm_poly.specs.Polys.{pairs, meaning, IsCanonical}
use Rattle.fm_poly.specs.Steps.{scaled_terms, twist_terms}
use Rattle.fm_poly.proofs.OrderedTerms.{Below, Falls, Listed, meaning_empty}
use Rattle.fm_poly.proofs.ProductSteps.{product_positive}

module _ (r : Ring) where
  -- ---- twists
  module _ (e : ℕ) where
    twist_listed : (ts : List Term) → Listed r.prime r.vars ts → Listed r.prime r.vars (twist_terms r e ts)
    twist_listed [] w = tt
    twist_listed (t ∷ ts) w = (length_tuple_multiple (prime_value r.prime ^ e) t.mono ∙ w.0, w.1, w.2, twist_listed ts w.3)

    twist_below : (a : List ℕ) (ts : List Term) → Below r.order a ts → Below r.order (tuple_multiple (prime_value r.prime ^ e) a) (twist_terms r e ts)
    twist_below a [] w = tt
    twist_below a (t ∷ ts) w = (monomial_cmp_multiple r.order (prime_value r.prime ^ e) t.mono a (q_positive r.prime r.vars e) ∙ w.0, twist_below a ts w.1)

    twist_falls : (ts : List Term) → Falls r.order ts → Falls r.order (twist_terms r e ts)
    twist_falls [] w = tt
    twist_falls (t ∷ ts) w = (twist_below t.mono ts w.0, twist_falls ts w.1)

    pub twist_canonical : (ts us : List Term) → us ≡ twist_terms r e ts → IsCanonical r ts → IsCanonical r us
    twist_canonical ts us eq c = subst (IsCanonical r) (sym eq) record { listed = twist_listed ts c.listed; falls = twist_falls ts c.falls }

    twist_pairs : (ts : List Term) → twisted_terms r.prime r.vars e (pairs ts) ≡ pairs (twist_terms r e ts)
    twist_pairs [] = refl
    twist_pairs (t ∷ ts) = ap (λ us. (tuple_multiple (prime_value r.prime ^ e) t.mono, t.coeff) ∷ us) (twist_pairs ts)

    pub twist_meaning : (ts us : List Term) → us ≡ twist_terms r e ts → meaning r us ≡ frobenius_twist r.prime r.vars e (meaning r ts)
    unfolding meaning
    twist_meaning ts us eq = ap (λ vs. polynomial_of r.prime r.vars (pairs vs)) eq ∙ ap (polynomial_of r.prime r.vars) (sym (twist_pairs ts)) ∙ sym (twist_of_terms r.prime r.vars e (pairs ts))

  -- ---- multiples
  module _ (c : ℕ) where
    scale_listed : (ts : List Term) → 0 < c → c < prime_value r.prime → Listed r.prime r.vars ts → Listed r.prime r.vars (scaled_terms r c ts)
    scale_listed [] positive below w = tt
    scale_listed (t ∷ ts) positive below w =
        (w.0, product_positive r c t.coeff positive below w.1 w.2, mod_below (c * t.coeff) (prime_value r.prime) (prime_positive r.prime), scale_listed ts positive below w.3)

    scale_below : (a : List ℕ) (ts : List Term) → Below r.order a ts → Below r.order a (scaled_terms r c ts)
    scale_below a [] w = tt
    scale_below a (t ∷ ts) w = (w.0, scale_below a ts w.1)

    scale_falls : (ts : List Term) → Falls r.order ts → Falls r.order (scaled_terms r c ts)
    scale_falls [] w = tt
    scale_falls (t ∷ ts) w = (scale_below t.mono ts w.0, scale_falls ts w.1)

    pub scale_canonical : (ts us : List Term) → us ≡ scaled_terms r c ts → 0 < c → c < prime_value r.prime → IsCanonical r ts → IsCanonical r us
    scale_canonical ts us eq positive below k = subst (IsCanonical r) (sym eq) record { listed = scale_listed ts positive below k.listed; falls = scale_falls ts k.falls }

    chosen : (b : Bool) (d : ℕ) → (if b then (c * d) % prime_value r.prime else 0) % prime_value r.prime ≡ (c * (if b then d else 0)) % prime_value r.prime
    chosen true d = mod-eq_of_lt (mod_below (c * d) (prime_value r.prime) (prime_positive r.prime))
    chosen false d = ap (λ k. k % prime_value r.prime) (sym (mul-zero c))

    scale_coefficient : (ts : List Term) (a : List ℕ) → listed_coefficient (pairs (scaled_terms r c ts)) a % prime_value r.prime ≡ (c * listed_coefficient (pairs ts) a) % prime_value r.prime
    scale_coefficient [] a = ap (λ k. k % prime_value r.prime) (sym (mul-zero c))
    scale_coefficient (t ∷ ts) a =
        add-mod (if tuple_eq a t.mono then (c * t.coeff) % prime_value r.prime else 0) (listed_coefficient (pairs (scaled_terms r c ts)) a) (prime_value r.prime)
        ∙ ap₂ (λ x y. (x + y) % prime_value r.prime) (chosen (tuple_eq a t.mono) t.coeff) (scale_coefficient ts a)
        ∙ sym (add-mod (c * (if tuple_eq a t.mono then t.coeff else 0)) (c * listed_coefficient (pairs ts) a) (prime_value r.prime))
        ∙ ap (λ k. k % prime_value r.prime) (sym (mul-add c (if tuple_eq a t.mono then t.coeff else 0) (listed_coefficient (pairs ts) a)))

    pub scale_meaning : (ts us : List Term) → us ≡ scaled_terms r c ts → meaning r us ≡ polynomial_multiple r.prime r.vars c (meaning r ts)
    unfolding meaning
    scale_meaning ts us eq = ap (λ vs. polynomial_of r.prime r.vars (pairs vs)) eq ∙ same_coefficients r.prime r.vars _ _ (λ a l.
        coefficient_of r.prime r.vars (pairs (scaled_terms r c ts)) a l ∙ scale_coefficient ts a
        ∙ sym (mul-mod_second c (listed_coefficient (pairs ts) a) (prime_value r.prime))
        ∙ ap (λ k. (c * k) % prime_value r.prime) (sym (coefficient_of r.prime r.vars (pairs ts) a l))
        ∙ sym (coefficient_multiple r.prime r.vars c (meaning r ts) a))

  -- 0 * f
  pub scale_zero : (ts us : List Term) (c : ℕ) → c ≡ 0 → us ≡ [] → meaning r us ≡ polynomial_multiple r.prime r.vars c (meaning r ts)
  scale_zero ts us c ec eu = ap (meaning r) eu ∙ meaning_empty r ∙ same_coefficients r.prime r.vars _ _ (λ a l.
      coefficient_zero r.prime r.vars a
      ∙ sym (coefficient_multiple r.prime r.vars c (meaning r ts) a
      ∙ ap (λ k. (k * coefficient r.prime r.vars (meaning r ts) a) % prime_value r.prime) ec
      ∙ ap (λ k. k % prime_value r.prime) (zero-mul (coefficient r.prime r.vars (meaning r ts) a)) ∙ zero-mod (prime_value r.prime)))
