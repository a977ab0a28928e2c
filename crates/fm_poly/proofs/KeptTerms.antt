-- Canonical lists are told by what they mean
use Rattle.std.proofs.Common.{◌≡◌, ◌<◌, ◌↔◌, ℕ, ◌*◌, ◌%◌, ◌^◌, List, [], ◌∷◌, refl, ap, ap₂, sym, ◌∙◌, subst}
use Rattle.fm_tuple.specs.Tuple.{tuple_sum}
use Rattle.fm_gfp.specs.Primes.{prime_value}
use Rattle.fm_gfp.specs.declared.prime.Prime.{Prime}
use Rattle.fm_mono.specs.Orders.{monomial_cmp}
use Rattle.fm_mono.specs.declared.order.Order.{Order}
use Rattle.fm_algebra.specs.Gf.{gf, gf_is_zero}
use Rattle.fm_algebra.specs.Polynomials.{Polynomial, HasHead, coefficient, polynomial_zero, polynomial_sum, polynomial_product, polynomial_multiple, polynomial_power, frobenius_twist}
use Rattle.fm_algebra.proofs.Gf.{gf_laws, gf_field}
use Rattle.fm_algebra.proofs.Domain.{coeff_head_mul, head_mul, head_unique}
use Rattle.fm_algebra.proofs.TermWords.{first_coefficient, first_head, listed_unique}
use Rattle.fm_algebra.proofs.TwistWords.{twist_of_sum, twist_of_product, power_is_twist}
use Rattle.fm_poly.specs.declared.ring.Ring.{Ring}
use Rattle.fm_poly.specs.declared.term.Term.{Term}
use Rattle.fm_poly.specs.Polys.{pairs, meaning, IsCanonical}
use Rattle.fm_poly.specs.Steps.{scaled_terms, twist_terms}
use Rattle.fm_poly.proofs.OrderedTerms.{monomial_order, canonical_empty, meaning_empty}
use Rattle.fm_poly.proofs.TwistSteps.{twist_canonical, twist_meaning, scale_canonical, scale_meaning}

same_term : (t u : Term) → t.mono ≡ u.mono → t.coeff ≡ u.coeff → t ≡ u
same_term t u em ec i = record { mono = em i; coeff = ec i }

same_terms : (ts us : List Term) → pairs ts ≡ pairs us → ts ≡ us
same_terms [] [] e = refl
same_terms [] (u ∷ us) e = cc
same_terms (t ∷ ts) [] e = cc
same_terms (t ∷ ts) (u ∷ us) e = ap₂ (λ x y. x ∷ y) (same_term t u (ap (λ x. x.0) (heads e)) (ap (λ x. x.1) (heads e))) (same_terms ts us (tails e))
  where
    heads : {A : Type 0} {x y : A} {u v : List A} → x ∷ u ≡ y ∷ v → x ≡ y
    heads z = cc

    tails : {A : Type 0} {x y : A} {u v : List A} → x ∷ u ≡ y ∷ v → u ≡ v
    tails z = cc

module _ (r : Ring) where
  pub lists_unique : (ts us : List Term) → IsCanonical r ts → IsCanonical r us → meaning r ts ≡ meaning r us → ts ≡ us
  unfolding meaning
  lists_unique ts us c d e = same_terms ts us (listed_unique r.prime r.vars (monomial_order r.order) (pairs ts) (pairs us) c.listed c.falls d.listed d.falls e)

  pub zero_list : (ts : List Term) → IsCanonical r ts → (ts ≡ []) ↔ (meaning r ts ≡ polynomial_zero r.prime r.vars)
  zero_list ts c = (λ e. ap (meaning r) e ∙ meaning_empty r, λ e. lists_unique ts [] c (canonical_empty r) (e ∙ sym (meaning_empty r)))

  pub first_term_head : (t : Term) (ts : List Term) → IsCanonical r (t ∷ ts) → HasHead r.prime r.vars (monomial_cmp r.order) (meaning r (t ∷ ts)) t.mono
  unfolding meaning
  first_term_head t ts c = first_head r.prime r.vars (monomial_order r.order) (t.mono, t.coeff) (pairs ts) c.listed c.falls

  pub first_term_coefficient : (t : Term) (ts : List Term) → IsCanonical r (t ∷ ts) → coefficient r.prime r.vars (meaning r (t ∷ ts)) t.mono ≡ t.coeff
  unfolding meaning
  first_term_coefficient t ts c = first_coefficient r.prime r.vars (monomial_order r.order) (t.mono, t.coeff) (pairs ts) c.listed c.falls

-- ---- heads of products
module _ (p : Prime) (n : ℕ) (o : Order) where
  pub head_of_product : (f g : Polynomial p n) (a b : List ℕ) → HasHead p n (monomial_cmp o) f a → HasHead p n (monomial_cmp o) g b
      → HasHead p n (monomial_cmp o) (polynomial_product p n f g) (tuple_sum a b)
  unfolding HasHead polynomial_product
  head_of_product f g a b h k = head_mul (gf p) (gf_laws p) (gf_field p) (gf_is_zero p) n (monomial_order o) f g a b h k

  pub coefficient_of_product : (f g : Polynomial p n) (a b : List ℕ) → HasHead p n (monomial_cmp o) f a → HasHead p n (monomial_cmp o) g b
      → coefficient p n (polynomial_product p n f g) (tuple_sum a b) ≡ (coefficient p n f a * coefficient p n g b) % prime_value p
  unfolding HasHead polynomial_product coefficient
  coefficient_of_product f g a b h k = ap (λ c. c.number) (coeff_head_mul (gf p) (gf_laws p) (gf_field p) (gf_is_zero p) n (monomial_order o) f g a b h k)

  pub one_head : (f : Polynomial p n) (a b : List ℕ) → HasHead p n (monomial_cmp o) f a → HasHead p n (monomial_cmp o) f b → a ≡ b
  unfolding HasHead
  one_head f a b h k = head_unique (gf p) (gf_laws p) (gf_is_zero p) n (monomial_order o) f a b h k

module _ (r : Ring) where
  pub first_term_of_product : (t u v : Term) (ts us vs : List Term) → IsCanonical r (t ∷ ts) → IsCanonical r (u ∷ us) → IsCanonical r (v ∷ vs)
      → meaning r (v ∷ vs) ≡ polynomial_product r.prime r.vars (meaning r (t ∷ ts)) (meaning r (u ∷ us))
      → (v.mono ≡ tuple_sum t.mono u.mono) × (v.coeff ≡ (t.coeff * u.coeff) % prime_value r.prime)
  first_term_of_product t u v ts us vs c d k e = (
    head,
    sym (first_term_coefficient r v vs k) ∙ ap₂ (coefficient r.prime r.vars) e head
        ∙ coefficient_of_product r.prime r.vars r.order _ _ t.mono u.mono (first_term_head r t ts c) (first_term_head r u us d)
        ∙ ap₂ (λ x y. (x * y) % prime_value r.prime) (first_term_coefficient r t ts c) (first_term_coefficient r u us d),
  )
    where
      head : v.mono ≡ tuple_sum t.mono u.mono
      head =
          one_head r.prime r.vars r.order _ _ _ (subst (λ f. HasHead r.prime r.vars (monomial_cmp r.order) f v.mono) e (first_term_head r v vs k))
          (head_of_product r.prime r.vars r.order _ _ t.mono u.mono (first_term_head r t ts c) (first_term_head r u us d))

  -- ---- twists and multiples
  pub twist_of_kept_sum : (e : ℕ) (ts us vs ws : List Term) → IsCanonical r vs → IsCanonical r ws
      → meaning r vs ≡ frobenius_twist r.prime r.vars e (polynomial_sum r.prime r.vars (meaning r ts) (meaning r us))
      → meaning r ws ≡ polynomial_sum r.prime r.vars (frobenius_twist r.prime r.vars e (meaning r ts)) (frobenius_twist r.prime r.vars e (meaning r us)) → vs ≡ ws
  twist_of_kept_sum e ts us vs ws c d ev ew = lists_unique r vs ws c d (ev ∙ twist_of_sum r.prime r.vars e (meaning r ts) (meaning r us) ∙ sym ew)

  pub twist_of_kept_product : (e : ℕ) (ts us vs ws : List Term) → IsCanonical r vs → IsCanonical r ws
      → meaning r vs ≡ frobenius_twist r.prime r.vars e (polynomial_product r.prime r.vars (meaning r ts) (meaning r us))
      → meaning r ws ≡ polynomial_product r.prime r.vars (frobenius_twist r.prime r.vars e (meaning r ts)) (frobenius_twist r.prime r.vars e (meaning r us)) → vs ≡ ws
  twist_of_kept_product e ts us vs ws c d ev ew = lists_unique r vs ws c d (ev ∙ twist_of_product r.prime r.vars e (meaning r ts) (meaning r us) ∙ sym ew)

  pub power_of_kept : (e : ℕ) (ts vs ws : List Term) → IsCanonical r vs → IsCanonical r ws
      → meaning r vs ≡ polynomial_power r.prime r.vars (prime_value r.prime ^ e) (meaning r ts) → meaning r ws ≡ frobenius_twist r.prime r.vars e (meaning r ts) → vs ≡ ws
  power_of_kept e ts vs ws c d ev ew = lists_unique r vs ws c d (ev ∙ power_is_twist r.prime r.vars e (meaning r ts) ∙ sym ew)

  pub kept_twist : (e : ℕ) (ts us : List Term) → IsCanonical r ts → IsCanonical r us → meaning r us ≡ frobenius_twist r.prime r.vars e (meaning r ts) → us ≡ twist_terms r e ts
  kept_twist e ts us c d h = lists_unique r us (twist_terms r e ts) d (twist_canonical r e ts (twist_terms r e ts) refl c) (h ∙ sym (twist_meaning r e ts (twist_terms r e ts) refl))

  pub kept_multiple : (c : ℕ) (ts us : List Term) → IsCanonical r ts → IsCanonical r us → 0 < c → c < prime_value r.prime
      → meaning r us ≡ polynomial_multiple r.prime r.vars c (meaning r ts) → us ≡ scaled_terms r c ts
  kept_multiple c ts us k d positive below h =
      lists_unique r us (scaled_terms r c ts) d (scale_canonical r c ts (scaled_terms r c ts) refl positive below k) (h ∙ sym (scale_meaning r c ts (scaled_terms r c ts) refl))
