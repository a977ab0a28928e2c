-- What is taken off first is the first term of the list that has the value
use Rattle.std.proofs.Common.{◌≡◌, ◌<◌, ℕ, ◌+◌, ◌%◌, List, [], ◌∷◌, length, refl, ap, ap₂, sym, ◌∙◌, subst, arith}
use Rattle.std.specs.Ordering.{is_gt, is_lt}
use Rattle.std.specs.declared.cmp.Ordering.{Ordering}
use Rattle.std.specs.declared.cmp.Ordering.TheVariants.{Less, Equal, Greater}
use Rattle.std.proofs.lemmas.Cmp.{tied_itself}
use Rattle.std.proofs.Math.Nat.{zero-mod, mod-eq_of_lt}
use mathlib.Core.Bool.{true≢false}
use Rattle.fm_mono.specs.Orders.{monomial_cmp}
use Rattle.fm_mono.specs.declared.order.Order.{Order}
use Rattle.fm_mono.proofs.OrderLaws.{monomial_cmp_exact}
use Rattle.fm_gfp.specs.Primes.{prime_value}
use Rattle.fm_algebra.specs.Polynomials.{Polynomial, HasHead, coefficient, polynomial_zero, polynomial_sum, polynomial_term}
use Rattle.fm_algebra.proofs.Algebra.{add_cancel}
use Rattle.fm_algebra.proofs.Concrete.{polynomials_laws}
use Rattle.fm_algebra.proofs.HeadWords.{head_says, head_if}
use Rattle.fm_algebra.proofs.PolynomialWords.{coefficient_zero, coefficient_sum, coefficient_term, coefficient_term_elsewhere}
use Rattle.fm_poly.specs.declared.ring.Ring.{Ring}
use Rattle.fm_poly.specs.declared.term.Term.{Term}
use Rattle.fm_poly.specs.Polys.{meaning, IsCanonical}
use Rattle.fm_poly.proofs.OrderedTerms.{monomial_order, meaning_empty, meaning_cons}
use Rattle.fm_poly.proofs.KeptTerms.{first_term_head, first_term_coefficient, one_head}
use Rattle.fm_bucket.specs.Levels.{levels_sum, AreCanonical, IsBelow, AreBelow}
use Rattle.fm_bucket.proofs.Sums.{sum_none, sum_cons}

module _ (r : Ring) where
  abbrev o : Order
  o = r.order

  abbrev Value : Type 0
  Value = Polynomial r.prime r.vars

  abbrev plus : Value → Value → Value
  plus f g = polynomial_sum r.prime r.vars f g

  abbrev term : ℕ → List ℕ → Value
  term c a = polynomial_term r.prime r.vars c a

  abbrev at : Value → List ℕ → ℕ
  at f a = coefficient r.prime r.vars f a

  above : (u m b : List ℕ) → monomial_cmp o u m ≡ Less → (monomial_cmp o b m ≡ Less → ⊥) → monomial_cmp o b u ≡ Greater
  above u m b below not_less = go (monomial_cmp o b u) refl
    where
      go : (w : Ordering) → monomial_cmp o b u ≡ w → w ≡ Greater
      go Less e = absurd (not_less ((monomial_order o).total.trans b u m e below))
      go Equal e = absurd (not_less (subst (λ x. monomial_cmp o x m ≡ Less) (sym (monomial_cmp_exact o b u e)) below))
      go Greater e = refl

  below_zero : (l : List Term) (m b : List ℕ) → IsCanonical r l → IsBelow o m l → (monomial_cmp o b m ≡ Less → ⊥) → at (meaning r l) b ≡ 0
  below_zero [] m b canonical below not_less = ap (λ f. at f b) (meaning_empty r) ∙ coefficient_zero r.prime r.vars b
  below_zero (u ∷ us) m b canonical below not_less =
      (head_says r.prime r.vars (monomial_cmp o) (meaning r (u ∷ us)) u.mono (first_term_head r u us canonical)).2 b (above u.mono m b below not_less)

  levels_zero : (ls : List (List Term)) (m b : List ℕ) → AreCanonical r ls → AreBelow o m ls → (monomial_cmp o b m ≡ Less → ⊥) → at (levels_sum r ls) b ≡ 0
  levels_zero [] m b canonical below not_less = ap (λ f. at f b) (sum_none r) ∙ coefficient_zero r.prime r.vars b
  levels_zero (l ∷ ls) m b canonical below not_less =
      ap (λ f. at f b) (sum_cons r l ls) ∙ coefficient_sum r.prime r.vars (meaning r l) (levels_sum r ls) b
      ∙ ap₂ (λ x y. (x + y) % prime_value r.prime) (below_zero l m b canonical.0 below.0 not_less) (levels_zero ls m b canonical.1 below.1 not_less)
      ∙ zero-mod (prime_value r.prime)

  itself : (m : List ℕ) → monomial_cmp o m m ≡ Equal
  itself m = tied_itself (monomial_order o).total m

  own_not_less : (m : List ℕ) → monomial_cmp o m m ≡ Less → ⊥
  own_not_less m e = true≢false (ap is_lt (sym e ∙ itself m))

  greater_not_less : (b m : List ℕ) → monomial_cmp o b m ≡ Greater → monomial_cmp o b m ≡ Less → ⊥
  greater_not_less b m g e = true≢false (ap is_lt (sym e ∙ g))

  greater_other : (b m : List ℕ) → monomial_cmp o b m ≡ Greater → b ≡ m → ⊥
  greater_other b m g same = true≢false (ap is_gt (sym g ∙ ap (λ x. monomial_cmp o x m) same ∙ itself m))

  folded : (c p : ℕ) → c < p → (c % p + 0) % p ≡ c
  folded c p small =
      let plain : c + 0 ≡ c = omega arith in
      ap (λ x. (x + 0) % p) (mod-eq_of_lt small) ∙ ap (λ x. x % p) plain ∙ mod-eq_of_lt small

  module _ (t : Term) (ls : List (List Term)) (fits : length t.mono ≡ r.vars) (some : 0 < t.coeff) (small : t.coeff < prime_value r.prime)
      (canonical : AreCanonical r ls) (below : AreBelow o t.mono ls) where
    abbrev whole : Value
    whole = plus (term t.coeff t.mono) (levels_sum r ls)

    lead_coefficient : at whole t.mono ≡ t.coeff
    lead_coefficient =
        coefficient_sum r.prime r.vars (term t.coeff t.mono) (levels_sum r ls) t.mono
        ∙ ap₂ (λ x y. (x + y) % prime_value r.prime) (coefficient_term r.prime r.vars t.coeff t.mono fits) (levels_zero ls t.mono t.mono canonical below (own_not_less t.mono))
        ∙ folded t.coeff (prime_value r.prime) small

    none_above : (b : List ℕ) → monomial_cmp o b t.mono ≡ Greater → at whole b ≡ 0
    none_above b greater =
        coefficient_sum r.prime r.vars (term t.coeff t.mono) (levels_sum r ls) b
        ∙ ap₂ (λ x y. (x + y) % prime_value r.prime) (coefficient_term_elsewhere r.prime r.vars t.coeff t.mono b (greater_other b t.mono greater))
        (levels_zero ls t.mono b canonical below (greater_not_less b t.mono greater))
        ∙ zero-mod (prime_value r.prime)

    -- the value's head is what was taken off
    pub lead_head : HasHead r.prime r.vars (monomial_cmp o) whole t.mono
    lead_head = head_if r.prime r.vars (monomial_cmp o) whole t.mono fits (subst (λ k. 0 < k) (sym lead_coefficient) some) none_above

    same_term : (u : Term) → u.mono ≡ t.mono → u.coeff ≡ t.coeff → u ≡ t
    same_term u m c i = record { mono = m i; coeff = c i }

    left : (x y : Value) → plus (term t.coeff t.mono) x ≡ plus (term t.coeff t.mono) y → x ≡ y
    unfolding polynomial_sum
    left x y e = add_cancel (polynomials_laws r.prime r.vars) (term t.coeff t.mono) x y e

    -- a list that has the value begins with t, and goes on with what is left
    pub determined : (ts : List Term) → IsCanonical r ts → meaning r ts ≡ whole → (us : List Term) × (ts ≡ t ∷ us) × (meaning r us ≡ levels_sum r ls)
    determined [] canonical_ts same =
        let none : t.coeff ≡ 0 = sym lead_coefficient ∙ ap (λ f. at f t.mono) (sym same ∙ meaning_empty r) ∙ coefficient_zero r.prime r.vars t.mono in
        absurd (omega arith)
    determined (u ∷ us) canonical_ts same =
        let mono : u.mono ≡ t.mono = one_head r.prime r.vars o whole u.mono t.mono (subst (λ f. HasHead r.prime r.vars (monomial_cmp o) f u.mono) same (first_term_head r u us canonical_ts)) lead_head in
        let coeff : u.coeff ≡ t.coeff = sym (first_term_coefficient r u us canonical_ts) ∙ ap₂ at same mono ∙ lead_coefficient in
        let is : u ≡ t = same_term u mono coeff in
        (us, ap (λ x. x ∷ us) is, left (meaning r us) (levels_sum r ls) (sym (ap (λ x. plus (term x.coeff x.mono) (meaning r us)) is) ∙ sym (meaning_cons r u us) ∙ same))
