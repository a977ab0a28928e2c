-- The sum of written terms is canonical and means their sum.
use Rattle.std.proofs.Common.{◌≡◌, ◌<◌, ◌+◌, ◌%◌, ◌==◌, ℕ, suc, Bool, true, false, if◌then◌else◌, List, [], ◌∷◌, ◌++◌, All, length, refl, ap, sym, ◌∙◌, subst, arith}
use Rattle.std.proofs.Math.Nat.{zero-mod}
use Rattle.std.proofs.lemmas.Nat.{mod_below}
use Rattle.std.proofs.lemmas.Bool.{eqb-true}
use Rattle.std.proofs.lemmas.Bool.Decides.{nat_tests}
use Rattle.std.specs.Ordering.{ordering_reverse}
use Rattle.std.specs.declared.cmp.Ordering.{Ordering}
use Rattle.std.specs.declared.cmp.Ordering.TheVariants.{Less, Equal, Greater}
use Rattle.fm_gfp.specs.Primes.{prime_value}
use Rattle.fm_mono.specs.Orders.{monomial_cmp}
use Rattle.fm_mono.proofs.OrderLaws.{monomial_cmp_exact, monomial_cmp_flip}
use Rattle.fm_algebra.specs.Gf.{prime_positive}
use Rattle.fm_algebra.specs.Polynomials.{Polynomial, polynomial_sum, polynomial_term}
use Rattle.fm_algebra.proofs.Concrete.{polynomials_laws}
use Rattle.fm_algebra.proofs.TermWords.{of_swap, of_drop}
use Rattle.fm_poly.specs.declared.ring.Ring.{Ring}
use Rattle.fm_poly.specs.declared.term.Term.{Term}
use Rattle.fm_poly.specs.Polys.{PolyValue, pairs, meaning, IsTermOf, IsCanonical}
use Rattle.fm_poly.specs.Steps.{like_sum}
use Rattle.fm_poly.proofs.OrderedTerms.{Below, Falls, Listed, below_trans, listed_append, meaning_append, meaning_cons, canonical_empty}
use Rattle.fm_poly.proofs.MergeSteps.{meaning_like, canonical_kept}
use Rattle.fm_poly.proofs.KeptTerms.{lists_unique}
use Rattle.fm_text.specs.SumOfTerms.{placed, inserted, sum_of_terms, polynomial_of_terms}

module _ (r : Ring) where
  abbrev plus : Polynomial r.prime r.vars → Polynomial r.prime r.vars → Polynomial r.prime r.vars
  plus f g = polynomial_sum r.prime r.vars f g

  abbrev term : Term → Polynomial r.prime r.vars
  term t = polynomial_term r.prime r.vars t.coeff t.mono

  -- ---- the meaning
  swapped : (t u : Term) (us : List Term) → meaning r (t ∷ u ∷ us) ≡ meaning r (u ∷ t ∷ us)
  unfolding meaning
  swapped t u us = of_swap r.prime r.vars (t.mono, t.coeff) (u.mono, u.coeff) (pairs us)

  dropped : (t : Term) (us : List Term) → t.coeff ≡ 0 → meaning r (t ∷ us) ≡ meaning r us
  unfolding meaning
  dropped t us e = of_drop r.prime r.vars t.mono t.coeff (pairs us) (ap (λ k. k % prime_value r.prime) e ∙ zero-mod (prime_value r.prime))

  behind : (u : Term) (xs ys : List Term) → meaning r xs ≡ meaning r ys → meaning r (u ∷ xs) ≡ meaning r (u ∷ ys)
  behind u xs ys e = meaning_cons r u xs ∙ ap (plus (term u)) e ∙ sym (meaning_cons r u ys)

  added : (t u : Term) (us : List Term) → u.mono ≡ t.mono → meaning r (like_sum r t u ++ us) ≡ meaning r (t ∷ u ∷ us)
  unfolding polynomial_sum
  added t u us e =
      meaning_append r (like_sum r t u) us ∙ ap (λ v. plus v (meaning r us)) (meaning_like r t u e) ∙ (polynomials_laws r.prime r.vars).add_assoc _ _ _
      ∙ ap (plus (term t)) (sym (meaning_cons r u us)) ∙ sym (meaning_cons r t (u ∷ us))

  placed_means : (t u : Term) (us later : List Term) (o : Ordering) → monomial_cmp r.order t.mono u.mono ≡ o → meaning r later ≡ meaning r (t ∷ us)
      → meaning r (placed r o t u us later) ≡ meaning r (t ∷ u ∷ us)
  placed_means t u us later Greater e h = refl
  placed_means t u us later Equal e h = added t u us (sym (monomial_cmp_exact r.order t.mono u.mono e))
  placed_means t u us later Less e h = behind u later (t ∷ us) h ∙ swapped u t us

  pub inserted_means : (t : Term) (us : List Term) → meaning r (inserted r t us) ≡ meaning r (t ∷ us)
  inserted_means t [] = refl
  inserted_means t (u ∷ us) = placed_means t u us (inserted r t us) (monomial_cmp r.order t.mono u.mono) refl (inserted_means t us)

  -- ---- the terms
  placed_listed : (t u : Term) (us later : List Term) (o : Ordering) → length t.mono ≡ r.vars → 0 < t.coeff → t.coeff < prime_value r.prime
      → Listed r.prime r.vars (u ∷ us) → Listed r.prime r.vars later → Listed r.prime r.vars (placed r o t u us later)
  placed_listed t u us later Greater l positive below w v = (l, positive, below, w)
  placed_listed t u us later Equal l positive below w v =
      listed_append r.prime r.vars (like_sum r t u) us (canonical_kept r (record { mono = t.mono; coeff = (t.coeff + u.coeff) % prime_value r.prime }) l
      (mod_below (t.coeff + u.coeff) (prime_value r.prime) (prime_positive r.prime))).listed w.3
  placed_listed t u us later Less l positive below w v = (w.0, w.1, w.2, v)

  inserted_listed : (t : Term) (us : List Term) → length t.mono ≡ r.vars → 0 < t.coeff → t.coeff < prime_value r.prime
      → Listed r.prime r.vars us → Listed r.prime r.vars (inserted r t us)
  inserted_listed t [] l positive below w = (l, positive, below, tt)
  inserted_listed t (u ∷ us) l positive below w =
      placed_listed t u us (inserted r t us) (monomial_cmp r.order t.mono u.mono) l positive below w (inserted_listed t us l positive below w.3)

  kept_below : (a : List ℕ) (z : Term) (us : List Term) (b : Bool) → monomial_cmp r.order z.mono a ≡ Less → Below r.order a us → Below r.order a ((if b then [] else z ∷ []) ++ us)
  kept_below a z us true h w = w
  kept_below a z us false h w = (h, w)

  placed_below : (a : List ℕ) (t u : Term) (us later : List Term) (o : Ordering) → monomial_cmp r.order t.mono a ≡ Less → Below r.order a (u ∷ us) → Below r.order a later
      → Below r.order a (placed r o t u us later)
  placed_below a t u us later Greater h w v = (h, w)
  placed_below a t u us later Equal h w v =
      kept_below a (record { mono = t.mono; coeff = (t.coeff + u.coeff) % prime_value r.prime }) us ((t.coeff + u.coeff) % prime_value r.prime == 0) h w.1
  placed_below a t u us later Less h w v = (w.0, v)

  inserted_below : (a : List ℕ) (t : Term) (us : List Term) → monomial_cmp r.order t.mono a ≡ Less → Below r.order a us → Below r.order a (inserted r t us)
  inserted_below a t [] h w = (h, tt)
  inserted_below a t (u ∷ us) h w = placed_below a t u us (inserted r t us) (monomial_cmp r.order t.mono u.mono) h w (inserted_below a t us h w.1)

  kept_falls : (z : Term) (us : List Term) (b : Bool) → Below r.order z.mono us → Falls r.order us → Falls r.order ((if b then [] else z ∷ []) ++ us)
  kept_falls z us true h w = w
  kept_falls z us false h w = (h, w)

  placed_falls : (t u : Term) (us later : List Term) (o : Ordering) → monomial_cmp r.order t.mono u.mono ≡ o → Falls r.order (u ∷ us)
      → (monomial_cmp r.order t.mono u.mono ≡ Less → Below r.order u.mono later) → Falls r.order later → Falls r.order (placed r o t u us later)
  placed_falls t u us later Greater e w h v =
      let below : monomial_cmp r.order u.mono t.mono ≡ Less = monomial_cmp_flip r.order u.mono t.mono ∙ ap ordering_reverse e in
      ((below, below_trans r.order t.mono u.mono us below w.0), w)
  placed_falls t u us later Equal e w h v =
      kept_falls (record { mono = t.mono; coeff = (t.coeff + u.coeff) % prime_value r.prime }) us ((t.coeff + u.coeff) % prime_value r.prime == 0)
      (let P : List ℕ → Type 0 = λ a. Below r.order a us in subst P (sym (monomial_cmp_exact r.order t.mono u.mono e)) w.0) w.1
  placed_falls t u us later Less e w h v = (h e, v)

  inserted_falls : (t : Term) (us : List Term) → Falls r.order us → Falls r.order (inserted r t us)
  inserted_falls t [] w = (tt, tt)
  inserted_falls t (u ∷ us) w =
      placed_falls t u us (inserted r t us) (monomial_cmp r.order t.mono u.mono) refl w (λ e. inserted_below u.mono t us e w.0) (inserted_falls t us w.1)

  pub inserted_canonical : (t : Term) (us : List Term) → IsTermOf r t → 0 < t.coeff → IsCanonical r us → IsCanonical r (inserted r t us)
  inserted_canonical t us fits positive c =
      record { listed = inserted_listed t us fits.fits positive fits.below c.listed; falls = inserted_falls t us c.falls }

  -- ---- the sum
  positive : (c : ℕ) → (c == 0) ≡ false → 0 < c
  positive c e = grind (arith, nat_tests)

  chosen_canonical : (t : Term) (us : List Term) (b : Bool) → (t.coeff == 0) ≡ b → IsTermOf r t → IsCanonical r us → IsCanonical r (if b then us else inserted r t us)
  chosen_canonical t us true e fits c = c
  chosen_canonical t us false e fits c = inserted_canonical t us fits (positive t.coeff e) c

  pub sum_canonical : (ts : List Term) → All (IsTermOf r) ts → IsCanonical r (sum_of_terms r ts)
  unfolding sum_of_terms
  sum_canonical [] w = canonical_empty r
  sum_canonical (t ∷ ts) w = chosen_canonical t (sum_of_terms r ts) (t.coeff == 0) refl (w 0 t (omega arith)) (sum_canonical ts (λ k d below. w (suc k) d (omega arith)))

  chosen_means : (t : Term) (us ts : List Term) (b : Bool) → (t.coeff == 0) ≡ b → meaning r us ≡ meaning r ts → meaning r (if b then us else inserted r t us) ≡ meaning r (t ∷ ts)
  chosen_means t us ts true e h = h ∙ sym (dropped t ts (eqb-true t.coeff 0 e))
  chosen_means t us ts false e h = inserted_means t us ∙ behind t us ts h

  pub sum_means : (ts : List Term) → meaning r (sum_of_terms r ts) ≡ meaning r ts
  unfolding sum_of_terms
  sum_means [] = refl
  sum_means (t ∷ ts) = chosen_means t (sum_of_terms r ts) ts (t.coeff == 0) refl (sum_means ts)

-- a polynomial that is the sum of the terms is kept as their sum
pub sum_is : (r : Ring) (f : PolyValue) (ts : List Term) → f.ring ≡ r → IsCanonical f.ring f.terms → meaning r f.terms ≡ meaning r ts → All (IsTermOf r) ts
    → f ≡ polynomial_of_terms r ts
sum_is r f ts e c m w i = record {
  ring = e i;
  terms = lists_unique r f.terms (sum_of_terms r ts) (let P : Ring → Type 0 = λ q. IsCanonical q f.terms in subst P e c) (sum_canonical r ts w) (m ∙ sym (sum_means r ts)) i;
}
