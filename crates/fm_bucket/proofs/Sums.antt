-- What taking off the greatest terms, and adding a list, does to a sum of lists
use Rattle.std.proofs.lemmas.Bool.{eqb-true}
use Rattle.std.proofs.Common.{◌≡◌, ◌<◌, ◌==◌, Bool, true, ℕ, ◌+◌, ◌%◌, List, [], ◌∷◌, length, drop, refl, ap, ap₂, sym, ◌∙◌, subst}
use Rattle.std.proofs.lemmas.List.{nil_from_length}
use Rattle.std.specs.declared.cmp.Ordering.TheVariants.{Less, Equal, Greater}
use Rattle.fm_mono.specs.Orders.{monomial_cmp}
use Rattle.fm_mono.proofs.OrderLaws.{monomial_cmp_exact}
use Rattle.fm_gfp.specs.Primes.{prime_value}
use Rattle.fm_algebra.specs.Ring.{Ring as Operations, IsRing}
use Rattle.fm_algebra.specs.Polynomials.{Polynomial, polynomial_zero, polynomial_sum, polynomial_term}
use Rattle.fm_algebra.proofs.Algebra.{add_left_comm}
use Rattle.fm_algebra.proofs.Concrete.{polynomials_laws}
use Rattle.fm_poly.specs.declared.ring.Ring.{Ring}
use Rattle.fm_poly.specs.declared.term.Term.{Term}
use Rattle.fm_poly.specs.Polys.{meaning, IsCanonical}
use Rattle.fm_poly.specs.Steps.{like_sum}
use Rattle.fm_poly.proofs.OrderedTerms.{meaning_empty, meaning_cons}
use Rattle.fm_poly.proofs.MergeSteps.{meaning_kept, meaning_like}
use Rattle.fm_bucket.specs.Levels.{levels_sum, AreCanonical, IsBelow}

-- ---- sums in a ring
module _ {K : Operations} (L : IsRing K) where
  open K use {Carrier, zero as 𝟘, add as ◌⊕◌}
  open L use {add_assoc, add_comm, zero_add}

  infixl 60 ◌⊕◌
  ring_taken : (c l s d k t e : Carrier) → c ⊕ l ≡ d ⊕ k → d ⊕ s ≡ e ⊕ t → c ⊕ (l ⊕ s) ≡ e ⊕ (k ⊕ t)
  ring_taken c l s d k t e first later =
      sym (add_assoc c l s) ∙ ap (λ x. x ⊕ s) (first ∙ add_comm d k) ∙ add_assoc k d s ∙ ap (λ x. k ⊕ x) later ∙ add_left_comm L k e t

  ring_skipped : (l f s : Carrier) → l ⊕ (f ⊕ s) ≡ f ⊕ (l ⊕ s)
  ring_skipped l f s = add_left_comm L l f s

  ring_merged : (l f s : Carrier) → (l ⊕ f) ⊕ s ≡ f ⊕ (l ⊕ s)
  ring_merged l f s = ap (λ x. x ⊕ s) (add_comm l f) ∙ add_assoc f l s

module _ (r : Ring) where
  abbrev Value : Type 0
  Value = Polynomial r.prime r.vars

  abbrev plus : Value → Value → Value
  plus f g = polynomial_sum r.prime r.vars f g

  abbrev term : ℕ → List ℕ → Value
  term c a = polynomial_term r.prime r.vars c a

  zero_plus : (f : Value) → plus (polynomial_zero r.prime r.vars) f ≡ f
  unfolding polynomial_sum polynomial_zero
  zero_plus f = (polynomials_laws r.prime r.vars).zero_add f

  plus_assoc : (f g h : Value) → plus (plus f g) h ≡ plus f (plus g h)
  unfolding polynomial_sum
  plus_assoc f g h = (polynomials_laws r.prime r.vars).add_assoc f g h

  -- ---- levels
  pub sum_none : levels_sum r [] ≡ polynomial_zero r.prime r.vars
  unfolding levels_sum
  sum_none = refl

  pub sum_cons : (l : List Term) (ls : List (List Term)) → levels_sum r (l ∷ ls) ≡ plus (meaning r l) (levels_sum r ls)
  unfolding levels_sum
  sum_cons l ls = refl

  -- ---- taking off
  like_terms : (c d : ℕ) (a : List ℕ) → plus (term c a) (term d a) ≡ term ((c + d) % prime_value r.prime) a
  like_terms c d a =
      let x : Term = record { mono = a; coeff = c } in
      let y : Term = record { mono = a; coeff = d } in
      let z : Term = record { mono = a; coeff = (c + d) % prime_value r.prime } in
      sym (meaning_like r x y refl) ∙ meaning_kept r z

  pub taken_less : (f ts new : List Term) (t : Term) (m : List ℕ) → IsCanonical r f → f ≡ t ∷ ts → new ≡ drop 1 f → monomial_cmp r.order t.mono m ≡ Equal → IsBelow r.order m new
  taken_less f ts new t m canonical is taken tie =
      subst (IsBelow r.order m) (sym (taken ∙ ap (drop 1) is)) (below ts (subst (IsCanonical r) is canonical))
    where
      below : (us : List Term) → IsCanonical r (t ∷ us) → IsBelow r.order m us
      below [] c = tt
      below (u ∷ us) c = subst (λ a. monomial_cmp r.order u.mono a ≡ Less) (monomial_cmp_exact r.order t.mono m tie) c.falls.0.0

  pub taken_sum : (f ts new : List Term) (t : Term) (m : List ℕ) (c d : ℕ) → f ≡ t ∷ ts → new ≡ drop 1 f → monomial_cmp r.order t.mono m ≡ Equal → d ≡ (c + t.coeff) % prime_value r.prime
      → plus (term c m) (meaning r f) ≡ plus (term d m) (meaning r new)
  taken_sum f ts new t m c d is taken tie total =
      ap (λ g. plus (term c m) (meaning r g)) is ∙ ap (plus (term c m)) (meaning_cons r t ts)
      ∙ ap (λ a. plus (term c m) (plus (term t.coeff a) (meaning r ts))) (monomial_cmp_exact r.order t.mono m tie)
      ∙ sym (plus_assoc (term c m) (term t.coeff m) (meaning r ts))
      ∙ ap (λ x. plus x (meaning r ts)) (like_terms c t.coeff m ∙ ap (λ k. term k m) (sym total))
      ∙ ap (λ g. plus (term d m) (meaning r g)) (sym (taken ∙ ap (drop 1) is))

  pub taken_all : (all new : List (List Term)) (l k : List Term) (ls ks : List (List Term)) (m : List ℕ) (c d e : ℕ) → all ≡ l ∷ ls → new ≡ k ∷ ks
      → plus (term c m) (meaning r l) ≡ plus (term d m) (meaning r k)
      → plus (term d m) (levels_sum r ls) ≡ plus (term e m) (levels_sum r ks)
      → plus (term c m) (levels_sum r all) ≡ plus (term e m) (levels_sum r new)
  unfolding polynomial_sum
  taken_all all new l k ls ks m c d e all_is new_is first later =
      ap (λ x. plus (term c m) (levels_sum r x)) all_is ∙ ap (plus (term c m)) (sum_cons l ls)
      ∙ ring_taken (polynomials_laws r.prime r.vars) _ _ _ _ _ _ _ first later
      ∙ ap (plus (term e m)) (sym (sum_cons k ks)) ∙ ap (λ x. plus (term e m) (levels_sum r x)) (sym new_is)

  -- ---- adding
  pub put_skipped : (all new : List (List Term)) (l f : List Term) (ls ks : List (List Term)) → all ≡ l ∷ ls → new ≡ l ∷ ks
      → levels_sum r ks ≡ plus (meaning r f) (levels_sum r ls) → levels_sum r new ≡ plus (meaning r f) (levels_sum r all)
  unfolding polynomial_sum
  put_skipped all new l f ls ks all_is new_is later =
      ap (levels_sum r) new_is ∙ sum_cons l ks ∙ ap (plus (meaning r l)) later
      ∙ ring_skipped (polynomials_laws r.prime r.vars) (meaning r l) (meaning r f) (levels_sum r ls)
      ∙ ap (plus (meaning r f)) (sym (sum_cons l ls) ∙ ap (levels_sum r) (sym all_is))

  pub put_free : (all new : List (List Term)) (l k f : List Term) (ls : List (List Term)) → all ≡ l ∷ ls → new ≡ k ∷ ls → k ≡ f → length l ≡ 0
      → levels_sum r new ≡ plus (meaning r f) (levels_sum r all)
  put_free all new l k f ls all_is new_is k_is none =
      ap (levels_sum r) new_is ∙ sum_cons k ls ∙ ap (λ x. plus (meaning r x) (levels_sum r ls)) k_is
      ∙ ap (plus (meaning r f)) (sym (zero_plus (levels_sum r ls)) ∙ ap (λ x. plus x (levels_sum r ls)) (sym (ap (meaning r) (nil_from_length l none) ∙ meaning_empty r))
      ∙ sym (sum_cons l ls) ∙ ap (levels_sum r) (sym all_is))

  pub put_merged : (all new : List (List Term)) (l k f g : List Term) (ls : List (List Term)) → all ≡ l ∷ ls → new ≡ k ∷ ls → k ≡ g
      → meaning r g ≡ plus (meaning r l) (meaning r f) → levels_sum r new ≡ plus (meaning r f) (levels_sum r all)
  unfolding polynomial_sum
  put_merged all new l k f g ls all_is new_is k_is merged =
      ap (levels_sum r) new_is ∙ sum_cons k ls ∙ ap (λ x. plus (meaning r x) (levels_sum r ls)) k_is ∙ ap (λ x. plus x (levels_sum r ls)) merged
      ∙ ring_merged (polynomials_laws r.prime r.vars) (meaning r l) (meaning r f) (levels_sum r ls)
      ∙ ap (plus (meaning r f)) (sym (sum_cons l ls) ∙ ap (levels_sum r) (sym all_is))

  pub put_carried : (all new : List (List Term)) (l k f g : List Term) (ls ks : List (List Term)) → all ≡ l ∷ ls → new ≡ k ∷ ks → k ≡ []
      → meaning r g ≡ plus (meaning r l) (meaning r f) → levels_sum r ks ≡ plus (meaning r g) (levels_sum r ls)
      → levels_sum r new ≡ plus (meaning r f) (levels_sum r all)
  unfolding polynomial_sum
  put_carried all new l k f g ls ks all_is new_is k_is merged later =
      ap (levels_sum r) new_is ∙ sum_cons k ks ∙ ap (λ x. plus (meaning r x) (levels_sum r ks)) k_is ∙ ap (λ x. plus x (levels_sum r ks)) (meaning_empty r)
      ∙ zero_plus (levels_sum r ks) ∙ later ∙ ap (λ x. plus x (levels_sum r ls)) merged
      ∙ ring_merged (polynomials_laws r.prime r.vars) (meaning r l) (meaning r f) (levels_sum r ls)
      ∙ ap (plus (meaning r f)) (sym (sum_cons l ls) ∙ ap (levels_sum r) (sym all_is))

  pub merged_is : (l l' f f' g g' : List Term) → l' ≡ l → f' ≡ f → g' ≡ g → meaning r g ≡ plus (meaning r l') (meaning r f') → meaning r g' ≡ plus (meaning r l) (meaning r f)
  merged_is l l' f f' g g' l_is f_is g_is sum = ap (meaning r) g_is ∙ sum ∙ ap₂ (λ x y. plus (meaning r x) (meaning r y)) l_is f_is

  pub none_left : (l l' : List Term) (b : Bool) → l' ≡ l → b ≡ (length l' == 0) → b ≡ true → length l ≡ 0
  none_left l l' b is test said = ap length (sym is) ∙ eqb-true (length l') 0 (sym test ∙ said)
