-- One member of length 1: the rest is zero exactly where the member divides
use Rattle.std.proofs.Common.{ℕ, ◌+◌, ◌≤◌, ◌≡◌, ◌↔◌, inl, inr, if◌then◌else◌, List, [], ◌∷◌, length, Ok, refl, sym, ap, ◌∙◌, subst, arith, eq-eqb}
use Rattle.fm_tuple.specs.Tuple.{tuple_sum, TupleDivides}
use Rattle.fm_mono.specs.Orders.{monomial_cmp}
use Rattle.fm_algebra.specs.Polynomials.{polynomial_zero, polynomial_sum, polynomial_product, polynomial_negative, HasHead}
use Rattle.fm_algebra.proofs.Algebra.{neg_mul}
use Rattle.fm_algebra.proofs.Concrete.{polynomials_laws}
use Rattle.fm_algebra.proofs.HeadWords.{zero_or_has_head}
use Rattle.fm_poly.specs.declared.ring.Ring.{Ring}
use Rattle.fm_poly.specs.declared.term.Term.{Term}
use Rattle.fm_poly.specs.Polys.{meaning, IsCanonical}
use Rattle.fm_poly.proofs.OrderedTerms.{monomial_order}
use Rattle.fm_poly.proofs.KeptTerms.{zero_list, first_term_head, head_of_product, one_head}
use Rattle.fm_term.specs.declared.vterm.VTerm.{VTerm}
use Rattle.fm_term.specs.Falling.{AreWithin}
use Rattle.fm_vec.specs.Vectors.{IsVector}
use Rattle.fm_vec.specs.Components.{component_terms, component_meaning}
use Rattle.fm_vec.proofs.Components.{component_canonical}
use Rattle.fm_vec.proofs.Meaning.{Value, nothing, plus, times, part, part_none, nothing_plus, plus_nothing, plus_assoc, plus_times, nothing_times}
use Rattle.fm_complete.specs.Reductions.{Reduced, divided}
use Rattle.fm_complete.specs.Divisions.{quotient_terms}
use Rattle.fm_complete.specs.Combinations.{combination, IsReduced}
use Rattle.fm_complete.proofs.DivisionLaw.{Divided, division_says}

divides_product : (a b : List ℕ) → length a ≡ length b → TupleDivides b (tuple_sum a b)
divides_product [] [] l = tt
divides_product [] (j ∷ b) l = absurd (omega arith)
divides_product (i ∷ a) [] l = absurd (omega arith)
divides_product (i ∷ a) (j ∷ b) l = (at_most i j, divides_product a b (omega arith))
  where
    at_most : (i j : ℕ) → j ≤ i + j
    at_most i j = omega arith

module _ (r : Ring) where
  abbrev minus : Value r → Value r
  minus f = polynomial_negative r.prime r.vars f

  minus_times : (f g : Value r) → times r (minus f) g ≡ minus (times r f g)
  unfolding polynomial_product polynomial_negative
  minus_times f g = neg_mul (polynomials_laws r.prime r.vars) f g

  minus_plus : (f : Value r) → plus r (minus f) f ≡ nothing r
  unfolding polynomial_sum polynomial_negative polynomial_zero
  minus_plus f = (polynomials_laws r.prime r.vars).neg_add f

  -- what is left of a multiple is a multiple
  difference : (q q' f rest v : Value r) → plus r (times r q' f) rest ≡ v → v ≡ times r q f → rest ≡ times r (plus r (minus q') q) f
  difference q q' f rest v e h =
      sym (nothing_plus r rest) ∙ ap (λ x. plus r x rest) (sym (minus_plus (times r q' f))) ∙ plus_assoc r (minus (times r q' f)) (times r q' f) rest
      ∙ ap (plus r (minus (times r q' f))) (e ∙ h) ∙ ap (λ x. plus r x (times r q f)) (sym (minus_times q' f)) ∙ sym (plus_times r (minus q') q f)

  -- ---- heads of a vector of length 1
  only_component : (t : VTerm) (ts : List VTerm) → AreWithin 1 (t ∷ ts) → t.component ≡ 1
  only_component t ts w = omega (arith, w.0, w.1)

  first_term : (t : VTerm) (ts : List VTerm) → AreWithin 1 (t ∷ ts) → component_terms 1 (t ∷ ts) ≡ record { mono = t.mono; coeff = t.coeff } ∷ component_terms 1 ts
  first_term t ts w =
      ap (λ b. if b then record { mono = t.mono; coeff = t.coeff } ∷ component_terms 1 ts else component_terms 1 ts) (eq-eqb t.component 1 (only_component t ts w))

  head_is : (t : VTerm) (ts : List VTerm) → IsVector r 1 (t ∷ ts) → HasHead r.prime r.vars (monomial_cmp r.order) (part r 1 (t ∷ ts)) t.mono
  unfolding component_meaning
  head_is t ts v =
      let first = first_term t ts v.within in
      subst (λ us. HasHead r.prime r.vars (monomial_cmp r.order) (meaning r us) t.mono) (sym first)
      (first_term_head r (record { mono = t.mono; coeff = t.coeff }) (component_terms 1 ts) (subst (IsCanonical r) first (component_canonical r 1 (t ∷ ts) v.falls v.proper)))

  not_nothing : (t : VTerm) (ts : List VTerm) → IsVector r 1 (t ∷ ts) → part r 1 (t ∷ ts) ≡ nothing r → ⊥
  unfolding component_meaning
  not_nothing t ts v e = filled (sym (first_term t ts v.within) ∙ (zero_list r (component_terms 1 (t ∷ ts)) (component_canonical r 1 (t ∷ ts) v.falls v.proper)).1 e)
    where
      filled : {x : Term} {xs : List Term} → x ∷ xs ≡ [] → ⊥
      filled h = cc

  head_length : (f : Value r) (a : List ℕ) → HasHead r.prime r.vars (monomial_cmp r.order) f a → length a ≡ r.vars
  unfolding HasHead
  head_length f a k = k.fits

  -- the head of a nonzero multiple is divisible
  multiple_head : (b t : VTerm) (bs ts : List VTerm) → IsVector r 1 (b ∷ bs) → IsVector r 1 (t ∷ ts) → (h : Value r) → part r 1 (t ∷ ts) ≡ times r h (part r 1 (b ∷ bs)) → TupleDivides b.mono t.mono
  multiple_head b t bs ts v w h e = elim (zero_or_has_head r.prime r.vars (monomial_cmp r.order) (monomial_order r.order) h) [
    | inl none ↦ absurd (not_nothing t ts w (e ∙ ap (λ x. times r x (part r 1 (b ∷ bs))) none ∙ nothing_times r (part r 1 (b ∷ bs))))
    | inr some ↦ divides some.0 (length_of some.0 some.1) (one_head r.prime r.vars r.order (part r 1 (t ∷ ts)) (tuple_sum some.0 b.mono) t.mono
        (subst (λ f. HasHead r.prime r.vars (monomial_cmp r.order) f (tuple_sum some.0 b.mono)) (sym e) (head_of_product r.prime r.vars r.order h (part r 1 (b ∷ bs)) some.0 b.mono some.1 (head_is b bs v)))
        (head_is t ts w))
  ]
    where
      length_of : (a : List ℕ) → HasHead r.prime r.vars (monomial_cmp r.order) h a → length a ≡ length b.mono
      length_of a k = head_length h a k ∙ sym v.proper.0.fits

      divides : (a : List ℕ) → length a ≡ length b.mono → tuple_sum a b.mono ≡ t.mono → TupleDivides b.mono t.mono
      divides a l s = subst (TupleDivides b.mono) s (divides_product a b.mono l)

  -- ---- the division by one member
  pub one_member : (f : List VTerm) (x : Reduced) (v : List VTerm) → Divided r 1 (f ∷ []) v x → plus r (times r (meaning r (quotient_terms 1 x.steps)) (part r 1 f)) (part r 1 x.rest) ≡ part r 1 v
  unfolding combination
  one_member f x v d = ap (λ y. plus r y (part r 1 x.rest)) (sym (plus_nothing r (times r (meaning r (quotient_terms 1 x.steps)) (part r 1 f)))) ∙ d.whole 1

  zero_rest : (b : VTerm) (bs : List VTerm) (rest : List VTerm) (h : Value r) → IsVector r 1 (b ∷ bs) → IsVector r 1 rest → IsReduced ((b ∷ bs) ∷ []) rest
      → part r 1 rest ≡ times r h (part r 1 (b ∷ bs)) → rest ≡ []
  zero_rest b bs [] h v w d e = refl
  zero_rest b bs (t ∷ ts) h v w d e =
      absurd (d.0 (only_component b bs v.within ∙ sym (only_component t ts w.within)) (multiple_head b t bs ts v w h e))

  pub principal : (u left : ℕ) (b : VTerm) (bs v : List VTerm) (x : Reduced) → IsVector r 1 (b ∷ bs) → IsVector r 1 v → divided r ((b ∷ bs) ∷ []) u v ≡ record { end = Ok x; left = left }
      → (x.rest ≡ []) ↔ ((q : Value r) × (part r 1 v ≡ times r q (part r 1 (b ∷ bs))))
  principal u left b bs v x f w e =
      let d = division_says r 1 ((b ∷ bs) ∷ []) (f, tt) u left v x w e in
      let whole = one_member (b ∷ bs) x v d in (
        λ none. (meaning r (quotient_terms 1 x.steps), sym whole ∙ ap (plus r (times r (meaning r (quotient_terms 1 x.steps)) (part r 1 (b ∷ bs)))) (ap (part r 1) none ∙ part_none r 1) ∙ plus_nothing r _),
        λ q. zero_rest b bs x.rest (plus r (minus (meaning r (quotient_terms 1 x.steps))) q.0) f d.vector d.reduced
            (difference q.0 (meaning r (quotient_terms 1 x.steps)) (part r 1 (b ∷ bs)) (part r 1 x.rest) (part r 1 v) whole q.1),
      )
