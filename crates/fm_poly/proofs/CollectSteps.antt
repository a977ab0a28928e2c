-- Terms in any order, summed by halves
use Rattle.std.proofs.Common.{◌≡◌, List, [], ◌∷◌, ◌++◌, length, ap, ap₂, sym, ◌∙◌}
use Rattle.std.proofs.lemmas.List.{nil_from_length}
use Rattle.fm_algebra.specs.Polynomials.{polynomial_sum}
use Rattle.fm_poly.specs.declared.ring.Ring.{Ring}
use Rattle.fm_poly.specs.declared.term.Term.{Term}
use Rattle.fm_poly.specs.Polys.{meaning}
use Rattle.fm_poly.specs.Steps.{kept}
use Rattle.fm_poly.proofs.OrderedTerms.{meaning_append}
use Rattle.fm_poly.proofs.MergeSteps.{meaning_kept, meaning_one}

module _ (r : Ring) where
  -- the sum of two lists, read through other names for them
  pub merged : (f f' g g' h : List Term) → f' ≡ f → g' ≡ g → meaning r h ≡ polynomial_sum r.prime r.vars (meaning r f') (meaning r g')
      → meaning r h ≡ polynomial_sum r.prime r.vars (meaning r f) (meaning r g)
  merged f f' g g' h ef eg eh = eh ∙ ap₂ (λ x y. polynomial_sum r.prime r.vars (meaning r x) (meaning r y)) ef eg

  pub halves : (all left right f g h : List Term) → all ≡ left ++ right → meaning r f ≡ meaning r left → meaning r g ≡ meaning r right
      → meaning r h ≡ polynomial_sum r.prime r.vars (meaning r f) (meaning r g) → meaning r h ≡ meaning r all
  halves all left right f g h e ef eg eh = eh ∙ ap₂ (polynomial_sum r.prime r.vars) ef eg ∙ sym (meaning_append r left right) ∙ ap (meaning r) (sym e)

  pub one_term : (all : List Term) (t : Term) (later out f : List Term) → all ≡ t ∷ later → length later ≡ 0 → out ≡ [] → f ≡ out ++ kept t → meaning r f ≡ meaning r all
  one_term all t later out f ea el eo ef = ap (meaning r) (ef ∙ ap (λ o. o ++ kept t) eo) ∙ meaning_kept r t ∙ sym (meaning_one r t) ∙ ap (λ us. meaning r (t ∷ us)) (sym (nil_from_length later el)) ∙ ap (meaning r) (sym ea)
