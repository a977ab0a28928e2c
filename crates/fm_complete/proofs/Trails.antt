-- A head reduction keeps the trail: the quotients fall
use Rattle.std.proofs.Common.{ℕ, ◌==◌, ◌<◌, ◌≡◌, inl, inr, if◌then◌else◌, Bool, true, false, List, [], ◌∷◌, ◌++◌, length, refl, sym, ap, ◌∙◌, subst, arith, append-nil}
use Rattle.std.proofs.lemmas.Bool.{eqb-true}
use Rattle.std.specs.declared.cmp.Ordering.TheVariants.{Less}
use Rattle.fm_tuple.specs.Tuple.{tuple_sum}
use Rattle.fm_gfp.specs.Primes.{prime_value}
use Rattle.fm_mono.specs.declared.order.Order.{Order}
use Rattle.fm_mono.specs.Orders.{monomial_cmp}
use Rattle.fm_mono.proofs.OrderLaws.{monomial_cmp_sum}
use Rattle.fm_algebra.specs.Heads.{AllLess, IsFalling}
use Rattle.fm_algebra.specs.Polynomials.{AreListedTerms}
use Rattle.fm_poly.specs.declared.ring.Ring.{Ring}
use Rattle.fm_poly.specs.declared.term.Term.{Term}
use Rattle.fm_poly.specs.Polys.{pairs, IsCanonical}
use Rattle.fm_term.specs.declared.vterm.VTerm.{VTerm}
use Rattle.fm_term.specs.Places.{term_cmp, AllBelow}
use Rattle.fm_vec.specs.Vectors.{IsVector}
use Rattle.fm_term.specs.Multiples.{multiple_term}
use Rattle.fm_term.proofs.Places.{less_place}
use Rattle.fm_vec.proofs.Adding.{below_same}
use Rattle.fm_term.proofs.Falling.{below_trans}
use Rattle.fm_complete.specs.declared.step.Step.{Step}
use Rattle.fm_complete.specs.Divisors.{term_divides, step_for}
use Rattle.fm_complete.specs.Reductions.{cancelled}
use Rattle.fm_complete.specs.Divisions.{quotient_terms}
use Rattle.fm_complete.specs.Trails.{member_at, IsStepAbove, AreStepsAbove, IsTrail}
use Rattle.fm_complete.proofs.Heads.{IsFound, divides_component}
use Rattle.fm_complete.proofs.Cancelling.{step_below, step_some, step_length, step_product_mono, tie_turned, cancelled_below}

-- ---- lists of terms with one more at the end
abbrev AllMonosAbove : Order → List ℕ → List Term → Type 0
AllMonosAbove o m [] = Unit {0}
AllMonosAbove o m (x ∷ xs) = (monomial_cmp o m x.mono ≡ Less) × AllMonosAbove o m xs

module _ (r : Ring) where
  less_push : (a : List ℕ) (ts : List Term) (u : Term) → monomial_cmp r.order u.mono a ≡ Less → AllLess (monomial_cmp r.order) a (pairs ts)
      → AllLess (monomial_cmp r.order) a (pairs (ts ++ u ∷ []))
  less_push a [] u h w = (h, tt)
  less_push a (t ∷ ts) u h w = (w.0, less_push a ts u h w.1)

  falls_push : (ts : List Term) (u : Term) → AllMonosAbove r.order u.mono ts → IsFalling (monomial_cmp r.order) (pairs ts) → IsFalling (monomial_cmp r.order) (pairs (ts ++ u ∷ []))
  falls_push [] u h w = (tt, tt)
  falls_push (t ∷ ts) u h w = (less_push t.mono ts u h.0 w.0, falls_push ts u h.1 w.1)

  listed_push : (ts : List Term) (u : Term) → length u.mono ≡ r.vars → 0 < u.coeff → u.coeff < prime_value r.prime → AreListedTerms r.prime r.vars (pairs ts)
      → AreListedTerms r.prime r.vars (pairs (ts ++ u ∷ []))
  listed_push [] u l some below w = (l, some, below, tt)
  listed_push (t ∷ ts) u l some below w = (w.0, w.1, w.2, listed_push ts u l some below w.3)

  canonical_push : (ts : List Term) (u : Term) → length u.mono ≡ r.vars → 0 < u.coeff → u.coeff < prime_value r.prime → AllMonosAbove r.order u.mono ts
      → IsCanonical r ts → IsCanonical r (ts ++ u ∷ [])
  canonical_push ts u l some below h c = record { listed = listed_push ts u l some below c.listed; falls = falls_push ts u h c.falls }

  -- ---- quotients with one more step
  quotient_push : (number : ℕ) (ss : List Step) (s : Step) → quotient_terms number (ss ++ s ∷ []) ≡ quotient_terms number ss ++ quotient_terms number (s ∷ [])
  quotient_push number [] s = refl
  quotient_push number (x ∷ ss) s = go (x.number == number) (quotient_push number ss s)
    where
      u : Term
      u = record { mono = x.mono; coeff = x.coeff }

      go : (b : Bool) → quotient_terms number (ss ++ s ∷ []) ≡ quotient_terms number ss ++ quotient_terms number (s ∷ [])
          → (if b then record { mono = x.mono; coeff = x.coeff } ∷ quotient_terms number (ss ++ s ∷ []) else quotient_terms number (ss ++ s ∷ []))
          ≡ (if b then record { mono = x.mono; coeff = x.coeff } ∷ quotient_terms number ss else quotient_terms number ss) ++ quotient_terms number (s ∷ [])
      go true e = ap (λ z. record { mono = x.mono; coeff = x.coeff } ∷ z) e
      go false e = e

  module _ (members : List (List VTerm)) where
    -- ---- what was cancelled is above what is left
    above_next : (ss : List Step) (t : VTerm) (ts w : List VTerm) → AllBelow r.order t w → AreStepsAbove r members ss (t ∷ ts) → AreStepsAbove r members ss w
    above_next [] t ts w h a = tt
    above_next (x ∷ ss) t ts w h a = (a.0, go (member_at members x.number) a.1, above_next ss t ts w h a.2)
      where
        go : (g : List VTerm) → IsStepAbove r x g (t ∷ ts) → IsStepAbove r x g w
        go [] k = tt
        go (b ∷ bs) k = below_trans r.order (multiple_term r.prime x.coeff x.mono b) t w k.0 h

    above_push : (ss : List Step) (s : Step) (w : List VTerm) → length s.mono ≡ r.vars → IsStepAbove r s (member_at members s.number) w
        → AreStepsAbove r members ss w → AreStepsAbove r members (ss ++ s ∷ []) w
    above_push [] s w l h a = (l, h, tt)
    above_push (x ∷ ss) s w l h a = (a.0, a.1, above_push ss s w l h a.2)

    -- ---- the step's monomial is below those of earlier steps with its member
    module _ (s : Step) (b t : VTerm) (bs ts : List VTerm) (place : member_at members s.number ≡ b ∷ bs) (component : b.component ≡ t.component)
        (product : tuple_sum s.mono b.mono ≡ t.mono) (s_fits : length s.mono ≡ r.vars) (b_fits : length b.mono ≡ r.vars) where
      mono_above : (x : Step) → length x.mono ≡ r.vars → term_cmp r.order t (multiple_term r.prime x.coeff x.mono b) ≡ Less → monomial_cmp r.order s.mono x.mono ≡ Less
      mono_above x l e = elim (less_place r.order t (multiple_term r.prime x.coeff x.mono b) e) [
        | inl lower ↦ absurd (omega arith)
        | inr same ↦ sym (monomial_cmp_sum r.order s.mono x.mono b.mono (s_fits ∙ sym b_fits) (l ∙ sym b_fits))
            ∙ ap (λ z. monomial_cmp r.order z (tuple_sum x.mono b.mono)) product ∙ same.1
      ]

      step_above : (x : Step) → length x.mono ≡ r.vars → IsStepAbove r x (member_at members x.number) (t ∷ ts) → x.number ≡ s.number → monomial_cmp r.order s.mono x.mono ≡ Less
      step_above x l h e =
          let at : IsStepAbove r x (b ∷ bs) (t ∷ ts) = subst (λ g. IsStepAbove r x g (t ∷ ts)) (ap (member_at members) e ∙ place) h in
          mono_above x l at.0

      steps_above : (ss : List Step) → AreStepsAbove r members ss (t ∷ ts) → AllMonosAbove r.order s.mono (quotient_terms s.number ss)
      steps_above [] a = tt
      steps_above (x ∷ ss) a = go (x.number == s.number) refl (steps_above ss a.2)
        where
          go : (c : Bool) → (x.number == s.number) ≡ c → AllMonosAbove r.order s.mono (quotient_terms s.number ss)
              → AllMonosAbove r.order s.mono (if c then record { mono = x.mono; coeff = x.coeff } ∷ quotient_terms s.number ss else quotient_terms s.number ss)
          go true e later = (step_above x a.0 a.1 (eqb-true x.number s.number e), later)
          go false e later = later

      quotients_next : (ss : List Step) → 0 < s.coeff → s.coeff < prime_value r.prime → AreStepsAbove r members ss (t ∷ ts)
          → ((number : ℕ) → IsCanonical r (quotient_terms number ss)) → (number : ℕ) → IsCanonical r (quotient_terms number (ss ++ s ∷ []))
      quotients_next ss some below a q number = subst (IsCanonical r) (sym (quotient_push number ss s)) (go (s.number == number) refl)
        where
          u : Term
          u = record { mono = s.mono; coeff = s.coeff }

          go : (c : Bool) → (s.number == number) ≡ c
              → IsCanonical r (quotient_terms number ss ++ (if c then record { mono = s.mono; coeff = s.coeff } ∷ [] else []))
          go true e =
              let same : s.number ≡ number = eqb-true s.number number e in
              canonical_push (quotient_terms number ss) (record { mono = s.mono; coeff = s.coeff }) s_fits some below
              (subst (λ k. AllMonosAbove r.order s.mono (quotient_terms k ss)) same (steps_above ss a)) (q number)
          go false e = subst (IsCanonical r) (sym (append-nil (quotient_terms number ss))) (q number)

    -- ---- a step
    made_at : (n number : ℕ) (ss : List Step) (b t : VTerm) (bs ts : List VTerm) → term_divides b t ≡ true → member_at members number ≡ b ∷ bs
        → IsVector r n (b ∷ bs) → IsVector r n (t ∷ ts) → IsTrail r members ss (t ∷ ts)
        → IsTrail r members (ss ++ step_for r number b t ∷ []) (cancelled r (step_for r number b t, b ∷ bs) (t ∷ ts))
    made_at n number ss b t bs ts d place v w trail =
        let s : Step = step_for r number b t in
        let left : List VTerm = cancelled r (step_for r number b t, b ∷ bs) (t ∷ ts) in
        let l : length s.mono ≡ r.vars = step_length r number b t v.proper.0 w.proper.0 d in
        let below : AllBelow r.order t left = cancelled_below r number b t v.proper.0 w.proper.0 d bs ts v.proper.1 v.falls.0 w.falls.0 in
        record {
          quotients = quotients_next s b t bs ts place (divides_component b t d) (step_product_mono r number b t v.proper.0 w.proper.0 d) l v.proper.0.fits
              ss (step_some r number b t v.proper.0 w.proper.0 d) (step_below r number b t v.proper.0 w.proper.0 d) trail.above trail.quotients;
          above = above_push ss s left l
              (subst (λ g. IsStepAbove r s g left) (sym place)
              (below_same r.order (multiple_term r.prime s.coeff s.mono b) t left (tie_turned r number b t v.proper.0 w.proper.0 d s.coeff) below))
              (above_next ss t ts left below trail.above);
        }

    pub trail_next : (n : ℕ) (ss : List Step) (s : Step) (g : List VTerm) (t : VTerm) (ts : List VTerm) → IsFound r members t s g → IsVector r n g → IsVector r n (t ∷ ts)
        → IsTrail r members ss (t ∷ ts) → IsTrail r members (ss ++ s ∷ []) (cancelled r (s, g) (t ∷ ts))
    trail_next n ss s g t ts f v w trail =
        subst (λ (x : Step). IsTrail r members (ss ++ x ∷ []) (cancelled r (x, g) (t ∷ ts))) (sym f.step)
        (subst (λ y. IsTrail r members (ss ++ step_for r s.number f.head t ∷ []) (cancelled r (step_for r s.number f.head t, y) (t ∷ ts))) (sym f.is)
        (made_at n s.number ss f.head t f.tail ts f.divides (f.place ∙ f.is) (subst (IsVector r n) f.is v) w trail))

  pub trail_start : (members : List (List VTerm)) (v : List VTerm) → IsTrail r members [] v
  trail_start members v = record { quotients = λ number. record { listed = tt; falls = tt }; above = tt }
