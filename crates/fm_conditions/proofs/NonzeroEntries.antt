-- The first entries of columns that aren't zero.
use Rattle.std.proofs.Common.{◌≡◌, Bool, true, false, not, cond, List, [], ◌∷◌, ◌++◌, length, take, refl, sym, ap, ◌∙◌, arith}
use Rattle.std.proofs.lemmas.List.{append_assoc}
use Rattle.std.specs.Prelude.{Option, is_some}
use Rattle.fm_algebra.specs.Matrix.{component}
use Rattle.fm_algebra.specs.Polynomials.{Polynomial, polynomials, polynomial_zero}
use Rattle.fm_poly.specs.Polys.{PolyValue, meaning}
use Rattle.fm_poly.specs.declared.ring.Ring.{Ring}
use Rattle.fm_term.specs.declared.vterm.VTerm.{VTerm}
use Rattle.fm_term.specs.Falling.{head_of}
use Rattle.fm_graphs.specs.Listing.{VectorOf, terms_of}
use Rattle.fm_graphs.specs.Trims.{is_zero, is_nonzero}
use Rattle.fm_mat.specs.Matrices.{column_meaning, columns_meaning}
use Rattle.fm_conditions.specs.Listings.{nonzeros}
use Rattle.fm_conditions.proofs.AboveZeros.{zeros_only}

pub head_there : (ts : List VTerm) → is_some (head_of ts) ≡ not (is_zero ts)
head_there [] = refl
head_there (t ∷ ts) = refl

module _ (r : Ring) where
  -- the zero polynomial is none
  zero_is : is_nonzero r (polynomial_zero r.prime r.vars ∷ []) ≡ false
  zero_is = ap (λ ts. not (is_zero ts)) (zeros_only r 1)

  kept : (b : Bool) (f : Polynomial r.prime r.vars) (fs : VectorOf r) → cond b (f ∷ fs) fs ≡ cond b (f ∷ []) [] ++ fs
  kept true f fs = refl
  kept false f fs = refl

  -- a column before the others
  pub nonzeros_more : (c : VectorOf r) (cs : List (VectorOf r)) → nonzeros r (c ∷ cs) ≡ nonzeros r (c ∷ []) ++ nonzeros r cs
  nonzeros_more c cs =
      let f = component (polynomials r.prime r.vars) c 0 in kept (is_nonzero r (f ∷ [])) f (nonzeros r cs)

  -- a column without entries
  pub none_in_empty : nonzeros r ([] ∷ []) ≡ []
  unfolding component polynomial_zero
  none_in_empty = ap (λ b. cond b (polynomial_zero r.prime r.vars ∷ []) []) zero_is

  -- a column whose first entry this is
  pub first_only : (f : PolyValue) (fs : List PolyValue) (b : Bool) → b ≡ is_nonzero r (meaning r f.terms ∷ []) → nonzeros r (column_meaning r (f ∷ fs) ∷ []) ≡ cond b (meaning r f.terms ∷ []) []
  unfolding component
  first_only f fs b e = ap (λ x. cond x (meaning r f.terms ∷ []) []) (sym e)

  joined : (out : List PolyValue) (f : PolyValue) → column_meaning r (out ++ f ∷ []) ≡ column_meaning r out ++ meaning r f.terms ∷ []
  joined [] f = refl
  joined (g ∷ out) f = ap (λ l. meaning r g.terms ∷ l) (joined out f)

  nothing_more : (out : VectorOf r) → out ≡ out ++ []
  nothing_more [] = refl
  nothing_more (g ∷ out) = ap (λ l. g ∷ l) (nothing_more out)

  pub pushed : (f g : PolyValue) (fs out out' : List PolyValue) → true ≡ is_nonzero r (meaning r f.terms ∷ []) → g ≡ f → out' ≡ out ++ g ∷ [] → column_meaning r out' ≡ column_meaning r out ++ nonzeros r (column_meaning r (f ∷ fs) ∷ [])
  pushed f g fs out out' e copy made =
      ap (column_meaning r) made ∙ joined out g ∙ ap (λ (x : PolyValue). column_meaning r out ++ meaning r x.terms ∷ []) copy
      ∙ ap (λ v. column_meaning r out ++ v) (sym (first_only f fs true e))

  pub passed : (f : PolyValue) (fs out : List PolyValue) → false ≡ is_nonzero r (meaning r f.terms ∷ []) → column_meaning r out ≡ column_meaning r out ++ nonzeros r (column_meaning r (f ∷ fs) ∷ [])
  passed f fs out e = nothing_more (column_meaning r out) ∙ ap (λ v. column_meaning r out ++ v) (sym (first_only f fs false e))

  pub passed_empty : (out : List PolyValue) → column_meaning r out ≡ column_meaning r out ++ nonzeros r ([] ∷ [])
  passed_empty out = nothing_more (column_meaning r out) ∙ ap (λ v. column_meaning r out ++ v) (sym none_in_empty)

  -- a column after those that were taken
  pub column_taken : (c : List PolyValue) (later : List (List PolyValue)) (out out' : List PolyValue) (all : VectorOf r) → column_meaning r out' ≡ column_meaning r out ++ nonzeros r (column_meaning r c ∷ [])
      → column_meaning r out ++ nonzeros r (columns_meaning r (c ∷ later)) ≡ all → column_meaning r out' ++ nonzeros r (columns_meaning r later) ≡ all
  column_taken c later out out' all e h =
      ap (λ v. v ++ nonzeros r (columns_meaning r later)) e ∙ append_assoc (column_meaning r out) (nonzeros r (column_meaning r c ∷ [])) (nonzeros r (columns_meaning r later))
      ∙ ap (λ v. column_meaning r out ++ v) (sym (nonzeros_more (column_meaning r c) (columns_meaning r later))) ∙ h

  -- what the head of the vector with the first entry tells
  pub seen : (entries later first : List PolyValue) (f : PolyValue) (ts : List VTerm) (o : Option VTerm) (b : Bool) → entries ≡ f ∷ later → first ≡ take 1 entries → ts ≡ terms_of r (column_meaning r first)
      → o ≡ head_of ts → b ≡ is_some o → b ≡ is_nonzero r (meaning r f.terms ∷ [])
  seen entries later first f ts o b e front is head test =
      test ∙ ap (λ (x : Option VTerm). is_some x) head ∙ head_there ts ∙ ap (λ (x : List VTerm). not (is_zero x)) (is ∙ ap (λ (fs : List PolyValue). terms_of r (column_meaning r fs)) (front ∙ ap (take 1) e))

  pub passed_none : (entries out : List PolyValue) → length entries ≡ 0 → column_meaning r out ≡ column_meaning r out ++ nonzeros r (column_meaning r entries ∷ [])
  passed_none [] out e = passed_empty out
  passed_none (f ∷ fs) out e = absurd (omega (arith, e))
