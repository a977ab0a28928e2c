-- The first entry of a column that isn't zero.
use Rattle.std.proofs.Common.{ℕ, zero, suc, ◌+◌, ◌≡◌, ◌==◌, ◌<◌, Bool, true, false, if◌then◌else◌, Option, Some, List, [], ◌∷◌, ◌++◌, get_or, drop, length, refl, sym, ap, ◌∙◌, subst, arith}
use Rattle.std.proofs.lemmas.List.{append-nil}
use Rattle.std.proofs.lemmas.Bool.{eqb-true}
use Rattle.fm_poly.specs.declared.ring.Ring.{Ring}
use Rattle.fm_poly.specs.declared.term.Term.{Term}
use Rattle.fm_poly.specs.Polys.{PolyValue, IsCanonical, meaning}
use Rattle.fm_vec.specs.Vectors.{IsVector}
use Rattle.fm_vec.specs.Components.{AreOver, placed}
use Rattle.fm_vec.proofs.PlacedTerms.{column_vector}
use Rattle.fm_mat.specs.Matrices.{column_meaning}
use Rattle.fm_graphs.specs.Listing.{terms_of}
use Rattle.fm_graphs.specs.Trims.{is_zero}
use Rattle.fm_plan.specs.Queries.{first_nonzero}
use Rattle.fm_syz.proofs.ColumnTerms.{column_back}

module _ (r : Ring) where
  none : IsVector r 0 []
  none = record { falls = tt; proper = tt; within = tt }

  -- a polynomial is zero where it has no terms
  zero_test : (f : PolyValue) (b : Bool) → f.ring ≡ r → IsCanonical f.ring f.terms → (length f.terms == 0) ≡ b → is_zero (terms_of r (meaning r f.terms ∷ [])) ≡ b
  zero_test f b ring c e =
      ap is_zero (column_back r (f ∷ []) (ring, tt) (column_vector r 0 [] (placed 1 f.terms ++ []) f.terms f (append-nil (placed 1 f.terms)) refl ring c none)) ∙ by f.terms b e
    where
      by : (ts : List Term) (b : Bool) → (length ts == 0) ≡ b → is_zero (placed 1 ts ++ []) ≡ b
      by [] b e = e
      by (t ∷ ts) true e = let h : suc (length ts) ≡ 0 = eqb-true (suc (length ts)) 0 e in absurd (omega (arith, h))
      by (t ∷ ts) false e = refl

  -- the entry with this number
  pub entry_here : (fs : List PolyValue) (k : ℕ) (f : PolyValue) → AreOver r fs → k < length fs → f ≡ get_or fs k f → (f.ring ≡ r) × (drop k (column_meaning r fs) ≡ meaning r f.terms ∷ drop (suc k) (column_meaning r fs))
  entry_here [] k f over less is = absurd (omega (arith, less))
  entry_here (g ∷ fs) zero f over less is = (subst (λ (g : PolyValue). g.ring ≡ r) (sym is) over.0, ap (λ (g : PolyValue). meaning r g.terms ∷ column_meaning r fs) (sym is))
  entry_here (g ∷ fs) (suc k) f over less is = entry_here fs k f over.1 (omega (arith, less)) is

  module _ (fs : List PolyValue) (k : ℕ) (f : PolyValue) (over : AreOver r fs) (less : k < length fs) (is : f ≡ get_or fs k f) (c : IsCanonical f.ring f.terms) (all : Option ℕ) (run : all ≡ first_nonzero r (suc k) (drop k (column_meaning r fs))) where
    by_test : (b : Bool) → (length f.terms == 0) ≡ b → all ≡ (if b then first_nonzero r (suc (suc k)) (drop (suc k) (column_meaning r fs)) else Some (suc k))
    by_test b e =
        let here = entry_here fs k f over less is in
        run ∙ ap (first_nonzero r (suc k)) here.1 ∙ ap (λ b. if b then first_nonzero r (suc (suc k)) (drop (suc k) (column_meaning r fs)) else Some (suc k)) (zero_test f b here.0 c e)

    pub found : (length f.terms == 0) ≡ false → all ≡ Some (k + 1)
    found e = by_test false e ∙ ap Some (let h : suc k ≡ k + 1 = omega arith in h)

    pub passed : (length f.terms == 0) ≡ true → all ≡ first_nonzero r (suc (k + 1)) (drop (k + 1) (column_meaning r fs))
    passed e = by_test true e ∙ ap (λ k. first_nonzero r (suc k) (drop k (column_meaning r fs))) (let h : suc k ≡ k + 1 = omega arith in h)
