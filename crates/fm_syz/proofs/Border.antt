-- The border: a program's vector is the falling list of what it means.
use Rattle.std.proofs.Common.{ℕ, zero, suc, ◌+◌, ◌≤◌, ◌≡◌, List, [], ◌∷◌, ◌++◌, length, replicate, refl, sym, ap, ◌∙◌, subst, arith}
use Rattle.fm_algebra.specs.Polynomials.{polynomial_zero, polynomial_of}
use Rattle.fm_groebner.specs.Graphs.{zero_vector}
use Rattle.fm_poly.specs.declared.ring.Ring.{Ring}
use Rattle.fm_poly.specs.Polys.{PolyValue, meaning}
use Rattle.fm_term.specs.declared.vterm.VTerm.{VTerm}
use Rattle.fm_term.specs.Falling.{AreWithin}
use Rattle.fm_vec.specs.Vectors.{IsVector, VectorValue}
use Rattle.fm_vec.specs.Components.{AreOver, placed, column_terms}
use Rattle.fm_vec.proofs.Inverse.{meaning_of_column}
use Rattle.fm_complete.specs.Reductions.{divided}
use Rattle.fm_complete.specs.Divisions as divisions
use Rattle.fm_complete.specs.Remainders.{remainder_of, remainder_run}
use Rattle.fm_run.specs.Runs.{ended_with}
use Rattle.fm_graphs.specs.Listing.{terms_of}
use Rattle.fm_graphs.specs.Graphs.{lift_run}
use Rattle.fm_graphs.proofs.Listing.{terms_back}
use Rattle.fm_mat.specs.Matrices.{column_meaning}
use Rattle.fm_mat.proofs.Steps.{map_length}
use Rattle.fm_syz.specs.GraphValues.{GraphValue, height, graph_meaning}

wider_terms : (n m : ℕ) (ts : List VTerm) → n ≤ m → AreWithin n ts → AreWithin m ts
wider_terms n m [] h w = tt
wider_terms n m (t ∷ ts) h w = (w.0, omega (arith, h, w.1), wider_terms n m ts h w.2)

pub wider : (r : Ring) (n m : ℕ) (ts : List VTerm) → n ≤ m → IsVector r n ts → IsVector r m ts
wider r n m ts h v = record { falls = v.falls; proper = v.proper; within = wider_terms n m ts h v.within }

module _ (r : Ring) where
  abbrev zeros : ℕ → List PolyValue
  zeros c = replicate c (record { ring = r; terms = [] })

  over_zeros : (c : ℕ) (fs : List PolyValue) → AreOver r fs → AreOver r (fs ++ zeros c)
  over_zeros zero [] w = tt
  over_zeros (suc c) [] w = (refl, over_zeros c [] tt)
  over_zeros c (f ∷ fs) w = (w.0, over_zeros c fs w.1)

  no_terms : (c k : ℕ) → column_terms k (zeros c) ≡ []
  no_terms zero k = refl
  no_terms (suc c) k = no_terms c (suc k)

  zeros_placed : (c k : ℕ) (fs : List PolyValue) → column_terms k (fs ++ zeros c) ≡ column_terms k fs
  zeros_placed c k [] = no_terms c k
  zeros_placed c k (f ∷ fs) = ap (λ x. placed k f.terms ++ x) (zeros_placed c (suc k) fs)

  zero_means : (c : ℕ) → column_meaning r (zeros c) ≡ zero_vector r.prime r.vars c
  unfolding meaning polynomial_of
  zero_means zero = refl
  zero_means (suc c) = ap (λ l. polynomial_zero r.prime r.vars ∷ l) (zero_means c)

  zeros_mean : (c : ℕ) (fs : List PolyValue) → column_meaning r (fs ++ zeros c) ≡ column_meaning r fs ++ zero_vector r.prime r.vars c
  zeros_mean c [] = zero_means c
  zeros_mean c (f ∷ fs) = ap (λ l. meaning r f.terms ∷ l) (zeros_mean c fs)

  count : (c : ℕ) (fs : List PolyValue) → length (fs ++ zeros c) ≡ length fs + c
  count zero [] = refl
  count (suc c) [] = let h = count c [] in omega (arith, h)
  count c (f ∷ fs) = let h = count c fs in omega (arith, h)

  -- the terms of a column of polynomials above zeros
  pub lift_terms : (c : ℕ) (fs : List PolyValue) → AreOver r fs → IsVector r (length fs + c) (column_terms 1 fs) → terms_of r (column_meaning r fs ++ zero_vector r.prime r.vars c) ≡ column_terms 1 fs
  lift_terms c fs over v =
      ap (terms_of r) (sym (zeros_mean c fs) ∙ sym (meaning_of_column r (fs ++ zeros c) (over_zeros c fs over)))
      ∙ terms_back r (length (fs ++ zeros c)) (column_terms 1 (fs ++ zeros c)) (subst (λ k. IsVector r k (column_terms 1 (fs ++ zeros c))) (sym (count c fs)) (subst (IsVector r (length fs + c)) (sym (zeros_placed c 1 fs)) v))
      ∙ zeros_placed c 1 fs

  -- the division of a column above zeros is the lift of what it means
  pub lift_is : (g : GraphValue) (v : List PolyValue) (whole : VectorValue) (members : List VectorValue) (units : ℕ) → AreOver r v → length v ≡ g.matrix.rows → IsVector r (height g) (column_terms 1 v)
      → whole.ring ≡ r → members ≡ g.members → whole.terms ≡ column_terms 1 v
      → remainder_run members whole units ≡ ended_with remainder_of (lift_run r (graph_meaning r g) (column_meaning r v) units)
  unfolding lift_run
  lift_is g v whole members units over rows vector ring same terms =
      ap (λ (s : Ring). ended_with remainder_of (divided s (divisions.terms_of members) units whole.terms)) ring
      ∙ ap (λ ms. ended_with remainder_of (divided r (divisions.terms_of ms) units whole.terms)) same
      ∙ ap (λ ts. ended_with remainder_of (divided r (divisions.terms_of g.members) units ts))
      (terms ∙ sym (lift_terms (length g.matrix.columns) v over (subst (λ k. IsVector r (k + length g.matrix.columns) (column_terms 1 v)) (sym rows) vector))
      ∙ ap (λ k. terms_of r (column_meaning r v ++ zero_vector r.prime r.vars k)) (sym (map_length (column_meaning r) g.matrix.columns)))

pub wider_is : (r : Ring) (v : VectorValue) (n m : ℕ) (ts : List VTerm) → n ≤ m → (us : List VTerm) → v ≡ record { ring = r; rows = n; terms = us } → IsVector v.ring v.rows v.terms → ts ≡ v.terms → IsVector r m ts
wider_is r v n m ts h us e w same =
    subst (IsVector r m) (sym (same ∙ ap (λ (x : VectorValue). x.terms) e)) (wider r n m us h (subst (λ (x : VectorValue). IsVector x.ring x.rows x.terms) e w))
