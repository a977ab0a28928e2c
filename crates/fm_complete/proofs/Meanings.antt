-- The vector of a list of terms, and its components.
use Rattle.std.proofs.Common.{ℕ, zero, suc, ◌+◌, ◌<◌, ◌==◌, ◌≡◌, if◌then◌else◌, cond, Bool, true, false, List, [], ◌∷◌, length, refl, sym, ap, ◌∙◌, arith}
use Rattle.fm_algebra.specs.Ring.{Ring as AlgebraRing}
use Rattle.fm_algebra.specs.Matrix.{component}
use Rattle.fm_algebra.specs.Polynomials.{polynomials, polynomial_of}
use Rattle.fm_algebra.proofs.Concrete.{polynomials_laws}
use Rattle.fm_term.specs.Meanings.{terms_in, vector_of}
use Rattle.fm_groebner.proofs.Vectors.{length_vector, component_of_vector}
use Rattle.fm_groebner.proofs.GraphMatrices.{same_components}
use Rattle.fm_poly.specs.declared.ring.Ring.{Ring}
use Rattle.fm_poly.specs.Polys.{meaning, pairs}
use Rattle.fm_term.specs.declared.vterm.VTerm.{VTerm}
use Rattle.fm_vec.specs.Components.{component_terms, component_meaning, components_meaning, vector_meaning}

module _ (r : Ring) where
  abbrev P : AlgebraRing
  P = polynomials r.prime r.vars

  terms_in_is : (k : ℕ) (ts : List VTerm) → terms_in k ts ≡ pairs (component_terms k ts)
  unfolding terms_in
  terms_in_is k [] = refl
  terms_in_is k (t ∷ ts) = ap (λ x. cond (t.component == k) ((t.mono, t.coeff) ∷ x) x) (terms_in_is k ts) ∙ go (t.component == k)
    where
      go : (b : Bool) → cond b ((t.mono, t.coeff) ∷ pairs (component_terms k ts)) (pairs (component_terms k ts))
          ≡ pairs (if b then record { mono = t.mono; coeff = t.coeff } ∷ component_terms k ts else component_terms k ts)
      go true = refl
      go false = refl

  -- component i + 1
  pub part_is : (m : ℕ) (ts : List VTerm) (i : ℕ) → i < m → component P (vector_of r.prime r.vars m ts) i ≡ component_meaning r (suc i) ts
  unfolding component_meaning meaning
  part_is m ts i h = component_of_vector r.prime r.vars m ts i h ∙ ap (polynomial_of r.prime r.vars) (terms_in_is (suc i) ts)

  pub length_components : (c k : ℕ) (ts : List VTerm) → length (components_meaning r c k ts) ≡ c
  unfolding components_meaning
  length_components zero k ts = refl
  length_components (suc c) k ts = ap suc (length_components c (suc k) ts)

  pub components_at : (c k : ℕ) (ts : List VTerm) (i : ℕ) → i < c → component P (components_meaning r c k ts) i ≡ component_meaning r (k + i) ts
  unfolding components_meaning component
  components_at zero k ts i h = absurd (omega arith)
  components_at (suc c) k ts zero h = ap (λ x. component_meaning r x ts) (omega arith)
  components_at (suc c) k ts (suc i) h = components_at c (suc k) ts i (omega arith) ∙ ap (λ x. component_meaning r x ts) (omega arith)

  pub meaning_is : (m : ℕ) (ts : List VTerm) → vector_meaning r m ts ≡ vector_of r.prime r.vars m ts
  unfolding vector_meaning
  meaning_is m ts = same_components P (polynomials_laws r.prime r.vars) m (components_meaning r m 1 ts) (vector_of r.prime r.vars m ts)
      (length_components m 1 ts) (length_vector r.prime r.vars m ts)
      (λ i h. components_at m 1 ts i h ∙ ap (λ x. component_meaning r x ts) (omega arith) ∙ sym (part_is m ts i h))
