-- The falling list of a vector of polynomials falls, and means the vector.
use Rattle.std.proofs.Common.{ℕ, zero, suc, ◌+◌, ◌<◌, ◌≤◌, ◌==◌, ◌≡◌, ◌⊎◌, inl, inr, false, List, [], ◌∷◌, map, length, refl, sym, ap, ap₂, ◌∙◌, arith, eq-eqb}
use Rattle.fm_gfp.specs.declared.prime.Prime.{Prime}
use Rattle.fm_algebra.specs.Matrix.{component}
use Rattle.fm_algebra.specs.Poly.{Among}
use Rattle.fm_algebra.specs.PolyRing.{support}
use Rattle.fm_algebra.specs.Polynomials.{Polynomial, polynomials, coefficient, polynomial_zero, polynomial_of}
use Rattle.fm_algebra.proofs.PolynomialWords.{coefficient_below}
use Rattle.fm_algebra.proofs.Places.{at_place, sum_of_places}
use Rattle.fm_algebra.proofs.Concrete.{polynomials_laws}
use Rattle.fm_term.specs.Meanings.{vector_of}
use Rattle.fm_groebner.proofs.Vectors.{length_vector}
use Rattle.fm_groebner.proofs.GraphMatrices.{same_components}
use Rattle.fm_poly.specs.declared.ring.Ring.{Ring}
use Rattle.fm_term.specs.declared.vterm.VTerm.{VTerm}
use Rattle.fm_vec.specs.Vectors.{IsVector}
use Rattle.fm_vec.proofs.Adding.{put_falls}
use Rattle.fm_vec.proofs.Proper.{put_terms, put_within}
use Rattle.fm_vec.proofs.Meaning.{nothing, plus, term, part, nothing_plus, plus_nothing, plus_assoc, part_none, put_part, where_equal}
use Rattle.fm_vec.specs.Components.{vector_meaning}
use Rattle.fm_groebner.proofs.NormalForms.{terms_unique}
use Rattle.fm_graphs.specs.Listing.{VectorOf, with_terms, terms_from, terms_of}
use Rattle.fm_complete.proofs.Meanings.{part_is, meaning_is}
use Rattle.std.proofs.lemmas.Bool.Decides.{nat_tests}

-- ---- vectors
module _ (r : Ring) where
  p : Prime
  p = r.prime

  with_terms_vector : (m k : ℕ) (f : Polynomial r.prime r.vars) (ks : List (List ℕ)) (ts : List VTerm) → 1 ≤ k → k ≤ m → ((a : List ℕ) → Among a ks → (length a ≡ r.vars) × (0 < coefficient r.prime r.vars f a))
      → IsVector r m ts → IsVector r m (with_terms r k f ks ts)
  with_terms_vector m k f [] ts low high places v = v
  with_terms_vector m k f (a ∷ ks) ts low high places v =
      let w = with_terms_vector m k f ks ts low high (λ b i. places b (inr i)) v in
      let t : VTerm = record { component = k; mono = a; coeff = coefficient r.prime r.vars f a } in
      let at = places a (inl refl) in
      record {
        falls = put_falls r t (with_terms r k f ks ts) w.falls;
        proper = put_terms r t (with_terms r k f ks ts) (record { fits = at.0; positive = at.1; below = coefficient_below r.prime r.vars f a }) w.proper;
        within = put_within r m t (with_terms r k f ks ts) low high w.within;
      }

  terms_from_vector : (m k : ℕ) (v : VectorOf r) → 1 ≤ k → length v + k ≤ suc m → IsVector r m (terms_from r k v)
  terms_from_vector m k [] low high = record { falls = tt; proper = tt; within = tt }
  terms_from_vector m k (f ∷ fs) low high =
      with_terms_vector m k f (support f) (terms_from r (suc k) fs) low (omega arith) (λ a i. at_place r.prime r.vars f a i) (terms_from_vector m (suc k) fs (omega arith) (omega arith))

  pub terms_vector : (m : ℕ) (v : VectorOf r) → length v ≡ m → IsVector r m (terms_of r v)
  unfolding terms_of
  terms_vector m v l = terms_from_vector m 1 v (omega arith) (omega arith)

  -- what the terms mean
  part_own : (k : ℕ) (f : Polynomial r.prime r.vars) (ks : List (List ℕ)) (ts : List VTerm)
      → part r k (with_terms r k f ks ts) ≡ plus r (polynomial_of r.prime r.vars (map (λ a. (a, coefficient r.prime r.vars f a)) ks)) (part r k ts)
  unfolding polynomial_of
  part_own k f [] ts = sym (nothing_plus r (part r k ts))
  part_own k f (a ∷ ks) ts =
      let t : VTerm = record { component = k; mono = a; coeff = coefficient r.prime r.vars f a } in
      put_part r k t (with_terms r k f ks ts)
      ∙ ap₂ (plus r) (ap (λ b. where_equal r b (term r (coefficient r.prime r.vars f a) a)) (eq-eqb k k refl)) (part_own k f ks ts)
      ∙ sym (plus_assoc r (term r (coefficient r.prime r.vars f a) a) (polynomial_of r.prime r.vars (map (λ a. (a, coefficient r.prime r.vars f a)) ks)) (part r k ts))

  part_other : (j k : ℕ) (f : Polynomial r.prime r.vars) (ks : List (List ℕ)) (ts : List VTerm) → j < k ⊎ k < j → part r j (with_terms r k f ks ts) ≡ part r j ts
  part_other j k f [] ts w = refl
  part_other j k f (a ∷ ks) ts w =
      let t : VTerm = record { component = k; mono = a; coeff = coefficient r.prime r.vars f a } in
      put_part r j t (with_terms r k f ks ts)
      ∙ ap₂ (plus r) (ap (λ b. where_equal r b (term r (coefficient r.prime r.vars f a) a)) (differs k j w)) (part_other j k f ks ts w)
      ∙ nothing_plus r (part r j ts)
    where
      less : (k j : ℕ) → j < k → (k == j) ≡ false
      less k j l = grind (arith, nat_tests)

      more : (k j : ℕ) → k < j → (k == j) ≡ false
      more k j l = grind (arith, nat_tests)

      differs : (k j : ℕ) → j < k ⊎ k < j → (k == j) ≡ false
      differs k j (inl l) = less k j l
      differs k j (inr l) = more k j l

  part_before : (j k : ℕ) (v : VectorOf r) → j < k → part r j (terms_from r k v) ≡ nothing r
  part_before j k [] l = part_none r j
  part_before j k (f ∷ fs) l = part_other j k f (support f) (terms_from r (suc k) fs) (inl l) ∙ part_before j (suc k) fs (omega arith)

  part_from : (k i : ℕ) (v : VectorOf r) → part r (k + i) (terms_from r k v) ≡ component (polynomials r.prime r.vars) v i
  unfolding component polynomial_zero
  part_from k i [] = part_none r (k + i)
  part_from k zero (f ∷ fs) =
      ap (λ j. part r j (terms_from r k (f ∷ fs))) (plain k) ∙ part_own k f (support f) (terms_from r (suc k) fs)
      ∙ ap₂ (plus r) (sum_of_places r.prime r.vars f) (part_before k (suc k) fs (omega arith)) ∙ plus_nothing r f
    where
      plain : (k : ℕ) → k + 0 ≡ k
      plain k = omega arith
  part_from k (suc i) (f ∷ fs) =
      part_other (k + suc i) k f (support f) (terms_from r (suc k) fs) (inr (omega arith)) ∙ ap (λ j. part r j (terms_from r (suc k) fs)) (moved k i) ∙ part_from (suc k) i fs
    where
      moved : (k i : ℕ) → k + suc i ≡ suc k + i
      moved k i = omega arith

  -- the falling list means the vector
  pub terms_mean : (m : ℕ) (v : VectorOf r) → length v ≡ m → vector_of r.prime r.vars m (terms_of r v) ≡ v
  unfolding terms_of
  terms_mean m v l = same_components (polynomials r.prime r.vars) (polynomials_laws r.prime r.vars) m (vector_of r.prime r.vars m (terms_from r 1 v)) v
      (length_vector r.prime r.vars m (terms_from r 1 v)) l
      (λ i h. part_is r m (terms_from r 1 v) i h ∙ ap (λ j. part r j (terms_from r 1 v)) (one i) ∙ part_from 1 i v)
    where
      one : (i : ℕ) → suc i ≡ 1 + i
      one i = omega arith

  -- a program's vector is the falling list of what it means
  pub terms_back : (m : ℕ) (ts : List VTerm) → IsVector r m ts → terms_of r (vector_meaning r m ts) ≡ ts
  terms_back m ts v =
      let long : length (vector_meaning r m ts) ≡ m = ap length (meaning_is r m ts) ∙ length_vector r.prime r.vars m ts in
      terms_unique r.prime r.vars m r.order (terms_of r (vector_meaning r m ts)) ts (terms_vector m (vector_meaning r m ts) long) v
      (terms_mean m (vector_meaning r m ts) long ∙ meaning_is r m ts)
