-- The twist of a Gröbner basis is a Gröbner basis.
use Rattle.std.proofs.Common.{◌≡◌, ◌⊎◌, inl, inr, ℕ, zero, suc, ◌+◌, ◌*◌, ◌^◌, ◌<◌, ◌≤◌, List, [], ◌∷◌, map, length, get_or, sym, ap, ap₂, ◌∙◌, subst, arith, mul-le-mul_left}
use native.Mathlib.Nat.{zero-mod}
use Rattle.std.specs.Ordering.{nat_cmp, ordering_then}
use Rattle.std.proofs.Math.ListN.{get_or-map}
use Rattle.std.proofs.lemmas.List.{length-map}
use Rattle.fm_gfp.specs.Primes.{prime_value}
use Rattle.fm_gfp.specs.declared.prime.Prime.{Prime}
use Rattle.fm_tuple.specs.Tuple.{tuple_multiple, TupleDivides}
use Rattle.fm_tuple.proofs.Tuples.{length_tuple_multiple}
use Rattle.fm_mono.specs.declared.order.Order.{Order}
use Rattle.fm_mono.proofs.OrderLaws.{monomial_cmp_sum, monomial_cmp_multiple}
use Rattle.fm_algebra.specs.FiniteSums.{finite_sum}
use Rattle.fm_algebra.specs.Matrix.{component, entry, apply}
use Rattle.fm_algebra.specs.Twist.{tuple_place, tuple_quotient, tuple_remainder, Digits}
use Rattle.fm_algebra.specs.Polynomials.{Polynomial, polynomials, coefficient, polynomial_zero, frobenius_twist, frobenius_slice}
use Rattle.fm_algebra.specs.PolynomialMatrices.{PolynomialMatrix, InImage, vector_twist, matrix_twist, matrix_above, matrix_unit}
use Rattle.fm_algebra.proofs.FiniteSums.{sum_map, sum_cast}
use Rattle.fm_algebra.proofs.Tables.{get_or-listed, length-apply, vector_injective}
use Rattle.fm_algebra.proofs.Slices.{slice_zero, twist_one, twist_add, twist_mul, twist_zero}
use Rattle.fm_algebra.proofs.TuplePlaces.{length_quotient, length_remainder, remainder_below, place_parts}
use Rattle.fm_algebra.proofs.Concrete.{polynomials_laws, polynomials_sliced, q_positive}
use Rattle.fm_algebra.specs.Gf.{gf, gf_is_zero}
use Rattle.fm_algebra.specs.Poly.{coeff}
use Rattle.fm_algebra.proofs.Twist.{coeff_twist, twisted_at}
use Rattle.fm_algebra.proofs.TwistWords.{twist_at_multiple, slice_coefficient}
use Rattle.fm_term.specs.Places.{place_cmp}
use Rattle.fm_groebner.specs.Graphs.{graph, IsGraphBasis}
use Rattle.fm_groebner.proofs.GraphMatrices.{mapped_graph, mapped_rows, mapped_cols}
use Rattle.fm_groebner.specs.Bases.{vector_component, IsHead, generators, HeadDivides, IsGroebnerBasis}
use Rattle.fm_groebner.proofs.Numbers.{in_of_contains, contains_of_in, in_of_map}
use Rattle.fm_groebner.proofs.Setting.{In, in_map}
use Rattle.fm_groebner.proofs.Heads.{exponents_fit}

module _ (p : Prime) (n : ℕ) where
  -- ---- maps of vectors and images
  module _ (φ : Polynomial p n → Polynomial p n) (on_zero : φ (polynomials p n).zero ≡ (polynomials p n).zero) where
    pub component_map : (v : List (Polynomial p n)) (i : ℕ) → component (polynomials p n) (map φ v) i ≡ φ (component (polynomials p n) v i)
    unfolding component
    component_map v i = ap (get_or (map φ v) i) (sym on_zero) ∙ get_or-map φ v i (polynomials p n).zero

    pub vector_component_map : (v : List (Polynomial p n)) (i : ℕ) → vector_component p n (map φ v) i ≡ φ (vector_component p n v i)
    unfolding polynomial_zero
    vector_component_map v zero = sym on_zero
    vector_component_map v (suc i) = component_map v i

    -- a map that respects sums, and takes the products with the entries of a matrix to products with those of another, carries the image
    module _ (m : ℕ) (on_sum : (a b : Polynomial p n) → φ ((polynomials p n).add a b) ≡ (polynomials p n).add (φ a) (φ b)) (gens gens' : List (List (Polynomial p n))) (same : length gens ≡ length gens')
        (on_product : (i k : ℕ) (b : Polynomial p n) → φ ((polynomials p n).mul (entry (polynomials p n) (generators p n m gens) i k) b) ≡ (polynomials p n).mul (entry (polynomials p n) (generators p n m gens') i k) (φ b)) where
      carried_at : (w : List (Polynomial p n)) (i : ℕ) → i < m
          → component (polynomials p n) (map φ (apply (polynomials p n) (generators p n m gens) w)) i ≡ component (polynomials p n) (apply (polynomials p n) (generators p n m gens') (map φ w)) i
      unfolding apply component
      carried_at w i h =
          component_map (apply (polynomials p n) (generators p n m gens) w) i
          ∙ ap φ (get_or-listed m i (polynomials p n).zero (λ i. finite_sum (polynomials p n) (length gens) (λ k h. (polynomials p n).mul (entry (polynomials p n) (generators p n m gens) i k) (component (polynomials p n) w k))) h)
          ∙ sum_map (polynomials_laws p n) φ on_zero on_sum (length gens) (λ k h. (polynomials p n).mul (entry (polynomials p n) (generators p n m gens) i k) (component (polynomials p n) w k))
          ∙ sum_cast (polynomials_laws p n) (length gens) (length gens')
          (λ k h. φ ((polynomials p n).mul (entry (polynomials p n) (generators p n m gens) i k) (component (polynomials p n) w k)))
          (λ k h. (polynomials p n).mul (entry (polynomials p n) (generators p n m gens') i k) (component (polynomials p n) (map φ w) k)) same
          (λ k a b. on_product i k (component (polynomials p n) w k) ∙ ap ((polynomials p n).mul (entry (polynomials p n) (generators p n m gens') i k)) (sym (component_map w k)))
          ∙ sym (get_or-listed m i (polynomials p n).zero (λ i. finite_sum (polynomials p n) (length gens') (λ k h. (polynomials p n).mul (entry (polynomials p n) (generators p n m gens') i k) (component (polynomials p n) (map φ w) k))) h)

      carried : (w : List (Polynomial p n)) → map φ (apply (polynomials p n) (generators p n m gens) w) ≡ apply (polynomials p n) (generators p n m gens') (map φ w)
      carried w = vector_injective (polynomials p n) m (map φ (apply (polynomials p n) (generators p n m gens) w)) (apply (polynomials p n) (generators p n m gens') (map φ w))
          (length-map (apply (polynomials p n) (generators p n m gens) w) φ ∙ length-apply (polynomials p n) (generators p n m gens) w)
          (length-apply (polynomials p n) (generators p n m gens') (map φ w)) (λ z i a j b. carried_at w i a z)

      pub image_carried : (v : List (Polynomial p n)) → InImage p n (generators p n m gens) v → InImage p n (generators p n m gens') (map φ v)
      unfolding InImage
      image_carried v (w, l, e) = (map φ w, length-map w φ ∙ l ∙ same, sym (carried w) ∙ ap (map φ) e)

  pub twist_zero_is : (e : ℕ) → frobenius_twist p n e (polynomials p n).zero ≡ (polynomials p n).zero
  twist_zero_is e = twist_zero (polynomials_laws p n) (polynomials_sliced p n e)

  module _ (m e : ℕ) (o : Order) where
    abbrev q : ℕ
    q = prime_value p ^ e

    entry_twisted : (gens : List (List (Polynomial p n))) (i k : ℕ)
        → entry (polynomials p n) (generators p n m (map (vector_twist p n e) gens)) i k ≡ frobenius_twist p n e (entry (polynomials p n) (generators p n m gens) i k)
    unfolding entry vector_twist
    entry_twisted gens i k = ap (λ c. get_or c i (polynomials p n).zero) (get_or-map (vector_twist p n e) gens k [])
        ∙ ap (get_or (map (frobenius_twist p n e) (get_or gens k [])) i) (sym (twist_zero_is e)) ∙ get_or-map (frobenius_twist p n e) (get_or gens k []) i (polynomials p n).zero

    -- the image of the twist has the twists of the image
    pub image_twisted : (gens : List (List (Polynomial p n))) (v : List (Polynomial p n)) → InImage p n (generators p n m gens) v → InImage p n (generators p n m (map (vector_twist p n e) gens)) (vector_twist p n e v)
    unfolding vector_twist
    image_twisted gens v i = image_carried (frobenius_twist p n e) (twist_zero_is e) m (twist_add (polynomials_laws p n) (polynomials_sliced p n e)) gens (map (vector_twist p n e) gens)
        (sym (length-map gens (vector_twist p n e)))
        (λ i k b. twist_mul (polynomials_laws p n) (polynomials_sliced p n e) (entry (polynomials p n) (generators p n m gens) i k) b
        ∙ ap (λ x. (polynomials p n).mul x (frobenius_twist p n e b)) (sym (entry_twisted gens i k))) v i

    -- the slices of the image of the twist are in the image
    pub image_sliced : (gens : List (List (Polynomial p n))) (d : Digits n q) (v : List (Polynomial p n)) → InImage p n (generators p n m (map (vector_twist p n e) gens)) v
        → InImage p n (generators p n m gens) (map (frobenius_slice p n e d.tuple) v)
    image_sliced gens d v i = image_carried (frobenius_slice p n e d.tuple) (slice_zero (polynomials_laws p n) (polynomials_sliced p n e) d) m ((polynomials_sliced p n e).slice_add d)
        (map (vector_twist p n e) gens) gens (length-map gens (vector_twist p n e))
        (λ i k b. ap (λ x. frobenius_slice p n e d.tuple ((polynomials p n).mul x b)) (entry_twisted gens i k)
        ∙ (polynomials_sliced p n e).slice_mul d (entry (polynomials p n) (generators p n m gens) i k) b) v i

    -- ---- heads
    pub multiple_cmp : (j i : ℕ) (b c : List ℕ) → place_cmp o j (tuple_multiple q b) i (tuple_multiple q c) ≡ place_cmp o j b i c
    multiple_cmp j i b c = ap (ordering_then (nat_cmp i j)) (monomial_cmp_multiple o q b c (q_positive p n e))

    shifted_cmp : (j i : ℕ) (b c r : List ℕ) → length b ≡ n → length c ≡ n → length r ≡ n → place_cmp o j (tuple_place q b r) i (tuple_place q c r) ≡ place_cmp o j b i c
    shifted_cmp j i b c r l k h = ap (ordering_then (nat_cmp i j)) (monomial_cmp_sum o (tuple_multiple q b) (tuple_multiple q c) r (length_tuple_multiple q b ∙ l ∙ sym h) (length_tuple_multiple q c ∙ k ∙ sym h))
        ∙ multiple_cmp j i b c

    twist_at : (f : Polynomial p n) (b : List ℕ) → (coefficient p n (frobenius_twist p n e f) b ≡ 0) ⊎ ((c : List ℕ) × (b ≡ tuple_multiple q c))
    unfolding coefficient frobenius_twist
    twist_at f b = elim (twisted_at (gf p) q (coeff f) b) [
      | inl z ↦ inl (ap (λ h. (h b).number) (coeff_twist (gf p) (gf_is_zero p) n q f) ∙ ap (λ x. x.number) z ∙ zero-mod (prime_value p))
      | inr t ↦ inr (t.0, t.1)
    ]

    twisted_component : (v : List (Polynomial p n)) (j : ℕ) → vector_component p n (vector_twist p n e v) j ≡ frobenius_twist p n e (vector_component p n v j)
    unfolding vector_twist
    twisted_component v j = vector_component_map (frobenius_twist p n e) (twist_zero_is e) v j

    pub twist_head : (v : List (Polynomial p n)) (i : ℕ) (a : List ℕ) → IsHead p n o v i a → IsHead p n o (vector_twist p n e v) i (tuple_multiple q a)
    twist_head v i a hd = record {
      nonzero = λ z. hd.nonzero (sym (twist_at_multiple p n e (vector_component p n v i) a) ∙ ap (λ f. coefficient p n f (tuple_multiple q a)) (sym (twisted_component v i)) ∙ z);
      greatest = λ j b nz g. elim (twist_at (vector_component p n v j) b) [
        | inl z ↦ nz (ap (λ f. coefficient p n f b) (twisted_component v j) ∙ z)
        | inr t ↦ hd.greatest j t.0
            (λ z. nz (ap₂ (λ f x. coefficient p n f x) (twisted_component v j) t.1 ∙ twist_at_multiple p n e (vector_component p n v j) t.0 ∙ z))
            (sym (multiple_cmp j i t.0 a) ∙ ap (λ x. place_cmp o j x i (tuple_multiple q a)) (sym t.1) ∙ g)
      ];
    }

    module _ (v : List (Polynomial p n)) (i : ℕ) (a : List ℕ) (hd : IsHead p n o v i a) where
      abbrev fits : length a ≡ n
      fits = exponents_fit p n m o (vector_component p n v i) a hd.nonzero

      abbrev remainder : Digits n q
      remainder = record { tuple = tuple_remainder q a; fits = length_remainder q a ∙ fits; below = remainder_below q (q_positive p n e) a }

      sliced_component : (j : ℕ) → vector_component p n (map (frobenius_slice p n e (tuple_remainder q a)) v) j ≡ frobenius_slice p n e (tuple_remainder q a) (vector_component p n v j)
      sliced_component j = vector_component_map (frobenius_slice p n e (tuple_remainder q a)) (slice_zero (polynomials_laws p n) (polynomials_sliced p n e) (record { tuple = tuple_remainder q a; fits = length_remainder q a ∙ fits; below = remainder_below q (q_positive p n e) a })) v j

      sliced_coefficient : (j : ℕ) (b : List ℕ) → length b ≡ n → coefficient p n (vector_component p n (map (frobenius_slice p n e (tuple_remainder q a)) v) j) b ≡ coefficient p n (vector_component p n v j) (tuple_place q b (tuple_remainder q a))
      sliced_coefficient j b l = ap (λ f. coefficient p n f b) (sliced_component j)
          ∙ slice_coefficient p n e (tuple_remainder q a) b (vector_component p n v j) (length_remainder q a ∙ fits) (remainder_below q (q_positive p n e) a) l

      pub slice_head : IsHead p n o (map (frobenius_slice p n e (tuple_remainder q a)) v) i (tuple_quotient q a)
      slice_head = record {
        nonzero = λ z. hd.nonzero (sym (sliced_coefficient i (tuple_quotient q a) (length_quotient q a ∙ fits) ∙ ap (coefficient p n (vector_component p n v i)) (place_parts q a)) ∙ z);
        greatest = λ j b nz g.
            let l = exponents_fit p n m o (vector_component p n (map (frobenius_slice p n e (tuple_remainder q a)) v) j) b nz in
            hd.greatest j (tuple_place q b (tuple_remainder q a)) (λ z. nz (sliced_coefficient j b l ∙ z))
            (ap (λ x. place_cmp o j (tuple_place q b (tuple_remainder q a)) i x) (sym (place_parts q a))
            ∙ shifted_cmp j i b (tuple_quotient q a) (tuple_remainder q a) l (length_quotient q a ∙ fits) (length_remainder q a ∙ fits) ∙ g);
      }

    multiple_divides : (d a r : List ℕ) → length d ≡ length a → length r ≡ length a → TupleDivides d a → TupleDivides (tuple_multiple q d) (tuple_place q a r)
    multiple_divides [] a r l k h = tt
    multiple_divides (x ∷ d) [] r l k h = absurd (omega arith)
    multiple_divides (x ∷ d) (y ∷ a) [] l k h = absurd (omega arith)
    multiple_divides (x ∷ d) (y ∷ a) (z ∷ r) l k h =
        let at_most : q * x ≤ q * y = mul-le-mul_left q h.0 in
        let first : q * x ≤ q * y + z = omega arith in
        (first, multiple_divides d a r (omega arith) (omega arith) h.1)

    pub groebner_of_twist : (members gens : List (List (Polynomial p n))) → IsGroebnerBasis p n m o members gens → IsGroebnerBasis p n m o (map (vector_twist p n e) members) (map (vector_twist p n e) gens)
    groebner_of_twist members gens basis = record {
      inside = λ g c. inside g (in_of_map (vector_twist p n e) members (in_of_contains (map (vector_twist p n e) members) g c));
      heads = heads;
    }
      where
        inside : (g : List (Polynomial p n)) → (v : List (Polynomial p n)) × In members v × (vector_twist p n e v ≡ g) → InImage p n (generators p n m (map (vector_twist p n e) gens)) g
        inside g v = subst (InImage p n (generators p n m (map (vector_twist p n e) gens))) v.2 (image_twisted gens v.0 (basis.inside v.0 (contains_of_in v.1)))

        heads : (v : List (Polynomial p n)) (i : ℕ) (a : List ℕ) → InImage p n (generators p n m (map (vector_twist p n e) gens)) v → IsHead p n o v i a → HeadDivides p n o (map (vector_twist p n e) members) i a
        heads v i a im hd =
            let d = basis.heads (map (frobenius_slice p n e (tuple_remainder q a)) v) i (tuple_quotient q a) (image_sliced gens (remainder v i a hd) v im) (slice_head v i a hd) in
            let l = exponents_fit p n m o (vector_component p n d.member i) d.exponents d.is_head.nonzero in
            record {
              member = vector_twist p n e d.member;
              exponents = tuple_multiple q d.exponents;
              is_member = contains_of_in (in_map (vector_twist p n e) (in_of_contains members d.member d.is_member));
              is_head = twist_head d.member i d.exponents d.is_head;
              divides = subst (TupleDivides (tuple_multiple q d.exponents)) (place_parts q a)
                  (multiple_divides d.exponents (tuple_quotient q a) (tuple_remainder q a) (l ∙ sym (length_quotient q a ∙ fits v i a hd)) (length_remainder q a ∙ sym (length_quotient q a)) d.divides);
            }

-- ---- the graph of a twisted matrix
module _ (p : Prime) (n : ℕ) (o : Order) (e : ℕ) (A : PolynomialMatrix p n) where
  twisted_graph_columns : map (vector_twist p n e) (graph p n A).columns ≡ (graph p n (matrix_twist p n e A)).columns
  unfolding vector_twist matrix_twist matrix_above matrix_unit
  twisted_graph_columns = mapped_graph (polynomials p n) (polynomials_laws p n) A (frobenius_twist p n e)
      (twist_zero (polynomials_laws p n) (polynomials_sliced p n e)) (twist_one (polynomials_laws p n) (polynomials_sliced p n e))

  twisted_size : A.rows + length A.columns ≡ (matrix_twist p n e A).rows + length (matrix_twist p n e A).columns
  unfolding matrix_twist
  twisted_size = sym (ap₂ (λ x y. x + y)
      (mapped_rows (polynomials p n) (polynomials_laws p n) A (frobenius_twist p n e) (twist_zero (polynomials_laws p n) (polynomials_sliced p n e)) (twist_one (polynomials_laws p n) (polynomials_sliced p n e)))
      (mapped_cols (polynomials p n) (polynomials_laws p n) A (frobenius_twist p n e) (twist_zero (polynomials_laws p n) (polynomials_sliced p n e)) (twist_one (polynomials_laws p n) (polynomials_sliced p n e))))

  -- the twist of a Gröbner basis of the graph of A is one of the graph of the twist of A
  pub twisted_graph : (members : List (List (Polynomial p n))) → IsGraphBasis p n o A members → IsGraphBasis p n o (matrix_twist p n e A) (map (vector_twist p n e) members)
  twisted_graph members basis =
      subst (λ k. IsGroebnerBasis p n k o (map (vector_twist p n e) members) (graph p n (matrix_twist p n e A)).columns) twisted_size
      (subst (λ cs. IsGroebnerBasis p n (A.rows + length A.columns) o (map (vector_twist p n e) members) cs) twisted_graph_columns
      (groebner_of_twist p n (A.rows + length A.columns) e o members (graph p n A).columns basis))
