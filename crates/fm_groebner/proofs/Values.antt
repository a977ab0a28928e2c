-- Vectors of polynomials as functions from places to coefficients.
use Rattle.std.proofs.Common.{ℕ, zero, suc, ◌-◌, ◌<◌, ◌≡◌, inl, inr, List, [], ◌∷◌, ◌++◌, map, length, refl, sym, ap, ◌∙◌, subst, arith}
use native.Mathlib.Decide.{dec_lt, ℕ_discrete}
use Rattle.fm_algebra.specs.Ring.{Ring, IsRing}
use Rattle.fm_algebra.specs.Poly.{Poly, coeff, Among}
use Rattle.fm_algebra.specs.PolyRing.{poly, support}
use Rattle.fm_algebra.specs.Matrix.{component}
use Rattle.fm_algebra.proofs.Poly.{support_covers, same_at_tuples}
use Rattle.fm_algebra.proofs.PolyRing.{coeff_zero}
use Rattle.fm_algebra.proofs.Tables.{vector_injective}
use Rattle.fm_groebner.proofs.Setting.{Setting, In, here, there, in_left, in_right, in_map, Vect, IsFinite}
use Rattle.fm_groebner.proofs.Monomials.{Monomial, same_monomial}
use Rattle.fm_groebner.proofs.Places.{MonomialOrder, places}

-- the monomials of a list of tuples that have n exponents
module _ (n : ℕ) where
  with_length : (a : List ℕ) → Dec (length a ≡ n) → List (Monomial n) → List (Monomial n)
  with_length a (yes l) ms = record { exponents = a; fits = l } ∷ ms
  with_length a (no w) ms = ms

  monomials_of : List (List ℕ) → List (Monomial n)
  monomials_of [] = []
  monomials_of (a ∷ as') = with_length a (ℕ_discrete (length a) n) (monomials_of as')

  in_first : (a : List ℕ) (d : Dec (length a ≡ n)) (ms : List (Monomial n)) (b : Monomial n) → b.exponents ≡ a → In (with_length a d ms) b
  unfolding with_length
  in_first a (yes l) ms b e = subst (In (record { exponents = a; fits = l } ∷ ms)) (same_monomial (record { exponents = a; fits = l }) b (sym e)) here
  in_first a (no w) ms b e = absurd (w (ap length (sym e) ∙ b.fits))

  in_rest : (a : List ℕ) (d : Dec (length a ≡ n)) (ms : List (Monomial n)) (b : Monomial n) → In ms b → In (with_length a d ms) b
  unfolding with_length
  in_rest a (yes l) ms b i = there i
  in_rest a (no w) ms b i = i

  in_monomials : (as' : List (List ℕ)) (b : Monomial n) → Among b.exponents as' → In (monomials_of as') b
  unfolding monomials_of
  in_monomials [] b i = absurd i
  in_monomials (a ∷ as') b (inl e) = in_first a (ℕ_discrete (length a) n) (monomials_of as') b e
  in_monomials (a ∷ as') b (inr i) = in_rest a (ℕ_discrete (length a) n) (monomials_of as') b (in_monomials as' b i)

module _ {n : ℕ} (O : MonomialOrder n) (K : Ring) (L : IsRing K) (is_zero : (c : K.Carrier) → Dec (c ≡ K.zero)) where
  abbrev P : Ring
  P = poly K is_zero n

  abbrev S : Setting
  S = places O K L is_zero

  component_by : (m k : ℕ) → Dec (k < m) → List (Poly K n) → Poly K n
  component_by m k (yes l) v = component P v (m - suc k)
  component_by m k (no w) v = P.zero

  -- the component of a vector of length m that is number k from the last one, which is 0; zero where there is none
  pub component_at : ℕ → List (Poly K n) → ℕ → Poly K n
  component_at m v k = component_by m k (dec_lt k m) v

  -- the coefficient of a vector of length m at a place
  pub value : ℕ → List (Poly K n) → Vect S
  value m v b = coeff (component_at m v b.0) b.1.exponents

  inside_by : (m k : ℕ) (d : Dec (k < m)) (v : List (Poly K n)) → k < m → component_by m k d v ≡ component P v (m - suc k)
  unfolding component_by
  inside_by m k (yes l) v h = refl
  inside_by m k (no w) v h = absurd (w h)

  pub component_inside : (m k : ℕ) (v : List (Poly K n)) → k < m → component_at m v k ≡ component P v (m - suc k)
  unfolding component_at
  component_inside m k v h = inside_by m k (dec_lt k m) v h

  outside_by : (m k : ℕ) (d : Dec (k < m)) (v : List (Poly K n)) → ¬ (k < m) → component_by m k d v ≡ P.zero
  unfolding component_by
  outside_by m k (yes l) v h = absurd (h l)
  outside_by m k (no w) v h = refl

  pub component_outside : (m k : ℕ) (v : List (Poly K n)) → ¬ (k < m) → component_at m v k ≡ P.zero
  unfolding component_at
  component_outside m k v h = outside_by m k (dec_lt k m) v h

  -- the component i, counted from 0
  pub component_from : (m i : ℕ) (v : List (Poly K n)) → i < m → component_at m v (m - suc i) ≡ component P v i
  component_from m i v h = component_inside m (m - suc i) v below ∙ ap (component P v) back
    where
      below : m - suc i < m
      below = omega arith

      back : m - suc (m - suc i) ≡ i
      back = omega arith

  pub value_is : (m : ℕ) (v : List (Poly K n)) (b : ℕ × Monomial n) → value m v b ≡ coeff (component_at m v b.0) b.1.exponents
  unfolding value
  value_is m v b = refl

  pub value_outside : (m : ℕ) (v : List (Poly K n)) (b : ℕ × Monomial n) → ¬ (b.0 < m) → value m v b ≡ K.zero
  unfolding value
  value_outside m v b h = ap (λ f. coeff f b.1.exponents) (component_outside m b.0 v h) ∙ ap (λ h. h b.1.exponents) (coeff_zero K L is_zero n)

  -- a vector is told by its coefficients
  pub same_vector : (m : ℕ) (u v : List (Poly K n)) → length u ≡ m → length v ≡ m → ((b : ℕ × Monomial n) → value m u b ≡ value m v b) → u ≡ v
  unfolding value
  same_vector m u v k l e = vector_injective P m u v k l (λ z i a j b. same_component i a z)
    where
      same_component : (i : ℕ) → i < m → component P u i ≡ component P v i
      same_component i h = sym (component_from m i u h) ∙ same_at_tuples K is_zero n (component_at m u (m - suc i)) (component_at m v (m - suc i))
          (λ a f. e (m - suc i, record { exponents = a; fits = f })) ∙ component_from m i v h

  -- ---- finiteness
  abbrev place : ℕ → Monomial n → ℕ × Monomial n
  place k a = (k, a)

  places_at : List (Poly K n) → ℕ → ℕ → List (ℕ × Monomial n)
  places_at v m k = map (place k) (monomials_of n (support (component_at m v k)))

  places_below : List (Poly K n) → ℕ → ℕ → List (ℕ × Monomial n)
  places_below v m zero = []
  places_below v m (suc k) = places_at v m k ++ places_below v m k

  in_places_at : (v : List (Poly K n)) (m j : ℕ) (k : ℕ) (a : Monomial n) → k ≡ j → Among a.exponents (support (component_at m v k)) → In (places_at v m j) (place k a)
  unfolding places_at
  in_places_at v m j k a e i = subst (λ x. In (places_at v m x) (place k a)) e (in_map (place k) (in_monomials n (support (component_at m v k)) a i))

  in_places : (v : List (Poly K n)) (m j : ℕ) (k : ℕ) (a : Monomial n) → k < j → Among a.exponents (support (component_at m v k)) → In (places_below v m j) (place k a)
  unfolding places_below
  in_places v m zero k a h i = absurd (omega arith)
  in_places v m (suc j) k a h i = elim (ℕ_discrete k j) [
    | yes e ↦ in_left (places_at v m j) (places_below v m j) (in_places_at v m j k a e i)
    | no w ↦ in_right (places_at v m j) (places_below v m j) (in_places v m j k a (smaller w) i)
  ]
    where
      smaller : ¬ (k ≡ j) → k < j
      smaller w = omega arith

  pub value_finite : (m : ℕ) (v : List (Poly K n)) → IsFinite S (value m v)
  value_finite m v = (
    places_below v m m,
    λ b. elim (dec_lt b.0 m) [
      | yes l ↦ elim (support_covers (component_at m v b.0) b.1.exponents b.1.fits) [
        | inl z ↦ inl (value_is m v b ∙ z)
        | inr i ↦ inr (in_places v m m b.0 b.1 l i)
      ]
      | no w ↦ inl (value_outside m v b w)
    ],
  )
