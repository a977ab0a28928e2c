-- Polynomials with the same coefficients are equal
use Rattle.std.proofs.Common.{◌≡◌, ℕ, List, [], ◌∷◌, length, Option, Some, None, true, ◌||◌, ◌⊎◌, inl, inr, refl, ap, sym, ◌∙◌, unwrap_or}
use Rattle.std.specs.Ordering.{eq_by_cmp}
use Rattle.std.specs.List.{list_any}
use Rattle.std.specs.Option.{is_some}
use Rattle.std.specs.Cmp.Lexicographic.{nat_list_cmp_total}
use Rattle.std.specs.FinMap as maps
use Rattle.std.specs.FinMap.{FinMap, nat_cmp-IsAntisymmetric, slice_cmp-IsAntisymmetric}
use mathlib.Core.Path.{fun_ext}
use mathlib.Core.HLevel.{Σ_prop_path, Π_prop, collapsible→set}
use native.Mathlib.Nat.{ℕ_set}
use native.Mathlib.Decide.{ℕ_discrete}
use Rattle.fm_algebra.specs.Ring.{Ring}
use Rattle.fm_algebra.specs.Series.{Series}
use Rattle.fm_algebra.specs.Poly.{Poly, coeff, polynomial, tuple_cmp, Among, same_tuple, get-table, restrict, restrict_by}
use Rattle.fm_algebra.specs.PolyRing.{support}

module _ (K : Ring) (n : ℕ) where
  abbrev IsOk : FinMap tuple_cmp K.Carrier → Type 0
  IsOk m = (a : List ℕ) (c : K.Carrier) → maps.get m a ≡ Some c → (length a ≡ n) × ¬ (c ≡ K.zero)

  IsOk-prop : (m : FinMap tuple_cmp K.Carrier) → IsProp (IsOk m)
  IsOk-prop m = hlevel ℕ_set

  same_terms : (f g : Poly K n) → f.terms ≡ g.terms → f ≡ g
  same_terms f g e =
      let pairs : ◌≡◌ {A = (m : FinMap tuple_cmp K.Carrier) × IsOk m} (f.terms, f.ok) (g.terms, g.ok) = Σ_prop_path IsOk-prop e in
      λ i. record { terms = (pairs i).0; ok = (pairs i).1 }

  same_at : (o p : Option K.Carrier) → ((c : K.Carrier) → o ≡ Some c → ¬ (c ≡ K.zero)) → ((c : K.Carrier) → p ≡ Some c → ¬ (c ≡ K.zero))
      → unwrap_or o K.zero ≡ unwrap_or p K.zero → o ≡ p
  same_at None None h k e = refl
  same_at None (Some d) h k e = absurd (k d refl (sym e))
  same_at (Some c) None h k e = absurd (h c refl e)
  same_at (Some c) (Some d) h k e = ap (λ x. Some x) e

  pub same_poly : (f g : Poly K n) → ((a : List ℕ) → coeff f a ≡ coeff g a) → f ≡ g
  unfolding coeff
  same_poly f g h =
      same_terms f g (maps.same_map nat_list_cmp_total (slice_cmp-IsAntisymmetric nat_cmp-IsAntisymmetric) f.terms g.terms
      (λ q. same_at (maps.get f.terms q) (maps.get g.terms q) (λ c e. (f.ok q c e).1) (λ c e. (g.ok q c e).1) (h q)))

-- equality of polynomials is decided as that of their coefficients
pub Poly_set : (K : Ring) (n : ℕ) → IsSet K.Carrier → IsSet (Poly K n)
Poly_set K n s = collapsible→set (λ f g e. same_poly K n f g (λ a. ap (λ h. coeff h a) e)) (λ f g p q. ap (same_poly K n f g) (Π_prop (λ a. s (coeff f a) (coeff g a)) _ _))

-- a key that a map has is listed among its keys
any-listed : (q : List ℕ) (ks : List (List ℕ)) → list_any (eq_by_cmp tuple_cmp q) ks ≡ true → Among q ks
any-listed q [] e = cc
any-listed q (k ∷ ks) e = elim (same_tuple q k) [
  | inl s ↦ inl s.0
  | inr n ↦ inr (any-listed q ks (ap (λ b. b || list_any (eq_by_cmp tuple_cmp q) ks) (sym n) ∙ e))
]

-- h is 0 at tuples of n exponents that are not listed
abbrev pub Covers : (K : Ring) (n : ℕ) → Series K → List (List ℕ) → Type 0
Covers K n h ks = (a : List ℕ) → length a ≡ n → (h a ≡ K.zero) ⊎ Among a ks

-- h is 0 at tuples of another length
abbrev pub Fixed : (K : Ring) (n : ℕ) → Series K → Type 0
Fixed K n h = (a : List ℕ) → ¬ (length a ≡ n) → h a ≡ K.zero

module _ {K : Ring} {n : ℕ} (f : Poly K n) where
  zero_or_listed : (a : List ℕ) (o : Option K.Carrier) → maps.get f.terms a ≡ o → (coeff f a ≡ K.zero) ⊎ Among a (support f)
  unfolding coeff
  zero_or_listed a None e = inl (ap (λ o. unwrap_or o K.zero) e)
  zero_or_listed a (Some c) e = inr (any-listed a (support f) (sym (maps.contains_key-keys f.terms a) ∙ ap is_some e))

  pub support_covers : Covers K n (coeff f) (support f)
  support_covers a l = zero_or_listed a (maps.get f.terms a) refl

  zero_or_fits : (a : List ℕ) (o : Option K.Carrier) → maps.get f.terms a ≡ o → ¬ (length a ≡ n) → coeff f a ≡ K.zero
  unfolding coeff
  zero_or_fits a None e w = ap (λ o. unwrap_or o K.zero) e
  zero_or_fits a (Some c) e w = absurd (w (f.ok a c e).0)

  pub coeff_fixed : Fixed K n (coeff f)
  coeff_fixed a w = zero_or_fits a (maps.get f.terms a) refl w

module _ (K : Ring) (is_zero : (c : K.Carrier) → Dec (c ≡ K.zero)) (n : ℕ) where
  covered : (h : Series K) (ks : List (List ℕ)) → Covers K n h ks → (a : List ℕ) (d : Dec (length a ≡ n)) → (restrict_by K is_zero n h a d ≡ K.zero) ⊎ Among a ks
  covered h ks c a (yes e) = c a e
  covered h ks c a (no e) = inl refl

  -- the coefficients of `polynomial` are those that it is made of
  pub coeff_restricted : (h : Series K) (ks : List (List ℕ)) → Covers K n h ks → (a : List ℕ) → coeff (polynomial K is_zero n h ks) a ≡ restrict K is_zero n h a
  unfolding coeff polynomial
  coeff_restricted h ks c a = elim (get-table K is_zero (restrict K is_zero n h) ks a) [
    | inl r ↦ ap (λ o. unwrap_or o K.zero) r.0 ∙ elim (covered h ks c a (ℕ_discrete (length a) n)) [ inl z ↦ sym z | inr i ↦ sym (r.1 i) ]
    | inr s ↦ ap (λ o. unwrap_or o K.zero) s.1
  ]

  unrestricted : (h : Series K) → Fixed K n h → (a : List ℕ) (d : Dec (length a ≡ n)) → restrict_by K is_zero n h a d ≡ h a
  unrestricted h f a (yes e) = refl
  unrestricted h f a (no w) = sym (f a w)

  pub restricted : (h : Series K) (a : List ℕ) (d : Dec (length a ≡ n)) → length a ≡ n → restrict_by K is_zero n h a d ≡ h a
  restricted h a (yes e) l = refl
  restricted h a (no w) l = absurd (w l)

  pub coeff_polynomial : (h : Series K) (ks : List (List ℕ)) → Covers K n h ks → Fixed K n h → coeff (polynomial K is_zero n h ks) ≡ h
  coeff_polynomial h ks c f = fun_ext (λ a. coeff_restricted h ks c a ∙ unrestricted h f a (ℕ_discrete (length a) n))

  -- at tuples of n exponents, whatever h is at others
  pub at_tuple : (h : Series K) (ks : List (List ℕ)) → Covers K n h ks → (a : List ℕ) → length a ≡ n → coeff (polynomial K is_zero n h ks) a ≡ h a
  at_tuple h ks c a l = coeff_restricted h ks c a ∙ restricted h a (ℕ_discrete (length a) n) l

  -- a polynomial is told by its coefficients at tuples of n exponents
  pub same_at_tuples : (f g : Poly K n) → ((a : List ℕ) → length a ≡ n → coeff f a ≡ coeff g a) → f ≡ g
  same_at_tuples f g h = same_poly K n f g (λ a. elim (ℕ_discrete (length a) n) [
    | yes l ↦ h a l
    | no w ↦ coeff_fixed f a w ∙ sym (coeff_fixed g a w)
  ])
