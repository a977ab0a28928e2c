-- Lists of terms: a strictly falling one begins with the head of its sum, and no other has the same sum
use Rattle.std.proofs.Common.{◌≡◌, ℕ, List, [], ◌∷◌, ◌++◌, length, inl, inr, refl, ap, ap₂, sym, ◌∙◌, subst, Less, Equal, Greater}
use Rattle.std.specs.declared.cmp.Ordering.{Ordering}
use Rattle.fm_algebra.specs.Ring.{Ring, IsRing}
use Rattle.fm_algebra.specs.Poly.{Poly, coeff, same_tuple, apart}
use Rattle.fm_algebra.specs.PolyRing.{poly}
use Rattle.fm_algebra.specs.Monomial.{single, monomial, sum_of_terms}
use Rattle.fm_algebra.specs.Heads.{IsMonomialOrder, IsHead, AllLess, IsFalling, AreTerms}
use Rattle.fm_algebra.proofs.Algebra.{add_zero, add_cancel}
use Rattle.fm_algebra.proofs.Poly.{same_at_tuples}
use Rattle.fm_algebra.proofs.PolyRing.{coeff_zero, coeff_add, poly_laws}
use Rattle.fm_algebra.proofs.Monomial.{coeff_monomial, coeff_monomial_at, single_same, single_other}
use Rattle.fm_algebra.proofs.Domain.{order_itself, head_unique, Less≢Equal, Less≢Greater}

module _ (K : Ring) (L : IsRing K) (is_zero : (c : K.Carrier) → Dec (c ≡ K.zero)) (n : ℕ) where
  open K use {Carrier, zero as 𝟘, one as 𝟙, add as ◌⊕◌, mul as ◌⊗◌, neg}

  infixl 60 ◌⊕◌
  infixl 70 ◌⊗◌
  abbrev P : Ring
  P = poly K is_zero n

  abbrev mono : Carrier → List ℕ → Poly K n
  mono c a = monomial K is_zero n c a

  abbrev total : List (List ℕ × Carrier) → Poly K n
  total ts = sum_of_terms K is_zero n ts

  pub total-append : (ts us : List (List ℕ × Carrier)) → total (ts ++ us) ≡ P.add (total ts) (total us)
  unfolding sum_of_terms
  total-append [] us = sym ((poly_laws K L is_zero n).zero_add _)
  total-append (t ∷ ts) us = ap (P.add (mono t.1 t.0)) (total-append ts us) ∙ sym ((poly_laws K L is_zero n).add_assoc _ _ _)

  pub coeff_total : (t : List ℕ × Carrier) (ts : List (List ℕ × Carrier)) (b : List ℕ) → length t.0 ≡ n
      → coeff (total (t ∷ ts)) b ≡ single K t.1 t.0 b ⊕ coeff (total ts) b
  unfolding sum_of_terms
  coeff_total t ts b l = ap (λ h. h b) (coeff_add K L is_zero n _ _) ∙ ap (λ h. h b ⊕ coeff (total ts) b) (coeff_monomial K L is_zero n t.1 t.0 l)

  -- ---- falling lists
  module _ {R : List ℕ → List ℕ → Ordering} (o : IsMonomialOrder R) where
    -- at tuples that are not less than a there is nothing
    zero_beside : (a : List ℕ) (ts : List (List ℕ × Carrier)) → AllLess R a ts → AreTerms K n ts → (b : List ℕ) → ¬ (R b a ≡ Less) → coeff (total ts) b ≡ 𝟘
    unfolding sum_of_terms
    zero_beside a [] w m b h = ap (λ x. x b) (coeff_zero K L is_zero n)
    zero_beside a (t ∷ ts) w m b h =
        coeff_total t ts b m.0
        ∙ ap₂ (λ x y. x ⊕ y) (single_other K t.1 t.0 b (λ e. h (ap (λ x. R x a) e ∙ w.0))) (zero_beside a ts w.1 m.2 b h) ∙ L.zero_add 𝟘

    pub coeff_first : (t : List ℕ × Carrier) (ts : List (List ℕ × Carrier)) → AreTerms K n (t ∷ ts) → IsFalling R (t ∷ ts) → coeff (total (t ∷ ts)) t.0 ≡ t.1
    coeff_first t ts m w =
        coeff_total t ts t.0 m.0
        ∙ ap₂ (λ x y. x ⊕ y) (single_same K t.1 t.0) (zero_beside t.0 ts w.0 m.2 t.0 (λ e. Less≢Equal (sym e ∙ order_itself o t.0))) ∙ add_zero L t.1

    -- the first term is the head
    pub first_is_head : (t : List ℕ × Carrier) (ts : List (List ℕ × Carrier)) → AreTerms K n (t ∷ ts) → IsFalling R (t ∷ ts) → IsHead R (total (t ∷ ts)) t.0
    first_is_head t ts m w = record {
      fits = m.0;
      nonzero = λ z. m.1 (sym (coeff_first t ts m w) ∙ z);
      zero_above = λ b g.
          coeff_total t ts b m.0
          ∙ ap₂ (λ x y. x ⊕ y) (single_other K t.1 t.0 b (λ e. Less≢Greater_at e g)) (zero_beside t.0 ts w.0 m.2 b (λ e. Less≢Greater (sym e ∙ g))) ∙ L.zero_add 𝟘;
    }
      where
        Less≢Greater_at : {a b : List ℕ} → b ≡ a → ¬ (R b a ≡ Greater)
        Less≢Greater_at {a} {b} e g = let same : R b a ≡ Equal = ap (λ x. R x a) e ∙ order_itself o a in cc

    -- a polynomial has one falling list of terms
    pub terms_unique : (ts us : List (List ℕ × Carrier)) → AreTerms K n ts → IsFalling R ts → AreTerms K n us → IsFalling R us → total ts ≡ total us → ts ≡ us
    unfolding sum_of_terms
    terms_unique [] [] m w k v e = refl
    terms_unique [] (u ∷ us) m w k v e =
        absurd (k.1 (sym (coeff_first u us k v) ∙ ap (λ f. coeff f u.0) (sym e) ∙ ap (λ x. x u.0) (coeff_zero K L is_zero n)))
    terms_unique (t ∷ ts) [] m w k v e =
        absurd (m.1 (sym (coeff_first t ts m w) ∙ ap (λ f. coeff f t.0) e ∙ ap (λ x. x t.0) (coeff_zero K L is_zero n)))
    terms_unique (t ∷ ts) (u ∷ us) m w k v e =
        let head : t.0 ≡ u.0 = head_unique K L is_zero n o (total (u ∷ us)) t.0 u.0 (moved t ts (total (u ∷ us)) m w e) (first_is_head u us k v) in
        let coefficient : t.1 ≡ u.1 = sym (coeff_first t ts m w) ∙ ap₂ (λ f a. coeff f a) e head ∙ coeff_first u us k v in
        let rest : total ts ≡ total us = add_cancel (poly_laws K L is_zero n) (mono u.1 u.0) (total ts) (total us)
        (ap₂ (λ c a. P.add (mono c a) (total ts)) (sym coefficient) (sym head) ∙ e) in
        ap₂ (λ x y. x ∷ y) (ap₂ (λ a c. (a, c)) head coefficient) (terms_unique ts us m.2 w.1 k.2 v.1 rest)
      where
        moved : (t : List ℕ × Carrier) (ts : List (List ℕ × Carrier)) (f : Poly K n) → AreTerms K n (t ∷ ts) → IsFalling R (t ∷ ts) → total (t ∷ ts) ≡ f → IsHead R f t.0
        moved t ts f m w e = subst (λ x. IsHead R x t.0) e (first_is_head t ts m w)

  -- ---- like terms
  single_sum : (c d : Carrier) (a b : List ℕ) → single K (c ⊕ d) a b ≡ single K c a b ⊕ single K d a b
  single_sum c d a b = elim (same_tuple b a) [
    | inl s ↦ at c d s.0 ∙ sym (ap₂ (λ x y. x ⊕ y) (one c s.0) (one d s.0))
    | inr w ↦ single_other K (c ⊕ d) a b (apart b a w) ∙ sym (ap₂ (λ x y. x ⊕ y) (single_other K c a b (apart b a w)) (single_other K d a b (apart b a w)) ∙ L.zero_add 𝟘)
  ]
    where
      one : {a b : List ℕ} (c : Carrier) → b ≡ a → single K c a b ≡ c
      one {a} c e = ap (single K c a) e ∙ single_same K c a

      at : {a b : List ℕ} (c d : Carrier) → b ≡ a → single K (c ⊕ d) a b ≡ c ⊕ d
      at {a} c d e = ap (single K (c ⊕ d) a) e ∙ single_same K (c ⊕ d) a

  -- c * x ^ a + d * x ^ a, and 0 * x ^ a, at any tuple
  pub monomial_add : (c d : Carrier) (a : List ℕ) → P.add (mono c a) (mono d a) ≡ mono (c ⊕ d) a
  monomial_add c d a = same_at_tuples K is_zero n _ _ (λ b l.
      ap (λ h. h b) (coeff_add K L is_zero n _ _)
      ∙ ap₂ (λ x y. x ⊕ y) (coeff_monomial_at K L is_zero n c a b l) (coeff_monomial_at K L is_zero n d a b l)
      ∙ sym (single_sum c d a b) ∙ sym (coeff_monomial_at K L is_zero n (c ⊕ d) a b l))

  pub monomial_zero : (a : List ℕ) → mono 𝟘 a ≡ P.zero
  monomial_zero a = same_at_tuples K is_zero n _ _ (λ b l.
      coeff_monomial_at K L is_zero n 𝟘 a b l
      ∙ elim (same_tuple b a) [ inl s ↦ ap (single K 𝟘 a) s.0 ∙ single_same K 𝟘 a | inr w ↦ single_other K 𝟘 a b (apart b a w) ]
      ∙ sym (ap (λ h. h b) (coeff_zero K L is_zero n)))
