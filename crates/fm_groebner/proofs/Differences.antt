-- Differences in a commutative ring, written as `neg c * u + v`.
use Rattle.std.proofs.Common.{◌≡◌, refl, sym, ap, ap₂, ◌∙◌}
use Rattle.fm_algebra.specs.Ring.{Ring, IsRing}
use Rattle.fm_algebra.proofs.Algebra.{add_zero, add_neg, add_mul, add_left_comm, mul_zero, zero_mul, mul_neg, neg_mul, neg_neg, neg_sum, neg_zero}

module _ {R : Ring} (L : IsRing R) where
  open R use {Carrier, zero as 𝟘, one as 𝟙, add as ◌⊕◌, mul as ◌⊗◌, neg}

  infixl 60 ◌⊕◌
  infixl 70 ◌⊗◌
  -- what may be added on the left may be left out
  cancel : (z a : Carrier) → z ⊕ (a ⊕ neg z) ≡ a
  cancel z a = add_left_comm L z a (neg z) ∙ ap (λ x. a ⊕ x) (add_neg L z) ∙ add_zero L a

  pub cut_linear : (c u u' w w' s : Carrier) → neg (c ⊗ u' ⊕ w') ⊗ s ⊕ (c ⊗ u ⊕ w) ≡ c ⊗ (neg u' ⊗ s ⊕ u) ⊕ (neg w' ⊗ s ⊕ w)
  cut_linear c u u' w w' s = simp (neg_sum L, add_mul L, L.mul_add, neg_mul L, mul_neg L, L.mul_assoc, L.add_assoc, L.add_comm, add_left_comm L) refl

  pub cut_none : (u u' s : Carrier) → u' ≡ 𝟘 → neg u' ⊗ s ⊕ u ≡ u
  cut_none u u' s e = ap (λ x. neg x ⊗ s ⊕ u) e ∙ ap (λ x. x ⊗ s ⊕ u) (neg_zero L) ∙ ap (λ x. x ⊕ u) (zero_mul L s) ∙ L.zero_add u

  pub diff_chain : (x y z : Carrier) → neg 𝟙 ⊗ y ⊕ x ≡ 𝟙 ⊗ (neg 𝟙 ⊗ z ⊕ x) ⊕ (neg 𝟙 ⊗ y ⊕ z)
  diff_chain x y z = simp (L.one_mul, neg_mul L, L.add_assoc, cancel, L.add_comm, add_left_comm L) refl

  pub diff_sym : (x y : Carrier) → neg 𝟙 ⊗ x ⊕ y ≡ neg 𝟙 ⊗ (neg 𝟙 ⊗ y ⊕ x) ⊕ 𝟘
  diff_sym x y = simp (L.one_mul, neg_mul L, neg_sum L, neg_neg L, add_zero L, L.add_comm) refl

  pub diff_self : (x : Carrier) → neg 𝟙 ⊗ x ⊕ x ≡ 𝟘
  diff_self x = simp (L.one_mul, neg_mul L) (L.neg_add x)

  pub uncut : (c u v : Carrier) → v ≡ c ⊗ u ⊕ (neg c ⊗ u ⊕ v)
  uncut c u v = sym (simp (neg_mul L) (sym (L.add_assoc (c ⊗ u) (neg (c ⊗ u)) v) ∙ ap (λ x. x ⊕ v) (add_neg L (c ⊗ u)) ∙ L.zero_add v))

  pub uncut_diff : (c u r v : Carrier) → neg 𝟙 ⊗ r ⊕ v ≡ c ⊗ u ⊕ (neg 𝟙 ⊗ r ⊕ (neg c ⊗ u ⊕ v))
  uncut_diff c u r v = ap (λ x. neg 𝟙 ⊗ r ⊕ x) (uncut c u v) ∙ add_left_comm L (neg 𝟙 ⊗ r) (c ⊗ u) (neg c ⊗ u ⊕ v)

  -- r = v - (v - r), and v = (v - r) + r
  pub diff_forth : (r v : Carrier) → v ≡ 𝟙 ⊗ (neg 𝟙 ⊗ r ⊕ v) ⊕ r
  diff_forth r v = sym (simp (L.one_mul, neg_mul L, L.add_assoc, L.add_comm, add_left_comm L) (cancel r v))

  pub diff_back : (r v : Carrier) → r ≡ neg 𝟙 ⊗ (neg 𝟙 ⊗ r ⊕ v) ⊕ v
  diff_back r v = sym (simp (L.one_mul, neg_mul L, neg_sum L, neg_neg L) (L.add_assoc r (neg v) v ∙ ap (λ x. r ⊕ x) (L.neg_add v) ∙ add_zero L r))

  pub sum_back : (r v : Carrier) → v ≡ r ⊕ (neg 𝟙 ⊗ r ⊕ v)
  sum_back r v = diff_forth r v ∙ L.add_comm (𝟙 ⊗ (neg 𝟙 ⊗ r ⊕ v)) r ∙ ap (λ x. r ⊕ x) (L.one_mul (neg 𝟙 ⊗ r ⊕ v))

  pub comb_zero : (c u w : Carrier) → u ≡ 𝟘 → w ≡ 𝟘 → c ⊗ u ⊕ w ≡ 𝟘
  comb_zero c u w e f = ap₂ (λ x y. c ⊗ x ⊕ y) e f ∙ add_zero L (c ⊗ 𝟘) ∙ mul_zero L c

  pub skip_zero : (c u v : Carrier) → u ≡ 𝟘 → c ⊗ u ⊕ v ≡ v
  skip_zero c u v e = ap (λ x. c ⊗ x ⊕ v) e ∙ ap (λ x. x ⊕ v) (mul_zero L c) ∙ L.zero_add v

  pub comb_one : (u v : Carrier) → v ≡ u → v ≡ 𝟙 ⊗ u ⊕ 𝟘
  comb_one u v e = e ∙ sym (add_zero L (𝟙 ⊗ u) ∙ L.one_mul u)

  pub scale_only : (c u v : Carrier) → v ≡ c ⊗ u → v ≡ c ⊗ u ⊕ 𝟘
  scale_only c u v e = e ∙ sym (add_zero L (c ⊗ u))

  pub cut_at_one : (a u : Carrier) → u ≡ 𝟙 → neg a ⊗ u ⊕ a ≡ 𝟘
  cut_at_one a u e = ap (λ x. neg a ⊗ x ⊕ a) e ∙ ap (λ x. x ⊕ a) (L.mul_comm (neg a) 𝟙 ∙ L.one_mul (neg a)) ∙ L.neg_add a

  pub scale_back : (c d r : Carrier) → c ⊗ d ≡ 𝟙 → r ≡ c ⊗ (d ⊗ r)
  scale_back c d r e = sym (sym (L.mul_assoc c d r) ∙ ap (λ x. x ⊗ r) e ∙ L.one_mul r)
