-- What follows in any ring that is free over a twist, by slices: the twist is a homomorphism, and it is injective
use Rattle.std.proofs.Common.{◌≡◌, ap, sym, ◌∙◌}
use Rattle.fm_algebra.specs.Ring.{Ring, IsRing, IsSliced}
use Rattle.fm_algebra.proofs.Algebra.{add_zero, mul_one, add_mul, add_cancel, zero_mul}

module _ {R : Ring} (L : IsRing R) {I : Type 0} {twist : R.Carrier → R.Carrier} {slice : I → R.Carrier → R.Carrier} (S : IsSliced R I twist slice) where
  open R use {Carrier, zero as 𝟘, one as 𝟙, add as ◌⊕◌, mul as ◌⊗◌, neg}

  infixl 60 ◌⊕◌
  infixl 70 ◌⊗◌
  pub slice_zero : (a : I) → slice a 𝟘 ≡ 𝟘
  slice_zero a = add_cancel L (slice a 𝟘) _ _ (sym (S.slice_add a 𝟘 𝟘) ∙ ap (slice a) (L.zero_add 𝟘) ∙ sym (add_zero L _))

  -- the slices of a twist
  pub slice_twist : (a : I) (f : R.Carrier) → slice a (twist f) ≡ f ⊗ slice a 𝟙
  slice_twist a f = ap (slice a) (sym (mul_one L (twist f))) ∙ S.slice_mul a f 𝟙

  -- the twist is a homomorphism
  pub twist_add : (f g : R.Carrier) → twist (f ⊕ g) ≡ twist f ⊕ twist g
  twist_add f g = S.same _ _ (λ a.
      slice_twist a (f ⊕ g) ∙ add_mul L f g (slice a 𝟙) ∙ ap (λ x. x ⊕ g ⊗ slice a 𝟙) (sym (slice_twist a f)) ∙ ap (λ x. slice a (twist f) ⊕ x) (sym (slice_twist a g)) ∙ sym (S.slice_add a (twist f) (twist g)))

  pub twist_mul : (f g : R.Carrier) → twist (f ⊗ g) ≡ twist f ⊗ twist g
  twist_mul f g = S.same _ _ (λ a. slice_twist a (f ⊗ g) ∙ L.mul_assoc f g _ ∙ ap (λ x. f ⊗ x) (sym (slice_twist a g)) ∙ sym (S.slice_mul a f (twist g)))

  pub twist_one : twist 𝟙 ≡ 𝟙
  twist_one = S.same _ _ (λ a. slice_twist a 𝟙 ∙ L.one_mul (slice a 𝟙))

  pub twist_zero : twist 𝟘 ≡ 𝟘
  twist_zero = S.same _ _ (λ a. slice_twist a 𝟘 ∙ zero_mul L (slice a 𝟙) ∙ sym (slice_zero a))

  pub twist_injective : (f g : R.Carrier) → twist f ≡ twist g → f ≡ g
  twist_injective f g e = sym (S.slice_origin f) ∙ ap (slice S.origin) e ∙ S.slice_origin g
