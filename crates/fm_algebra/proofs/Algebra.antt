-- What follows from the laws of a commutative ring
use Rattle.std.proofs.Common.{◌≡◌, ap, ap₂, sym, ◌∙◌}
use Rattle.fm_algebra.specs.Ring.{Ring, IsRing}

module _ {K : Ring} (L : IsRing K) where
  open K use {Carrier, zero as 𝟘, one as 𝟙, add as ◌⊕◌, mul as ◌⊗◌, neg}
  open L use {add_assoc, add_comm, zero_add, neg_add, mul_assoc, mul_comm, one_mul, mul_add}

  infixl 60 ◌⊕◌
  infixl 70 ◌⊗◌
  pub add_zero : (a : Carrier) → a ⊕ 𝟘 ≡ a
  add_zero a = add_comm a 𝟘 ∙ zero_add a

  pub add_neg : (a : Carrier) → a ⊕ neg a ≡ 𝟘
  add_neg a = add_comm a (neg a) ∙ neg_add a

  pub mul_one : (a : Carrier) → a ⊗ 𝟙 ≡ a
  mul_one a = mul_comm a 𝟙 ∙ one_mul a

  pub add_mul : (a b c : Carrier) → (a ⊕ b) ⊗ c ≡ a ⊗ c ⊕ b ⊗ c
  add_mul a b c = mul_comm (a ⊕ b) c ∙ mul_add c a b ∙ ap₂ (λ x y. x ⊕ y) (mul_comm c a) (mul_comm c b)

  pub add_left_comm : (a b c : Carrier) → a ⊕ (b ⊕ c) ≡ b ⊕ (a ⊕ c)
  add_left_comm a b c = sym (add_assoc a b c) ∙ ap (λ x. x ⊕ c) (add_comm a b) ∙ add_assoc b a c

  pub add_swap : (a b c d : Carrier) → (a ⊕ b) ⊕ (c ⊕ d) ≡ (a ⊕ c) ⊕ (b ⊕ d)
  add_swap a b c d = add_assoc a b (c ⊕ d) ∙ ap (λ x. a ⊕ x) (add_left_comm b c d) ∙ sym (add_assoc a c (b ⊕ d))

  pub mul_left_comm : (a b c : Carrier) → a ⊗ (b ⊗ c) ≡ b ⊗ (a ⊗ c)
  mul_left_comm a b c = sym (mul_assoc a b c) ∙ ap (λ x. x ⊗ c) (mul_comm a b) ∙ mul_assoc b a c

  pub mul_swap : (a b c d : Carrier) → (a ⊗ b) ⊗ (c ⊗ d) ≡ (a ⊗ c) ⊗ (b ⊗ d)
  mul_swap a b c d = mul_assoc a b (c ⊗ d) ∙ ap (λ x. a ⊗ x) (mul_left_comm b c d) ∙ sym (mul_assoc a c (b ⊗ d))

  neg_left : (a b : Carrier) → neg a ⊕ (a ⊕ b) ≡ b
  neg_left a b = sym (add_assoc (neg a) a b) ∙ ap (λ x. x ⊕ b) (neg_add a) ∙ zero_add b

  -- what may be added on both sides may be left out
  pub add_cancel : (a b c : Carrier) → a ⊕ b ≡ a ⊕ c → b ≡ c
  add_cancel a b c e = sym (neg_left a b) ∙ ap (λ x. neg a ⊕ x) e ∙ neg_left a c

  pub mul_zero : (a : Carrier) → a ⊗ 𝟘 ≡ 𝟘
  mul_zero a = add_cancel (a ⊗ 𝟘) (a ⊗ 𝟘) 𝟘 (sym (mul_add a 𝟘 𝟘) ∙ ap (λ x. a ⊗ x) (zero_add 𝟘) ∙ sym (add_zero (a ⊗ 𝟘)))

  pub zero_mul : (a : Carrier) → 𝟘 ⊗ a ≡ 𝟘
  zero_mul a = mul_comm 𝟘 a ∙ mul_zero a

  pub neg_zero : neg 𝟘 ≡ 𝟘
  neg_zero = sym (add_zero (neg 𝟘)) ∙ neg_add 𝟘

  -- a negative is the only summand that gives 0
  pub neg_unique : (a b : Carrier) → a ⊕ b ≡ 𝟘 → b ≡ neg a
  neg_unique a b e = add_cancel a b (neg a) (e ∙ sym (add_neg a))

  pub neg_neg : (a : Carrier) → neg (neg a) ≡ a
  neg_neg a = sym (neg_unique (neg a) a (neg_add a))

  pub neg_sum : (a b : Carrier) → neg (a ⊕ b) ≡ neg a ⊕ neg b
  neg_sum a b = sym (neg_unique (a ⊕ b) (neg a ⊕ neg b) (add_swap a b (neg a) (neg b) ∙ ap₂ (λ x y. x ⊕ y) (add_neg a) (add_neg b) ∙ zero_add 𝟘))

  pub mul_neg : (a b : Carrier) → a ⊗ neg b ≡ neg (a ⊗ b)
  mul_neg a b = neg_unique (a ⊗ b) (a ⊗ neg b) (sym (mul_add a b (neg b)) ∙ ap (λ x. a ⊗ x) (add_neg b) ∙ mul_zero a)

  pub neg_mul : (a b : Carrier) → neg a ⊗ b ≡ neg (a ⊗ b)
  neg_mul a b = mul_comm (neg a) b ∙ mul_neg b a ∙ ap neg (mul_comm b a)
