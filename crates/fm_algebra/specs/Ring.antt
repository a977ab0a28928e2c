-- Commutative rings: the operations, and apart from them the laws.
use Rattle.std.specs.Prelude.{◌≡◌, ◌⊎◌, ℕ, ◌+◌}

-- the operations of a ring
pub record Ring : Type 1 where
  pub Carrier : Type 0
  pub zero : Carrier
  pub one : Carrier
  pub add : Carrier → Carrier → Carrier
  pub mul : Carrier → Carrier → Carrier
  pub neg : Carrier → Carrier

-- the laws of a commutative ring with one
pub record IsRing (R : Ring) : Type 0 where
  pub is_set : IsSet R.Carrier
  pub add_assoc : (a b c : R.Carrier) → R.add (R.add a b) c ≡ R.add a (R.add b c)
  pub add_comm : (a b : R.Carrier) → R.add a b ≡ R.add b a
  pub zero_add : (a : R.Carrier) → R.add R.zero a ≡ a
  pub neg_add : (a : R.Carrier) → R.add (R.neg a) a ≡ R.zero
  pub mul_assoc : (a b c : R.Carrier) → R.mul (R.mul a b) c ≡ R.mul a (R.mul b c)
  pub mul_comm : (a b : R.Carrier) → R.mul a b ≡ R.mul b a
  pub one_mul : (a : R.Carrier) → R.mul R.one a ≡ a
  pub mul_add : (a b c : R.Carrier) → R.mul a (R.add b c) ≡ R.add (R.mul a b) (R.mul a c)

-- a field: 1 is not 0, and each element is 0 or has an inverse
pub record IsField (R : Ring) : Type 0 where
  pub one_not_zero : ¬ (R.one ≡ R.zero)
  pub zero_or_inverse : (a : R.Carrier) → (a ≡ R.zero) ⊎ ((b : R.Carrier) × (R.mul a b ≡ R.one))

-- a twist for each exponent e, by q = p ^ e: ring endomorphisms that compose
pub record IsFrobenius (R : Ring) (twist : ℕ → R.Carrier → R.Carrier) : Type 0 where
  pub twist_one : (e : ℕ) → twist e R.one ≡ R.one
  pub twist_add : (e : ℕ) (a b : R.Carrier) → twist e (R.add a b) ≡ R.add (twist e a) (twist e b)
  pub twist_mul : (e : ℕ) (a b : R.Carrier) → twist e (R.mul a b) ≡ R.mul (twist e a) (twist e b)
  pub twist_none : (a : R.Carrier) → twist 0 a ≡ a
  pub twist_twist : (d e : ℕ) (a : R.Carrier) → twist d (twist e a) ≡ twist (e + d) a

-- A ring that is free over the image of a twist, by slices: an element is told by its slices, any family of slices is
-- that of an element, and to multiply by a twist is to multiply each slice (Kunz 1969).
pub record IsSliced (R : Ring) (I : Type 0) (twist : R.Carrier → R.Carrier) (slice : I → R.Carrier → R.Carrier) : Type 0 where
  pub glue : (I → R.Carrier) → R.Carrier
  pub slice_glue : (u : I → R.Carrier) (a : I) → slice a (glue u) ≡ u a
  pub same : (f g : R.Carrier) → ((a : I) → slice a f ≡ slice a g) → f ≡ g
  pub slice_add : (a : I) (f g : R.Carrier) → slice a (R.add f g) ≡ R.add (slice a f) (slice a g)
  pub slice_mul : (a : I) (f g : R.Carrier) → slice a (R.mul (twist f) g) ≡ R.mul f (slice a g)
  pub origin : I
  pub slice_origin : (f : R.Carrier) → slice origin (twist f) ≡ f
