-- Powers of elements of the ring as 1 by 1 matrices
use Rattle.std.proofs.Common.{ℕ, zero, suc, ◌^◌, ◌<◌, ◌≡◌, ◌∙◌, refl, sym, ap, arith}
use Rattle.fm_algebra.specs.Ring.{Ring, IsRing}
use Rattle.fm_algebra.specs.FiniteSums.{last, finite_sum}
use Rattle.fm_algebra.specs.Power.{power}
use Rattle.fm_algebra.specs.Families.{only, Mat, mul, unit, each, element, families}
use Rattle.fm_algebra.specs.Image.{pow}
use Rattle.fm_algebra.proofs.Generation.{IsPower}
use Rattle.fm_algebra.proofs.FiniteSums.{index, where_same}

module _ {R : Ring} (L : IsRing R) (twist : ℕ → R.Carrier → R.Carrier) where
  -- a family of one entry
  pub single : (X Y : Mat R 1 1) → X zero only zero only ≡ Y zero only zero only → X ≡ Y
  single X Y e = λ t i a j b. go i a j b t
    where
      go : (i : ℕ) (a : i < 1) (j : ℕ) (b : j < 1) → X i a j b ≡ Y i a j b
      go i a j b =
          let p : zero ≡ i = omega arith in
          let q : zero ≡ j = omega arith in
          sym (index (λ k h. X k h zero only) p only a ∙ index (λ k h. X i a k h) q only b)
          ∙ e
          ∙ (index (λ k h. Y k h zero only) p only a ∙ index (λ k h. Y i a k h) q only b)

  -- the entry of a power is the power of the entry
  pub pow_entry : (f : Mat R 1 1) (k : ℕ) → pow (families R twist) f k zero only zero only ≡ power R k (f zero only zero only)
  unfolding pow power unit mul finite_sum
  pow_entry f zero = where_same L zero R.one
  pow_entry f (suc k) =
      L.zero_add (R.mul (f zero only zero (last zero)) (pow (families R twist) f k zero (last zero) zero only))
      ∙ ap (λ x. R.mul x (pow (families R twist) f k zero (last zero) zero only)) (index (λ j h. f zero only j h) refl (last zero) only)
      ∙ ap (λ x. R.mul (f zero only zero only) x) (index (λ j h. pow (families R twist) f k j h zero only) refl (last zero) only ∙ pow_entry f k)

  pub element_power : (f : R.Carrier) (k : ℕ) → element R (power R k f) ≡ pow (families R twist) (element R f) k
  element_power f k = single (element R (power R k f)) (pow (families R twist) (element R f) k) (sym (pow_entry (element R f) k))

  -- where twists of the ring are powers, so are twists of 1 by 1 matrices
  pub is_power : (p : ℕ) → ((e : ℕ) (a : R.Carrier) → twist e a ≡ power R (p ^ e) a) → IsPower (families R twist) p
  unfolding each
  is_power p frobenius e f =
      single (each R (twist e) f) (pow (families R twist) f (p ^ e)) (frobenius e (f zero only zero only) ∙ sym (pow_entry f (p ^ e)))
