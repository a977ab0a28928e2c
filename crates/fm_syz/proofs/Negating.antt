-- A multiple by p - 1 is a negative.
use Rattle.std.proofs.Common.{List, ℕ, zero, suc, ◌+◌, ◌-◌, ◌*◌, ◌%◌, ◌<◌, ◌≡◌, refl, sym, ap, ◌∙◌, subst, arith, mod-eq_of_lt, mul_comm}
use Rattle.std.proofs.Math.Nat.{zero-mod, mod_self, add-mul-mod_self_right}
use native.Mathlib.Nat.{mul-zero, mul-suc}
use Rattle.fm_gfp.specs.Primes.{prime_value}
use Rattle.fm_gfp.specs.declared.prime.Prime.{Prime}
use Rattle.fm_gfp.proofs.Residues.{prime_positive}
use Rattle.fm_algebra.specs.Polynomials.{Polynomial, coefficient, polynomial_multiple, polynomial_negative}
use Rattle.fm_algebra.proofs.PolynomialWords.{coefficient_below, same_coefficients, coefficient_multiple, coefficient_negative}
use Rattle.fm_poly.specs.declared.ring.Ring.{Ring}
use Rattle.fm_poly.specs.declared.term.Term.{Term}
use Rattle.fm_poly.specs.Polys.{meaning}

turned : (q a : ℕ) → a < suc q → (q * a) % suc q ≡ (suc q - a) % suc q
turned q zero h = ap (λ x. x % suc q) (mul-zero q) ∙ zero-mod (suc q) ∙ sym (ap (λ x. x % suc q) (whole q) ∙ mod_self (suc q))
  where
    whole : (q : ℕ) → suc q - 0 ≡ suc q
    whole q = omega arith
turned q (suc b) h = ap (λ x. x % suc q) (split (q * b) (b * suc q) (mul-suc q b) (mul-suc b q) (mul_comm q b)) ∙ add-mul-mod_self_right (suc q - suc b) b (suc q)
  where
    split : (x y : ℕ) → q * suc b ≡ q * b + q → b * suc q ≡ b * q + b → q * b ≡ b * q → q * suc b ≡ (suc q - suc b) + b * suc q
    split x y e f g = omega (arith, e, f, g, h)

minus_one : (p a : ℕ) → 0 < p → a < p → (((p - 1) % p) * a) % p ≡ (p - a) % p
minus_one zero a h l = absurd (omega (arith, h))
minus_one (suc q) a h l = ap (λ x. (x * a) % suc q) (small q) ∙ turned q a l
  where
    small : (q : ℕ) → (suc q - 1) % suc q ≡ q
    small q = let e : suc q - 1 ≡ q = omega arith in ap (λ x. x % suc q) e ∙ mod-eq_of_lt (omega arith)

pub multiple_is_negative : (p : Prime) (n c : ℕ) (f : Polynomial p n) → c ≡ (prime_value p - 1) % prime_value p → polynomial_multiple p n c f ≡ polynomial_negative p n f
multiple_is_negative p n c f e = same_coefficients p n (polynomial_multiple p n c f) (polynomial_negative p n f) (λ a l.
    coefficient_multiple p n c f a ∙ ap (λ x. (x * coefficient p n f a) % prime_value p) e ∙ minus_one (prime_value p) (coefficient p n f a) (prime_positive p) (coefficient_below p n f a)
    ∙ sym (coefficient_negative p n f a))

pub negative_at : (r r' : Ring) (one c : ℕ) (f g : List Term) → r' ≡ r → one ≡ 1 % prime_value r.prime → c ≡ (prime_value r.prime - one) % prime_value r.prime
    → meaning r' g ≡ polynomial_multiple r'.prime r'.vars c (meaning r' f) → meaning r g ≡ polynomial_negative r.prime r.vars (meaning r f)
negative_at r r' one c f g same unit e h =
    subst (λ (s : Ring). meaning s g ≡ polynomial_multiple s.prime s.vars c (meaning s f)) same h
    ∙ multiple_is_negative r.prime r.vars c (meaning r f) (e ∙ ap (λ x. (prime_value r.prime - x) % prime_value r.prime) unit ∙ small (prime_value r.prime))
  where
    big : (p : ℕ) → (suc (suc p) - 1 % suc (suc p)) % suc (suc p) ≡ (suc (suc p) - 1) % suc (suc p)
    big p = ap (λ x. (suc (suc p) - x) % suc (suc p)) (mod-eq_of_lt (omega arith))

    small : (p : ℕ) → (p - 1 % p) % p ≡ (p - 1) % p
    small zero = refl
    small (suc zero) = refl
    small (suc (suc p)) = big p
