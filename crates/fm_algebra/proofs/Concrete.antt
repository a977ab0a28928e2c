-- The laws of GF(p)[x1 .. xn] and of its twists, for every listed prime, every n and every q = p ^ e
use Rattle.std.proofs.Common.{◌≡◌, ◌<◌, ℕ, ◌+◌, ◌^◌, ap, sym, ◌∙◌, add_comm, pow-add}
use native.Mathlib.Nat.{pow-zero}
use Rattle.fm_gfp.specs.Primes.{prime_value}
use Rattle.fm_gfp.specs.declared.prime.Prime.{Prime}
use Rattle.fm_algebra.specs.Ring.{IsRing, IsFrobenius, IsSliced}
use Rattle.fm_algebra.specs.Gf.{gf, gf_is_zero, prime_positive}
use Rattle.fm_algebra.specs.Twist.{Digits, twist}
use Rattle.fm_algebra.specs.Polynomials.{Polynomial, polynomials, frobenius_twist, frobenius_slice}
use Rattle.fm_algebra.proofs.Gf.{gf_laws}
use Rattle.fm_algebra.proofs.PolyRing.{poly_laws}
use Rattle.fm_algebra.proofs.Slices.{twist_add, twist_mul, twist_one}
use Rattle.fm_algebra.proofs.PolySlices.{poly_sliced}
use Rattle.fm_algebra.proofs.Frobenius.{power_positive, twist_by_one, twist_twist}

module _ (p : Prime) (n : ℕ) where
  pub polynomials_laws : IsRing (polynomials p n)
  polynomials_laws = poly_laws (gf p) (gf_laws p) (gf_is_zero p) n

  -- q = p ^ e is positive
  pub q_positive : (e : ℕ) → 0 < prime_value p ^ e
  q_positive e = power_positive (prime_value p) (prime_positive p) e

  pub polynomials_sliced : (e : ℕ) → IsSliced (polynomials p n) (Digits n (prime_value p ^ e)) (frobenius_twist p n e) (λ d. frobenius_slice p n e d.tuple)
  unfolding frobenius_twist frobenius_slice
  polynomials_sliced e = poly_sliced (gf p) (gf_laws p) (gf_is_zero p) n (prime_value p ^ e) (q_positive e)

  pub twist_none : (f : Polynomial p n) → frobenius_twist p n 0 f ≡ f
  unfolding frobenius_twist
  twist_none f = ap (λ q. twist (gf p) (gf_is_zero p) n q f) (pow-zero (prime_value p)) ∙ twist_by_one (gf p) (gf_laws p) (gf_is_zero p) n f

  pub twists_compose : (d e : ℕ) (f : Polynomial p n) → frobenius_twist p n d (frobenius_twist p n e f) ≡ frobenius_twist p n (e + d) f
  unfolding frobenius_twist
  twists_compose d e f =
      twist_twist (gf p) (gf_laws p) (gf_is_zero p) n (prime_value p ^ d) (prime_value p ^ e) (q_positive d) (q_positive e) f
      ∙ ap (λ q. twist (gf p) (gf_is_zero p) n q f) (sym (pow-add (prime_value p) d e) ∙ ap (λ k. prime_value p ^ k) (add_comm d e))

  pub polynomials_frobenius : IsFrobenius (polynomials p n) (frobenius_twist p n)
  polynomials_frobenius = record {
    twist_one = λ e. twist_one polynomials_laws (polynomials_sliced e);
    twist_add = λ e f g. twist_add polynomials_laws (polynomials_sliced e) f g;
    twist_mul = λ e f g. twist_mul polynomials_laws (polynomials_sliced e) f g;
    twist_none = twist_none;
    twist_twist = twists_compose;
  }
