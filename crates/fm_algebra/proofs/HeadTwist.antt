-- Heads of twists
use Rattle.std.proofs.Common.{◌≡◌, ◌<◌, ℕ, zero, suc, List, length, inl, inr, refl, ap, ap₂, sym, ◌∙◌, Less, Equal, Greater, arith}
use Rattle.std.specs.declared.cmp.Ordering.{Ordering}
use native.Mathlib.Decide.{ℕ_discrete}
use Rattle.fm_tuple.specs.Tuple.{tuple_multiple}
use Rattle.fm_tuple.proofs.Tuples.{length_tuple_multiple, tuple_multiple_one}
use Rattle.fm_algebra.specs.Ring.{Ring}
use Rattle.fm_algebra.specs.Poly.{Poly, coeff}
use Rattle.fm_algebra.specs.Twist.{twist}
use Rattle.fm_algebra.specs.Heads.{IsMonomialOrder, IsHead}
use Rattle.fm_algebra.proofs.Poly.{coeff_fixed}
use Rattle.fm_algebra.proofs.Twist.{coeff_twist, twisted_at, twisted_multiple}
use Rattle.fm_algebra.proofs.Frobenius.{multiple_next}
use Rattle.fm_algebra.proofs.Domain.{order_itself, order_turned, sums_less, Less≢Greater}

module _ {R : List ℕ → List ℕ → Ordering} (o : IsMonomialOrder R) where
  less_multiple : (k : ℕ) (a b : List ℕ) → length a ≡ length b → R a b ≡ Less → R (tuple_multiple (suc k) a) (tuple_multiple (suc k) b) ≡ Less
  less_multiple zero a b l e = ap₂ R (tuple_multiple_one a) (tuple_multiple_one b) ∙ e
  less_multiple (suc k) a b l e =
      let left : length (tuple_multiple (suc k) a) ≡ length a = length_tuple_multiple (suc k) a in
      let right : length (tuple_multiple (suc k) b) ≡ length b = length_tuple_multiple (suc k) b in
      ap₂ R (sym (multiple_next (suc k) a)) (sym (multiple_next (suc k) b))
      ∙ sums_less o a b (tuple_multiple (suc k) a) (tuple_multiple (suc k) b) (sym left) (sym l ∙ sym left) (right ∙ sym l ∙ sym left) e Less (less_multiple k a b l e) Less≢Greater

  multiple_by : (k : ℕ) (a b : List ℕ) → length a ≡ length b → (r : Ordering) → R a b ≡ r → R (tuple_multiple (suc k) a) (tuple_multiple (suc k) b) ≡ r
  multiple_by k a b l Less e = less_multiple k a b l e
  multiple_by k a b l Equal e = ap (λ x. R (tuple_multiple (suc k) x) (tuple_multiple (suc k) b)) (o.exact a b e) ∙ order_itself o _
  multiple_by k a b l Greater e =
      order_turned o _ _ Less (less_multiple k b a (sym l) (order_turned o b a Greater e))

  -- q * a compares with q * b as a with b
  pub order_multiple : (q : ℕ) → 0 < q → (a b : List ℕ) → length a ≡ length b → R (tuple_multiple q a) (tuple_multiple q b) ≡ R a b
  order_multiple zero pos a b l = absurd (omega arith)
  order_multiple (suc k) pos a b l = multiple_by k a b l (R a b) refl

  -- the head of a twist is the multiple of the head
  pub head_twist : (K : Ring) (is_zero : (c : K.Carrier) → Dec (c ≡ K.zero)) (n q : ℕ) → 0 < q → (f : Poly K n) (a : List ℕ) → IsHead R f a → IsHead R (twist K is_zero n q f) (tuple_multiple q a)
  head_twist K is_zero n q pos f a h = record {
    fits = length_tuple_multiple q a ∙ h.fits;
    nonzero = λ z. h.nonzero (sym (ap (λ x. x (tuple_multiple q a)) (coeff_twist K is_zero n q f) ∙ twisted_multiple K q pos (coeff f) a) ∙ z);
    zero_above = λ b g. ap (λ x. x b) (coeff_twist K is_zero n q f) ∙ elim (twisted_at K q (coeff f) b) [
      | inl z ↦ z
      | inr t ↦ t.2 ∙ elim (ℕ_discrete (length t.0) n) [
        | yes l ↦ h.zero_above t.0 (sym (order_multiple q pos t.0 a (l ∙ sym h.fits)) ∙ ap (λ x. R x (tuple_multiple q a)) (sym t.1) ∙ g)
        | no w ↦ coeff_fixed f t.0 w
      ]
    ];
  }
