-- The ring of polynomials is free over its twists (Kunz 1969)
use Rattle.std.proofs.Common.{◌≡◌, ℕ, zero, suc, ◌<◌, List, length, replicate, ap, ap₂, sym, ◌∙◌, arith}
use native.Mathlib.Nat.{ℕ_set}
use native.Mathlib.Decide.{ℕ_discrete}
use Rattle.fm_algebra.specs.Ring.{Ring, IsRing, IsSliced}
use Rattle.fm_algebra.specs.Series.{Series, times}
use Rattle.fm_algebra.specs.Poly.{Poly, coeff}
use Rattle.fm_algebra.specs.PolyRing.{poly}
use Rattle.fm_algebra.specs.Twist.{tuple_place, tuple_quotient, tuple_remainder, AllBelow, Digits, twisted, twist, slice}
use Rattle.fm_algebra.proofs.Sums.{splits_same_if, length_right}
use Rattle.fm_algebra.proofs.Poly.{same_at_tuples}
use Rattle.fm_algebra.proofs.PolyRing.{coeff_add, coeff_mul}
use Rattle.fm_algebra.proofs.Spread.{twisted_times}
use Rattle.fm_algebra.proofs.TuplePlaces.{length_place, quotient_place, remainder_place, place_parts, length_quotient, length_remainder, remainder_below, is_below, AllBelow-prop, zeros_below, length_zeros, place_zeros}
use Rattle.fm_algebra.proofs.Twist.{coeff_twist, coeff_slice, coeff_glue, glue, twisted_multiple}

module _ (K : Ring) (L : IsRing K) (is_zero : (c : K.Carrier) → Dec (c ≡ K.zero)) (n q : ℕ) (pos : 0 < q) where
  open K use {Carrier, zero as 𝟘, one as 𝟙, add as ◌⊕◌, mul as ◌⊗◌, neg}

  infixl 60 ◌⊕◌
  infixl 70 ◌⊗◌
  abbrev P : Ring
  P = poly K is_zero n

  abbrev sliced : Digits n q → Poly K n → Poly K n
  sliced d f = slice K is_zero n q d.tuple f

  -- a family on the tuples of n numbers below q as one on all tuples
  abbrev family_by : (Digits n q → Poly K n) → (a : List ℕ) → Dec (length a ≡ n) → Dec (AllBelow q a) → Poly K n
  family_by u a (yes l) (yes w) = u (record { tuple = a; fits = l; below = w })
  family_by u a (yes l) (no w) = P.zero
  family_by u a (no l) w = P.zero

  family_at : (u : Digits n q → Poly K n) (d : Digits n q) (l : Dec (length d.tuple ≡ n)) (w : Dec (AllBelow q d.tuple)) → family_by u d.tuple l w ≡ u d
  family_at u d (yes l) (yes w) = ap₂ (λ x y. u (record { tuple = d.tuple; fits = x; below = y })) (ℕ_set _ _ l d.fits) (AllBelow-prop q d.tuple w d.below)
  family_at u d (yes l) (no w) = absurd (w d.below)
  family_at u d (no l) w = absurd (l d.fits)

  abbrev family : (Digits n q → Poly K n) → List ℕ → Poly K n
  family u a = family_by u a (ℕ_discrete (length a) n) (is_below q a)

  glued : (Digits n q → Poly K n) → Poly K n
  glued u = glue K is_zero n q (family u)

  at_slice : (d : Digits n q) (f : Poly K n) (b : List ℕ) → length b ≡ n → coeff (sliced d f) b ≡ coeff f (tuple_place q b d.tuple)
  at_slice d f b l = coeff_slice K is_zero n q d.tuple f d.fits d.below b l

  slice_glued : (u : Digits n q → Poly K n) (d : Digits n q) → sliced d (glued u) ≡ u d
  unfolding glued
  slice_glued u d = same_at_tuples K is_zero n _ _ (λ b l.
      let fit : length d.tuple ≡ length b = d.fits ∙ sym l in
      at_slice d (glued u) b l
      ∙ coeff_glue K is_zero n q pos (family u) (tuple_place q b d.tuple) (length_place q b d.tuple fit ∙ l)
      ∙ ap₂ (λ x y. coeff (family u x) y) (remainder_place q b d.tuple fit d.below) (quotient_place q b d.tuple fit d.below)
      ∙ ap (λ f. coeff f b) (family_at u d (ℕ_discrete (length d.tuple) n) (is_below q d.tuple)))

  abbrev remainder_digits : (c : List ℕ) → length c ≡ n → Digits n q
  remainder_digits c l = record { tuple = tuple_remainder q c; fits = length_remainder q c ∙ l; below = remainder_below q pos c }

  by_slices : (f : Poly K n) (c : List ℕ) (l : length c ≡ n) → coeff f c ≡ coeff (sliced (remainder_digits c l) f) (tuple_quotient q c)
  by_slices f c l = sym (at_slice (remainder_digits c l) f (tuple_quotient q c) (length_quotient q c ∙ l) ∙ ap (coeff f) (place_parts q c))

  times_twist : (q : ℕ) → 0 < q → (b a : List ℕ) (f g : Series K) → length a ≡ length b → AllBelow q a
      → times K (twisted K q f) g (tuple_place q b a) ≡ times K f (λ v. g (tuple_place q v a)) b
  times_twist zero h b a f g l w = absurd (omega arith)
  times_twist (suc s) h b a f g l w = twisted_times L s b a f g l w

  pub poly_sliced : IsSliced P (Digits n q) (twist K is_zero n q) sliced
  poly_sliced = record {
    glue = glued;
    slice_glue = slice_glued;
    same = λ f g h. same_at_tuples K is_zero n f g (λ c l. by_slices f c l ∙ ap (λ x. coeff x (tuple_quotient q c)) (h (remainder_digits c l)) ∙ sym (by_slices g c l));
    slice_add = λ d f g. same_at_tuples K is_zero n _ _ (λ b l.
        at_slice d (P.add f g) b l ∙ ap (λ h. h (tuple_place q b d.tuple)) (coeff_add K L is_zero n f g)
        ∙ ap₂ (λ x y. x ⊕ y) (sym (at_slice d f b l)) (sym (at_slice d g b l))
        ∙ sym (ap (λ h. h b) (coeff_add K L is_zero n (sliced d f) (sliced d g))));
    slice_mul = λ d f g. same_at_tuples K is_zero n _ _ (λ b l.
        at_slice d (P.mul (twist K is_zero n q f) g) b l
        ∙ ap (λ h. h (tuple_place q b d.tuple)) (coeff_mul K L is_zero n (twist K is_zero n q f) g)
        ∙ ap (λ h. times K h (coeff g) (tuple_place q b d.tuple)) (coeff_twist K is_zero n q f)
        ∙ times_twist q pos b d.tuple (coeff f) (coeff g) (d.fits ∙ sym l) d.below
        ∙ splits_same_if ◌⊕◌ b (λ u v s. ap (λ x. coeff f u ⊗ x) (sym (at_slice d g v (length_right s ∙ l))))
        ∙ sym (ap (λ h. h b) (coeff_mul K L is_zero n f (sliced d g))));
    origin = record { tuple = replicate n 0; fits = length_zeros n; below = zeros_below n q pos };
    slice_origin = λ f. same_at_tuples K is_zero n _ _ (λ b l.
        coeff_slice K is_zero n q (replicate n 0) (twist K is_zero n q f) (length_zeros n) (zeros_below n q pos) b l
        ∙ ap (λ h. h (tuple_place q b (replicate n 0))) (coeff_twist K is_zero n q f)
        ∙ ap (twisted K q (coeff f)) (place_zeros q n b l) ∙ twisted_multiple K q pos (coeff f) b);
  }
