-- Places of vectors: a component, counted from the last one, which is 0, and a monomial. A greater number is a smaller component, so it is greater.
-- In this form position over term is well founded with no bound on the components.
use Rattle.std.proofs.Common.{ℕ, zero, suc, ◌<◌, ◌≡◌, ◌⊎◌, inl, inr, Option, Some, None, refl, sym, ap, ◌∙◌, subst, arith}
use mathlib.Core.WellFounded.{Acc}
use native.Mathlib.Decide.{dec_lt}
use Rattle.fm_tuple.specs.Tuple.{TupleDivides}
use Rattle.fm_algebra.specs.Ring.{Ring, IsRing}
use Rattle.fm_groebner.proofs.Setting.{Setting, Trichotomy, below, same, above, IsLcm}
use Rattle.fm_groebner.proofs.Monomials.{Monomial, divides_dec, one, ◌·◌, difference, maximum, one_times, times_comm, times_assoc, times_cancel, times_difference, divides_times, lcm_meets, lcm_least}

-- a well-founded total order of the monomials in n variables that respects products
pub record MonomialOrder (n : ℕ) : Type 1 where
  pub Lower : Monomial n → Monomial n → Type 0
  pub compared : (a b : Monomial n) → Trichotomy Lower a b
  pub lower_trans : {a b c : Monomial n} → Lower a b → Lower b c → Lower a c
  pub lower_times : (m : Monomial n) {a b : Monomial n} → Lower a b → Lower (m · a) (m · b)
  pub founded : (a : Monomial n) → Acc Lower a

numbers_below : (n k : ℕ) → k < n → Acc ◌<◌ k
numbers_below zero k l = absurd (omega arith)
numbers_below (suc n) k l = Acc.intro k (λ j i. numbers_below n j (omega arith))

pub numbers_founded : (k : ℕ) → Acc ◌<◌ k
numbers_founded k = numbers_below (suc k) k (omega arith)

pub same_place : {n : ℕ} {k l : ℕ} {a b : Monomial n} → k ≡ l → a ≡ b → ◌≡◌ {A = ℕ × Monomial n} (k, a) (l, b)
same_place e f = λ i. (e i, f i)

module _ {n : ℕ} (O : MonomialOrder n) where
  abbrev pub PlaceLess : ℕ × Monomial n → ℕ × Monomial n → Type 0
  PlaceLess x y = (x.0 < y.0) ⊎ ((x.0 ≡ y.0) × O.Lower x.1 y.1)

  pub place_compared : (x y : ℕ × Monomial n) → Trichotomy PlaceLess x y
  place_compared x y = elim (dec_lt x.0 y.0) [
    | yes l ↦ below (inl l)
    | no nl ↦ elim (dec_lt y.0 x.0) [
      | yes k ↦ above (inl k)
      | no nk ↦ by_monomials (level nl nk) (O.compared x.1 y.1)
    ]
  ]
    where
      level : ¬ (x.0 < y.0) → ¬ (y.0 < x.0) → x.0 ≡ y.0
      level f g = omega arith

      by_monomials : x.0 ≡ y.0 → Trichotomy O.Lower x.1 y.1 → Trichotomy PlaceLess x y
      by_monomials e (below l) = below (inr (e, l))
      by_monomials e (same p) = same (same_place e p)
      by_monomials e (above l) = above (inr (sym e, l))

  pub place_trans : {x y z : ℕ × Monomial n} → PlaceLess x y → PlaceLess y z → PlaceLess x z
  place_trans {x} {y} {z} (inl l) (inl k) = inl (omega arith)
  place_trans {x} {y} {z} (inl l) (inr k) = let e : y.0 ≡ z.0 = k.0 in inl (omega arith)
  place_trans {x} {y} {z} (inr l) (inl k) = let e : x.0 ≡ y.0 = l.0 in inl (omega arith)
  place_trans {x} {y} {z} (inr l) (inr k) = inr (l.0 ∙ k.0, O.lower_trans l.1 k.1)

  pub pairs_founded : (k : ℕ) → Acc ◌<◌ k → (a : Monomial n) → Acc PlaceLess (k, a)
  pairs_founded k (Acc.intro k' h) = λ a. by_monomials (λ j l b. pairs_founded j (h j l) b) a (O.founded a)
    where
      by_monomials : ((j : ℕ) → j < k → (b : Monomial n) → Acc PlaceLess (j, b)) → (a : Monomial n) → Acc O.Lower a → Acc PlaceLess (k, a)
      by_monomials outer a (Acc.intro a' g) = Acc.intro (k, a) (λ y l. elim l [
        | inl less ↦ outer y.0 less y.1
        | inr e ↦ subst (λ z. Acc PlaceLess (z, y.1)) (sym e.0) (by_monomials outer y.1 (g y.1 e.1))
      ])

  abbrev pub place_quotient_by : (m b : Monomial n) → ℕ → Dec (TupleDivides m.exponents b.exponents) → Option (ℕ × Monomial n)
  place_quotient_by m b k (yes d) = Some (k, difference b m)
  place_quotient_by m b k (no w) = None

  abbrev pub place_quotient : Monomial n → ℕ × Monomial n → Option (ℕ × Monomial n)
  place_quotient m x = place_quotient_by m x.1 x.0 (divides_dec m.exponents x.1.exponents)

  pub quotient_at : (m : Monomial n) (x : ℕ × Monomial n) (d : Dec (TupleDivides m.exponents (m · x.1).exponents)) → place_quotient_by m (m · x.1) x.0 d ≡ Some x
  quotient_at m x (yes d) = ap (λ z. Some (x.0, z)) (times_cancel (difference (m · x.1) m) x.1 m (times_comm (difference (m · x.1) m) m ∙ times_difference m (m · x.1) d ∙ times_comm m x.1))
  quotient_at m x (no w) = absurd (w (divides_times m x.1))

  the_same : {A : Type 0} {x y : A} → Some x ≡ Some y → x ≡ y
  the_same e = cc

  pub quotient_is : (m : Monomial n) (b x : ℕ × Monomial n) (d : Dec (TupleDivides m.exponents b.1.exponents)) → place_quotient_by m b.1 b.0 d ≡ Some x → ◌≡◌ {A = ℕ × Monomial n} (x.0, m · x.1) b
  quotient_is m b x (yes d) e = ap (λ y. (y.0, m · y.1)) (sym (the_same e)) ∙ same_place refl (times_difference m b.1 d)
  quotient_is m b x (no w) e = absurd (none e)
    where
      none : ¬ (None ≡ Some x)
      none f = cc

  module _ (R : Ring) (L : IsRing R) (is_zero : (c : R.Carrier) → Dec (c ≡ R.zero)) where
    -- vectors over R[x1..xn] by places
    abbrev pub places : Setting
    places = record {
      ring = R;
      laws = L;
      is_zero = is_zero;
      Place = ℕ × Monomial n;
      Monomial = Monomial n;
      one = one;
      ◌·◌ = ◌·◌;
      ◌•◌ = λ m x. (x.0, m · x.1);
      quotient = place_quotient;
      Less = PlaceLess;
      one_at = λ x. same_place refl (one_times x.1);
      at_at = λ a b x. same_place refl (times_assoc a b x.1);
      free = λ a b x e. times_cancel a b x.1 (ap (λ y. y.1) e);
      quotient_at = λ m x. quotient_at m x (divides_dec m.exponents (m · x.1).exponents);
      quotient_is = λ m b x e. quotient_is m b x (divides_dec m.exponents b.1.exponents) e;
      compared = place_compared;
      less_trans = λ {a} {b} {c} l k. place_trans {x = a} {y = b} {z = c} l k;
      less_at = λ m {a} {b} l. elim l [ inl k ↦ inl k | inr k ↦ inr (k.0, O.lower_times m k.1) ];
      founded = λ x. pairs_founded x.0 (numbers_founded x.0) x.1;
    }

    -- places in one component have a least common multiple
    pub place_lcm : (x y : ℕ × Monomial n) → x.0 ≡ y.0 → IsLcm places x y (difference (maximum x.1 y.1) x.1) (difference (maximum x.1 y.1) y.1)
    place_lcm x y e = record {
      meets = same_place e (lcm_meets x.1 y.1);
      least = λ m l f. lcm_least x.1 y.1 m l (ap (λ z. z.1) f);
    }

    -- places in two components have no common multiple
    pub place_apart : (x y : ℕ × Monomial n) → ¬ (x.0 ≡ y.0) → (m l : Monomial n) → ¬ (◌≡◌ {A = ℕ × Monomial n} (x.0, m · x.1) (y.0, l · y.1))
    place_apart x y d m l e = d (ap (λ z. z.0) e)
