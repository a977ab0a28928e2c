-- Iterated local cohomology as a direct system: coboundaries and cocycles are moved to such, and equations at stage 0 present it
use Rattle.std.proofs.Common.{ℕ, ◌+◌, ◌*◌, ◌≡◌, ◌↔◌, ◌∙◌, sym, ap, ap₂, subst}
use Rattle.fm_algebra.specs.Matrices.{Matrices, IsMatrices}
use Rattle.fm_algebra.specs.Image.{InImage}
use Rattle.fm_algebra.proofs.Images.{image_mul, image_add, within_columns, mul_nil, nil_add}
use Rattle.fm_limit.specs.DirectSystem.{Degree}
use Rattle.fm_limit.specs.SystemInstances.{Kronecker, iterated}
use Rattle.fm_limit.proofs.Moves.{Moves}
use Rattle.fm_limit.proofs.SystemInstances.{IsTwistedFrom}

module _ {M : Matrices} (L : IsMatrices M) (X : Kronecker M) where
  open M use {Mat, ◌⊛◌, ◌⊕◌, nil, unit, flip, beside, stack, twist}
  open L use {assoc, unit_left, unit_right, add_nil, dist_left, flip_mul, twist_flip, twist_mul, twist_unit, twist_beside, join_mul, split}
  open X use {◌⊗◌, mixed, twist_kron}

  infixl 75 ◌⊗◌
  infixl 70 ◌⊛◌
  infixl 60 ◌⊕◌
  module _ (D : Degree M) (g n : ℕ) (N : Mat g n) (U : Mat g g) where
    abbrev pub test : Mat (D.high * g) (D.mid * g)
    test = flip D.above ⊗ unit g

    abbrev pub modulo : Mat (D.high * g) (D.high * n)
    modulo = unit D.high ⊗ N

    abbrev pub low : Mat (D.mid * g) (D.low * g)
    low = flip D.below ⊗ unit g

    abbrev pub within : Mat (D.mid * g) (D.mid * n)
    within = unit D.mid ⊗ N

    abbrev pub bounds : Mat (D.mid * g) (D.low * g + D.mid * n)
    bounds = beside low within

    abbrev pub step : Mat (D.mid * g) (D.mid * g)
    step = flip D.theta ⊗ U

    flip_twist : (e : ℕ) {a b c d : ℕ} (A : Mat a b) (B : Mat c d) → twist e (flip A ⊗ B) ≡ flip (twist e A) ⊗ twist e B
    flip_twist e A B = twist_kron e (flip A) B ∙ ap (λ y. y ⊗ twist e B) (twist_flip e A)

    unit_twist : (e k : ℕ) {c d : ℕ} (B : Mat c d) → twist e (unit k ⊗ B) ≡ unit k ⊗ twist e B
    unit_twist e k B = twist_kron e (unit k) B ∙ ap (λ y. y ⊗ twist e B) (twist_unit e k)

    flip_unit_twist : (e : ℕ) {a b : ℕ} (A : Mat a b) → twist e (flip A ⊗ unit g) ≡ flip (twist e A) ⊗ unit g
    flip_unit_twist e A = flip_twist e A (unit g) ∙ ap (λ y. flip (twist e A) ⊗ y) (twist_unit e g)

    pub iterated_twisted : IsTwistedFrom M (iterated M X D g n N U) (D.high * g) (D.high * n) (D.low * g + D.mid * n) test modulo bounds step
    iterated_twisted = record {
      cocycles = λ e z.
          let a = flip_unit_twist e D.above in
          let b = unit_twist e D.high N in
          subst (λ A. InImage M (unit D.high ⊗ twist e N) (A ⊛ z) ↔ InImage M (twist e modulo) (twist e test ⊛ z)) a (subst (λ B. InImage M B (twist e test ⊛ z) ↔ InImage M (twist e modulo) (twist e test ⊛ z)) b (λ x. x, λ x. x));
      coboundaries = λ e z.
          let c : twist e bounds ≡ beside (flip (twist e D.below) ⊗ unit g) (unit D.mid ⊗ twist e N) = twist_beside e low within ∙ ap₂ (λ x y. beside x y) (flip_unit_twist e D.below) (unit_twist e D.mid N) in
          subst (λ C. InImage M C z ↔ InImage M (twist e bounds) z) c (λ x. x, λ x. x);
      steps = λ e. sym (flip_twist e D.theta U);
    }

    module _ (H : Moves M D) (W : InImage M (twist 1 N) (U ⊛ N)) where
      -- a commuting square of the resolution, beside U
      square : {a b c : ℕ} (d : Mat a b) (s : Mat c a) (d' : Mat c b) (t : Mat b b) → d' ⊛ t ≡ s ⊛ twist 1 d → {m : ℕ} (V : Mat g m) → flip t ⊛ flip d' ≡ flip (twist 1 d) ⊛ flip s
      square d s d' t q V = sym (flip_mul d' t) ∙ ap (λ y. flip y) q ∙ flip_mul s (twist 1 d)

      -- the step sends 1 (x) N into the image of its twist, after any matrix
      within_moves : {a b : ℕ} (A : Mat a b) → (A ⊗ U) ⊛ (unit b ⊗ N) ≡ twist 1 (unit a ⊗ N) ⊛ (A ⊗ W.0)
      within_moves {a} {b} A =
          sym (mixed A (unit b) U N)
          ∙ ap₂ (λ x y. x ⊗ y) (unit_right A ∙ sym (unit_left A)) (sym W.1)
          ∙ mixed (unit a) A (twist 1 N) W.0
          ∙ ap (λ y. y ⊛ (A ⊗ W.0)) (sym (unit_twist 1 a N))

      low_moves : step ⊛ low ≡ twist 1 low ⊛ (flip H.lower.0 ⊗ U)
      low_moves =
          sym (mixed (flip D.theta) (flip D.below) U (unit g))
          ∙ ap₂ (λ x y. x ⊗ y) (square D.below H.lower.0 D.below D.theta H.lower.1 U) (unit_right U ∙ sym (unit_left U))
          ∙ mixed (flip (twist 1 D.below)) (flip H.lower.0) (unit g) U
          ∙ ap (λ y. y ⊛ (flip H.lower.0 ⊗ U)) (sym (flip_unit_twist 1 D.below))

      left : {m a b l : ℕ} (A : Mat m a) (B : Mat m b) (v : Mat m l) → InImage M A v → InImage M (beside A B) v
      left {m} {a} {b} {l} A B v h = (stack h.0 (nil b l), join_mul A B h.0 (nil b l) ∙ ap (λ y. A ⊛ h.0 ⊕ y) (mul_nil L B) ∙ add_nil (A ⊛ h.0) ∙ h.1)

      right : {m a b l : ℕ} (A : Mat m a) (B : Mat m b) (v : Mat m l) → InImage M B v → InImage M (beside A B) v
      right {m} {a} {b} {l} A B v h = (stack (nil a l) h.0, join_mul A B (nil a l) h.0 ∙ ap (λ y. y ⊕ B ⊛ h.0) (mul_nil L A) ∙ nil_add L (B ⊛ h.0) ∙ h.1)

      -- the step sends coboundaries into coboundaries
      pub bounds_move : InImage M (twist 1 bounds) (step ⊛ bounds)
      bounds_move =
          subst (λ C. InImage M C (step ⊛ bounds)) (sym (twist_beside 1 low within))
          (within_columns L (beside (twist 1 low) (twist 1 within)) (step ⊛ bounds) (λ v h.
          let p = split {n = D.low * g} {k = D.mid * n} h.0 in
          let q : step ⊛ (low ⊛ p.0) ⊕ step ⊛ (within ⊛ p.1) ≡ v = sym (dist_left step (low ⊛ p.0) (within ⊛ p.1)) ∙ ap (λ y. step ⊛ y) (sym (join_mul low within p.0 p.1) ∙ ap (λ y. bounds ⊛ y) (sym p.2)) ∙ sym (assoc step bounds h.0) ∙ h.1 in
          let a : InImage M (twist 1 low) (step ⊛ (low ⊛ p.0)) = subst (λ y. InImage M (twist 1 low) y) (assoc step low p.0) (image_mul L (twist 1 low) (step ⊛ low) p.0 (flip H.lower.0 ⊗ U, sym low_moves)) in
          let b : InImage M (twist 1 within) (step ⊛ (within ⊛ p.1)) = subst (λ y. InImage M (twist 1 within) y) (assoc step within p.1) (image_mul L (twist 1 within) (step ⊛ within) p.1 (flip D.theta ⊗ W.0, sym (within_moves (flip D.theta)))) in
          subst (λ y. InImage M (beside (twist 1 low) (twist 1 within)) y) q (image_add L (beside (twist 1 low) (twist 1 within)) (step ⊛ (low ⊛ p.0)) (step ⊛ (within ⊛ p.1)) (left (twist 1 low) (twist 1 within) (step ⊛ (low ⊛ p.0)) a) (right (twist 1 low) (twist 1 within) (step ⊛ (within ⊛ p.1)) b))))

      -- the step sends cocycles to cocycles: so Z has a morphism
      pub test_moves : twist 1 test ⊛ step ≡ (flip H.upper.0 ⊗ U) ⊛ test
      test_moves =
          let r = H.upper in
          ap (λ y. y ⊛ step) (flip_unit_twist 1 D.above)
          ∙ sym (mixed (flip (twist 1 D.above)) (flip D.theta) (unit g) U)
          ∙ ap₂ (λ x y. x ⊗ y) (sym (flip_mul D.theta (twist 1 D.above)) ∙ ap (λ y. flip y) r.1 ∙ flip_mul D.above r.0) (unit_left U ∙ sym (unit_right U))
          ∙ mixed (flip r.0) (flip D.above) U (unit g)
