-- The map that a lift of the identity induces, and homotopic maps
use Rattle.std.proofs.Common.{ℕ, suc, ◌≡◌, ◌∙◌, sym, ap, subst}
use Rattle.fm_algebra.specs.Matrices.{Matrices, IsMatrices}
use Rattle.fm_algebra.specs.Image.{InImage, InKernel}
use Rattle.fm_algebra.proofs.Images.{twist_more, mul_nil, nil_add, add_sub}
use Rattle.fm_limit.specs.DirectSystem.{Degree, degree_system, IsCocycle, IsCoboundary, move}
use Rattle.fm_limit.specs.System.{MapCommutes}
use Rattle.fm_limit.specs.Limit.{mapped}
use Rattle.fm_limit.proofs.Moves.{dual, dual_square}

module _ (M : Matrices) where
  open M use {Mat, ◌⊛◌, ◌⊕◌, twist}

  infixl 70 ◌⊛◌
  infixl 60 ◌⊕◌
  -- What an induced map rests on: lambda_i goes with d_i, and with the moves of both sides up to homotopy.
  pub record Maps (S T : Degree M) (lambda : Mat S.mid T.mid) : Type 0 where
    pub lower : (s : Mat S.low T.low) × (S.below ⊛ lambda ≡ s ⊛ T.below)
    pub h : Mat S.high T.mid
    pub k : Mat S.mid T.low
    pub homotopy : S.theta ⊛ twist 1 lambda ≡ lambda ⊛ T.theta ⊕ (S.above ⊛ h ⊕ k ⊛ twist 1 T.below)

module _ {M : Matrices} (L : IsMatrices M) where
  open M use {Mat, ◌⊛◌, ◌⊕◌, neg, nil, flip, twist}
  open L use {assoc, dist_right, flip_add, twist_add, twist_mul, twist_flip}

  infixl 70 ◌⊛◌
  infixl 60 ◌⊕◌
  -- homotopic maps differ by coboundaries on cocycles of any stage
  pub differ : {m n r l : ℕ} (f g : Mat m n) (a : Mat m r) (h : Mat r n) (k : Mat m l) (b : Mat l n) → f ≡ g ⊕ (a ⊛ h ⊕ k ⊛ b)
      → (e : ℕ) (z : Mat m 1) → InKernel M (flip (twist e a)) z → InImage M (flip (twist e b)) (flip (twist e f) ⊛ z ⊕ neg (flip (twist e g) ⊛ z))
  differ {m} {n} {r} {l} f g a h k b q e z c =
      let spread : (A B : Mat m n) → flip (twist e (A ⊕ B)) ⊛ z ≡ flip (twist e A) ⊛ z ⊕ flip (twist e B) ⊛ z = λ A B. ap (λ v. flip v ⊛ z) (twist_add e A B) ∙ ap (λ v. v ⊛ z) (flip_add (twist e A) (twist e B)) ∙ dist_right (flip (twist e A)) (flip (twist e B)) z in
      let px : flip (twist e (a ⊛ h)) ⊛ z ≡ nil n 1 = sym (dual L e a h z) ∙ ap (λ v. flip (twist e h) ⊛ v) c ∙ mul_nil L (flip (twist e h)) in
      let py : flip (twist e b) ⊛ (flip (twist e k) ⊛ z) ≡ flip (twist e (k ⊛ b)) ⊛ z = dual L e k b z in
      let sum : flip (twist e f) ⊛ z ≡ flip (twist e g) ⊛ z ⊕ flip (twist e b) ⊛ (flip (twist e k) ⊛ z) = ap (λ v. flip (twist e v) ⊛ z) q ∙ spread g (a ⊛ h ⊕ k ⊛ b) ∙ ap (λ v. flip (twist e g) ⊛ z ⊕ v) (spread (a ⊛ h) (k ⊛ b) ∙ ap (λ v. v ⊕ flip (twist e (k ⊛ b)) ⊛ z) px ∙ nil_add L (flip (twist e (k ⊛ b)) ⊛ z) ∙ sym py) in
      (flip (twist e k) ⊛ z, sym (ap (λ v. v ⊕ neg (flip (twist e g) ⊛ z)) sum ∙ add_sub L (flip (twist e g) ⊛ z) (flip (twist e b) ⊛ (flip (twist e k) ⊛ z))))

  -- a cocycle is mapped to a cocycle
  pub mapped_cocycle : (S T : Degree M) (lambda : Mat S.mid T.mid) → InImage M S.above (lambda ⊛ T.above)
      → (e : ℕ) (z : Mat S.mid 1) → IsCocycle M S e z → IsCocycle M T e (mapped M S T lambda e z)
  mapped_cocycle S T lambda u e z c =
      dual_square L e lambda T.above S.above u.0 z (sym u.1) ∙ ap (λ y. flip (twist e u.0) ⊛ y) c ∙ mul_nil L (flip (twist e u.0))

  module _ {S T : Degree M} {lambda : Mat S.mid T.mid} (A : Maps M S T lambda) where
    -- a coboundary is mapped to a coboundary
    pub mapped_coboundary : (e : ℕ) (z : Mat S.mid 1) → IsCoboundary M S e z → IsCoboundary M T e (mapped M S T lambda e z)
    mapped_coboundary e z h =
        let s : Mat S.low T.low = A.lower.0 in (
          flip (twist e s) ⊛ h.0,
          sym (dual_square L e S.below lambda s T.below h.0 A.lower.1) ∙ ap (λ y. flip (twist e lambda) ⊛ y) h.1,
        )

    -- moving and mapping, in either order, differ by a coboundary
    pub mapped_move : (e : ℕ) (z : Mat S.mid 1) → IsCocycle M S e z
        → IsCoboundary M T (suc e) (mapped M S T lambda (suc e) (move M S e z) ⊕ neg (move M T e (mapped M S T lambda e z)))
    mapped_move e z c =
        let d = differ (S.theta ⊛ twist 1 lambda) (lambda ⊛ T.theta) S.above A.h A.k (twist 1 T.below) A.homotopy e z c in
        let p : flip (twist e (S.theta ⊛ twist 1 lambda)) ⊛ z ≡ mapped M S T lambda (suc e) (move M S e z) = sym (dual L e S.theta (twist 1 lambda) z) ∙ ap (λ y. flip y ⊛ (flip (twist e S.theta) ⊛ z)) (twist_more L e lambda) in
        let q : flip (twist e (lambda ⊛ T.theta)) ⊛ z ≡ move M T e (mapped M S T lambda e z) = sym (dual L e lambda T.theta z) in
        let v : Mat T.mid 1 = neg (move M T e (mapped M S T lambda e z)) in
        subst (λ y. InImage M (flip y) (mapped M S T lambda (suc e) (move M S e z) ⊕ v)) (twist_more L e T.below)
        (subst (λ y. InImage M (flip (twist e (twist 1 T.below))) (y ⊕ v)) p (subst (λ y. InImage M (flip (twist e (twist 1 T.below))) (flip (twist e (S.theta ⊛ twist 1 lambda)) ⊛ z ⊕ neg y)) q d))

    -- the same, of the systems
    pub maps_commute : MapCommutes M (degree_system M S) (degree_system M T) (λ e. flip (twist e lambda))
    maps_commute = mapped_move

  -- in coordinates at every stage
  pub square_twist : {m n g k : ℕ} (lambda : Mat m n) (Z : Mat m g) (Y : Mat n k) (Phi : Mat k g) → flip lambda ⊛ Z ≡ Y ⊛ Phi
      → (e : ℕ) → flip (twist e lambda) ⊛ twist e Z ≡ twist e Y ⊛ twist e Phi
  square_twist lambda Z Y Phi q e =
      ap (λ y. y ⊛ twist e Z) (sym (twist_flip e lambda)) ∙ sym (twist_mul e (flip lambda) Z) ∙ ap (λ y. twist e y) q ∙ twist_mul e Y Phi
