-- Moves of classes, in coordinates; roots and the vanishing of the limit
use Rattle.std.proofs.Common.{ℕ, zero, suc, ◌+◌, ◌≡◌, ◌↔◌, ◌∙◌, sym, ap, subst, arith, add-zero}
use Rattle.fm_algebra.specs.Matrices.{Matrices, IsMatrices}
use Rattle.fm_algebra.specs.Image.{InImage}
use Rattle.fm_algebra.proofs.Generation.{Generates, GeneratesKernel, Flat}
use Rattle.fm_limit.specs.System as system
use Rattle.fm_limit.specs.DirectSystem.{Degree, degree_system, IsCocycle, IsCoboundary, move, moved, IsKilledBy}
use Rattle.fm_limit.specs.Limit.{IsRoot}
use Rattle.fm_algebra.proofs.Images.{image_columns, twist_more, mul_nil, nil_mul, twist_nil, flip_nil, kernel_nil}
use Rattle.fm_limit.proofs.SystemMoves as general
use Rattle.fm_limit.proofs.SystemInstances.{IsTwistedFrom, kernel_image, presented}

module _ (M : Matrices) where
  open M use {Mat, ◌⊛◌, nil, flip, twist}

  infixl 70 ◌⊛◌
  -- What moves of one degree rest on: d_i * d_(i+1) = 0, and theta_i goes with both: it is a map of complexes up to here.
  pub record Moves (D : Degree M) : Type 0 where
    pub complex : D.below ⊛ D.above ≡ nil D.low D.high
    pub lower : (s : Mat D.low D.low) × (D.below ⊛ D.theta ≡ s ⊛ twist 1 D.below)
    pub upper : (s : Mat D.high D.high) × (D.theta ⊛ twist 1 D.above ≡ D.above ⊛ s)

  -- Z generates the cocycles of stage 0, N all w with Z * w a coboundary, and U is the move in these coordinates: the generating
  -- morphism of Ext^i(R/I, R).
  pub record Ext (D : Degree M) (g n : ℕ) (Z : Mat D.mid g) (N : Mat g n) (U : Mat g g) : Type 0 where
    pub cocycles : GeneratesKernel M Z (flip D.above)
    pub relations : Generates M N Z (flip D.below)
    pub morphism : flip D.theta ⊛ Z ≡ twist 1 Z ⊛ U

module _ {M : Matrices} (L : IsMatrices M) where
  open M use {Mat, ◌⊛◌, ◌⊕◌, neg, nil, unit, flip, twist}
  open L use {assoc, add_neg, dist_left, flip_mul, twist_mul, twist_flip, twist_none}

  infixl 70 ◌⊛◌
  infixl 60 ◌⊕◌
  pub dual : (e : ℕ) {m n k l : ℕ} (A : Mat m n) (B : Mat n k) (x : Mat m l) → flip (twist e B) ⊛ (flip (twist e A) ⊛ x) ≡ flip (twist e (A ⊛ B)) ⊛ x
  dual e A B x =
      sym (assoc (flip (twist e B)) (flip (twist e A)) x)
      ∙ ap (λ y. y ⊛ x) (sym (flip_mul (twist e A) (twist e B)) ∙ ap (λ y. flip y) (sym (twist_mul e A B)))

  pub dual_square : (e : ℕ) {m n k n' l : ℕ} (a : Mat m n) (t : Mat n k) (s : Mat m n') (b : Mat n' k) (x : Mat m l) → a ⊛ t ≡ s ⊛ b
      → flip (twist e t) ⊛ (flip (twist e a) ⊛ x) ≡ flip (twist e b) ⊛ (flip (twist e s) ⊛ x)
  dual_square e a t s b x q = dual e a t x ∙ ap (λ y. flip (twist e y) ⊛ x) q ∙ sym (dual e s b x)

  module _ {D : Degree M} (H : Moves M D) where
    pub coboundary_cocycle : (e : ℕ) (z : Mat D.mid 1) → IsCoboundary M D e z → IsCocycle M D e z
    coboundary_cocycle e z h =
        ap (λ y. flip (twist e D.above) ⊛ y) (sym h.1)
        ∙ dual e D.below D.above h.0
        ∙ ap (λ y. flip (twist e y) ⊛ h.0) H.complex
        ∙ ap (λ y. flip y ⊛ h.0) (twist_nil L e D.low D.high)
        ∙ ap (λ y. y ⊛ h.0) (flip_nil L D.low D.high)
        ∙ nil_mul L D.high h.0

    -- a coboundary is moved to a coboundary
    pub coboundary_moves : (e : ℕ) (z : Mat D.mid 1) → IsCoboundary M D e z → IsCoboundary M D (suc e) (move M D e z)
    coboundary_moves e z h =
        let s : Mat D.low D.low = H.lower.0 in (
          flip (twist e s) ⊛ h.0,
          ap (λ y. flip y ⊛ (flip (twist e s) ⊛ h.0)) (sym (twist_more L e D.below))
              ∙ sym (dual_square e D.below D.theta s (twist 1 D.below) h.0 H.lower.1)
              ∙ ap (λ y. flip (twist e D.theta) ⊛ y) h.1,
        )

    -- a cocycle is moved to a cocycle
    pub cocycle_moves : (e : ℕ) (z : Mat D.mid 1) → IsCocycle M D e z → IsCocycle M D (suc e) (move M D e z)
    cocycle_moves e z h =
        let s : Mat D.high D.high = H.upper.0 in
        ap (λ y. flip y ⊛ (flip (twist e D.theta) ⊛ z)) (sym (twist_more L e D.above))
        ∙ dual_square e D.theta (twist 1 D.above) D.above s z H.upper.1
        ∙ ap (λ y. flip (twist e s) ⊛ y) h
        ∙ mul_nil L (flip (twist e s))

    pub cocycles_moves : (s e : ℕ) (z : Mat D.mid 1) → IsCocycle M D e z → IsCocycle M D (e + s) (moved M D s e z)
    unfolding system.moved
    cocycles_moves zero e z h = subst (λ x. IsCocycle M D x z) (sym (add-zero e)) h
    cocycles_moves (suc s) e z h =
        let q : suc e + s ≡ e + suc s = omega arith in
        subst (λ x. IsCocycle M D x (moved M D s (suc e) (move M D e z))) q (cocycles_moves s (suc e) (move M D e z) (cocycle_moves e z h))

    pub coboundaries_moves : (s e : ℕ) (z : Mat D.mid 1) → IsCoboundary M D e z → IsKilledBy M D s e z
    coboundaries_moves = general.coboundaries_moves L (degree_system M D) coboundary_moves

    -- what s moves kill, more moves kill
    pub killed_more : (s m e : ℕ) (z : Mat D.mid 1) → IsKilledBy M D s e z → IsKilledBy M D (s + m) e z
    killed_more = general.killed_more L (degree_system M D) coboundary_moves

  module _ (D : Degree M) where
    pub moved_add : (s e : ℕ) (x y : Mat D.mid 1) → moved M D s e (x ⊕ y) ≡ moved M D s e x ⊕ moved M D s e y
    moved_add = general.moved_add L (degree_system M D)

    pub moved_neg : (s e : ℕ) (x : Mat D.mid 1) → moved M D s e (neg x) ≡ neg (moved M D s e x)
    moved_neg = general.moved_neg L (degree_system M D)

    pub moved_times : (s e : ℕ) (x : Mat D.mid 1) (f : Mat 1 1) → moved M D s e (x ⊛ f) ≡ moved M D s e x ⊛ f
    moved_times = general.moved_times L (degree_system M D)

    pub moved_more : (s n e : ℕ) (x : Mat D.mid 1) → moved M D (s + n) e x ≡ moved M D n (e + s) (moved M D s e x)
    moved_more = general.moved_more L (degree_system M D)

    -- the classes are twisted from the transposes of d_(i+1), d_i and theta_i
    pub degree_twisted : IsTwistedFrom M (degree_system M D) D.high zero D.low (flip D.above) (nil D.high zero) (flip D.below) (flip D.theta)
    degree_twisted = record {
      cocycles = λ e z. subst (λ A. A ⊛ z ≡ nil D.high 1 ↔ InImage M (twist e (nil D.high zero)) (twist e (flip D.above) ⊛ z)) (twist_flip e D.above) (kernel_image L e D.high (flip D.above) z);
      coboundaries = λ e z. subst (λ C. InImage M C z ↔ InImage M (twist e (flip D.below)) z) (twist_flip e D.below) (λ h. h, λ h. h);
      steps = λ e. sym (twist_flip e D.theta);
    }

    -- a root of the system is a root
    pub degree_root : {g k : ℕ} {Z : Mat D.mid g} {K : Mat g k} {U : Mat g g} → system.IsRoot M (degree_system M D) g k Z K U → IsRoot M D g k Z K U
    degree_root {g} {k} {Z} {K} {U} R = record {
      generates = R.generates;
      classes = R.classes;
      embeds = R.embeds;
      moves =
          image_columns L (flip (twist 1 D.below)) (flip D.theta ⊛ Z ⊕ neg (twist 1 Z ⊛ U)) (λ c h. subst (λ y. InImage M (flip (twist 1 D.below)) ((flip y ⊛ Z ⊕ neg (twist 1 Z ⊛ U)) ⊛ M.basis g c h)) (twist_none D.theta) (R.moves c h));
    }

  module _ (F : Flat M) {D : Degree M} {g n : ℕ} {Z : Mat D.mid g} {N : Mat g n} {U : Mat g g} (E : Ext M D g n Z N U) where
    pub ext_presents : system.IsPresentedBy M (degree_system M D) g n Z N U
    ext_presents =
        presented L (degree_twisted D) F (record { cocycles = kernel_nil L Z (flip D.above) E.cocycles; relations = E.relations; morphism = E.morphism })

    -- the chain of U may begin with the relations
    pub relations_begin : Moves M D → InImage M (twist 1 N) (U ⊛ N)
    relations_begin H = general.relations_begin L ext_presents (coboundary_moves H)
