-- Presentations from equations at stage 0, by flatness, for each instance of a direct system
use Rattle.std.proofs.Common.{ℕ, zero, suc, ◌≡◌, ◌↔◌, ◌∙◌, refl, sym, ap, subst}
use Rattle.fm_algebra.specs.Matrices.{Matrices, IsMatrices}
use Rattle.fm_algebra.specs.Image.{InImage, InKernel}
use Rattle.fm_algebra.proofs.Generation.{Generates, Flat}
use Rattle.fm_algebra.proofs.Images.{nil_mul, twist_nil, twist_more, generates_twist}
use Rattle.fm_limit.specs.System.{System, IsPresentedBy, MovesCoboundaries}
use Rattle.fm_limit.specs.SystemInstances.{of_module, of_complex, of_complex_modulo}

module _ (M : Matrices) where
  open M use {Mat, ◌⊛◌, twist}

  infixl 70 ◌⊛◌
  -- The system is twisted from four matrices: z is a cocycle if A^[q] * z lies in im B^[q], and a coboundary if it lies in im C^[q];
  -- a move multiplies by T^[q].
  pub record IsTwistedFrom (S : System M) (h k l : ℕ) (A : Mat h S.size) (B : Mat h k) (C : Mat S.size l) (T : Mat S.size S.size) : Type 0 where
    pub cocycles : (e : ℕ) (z : Mat S.size 1) → S.IsCocycle e z ↔ InImage M (twist e B) (twist e A ⊛ z)
    pub coboundaries : (e : ℕ) (z : Mat S.size 1) → S.IsCoboundary e z ↔ InImage M (twist e C) z
    pub steps : (e : ℕ) → S.step e ≡ twist e T

  -- The equations at stage 0: Z generates the cocycles, N all w with Z * w a coboundary, and U is the move in these coordinates.
  pub record IsPresentedAtZero (m g n h k l : ℕ) (A : Mat h m) (B : Mat h k) (C : Mat m l) (T : Mat m m) (Z : Mat m g) (N : Mat g n) (U : Mat g g) : Type 0 where
    pub cocycles : Generates M Z A B
    pub relations : Generates M N Z C
    pub morphism : T ⊛ Z ≡ twist 1 Z ⊛ U

module _ {M : Matrices} (L : IsMatrices M) where
  open M use {Mat, ◌⊛◌, nil, unit, twist}
  open L use {assoc, unit_left, unit_right, twist_mul, twist_unit}

  infixl 70 ◌⊛◌
  module _ {S : System M} {h k l : ℕ} {A : Mat h S.size} {B : Mat h k} {C : Mat S.size l} {T : Mat S.size S.size} (W : IsTwistedFrom M S h k l A B C T) where
    -- the equations at stage 0 are enough
    pub presented : Flat M → {g n : ℕ} {Z : Mat S.size g} {N : Mat g n} {U : Mat g g} → IsPresentedAtZero M S.size g n h k l A B C T Z N U
        → IsPresentedBy M S g n Z N U
    presented F {g} {n} {Z} {N} {U} E = record {
      cocycles = λ e z.
          let a = generates_twist L F e Z A B E.cocycles z in
          let b = W.cocycles e z in
          (λ x. b.1 (a.0 x), λ x. a.1 (b.0 x));
      relations = λ e w.
          let a = generates_twist L F e N Z C E.relations w in
          let b = W.coboundaries e (twist e Z ⊛ w) in
          (λ x. b.1 (a.0 x), λ x. a.1 (b.0 x));
      moves = λ e.
          ap (λ y. y ⊛ twist e Z) (W.steps e)
          ∙ sym (twist_mul e T Z)
          ∙ ap (λ y. twist e y) E.morphism
          ∙ twist_mul e (twist 1 Z) U
          ∙ ap (λ y. y ⊛ twist e U) (twist_more L e Z);
    }

    -- coboundaries are moved to coboundaries where T sends im C into im C^[p]
    pub moves_coboundaries : InImage M (twist 1 C) (T ⊛ C) → MovesCoboundaries M S
    moves_coboundaries s e z c =
        let x : InImage M (twist e C) z = (W.coboundaries e z).0 c in
        let y = s.0 in
        let q : twist (suc e) C ⊛ (twist e y ⊛ x.0) ≡ S.step e ⊛ z =
        ap (λ v. v ⊛ (twist e y ⊛ x.0)) (sym (twist_more L e C))
        ∙ sym (assoc (twist e (twist 1 C)) (twist e y) x.0)
        ∙ ap (λ v. v ⊛ x.0) (sym (twist_mul e (twist 1 C) y) ∙ ap (λ v. twist e v) s.1 ∙ twist_mul e T C)
        ∙ assoc (twist e T) (twist e C) x.0
        ∙ ap (λ v. twist e T ⊛ v) x.1
        ∙ ap (λ v. v ⊛ z) (sym (W.steps e)) in
        (W.coboundaries (suc e) (S.step e ⊛ z)).1 (twist e y ⊛ x.0, q)

  -- ---- maps between modules that have relations
  pub complex_modulo_twisted : (h k m l : ℕ) (A : Mat h m) (B : Mat h k) (C : Mat m l) (T : Mat m m)
      → IsTwistedFrom M (of_complex_modulo M h k m l A B C T) h k l A B C T
  complex_modulo_twisted h k m l A B C T = record {
    cocycles = λ e z. (λ x. x, λ x. x);
    coboundaries = λ e z. (λ x. x, λ x. x);
    steps = λ e. refl;
  }

  -- ---- kernels
  pub kernel_image : (e h : ℕ) {m : ℕ} (A : Mat h m) (z : Mat m 1) → InKernel M (twist e A) z ↔ InImage M (twist e (nil h zero)) (twist e A ⊛ z)
  kernel_image e h A z = (
    λ x. (nil zero 1, ap (λ y. y ⊛ nil zero 1) (twist_nil L e h zero) ∙ nil_mul L h (nil zero 1) ∙ sym x),
    λ x. sym x.1 ∙ ap (λ y. y ⊛ x.0) (twist_nil L e h zero) ∙ nil_mul L h x.0,
  )

  pub complex_twisted : (h m l : ℕ) (A : Mat h m) (C : Mat m l) (T : Mat m m) → IsTwistedFrom M (of_complex M h m l A C T) h zero l A (nil h zero) C T
  complex_twisted h m l A C T = record {
    cocycles = λ e z. kernel_image e h A z;
    coboundaries = λ e z. (λ x. x, λ x. x);
    steps = λ e. refl;
  }

  -- ---- modules with a morphism: the unit matrix are coordinates, and nothing is asked of U but that it goes with N
  pub module_presented : (g n : ℕ) (N : Mat g n) (U : Mat g g) → IsPresentedBy M (of_module M g n N U) g n (unit g) N U
  module_presented g n N U = record {
    cocycles = λ e z. (λ x. tt, λ x. subst (λ y. InImage M y z) (sym (twist_unit e g)) (z, unit_left z));
    relations = λ e w.
        let q : w ≡ twist e (unit g) ⊛ w = sym (unit_left w) ∙ ap (λ y. y ⊛ w) (sym (twist_unit e g)) in
        (λ x. subst (λ y. InImage M (twist e N) y) q x, λ x. subst (λ y. InImage M (twist e N) y) (sym q) x);
    moves = λ e.
        ap (λ y. twist e U ⊛ y) (twist_unit e g)
        ∙ unit_right (twist e U)
        ∙ sym (unit_left (twist e U))
        ∙ ap (λ y. y ⊛ twist e U) (sym (twist_unit (suc e) g));
  }

  pub module_twisted : (g n : ℕ) (N : Mat g n) (U : Mat g g) → IsTwistedFrom M (of_module M g n N U) zero zero n (nil zero g) (nil zero zero) N U
  module_twisted g n N U = record {
    cocycles = λ e z. (λ x. (nil zero 1, ap (λ y. y ⊛ nil zero 1) (twist_nil L e zero zero) ∙ nil_mul L zero (nil zero 1) ∙ sym (ap (λ y. y ⊛ z) (twist_nil L e zero g) ∙ nil_mul L zero z)), λ x. tt);
    coboundaries = λ e z. (λ x. x, λ x. x);
    steps = λ e. refl;
  }
