-- What a matrix generates, inclusions of images, and flatness, over the interface of matrices
use Rattle.std.proofs.Common.{ℕ, ◌^◌, ◌≡◌, ◌↔◌}
use Rattle.fm_algebra.specs.Matrices.{Matrices}
use Rattle.fm_algebra.specs.Image.{InImage, InKernel, pow}

module _ (M : Matrices) where
  open M use {Mat, ◌⊛◌, twist}

  infixl 70 ◌⊛◌
  -- C generates all w with A * w in im B
  abbrev pub Generates : {m n k l : ℕ} → Mat n l → Mat m n → Mat m k → Type 0
  Generates {m} {n} C A B = (w : Mat n 1) → InImage M C w ↔ InImage M B (A ⊛ w)

  -- C generates ker A
  abbrev pub GeneratesKernel : {m n l : ℕ} → Mat n l → Mat m n → Type 0
  GeneratesKernel {m} {n} C A = (w : Mat n 1) → InImage M C w ↔ InKernel M A w

  -- im A lies in im B
  abbrev pub Within : {m n k : ℕ} → Mat m n → Mat m k → Type 0
  Within {m} A B = (v : Mat m 1) → InImage M A v → InImage M B v

  -- im A = im B
  abbrev pub SameImage : {m n k : ℕ} → Mat m n → Mat m k → Type 0
  SameImage {m} A B = (v : Mat m 1) → InImage M A v ↔ InImage M B v

  -- im A is everything
  abbrev pub Everything : {m n : ℕ} → Mat m n → Type 0
  Everything {m} A = (v : Mat m 1) → InImage M A v

  -- the twist by e of an element is its p ^ e-th power
  abbrev pub IsPower : ℕ → Type 0
  IsPower p = (e : ℕ) (f : Mat 1 1) → twist e f ≡ pow M f (p ^ e)

  -- Flatness of Frobenius (Kunz 1969). If im C has all w with A * w in im B, then the twist of C has all w with this for the
  -- twists of A and B; and a vector whose twist is in the image of the twist of A is in im A.
  pub record Flat : Type 0 where
    pub flat : (e : ℕ) {m n k l : ℕ} (A : Mat m n) (B : Mat m k) (C : Mat n l)
        → ((v : Mat n 1) → InImage M B (A ⊛ v) → InImage M C v) → (w : Mat n 1) → InImage M (twist e B) (twist e A ⊛ w) → InImage M (twist e C) w
    pub descend : (e : ℕ) {m n : ℕ} (A : Mat m n) (v : Mat m 1) → InImage M (twist e A) (twist e v) → InImage M A v
