-- Direct systems: the degrees of a resolution, modules with a morphism, Koszul cohomology, and iterated local cohomology.
use Rattle.std.specs.Prelude.{ℕ, ◌*◌, ◌≡◌}
use Rattle.fm_algebra.specs.Matrices.{Matrices}
use Rattle.fm_algebra.specs.Image.{InImage, InKernel}
use Rattle.fm_limit.specs.System.{System}
use Rattle.fm_limit.specs.DirectSystem.{Degree}

module _ (M : Matrices) where
  open M use {Mat, ◌⊛◌, unit, flip, beside, twist}

  infixl 70 ◌⊛◌
  -- The limit of (N, U) (Lyubeznik 1997): every w is a cocycle, it is a coboundary if it lies in im N^[q], and a move multiplies by
  -- U^[q].
  abbrev pub of_module : (g n : ℕ) → Mat g n → Mat g g → System M
  of_module g n N U = record {
    size = g;
    IsCocycle = λ e w. Unit {0};
    IsCoboundary = λ e w. InImage M (twist e N) w;
    step = λ e. twist e U;
  }

  -- z is a cocycle if A^[q] * z = 0 and a coboundary if it lies in im C^[q]; a move multiplies by T^[q]. So Koszul cohomology in
  -- degree i, with delta_i, delta_(i-1) and the diagonal matrix D_i.
  abbrev pub of_complex : (h m l : ℕ) → Mat h m → Mat m l → Mat m m → System M
  of_complex h m l A C T = record {
    size = m;
    IsCocycle = λ e z. InKernel M (twist e A) z;
    IsCoboundary = λ e z. InImage M (twist e C) z;
    step = λ e. twist e T;
  }

  -- w is a cocycle if A^[q] * w lies in im B^[q]: maps between modules that have relations. So iterated local cohomology, with
  -- flip(d_(j+1)) (x) 1, 1 (x) N, [flip(d_j) (x) 1 | 1 (x) N] and flip(theta_j) (x) U.
  abbrev pub of_complex_modulo : (h k m l : ℕ) → Mat h m → Mat h k → Mat m l → Mat m m → System M
  of_complex_modulo h k m l A B C T = record {
    size = m;
    IsCocycle = λ e w. InImage M (twist e B) (twist e A ⊛ w);
    IsCoboundary = λ e w. InImage M (twist e C) w;
    step = λ e. twist e T;
  }

  -- Products of Kronecker: A (x) B has the entry A_(a,c) * B_(b,d) in row a * rows(B) + b and column c * cols(B) + d, from 0 on.
  pub record Kronecker : Type 0 where
    infixl 75 ◌⊗◌
    pub ◌⊗◌ : {a b c d : ℕ} → Mat a b → Mat c d → Mat (a * c) (b * d)
    pub mixed : {a b k c d l : ℕ} (A : Mat a b) (B : Mat b k) (C : Mat c d) (D : Mat d l) → (A ⊛ B) ⊗ (C ⊛ D) ≡ (A ⊗ C) ⊛ (B ⊗ D)
    pub twist_kron : (e : ℕ) {a b c d : ℕ} (A : Mat a b) (B : Mat c d) → twist e (A ⊗ B) ≡ twist e A ⊗ twist e B

  -- Iterated local cohomology (Lyubeznik 1997), of degree D of one ideal, and the relations N and the morphism U of another.
  abbrev pub iterated : (X : Kronecker) (D : Degree M) (g n : ℕ) → Mat g n → Mat g g → System M
  iterated X D g n N U = record {
    size = D.mid * g;
    IsCocycle = λ e w. InImage M (X.◌⊗◌ (unit D.high) (twist e N)) (X.◌⊗◌ (flip (twist e D.above)) (unit g) ⊛ w);
    IsCoboundary = λ e w. InImage M (beside (X.◌⊗◌ (flip (twist e D.below)) (unit g)) (X.◌⊗◌ (unit D.mid) (twist e N))) w;
    step = λ e. X.◌⊗◌ (flip (twist e D.theta)) (twist e U);
  }
