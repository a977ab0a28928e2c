-- Products of Kronecker of families of entries.
use Rattle.std.specs.Prelude.{ℕ, ◌*◌, ◌/◌, ◌%◌, ◌<◌, ◌≡◌}
use mathlib.Core.Logic.{inl, inr}
use native.Mathlib.Nat.{mod-lt, div-lt_iff_lt-mul}
use Rattle.std.proofs.lemmas.Bool.{cases_lt}
use Rattle.std.proofs.Common.{ap, arith, ◌∙◌}
use Rattle.std.proofs.Math.Nat.{mul-zero}
use Rattle.fm_algebra.specs.Ring.{Ring}
use Rattle.fm_algebra.specs.Families.{Mat}

-- bounds: a block that has a row is not empty; the block of a row, and its place in it
pub some_place : (a c i : ℕ) → i < a * c → 0 < c
some_place a c i h = elim (cases_lt 0 c) [
  | inl b ↦ b
  | inr b ↦ absurd (let z : c ≡ 0 = omega arith in let y : a * c ≡ 0 = ap (λ x. a * x) z ∙ mul-zero a in omega arith)
]

pub in_block : (a c i : ℕ) → i < a * c → i / c < a
in_block a c i h = (div-lt_iff_lt-mul (some_place a c i h)).1 h

pub in_place : (a c i : ℕ) → i < a * c → i % c < c
in_place a c i h = mod-lt i (some_place a c i h)

-- A (x) B has the entry A_(a,c) * B_(b,d) in row a * rows(B) + b and column c * cols(B) + d, from 0 on
unfoldable pub kron : (R : Ring) {a b c d : ℕ} → Mat R a b → Mat R c d → Mat R (a * c) (b * d)
kron R {a} {b} {c} {d} A B i u j v =
    R.mul (A (i / c) (in_block a c i u) (j / d) (in_block b d j v)) (B (i % c) (in_place a c i u) (j % d) (in_place b d j v))
