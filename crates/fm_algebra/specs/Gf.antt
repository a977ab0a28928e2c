-- The integers modulo m, and the field GF(p) for the listed primes (Lang, Algebra, chapter II, section 2, and chapter V, section 5).
use Rattle.std.specs.Prelude.{◌≡◌, ℕ, ◌+◌, ◌-◌, ◌*◌, ◌%◌, ◌<◌}
use native.Mathlib.Nat.{mod-lt, zero-mod}
use native.Mathlib.Decide.{ℕ_discrete}
use native.Mathlib.Bridge.{le_prop}
use mathlib.Core.HLevel.{Σ_prop_path}
use mathlib.Core.Path.{sym, ap, ◌∙◌}
use Rattle.fm_gfp.specs.Primes.{prime_value}
pub use Rattle.fm_gfp.proofs.Residues.{prime_positive}
use Rattle.fm_gfp.specs.declared.prime.Prime.{Prime}
use Rattle.fm_algebra.specs.Ring.{Ring}

-- an integer modulo m, by its least number
pub record Residue (m : ℕ) : Type 0 where
  pub number : ℕ
  pub below : number < m

-- residues with the same number are equal
pub same_residue : {m : ℕ} (a b : Residue m) → a.number ≡ b.number → a ≡ b
same_residue {m} a b e =
    let pairs : ◌≡◌ {A = (n : ℕ) × (n < m)} (a.number, a.below) (b.number, b.below) = Σ_prop_path (λ n. le_prop) e in
    λ i. record { number = (pairs i).0; below = (pairs i).1 }

module _ (m : ℕ) (pos : 0 < m) where
  -- n modulo m
  abbrev pub residue : ℕ → Residue m
  residue n = record { number = n % m; below = mod-lt n pos }

  -- the ring of the integers modulo m
  abbrev pub residues : Ring
  residues = record {
    Carrier = Residue m;
    zero = residue 0;
    one = residue 1;
    add = λ a b. residue (a.number + b.number);
    mul = λ a b. residue (a.number * b.number);
    neg = λ a. residue (m - a.number);
  }

-- GF(p)
abbrev pub gf : Prime → Ring
gf p = residues (prime_value p) (prime_positive p)

zero_test : (p : Prime) (c : Residue (prime_value p)) → Dec (c.number ≡ 0) → Dec (c ≡ (gf p).zero)
zero_test p c (yes e) = yes (same_residue _ _ (e ∙ sym (zero-mod (prime_value p))))
zero_test p c (no w) = no (λ e. w (ap (λ x. x.number) e ∙ zero-mod (prime_value p)))

-- whether an element of GF(p) is 0
pub gf_is_zero : (p : Prime) (c : Residue (prime_value p)) → Dec (c ≡ (gf p).zero)
gf_is_zero p c = zero_test p c (ℕ_discrete c.number 0)
