-- The integers modulo m are a commutative ring, and a field for the listed primes
use Rattle.std.proofs.Common.{◌≡◌, ℕ, zero, suc, ◌+◌, ◌-◌, ◌*◌, ◌%◌, ◌<◌, ◌⊎◌, inl, inr, refl, ap, sym, ◌∙◌, arith, mod-eq_of_lt, add_assoc, add_comm, mul_assoc, mul_comm, zero-add, one-mul, mul-add, List, [], ◌∷◌}
use Rattle.std.proofs.Math.Nat.{mod-add-mod, add-mod-mod, add-mod, mod_self, zero-mod}
use Rattle.std.proofs.lemmas.Nat.{mul-mod_first, mul-mod_second}
use native.Mathlib.Nat.{ℕ_set}
use mathlib.Core.HLevel.{collapsible→set}
use Rattle.fm_gfp.specs.Primes.{prime_value}
use Rattle.fm_gfp.specs.declared.prime.Prime.{Prime}
use Rattle.fm_gfp.proofs.Residues.{prime_above_one, inverse_exists}
use Rattle.fm_algebra.specs.Ring.{IsRing, IsField}
use Rattle.fm_algebra.specs.Splits.{over_pairs, over_splits}
use Rattle.fm_algebra.specs.Gf.{Residue, same_residue, residues, gf, prime_positive}

pub Residue_set : (m : ℕ) → IsSet (Residue m)
Residue_set m = collapsible→set (λ a b e. same_residue a b (ap (λ x. x.number) e)) (λ a b p q. ap (same_residue a b) (ℕ_set _ _ _ _))

module _ (m : ℕ) (pos : 0 < m) where
  pub residues_laws : IsRing (residues m pos)
  residues_laws = record {
    is_set = Residue_set m;
    add_assoc = λ a b c. same_residue _ _ (mod-add-mod (a.number + b.number) m c.number ∙ ap (λ n. n % m) (add_assoc a.number b.number c.number) ∙ sym (add-mod-mod a.number (b.number + c.number) m));
    add_comm = λ a b. same_residue _ _ (ap (λ n. n % m) (add_comm a.number b.number));
    zero_add = λ a. same_residue _ _ (mod-add-mod 0 m a.number ∙ ap (λ n. n % m) (zero-add a.number) ∙ mod-eq_of_lt a.below);
    neg_add = λ a. same_residue _ _ (mod-add-mod (m - a.number) m a.number ∙ ap (λ n. n % m) (complement a) ∙ mod_self m ∙ sym (zero-mod m));
    mul_assoc = λ a b c. same_residue _ _ (mul-mod_first (a.number * b.number) c.number m ∙ ap (λ n. n % m) (mul_assoc a.number b.number c.number) ∙ sym (mul-mod_second a.number (b.number * c.number) m));
    mul_comm = λ a b. same_residue _ _ (ap (λ n. n % m) (mul_comm a.number b.number));
    one_mul = λ a. same_residue _ _ (mul-mod_first 1 a.number m ∙ ap (λ n. n % m) (one-mul a.number) ∙ mod-eq_of_lt a.below);
    mul_add = λ a b c. same_residue _ _ (mul-mod_second a.number (b.number + c.number) m ∙ ap (λ n. n % m) (mul-add a.number b.number c.number) ∙ add-mod (a.number * b.number) (a.number * c.number) m);
  }
    where
      complement : (a : Residue m) → m - a.number + a.number ≡ m
      complement a = let below : a.number < m = a.below in omega arith

  -- a sum of residues is the sum of the numbers, modulo m
  pub number_pairs : (k : ℕ) (F : ℕ → ℕ → Residue m) (G : ℕ → ℕ → ℕ) → ((i j : ℕ) → (F i j).number ≡ G i j % m)
      → (over_pairs (residues m pos).add k F).number ≡ over_pairs ◌+◌ k G % m
  unfolding over_pairs
  number_pairs zero F G h = h 0 0
  number_pairs (suc k) F G h =
      ap (λ x. (x + (over_pairs (residues m pos).add k (λ i j. F (suc i) j)).number) % m) (h 0 (suc k))
      ∙ ap (λ x. (G 0 (suc k) % m + x) % m) (number_pairs k (λ i j. F (suc i) j) (λ i j. G (suc i) j) (λ i j. h (suc i) j))
      ∙ sym (add-mod (G 0 (suc k)) (over_pairs ◌+◌ k (λ i j. G (suc i) j)) m)

  pub number_splits : (a : List ℕ) (F : List ℕ → List ℕ → Residue m) (G : List ℕ → List ℕ → ℕ) → ((b c : List ℕ) → (F b c).number ≡ G b c % m)
      → (over_splits (residues m pos).add a F).number ≡ over_splits ◌+◌ a G % m
  unfolding over_splits
  number_splits [] F G h = h [] []
  number_splits (k ∷ a) F G h = number_pairs k _ _ (λ i j. number_splits a (λ b c. F (i ∷ b) (j ∷ c)) (λ b c. G (i ∷ b) (j ∷ c)) (λ b c. h (i ∷ b) (j ∷ c)))

pub gf_laws : (p : Prime) → IsRing (gf p)
gf_laws p = residues_laws (prime_value p) (prime_positive p)

pub gf_field : (p : Prime) → IsField (gf p)
gf_field p = record {
  one_not_zero = λ e. differ p (sym (mod-eq_of_lt (prime_above_one p)) ∙ ap (λ x. x.number) e ∙ zero-mod (prime_value p));
  zero_or_inverse = λ a. zero_or a a.number refl;
}
  where
    differ : (p : Prime) → ¬ (◌≡◌ {A = ℕ} 1 0)
    differ p e = omega arith

    zero_or : (a : Residue (prime_value p)) (k : ℕ) → a.number ≡ k → (a ≡ (gf p).zero) ⊎ ((b : Residue (prime_value p)) × ((gf p).mul a b ≡ (gf p).one))
    zero_or a zero e = inl (same_residue _ _ (e ∙ sym (zero-mod (prime_value p))))
    zero_or a (suc k) e =
        let found = inverse_exists p a.number (omega arith) a.below in
        inr (record { number = found.0; below = found.1 }, same_residue _ _ (found.2 ∙ sym (mod-eq_of_lt (prime_above_one p))))
