-- Sums over all ways to write a number, or a tuple of numbers, as a sum of two.
use Rattle.std.specs.Prelude.{ℕ, zero, suc, List, [], ◌∷◌}

module _ {A : Type 0} (add : A → A → A) where
  -- the sum of F i j over all i and j with i + j = k
  unfoldable pub over_pairs : ℕ → (ℕ → ℕ → A) → A
  over_pairs zero F = F 0 0
  over_pairs (suc k) F = add (F 0 (suc k)) (over_pairs k (λ i j. F (suc i) j))

  -- the sum of F b c over all tuples b and c with b + c = a
  unfoldable pub over_splits : List ℕ → (List ℕ → List ℕ → A) → A
  unfolding over_pairs
  over_splits [] F = F [] []
  over_splits (k ∷ a) F = over_pairs k (λ i j. over_splits a (λ b c. F (i ∷ b) (j ∷ c)))
