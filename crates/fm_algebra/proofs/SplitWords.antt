-- A sum over splits goes over all pairs with the given sum, each once
use Rattle.std.proofs.Common.{◌≡◌, ℕ, zero, suc, ◌+◌, List, [], ◌∷◌, length, refl, ap, sym, ◌∙◌, arith, zero-add, add-zero}
use Rattle.fm_tuple.specs.Tuple.{tuple_sum}
use Rattle.fm_algebra.specs.Splits.{over_pairs, over_splits}
use Rattle.fm_algebra.proofs.Sums.{IsSum-of, IsSum-tuple_sum, length_left, length_right, splits_one, splits_same_if, pairs_same}

-- only pairs with the sum a count
pub splits_only : (a : List ℕ) (F G : List ℕ → List ℕ → ℕ) → ((b c : List ℕ) → length b ≡ length c → tuple_sum b c ≡ a → F b c ≡ G b c)
    → over_splits ◌+◌ a F ≡ over_splits ◌+◌ a G
splits_only a F G h = splits_same_if ◌+◌ a (λ b c s. h b c (length_left s ∙ sym (length_right s)) (sym (IsSum-tuple_sum s)))

-- each of them counts once
pub splits_each_once : (b c : List ℕ) (F : List ℕ → List ℕ → ℕ) → length b ≡ length c → ((u v : List ℕ) → ¬ (u ≡ b) → F u v ≡ 0)
    → over_splits ◌+◌ (tuple_sum b c) F ≡ F b c
splits_each_once b c F l h = splits_one ◌+◌ 0 zero-add add-zero F (IsSum-of b c l) (λ u v s w. h u v w)

pairs_added : (k : ℕ) (F G : ℕ → ℕ → ℕ) → over_pairs ◌+◌ k (λ i j. F i j + G i j) ≡ over_pairs ◌+◌ k F + over_pairs ◌+◌ k G
unfolding over_pairs
pairs_added zero F G = refl
pairs_added (suc k) F G =
    ap (λ x. F 0 (suc k) + G 0 (suc k) + x) (pairs_added k (λ i j. F (suc i) j) (λ i j. G (suc i) j))
    ∙ swapped (F 0 (suc k)) (G 0 (suc k)) (over_pairs ◌+◌ k (λ i j. F (suc i) j)) (over_pairs ◌+◌ k (λ i j. G (suc i) j))
  where
    swapped : (a b c d : ℕ) → a + b + (c + d) ≡ a + c + (b + d)
    swapped a b c d = omega arith

-- the sum is additive
pub splits_added : (a : List ℕ) (F G : List ℕ → List ℕ → ℕ) → over_splits ◌+◌ a (λ b c. F b c + G b c) ≡ over_splits ◌+◌ a F + over_splits ◌+◌ a G
unfolding over_splits
splits_added [] F G = refl
splits_added (k ∷ a) F G = pairs_same ◌+◌ k (λ i j. splits_added a (λ b c. F (i ∷ b) (j ∷ c)) (λ b c. G (i ∷ b) (j ∷ c))) ∙ pairs_added k _ _
