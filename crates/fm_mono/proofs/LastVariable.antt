-- The comparison by the last variable whose exponents differ, place by place
use Rattle.std.proofs.Common.{ℕ, zero, suc, ◌<◌, ◌≤◌, ◌≡◌, List, [], ◌∷◌, length, get_or, refl, sym, ap, ◌∙◌, arith}
use mathlib.Core.List.{reverse_aux}
use Rattle.std.specs.Ordering.{nat_cmp, flip_args, ordering_then}
use Rattle.std.specs.Cmp.Lexicographic.{slice_cmp}
use Rattle.std.specs.FinMap.{nat_cmp-IsAntisymmetric}
use Rattle.std.specs.declared.cmp.Ordering.{Ordering}
use Rattle.std.specs.declared.cmp.Ordering.TheVariants.{Equal}
use Rattle.std.proofs.lemmas.Cmp.{nat_cmp_total, tied_itself}
use Rattle.std.proofs.lemmas.Grind.{same_number_lists}
use Rattle.fm_mono.specs.Orders.{last_cmp}
use Rattle.fm_mono.proofs.FirstVariable.{decided}

same_entries : (a b : List ℕ) → length b ≡ length a → ((j : ℕ) → get_or a j 0 ≡ get_or b j 0) → a ≡ b
same_entries a b l same = same_number_lists a b (sym l) (λ k below. same k)

module _ (R : ℕ → ℕ → Ordering) where
  -- what stands before the places that are reversed onto two lists
  pub common : ((i : ℕ) → R i i ≡ Equal) → (a u v : List ℕ) → slice_cmp R (reverse_aux a u) (reverse_aux a v) ≡ slice_cmp R u v
  common ties [] u v = refl
  common ties (i ∷ a) u v = common ties a (i ∷ u) (i ∷ v) ∙ ap (λ r. ordering_then r (slice_cmp R u v)) (ties i)

  last_differs : ((i : ℕ) → R i i ≡ Equal) → (a b u v : List ℕ) (k : ℕ) → length b ≡ length a → k < length a
      → (R (get_or a k 0) (get_or b k 0) ≡ Equal → ⊥) → ((j : ℕ) → k < j → get_or a j 0 ≡ get_or b j 0)
      → slice_cmp R (reverse_aux a u) (reverse_aux b v) ≡ R (get_or a k 0) (get_or b k 0)
  last_differs ties [] b u v k l below differ same = absurd (omega arith)
  last_differs ties (i ∷ a) [] u v k l below differ same = absurd (omega arith)
  last_differs ties (i ∷ a) (j ∷ b) u v zero l below differ same =
      let rest : a ≡ b = same_entries a b (omega arith) (λ m. same (suc m) (omega arith)) in
      ap (λ x. slice_cmp R (reverse_aux a (i ∷ u)) (reverse_aux x (j ∷ v))) (sym rest)
      ∙ common ties a (i ∷ u) (j ∷ v) ∙ decided (R i j) (slice_cmp R u v) differ
  last_differs ties (i ∷ a) (j ∷ b) u v (suc k) l below differ same =
      last_differs ties a b (i ∷ u) (j ∷ v) k (omega arith) (omega arith) differ (λ m later. same (suc m) (omega arith))

-- the last place that differs decides
pub last_cmp_at : (a b : List ℕ) (k : ℕ) → length b ≡ length a → k < length a → (get_or a k 0 ≡ get_or b k 0 → ⊥)
    → ((j : ℕ) → suc k ≤ j → get_or a j 0 ≡ get_or b j 0) → nat_cmp (get_or b k 0) (get_or a k 0) ≡ last_cmp a b
last_cmp_at a b k l below differ same =
    sym (last_differs (flip_args nat_cmp) (λ i. tied_itself nat_cmp_total i) a b [] [] k l below
    (λ tie. differ (sym (nat_cmp-IsAntisymmetric (get_or b k 0) (get_or a k 0) tie))) (λ j later. same j later))

pub last_cmp_none : (a b : List ℕ) → length b ≡ length a → ((j : ℕ) → get_or a j 0 ≡ get_or b j 0) → Equal ≡ last_cmp a b
last_cmp_none a b l same =
    sym (ap (λ x. last_cmp a x) (sym (same_entries a b l same)) ∙ common (flip_args nat_cmp) (λ i. tied_itself nat_cmp_total i) a [] [])
