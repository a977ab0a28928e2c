-- The comparison by the first variable whose exponents differ, place by place
use Rattle.std.proofs.Common.{ℕ, zero, suc, ◌<◌, ◌≡◌, List, [], ◌∷◌, length, get_or, refl, sym, ap, ◌∙◌, arith}
use Rattle.std.specs.Ordering.{nat_cmp, ordering_then}
use Rattle.std.specs.FinMap.{nat_cmp-IsAntisymmetric}
use Rattle.std.specs.declared.cmp.Ordering.{Ordering}
use Rattle.std.specs.declared.cmp.Ordering.TheVariants.{Less, Equal, Greater}
use Rattle.std.proofs.lemmas.Cmp.{nat_cmp_total, tied_itself}
use Rattle.fm_mono.specs.Orders.{first_cmp}

pub decided : (r s : Ordering) → (r ≡ Equal → ⊥) → ordering_then r s ≡ r
decided Less s differ = refl
decided Equal s differ = absurd (differ refl)
decided Greater s differ = refl

pub tied : (i j : ℕ) (s : Ordering) → i ≡ j → ordering_then (nat_cmp i j) s ≡ s
tied i j s same = ap (λ k. ordering_then (nat_cmp i k) s) (sym same) ∙ ap (λ r. ordering_then r s) (tied_itself nat_cmp_total i)

-- the first place that differs decides
pub first_cmp_at : (a b : List ℕ) (k : ℕ) → length b ≡ length a → k < length a → (get_or a k 0 ≡ get_or b k 0 → ⊥)
    → ((j : ℕ) → j < k → get_or a j 0 ≡ get_or b j 0) → nat_cmp (get_or a k 0) (get_or b k 0) ≡ first_cmp a b
first_cmp_at [] b k l below differ same = absurd (omega arith)
first_cmp_at (i ∷ a) [] k l below differ same = absurd (omega arith)
first_cmp_at (i ∷ a) (j ∷ b) zero l below differ same =
    sym (decided (nat_cmp i j) (first_cmp a b) (λ tie. differ (nat_cmp-IsAntisymmetric i j tie)))
first_cmp_at (i ∷ a) (j ∷ b) (suc k) l below differ same =
    first_cmp_at a b k (omega arith) (omega arith) differ (λ m before. same (suc m) (omega arith)) ∙ sym (tied i j (first_cmp a b) (same 0 (omega arith)))

pub first_cmp_none : (a b : List ℕ) → length b ≡ length a → ((j : ℕ) → j < length a → get_or a j 0 ≡ get_or b j 0) → Equal ≡ first_cmp a b
first_cmp_none [] [] l same = refl
first_cmp_none [] (j ∷ b) l same = absurd (omega arith)
first_cmp_none (i ∷ a) [] l same = absurd (omega arith)
first_cmp_none (i ∷ a) (j ∷ b) l same =
    first_cmp_none a b (omega arith) (λ m below. same (suc m) (omega arith)) ∙ sym (tied i j (first_cmp a b) (same 0 (omega arith)))
