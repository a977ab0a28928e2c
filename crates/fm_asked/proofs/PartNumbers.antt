-- Numbers of parts, and numbers that are narrowed.
use Rattle.std.proofs.Common.{◌≡◌, ℕ, zero, suc, ◌-◌, ◌<◌, ◌≤◌, Bool, true, false, if◌then◌else◌, nat_le, List, [], ◌∷◌, length, get_or, Some, None, refl, sym, ap, ◌∙◌, arith}
use Rattle.std.proofs.lemmas.Bool.{both_ways, false_from_ne_true, leb-false, ne_eqb}
use Rattle.fm_report.specs.Parts.{Part, given}
use Rattle.fm_report.specs.Sheets.{numbered}
use Rattle.fm_parts.specs.Replays.{is_number}
use Rattle.fm_pres.specs.Tables.{part_at}
use Rattle.fm_pres.proofs.Tables.{is_number_bounds, bounds_is_number}
use Rattle.fm_asked.specs.Narrowing.{MOST, narrowed}

later : {A : Type 0} (a : A) (others : List A) (j : ℕ) → numbered (a ∷ others) (suc (suc j)) ≡ numbered others (suc j)
later a others j = rw (ne_eqb (suc (suc j)) 1 (omega arith)) (ap (numbered others) (omega arith))

one_on : {A : Type 0} (x d : A) (xs : List A) (k : ℕ) → get_or xs (suc k - 1) d ≡ get_or (x ∷ xs) (suc (suc k) - 1) d
one_on x d xs k =
    let one : suc k - 1 ≡ k = omega arith in
    let two : suc (suc k) - 1 ≡ suc k = omega arith in
    ap (λ i. get_or xs i d) one ∙ sym (ap (λ i. get_or (x ∷ xs) i d) two)

-- a number finds its element
pub numbered_at : {A : Type 0} (xs : List A) (k : ℕ) (d : A) → 0 < k → k ≤ length xs → numbered xs k ≡ Some (get_or xs (k - 1) d)
numbered_at [] k d low high = absurd (omega arith)
numbered_at (x ∷ xs) zero d low high = absurd (omega arith)
numbered_at (x ∷ xs) (suc zero) d low high = refl
numbered_at (x ∷ xs) (suc (suc k)) d low high =
    later x xs k ∙ numbered_at xs (suc k) d (omega arith) (omega arith) ∙ ap (λ y. Some y) (one_on x d xs k)

pub numbered_none : {A : Type 0} (xs : List A) (k : ℕ) → is_number xs k ≡ false → numbered xs k ≡ None
numbered_none [] k h = refl
numbered_none (x ∷ xs) zero h = numbered_none xs zero refl
numbered_none (x ∷ xs) (suc zero) h = absurd (both_ways (is_number (x ∷ xs) 1) h (bounds_is_number (x ∷ xs) 1 (omega arith) (omega arith)))
numbered_none (x ∷ xs) (suc (suc k)) h =
    later x xs k ∙ numbered_none xs (suc k) (false_from_ne_true (is_number xs (suc k)) (λ e.
    let b = is_number_bounds xs (suc k) e in
    both_ways (is_number (x ∷ xs) (suc (suc k))) h (bounds_is_number (x ∷ xs) (suc (suc k)) (omega arith) (omega (arith, b.1)))))

-- a number past the last one
pub past : {A : Type 0} (xs : List A) (k : ℕ) → length xs < k → is_number xs k ≡ false
past xs k h = false_from_ne_true (is_number xs k) (λ e. let b = is_number_bounds xs k e in absurd (omega (arith, h, b.1)))

pub not_zero : {A : Type 0} (xs : List A) → is_number xs 0 ≡ false
not_zero xs = refl

-- ---- narrowed numbers

narrowed_either : (k : ℕ) (b : Bool) → nat_le k MOST ≡ b → {A : Type 0} (xs : List A) → length xs < MOST → numbered xs k ≡ numbered xs (if b then k else 0)
narrowed_either k true e xs few = refl
narrowed_either k false e xs few =
    let beyond = leb-false k MOST e in
    numbered_none xs k (past xs k (omega (arith, beyond, few))) ∙ sym (numbered_none xs 0 (not_zero xs))

pub numbered_narrowed : {A : Type 0} (xs : List A) (k : ℕ) → length xs < MOST → numbered xs k ≡ numbered xs (narrowed k)
numbered_narrowed xs k few = narrowed_either k (nat_le k MOST) refl xs few

module _ (ps : List Part) (k a : ℕ) (few : length ps < MOST) (e : a ≡ narrowed k) where
  pub found : is_number ps a ≡ true → numbered ps k ≡ Some (part_at ps a)
  found h =
      let b = is_number_bounds ps a h in
      numbered_narrowed ps k few ∙ ap (numbered ps) (sym e) ∙ numbered_at ps a (given 0 []) b.0 b.1

  pub missing : is_number ps a ≡ false → numbered ps k ≡ None
  missing h = numbered_narrowed ps k few ∙ ap (numbered ps) (sym e) ∙ numbered_none ps a h
