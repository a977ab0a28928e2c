-- A text is cut into terms at the first sign.
use Rattle.std.proofs.Common.{◌≡◌, ℕ, zero, suc, ◌+◌, ◌-◌, ◌<◌, ◌≤◌, List, [], ◌∷◌, Some, None, get_or, take, drop, length, refl, sym, ◌∙◌, ap, arith, add-one}
use Rattle.std.proofs.lemmas.List.{take_rest}
use Rattle.fm_text.specs.declared.sign.Sign.{Sign}
use Rattle.fm_text.specs.Factors.{sign_of_byte, signed}

cut_at : (s new : Sign) (xs : List ℕ) (i : ℕ) → i < length xs → ((k : ℕ) → k < i → sign_of_byte (get_or xs k 0) ≡ None) → sign_of_byte (get_or xs i 0) ≡ Some new
    → signed s xs ≡ record { sign = s; text = take i xs } ∷ signed new (drop (suc i) xs)
cut_at s new [] i lt before here = absurd (omega arith)
cut_at s new (x ∷ xs) zero lt before here = rw here refl
cut_at s new (x ∷ xs) (suc i) lt before here = rw (before 0 (omega arith), cut_at s new xs i (omega arith) (λ k below. before (suc k) (omega arith)) here) refl

pub terms_at : (s new : Sign) (xs : List ℕ) (i : ℕ) → i < length xs → ((k : ℕ) → k < i → sign_of_byte (get_or xs k 0) ≡ None) → sign_of_byte (get_or xs i 0) ≡ Some new
    → signed s xs ≡ record { sign = s; text = take i xs } ∷ signed new (take (length xs - (i + 1)) (drop (i + 1) xs))
terms_at s new xs i lt before here =
    cut_at s new xs i lt before here ∙ ap (λ v. record { sign = s; text = take i xs } ∷ signed new v) (sym (take_rest xs (i + 1) ∙ ap (λ j. drop j xs) (add-one i)))

pub one_term : (s : Sign) (xs : List ℕ) (i : ℕ) → length xs ≤ i → ((k : ℕ) → k < i → sign_of_byte (get_or xs k 0) ≡ None) → signed s xs ≡ record { sign = s; text = xs } ∷ []
one_term s [] i above before = refl
one_term s (x ∷ xs) zero above before = absurd (omega arith)
one_term s (x ∷ xs) (suc i) above before = rw (before 0 (omega arith), one_term s xs i (omega arith) (λ k below. before (suc k) (omega arith))) refl
