-- Numbers with many digits, and what stands at the end of a line.
use Rattle.std.proofs.Common.{◌≡◌, ℕ, ◌+◌, ◌-◌, ◌*◌, ◌^◌, ◌≤◌, List, [], ◌∷◌, None, refl, sym, ◌∙◌, ap, arith}
use Rattle.std.proofs.lemmas.Bool.{le-ltb}
use Rattle.fm_words.specs.Words.{value_from, small}

-- further digits don't make a number smaller
pub past : (n : ℕ) (bs : List ℕ) → 2 ^ 64 ≤ n → small (value_from n bs) ≡ None
past n [] h = rw (le-ltb n (2 ^ 64) h) refl
past n (b ∷ bs) h = past (n * 10 + (b - 48)) bs (omega arith)

pub past_next : (n b : ℕ) (bs from digits : List ℕ) → from ≡ b ∷ bs → value_from n from ≡ value_from 0 digits → 2 ^ 64 ≤ n * 10 + (b - 48) → None ≡ small (value_from 0 digits)
past_next n b bs from digits e same h = sym (past (n * 10 + (b - 48)) bs h) ∙ ap small (sym (ap (value_from n) e) ∙ same)
