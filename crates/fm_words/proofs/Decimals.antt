-- The digits of a printed number.
use Rattle.std.proofs.Common.{ℕ, ◌+◌, ◌%◌, ◌^◌, ◌<◌, ◌≤◌, [], ◌∷◌, ◌++◌, arith, length-append}
use Rattle.std.specs.Prelude.{decimal}
use Rattle.std.proofs.lemmas.Bool.Decides.{nat_tests}
use Rattle.std.proofs.lemmas.Fmt.{decimal_by_steps}
use Rattle.fm_words.specs.Parts.{Bytes}
use Rattle.fm_words.proofs.Cutting.{level, IsText, within_append}

digit_level : (d : ℕ) → d < 10 → level (48 + d) < 1
digit_level d h = grind (arith, nat_tests)

last_digit : (n : ℕ) → n % 10 < 10
last_digit n = omega arith

pub decimal_text : (n : ℕ) → n < 2 ^ 64 → IsText 1 (decimal n)
decimal_text = decimal_by_steps (λ n ds. IsText 1 ds) one more where
  one : (n : ℕ) → n < 10 → IsText 1 ((48 + n) ∷ [])
  one n h = record { within = (digit_level n h, tt); some = omega arith }

  more : (n : ℕ) (ds : Bytes) → 10 ≤ n → IsText 1 ds → IsText 1 (ds ++ (48 + n % 10) ∷ [])
  more n ds h i = record {
    within = within_append 1 ds _ i.within (digit_level (n % 10) (last_digit n), tt);
    some = omega (arith, length-append ds ((48 + n % 10) ∷ []));
  }
