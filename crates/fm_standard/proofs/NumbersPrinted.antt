-- Printed numbers of any size: they are words, and the text of a small number is that of no other.
use Rattle.std.proofs.Common.{◌≡◌, ℕ, zero, suc, ◌+◌, ◌-◌, ◌*◌, ◌/◌, ◌%◌, ◌^◌, ◌<◌, ◌≤◌, Bool, true, false, if◌then◌else◌, nat_eq, List, [], ◌∷◌, ◌++◌, map, length, refl, sym, ap, ◌∙◌, arith, inl, inr}
use Rattle.std.specs.Prelude.{decimal}
use Rattle.std.specs.Fmt.{digits, digits_onto, digit_glyph}
use Rattle.std.specs.List.{list_all}
use Rattle.std.proofs.lemmas.Bool.{and_parts, and_from, ne_eqb, lt-ltb, cases_lt}
use Rattle.std.proofs.lemmas.Bool.Decides.{nat_tests}
use Rattle.std.proofs.Math.Nat.{pow-suc, one-le-pow}
use Rattle.std.specs.Prelude.{◌⊎◌}
use Rattle.std.proofs.lemmas.Fmt.{length-decimal-le, decimal_by_steps_wide}
use Rattle.fm_words.specs.Parts.{Bytes}
use Rattle.fm_words.specs.Words.{is_digit, value, value_from}
use Rattle.fm_cert.specs.Writable.{is_inner, is_word}
use Rattle.fm_text.proofs.Bytes.{all_weaker, number_value}

glyph_digit : (d : ℕ) → d < 10 → is_digit (digit_glyph false d) ≡ true
glyph_digit d h = ap (λ (t : Bool). is_digit (if t then 48 + d else (if false then 55 + d else 87 + d))) (lt-ltb d 10 h) ∙ shifted d h
  where
    shifted : (d : ℕ) → d < 10 → is_digit (48 + d) ≡ true
    shifted d h = grind (arith, nat_tests)

digits_all : (k n : ℕ) (rest : Bytes) → list_all is_digit rest ≡ true → list_all is_digit (digits_onto k 10 false n rest) ≡ true
digits_all zero n rest h = h
digits_all (suc k) n rest h =
    let more : list_all is_digit (digit_glyph false (n % 10) ∷ rest) ≡ true = and_from _ _ (glyph_digit (n % 10) (omega arith)) h in
    by (nat_eq (n / 10) 0) more (digits_all k (n / 10) (digit_glyph false (n % 10) ∷ rest) more)
  where
    by : (t : Bool) → list_all is_digit (digit_glyph false (n % 10) ∷ rest) ≡ true → list_all is_digit (digits_onto k 10 false (n / 10) (digit_glyph false (n % 10) ∷ rest)) ≡ true
        → list_all is_digit (if t then digit_glyph false (n % 10) ∷ rest else digits_onto k 10 false (n / 10) (digit_glyph false (n % 10) ∷ rest)) ≡ true
    by true more rest = more
    by false more rest = rest

digits_longer : (k n : ℕ) (rest : Bytes) → length rest ≤ length (digits_onto k 10 false n rest)
digits_longer zero n rest = omega arith
digits_longer (suc k) n rest = by (nat_eq (n / 10) 0) (digits_longer k (n / 10) (digit_glyph false (n % 10) ∷ rest))
  where
    by : (t : Bool) → length (digit_glyph false (n % 10) ∷ rest) ≤ length (digits_onto k 10 false (n / 10) (digit_glyph false (n % 10) ∷ rest))
        → length rest ≤ length (if t then digit_glyph false (n % 10) ∷ rest else digits_onto k 10 false (n / 10) (digit_glyph false (n % 10) ∷ rest))
    by true more = omega arith
    by false more = omega (arith, more)

digits_some : (n : ℕ) (rest : Bytes) → 0 < length (digits_onto 64 10 false n rest)
digits_some n rest = by (nat_eq (n / 10) 0) (digits_longer 63 (n / 10) (digit_glyph false (n % 10) ∷ rest))
  where
    by : (t : Bool) → length (digit_glyph false (n % 10) ∷ rest) ≤ length (digits_onto 63 10 false (n / 10) (digit_glyph false (n % 10) ∷ rest))
        → 0 < length (if t then digit_glyph false (n % 10) ∷ rest else digits_onto 63 10 false (n / 10) (digit_glyph false (n % 10) ∷ rest))
    by true more = omega arith
    by false more = omega (arith, more)

pub decimal_digits : (n : ℕ) → list_all is_digit (decimal n) ≡ true
unfolding digits
decimal_digits n = digits_all 64 n [] refl

digit_inner : (b : ℕ) → is_digit b ≡ true → is_inner b ≡ true
digit_inner b h = grind (arith, nat_tests)

word_from : (w : Bytes) → 0 < length w → list_all is_inner w ≡ true → is_word w ≡ true
word_from [] l h = absurd (omega (arith, l))
word_from (b ∷ bs) l h = h

decimal_some : (n : ℕ) → 0 < length (decimal n)
unfolding digits
decimal_some n = digits_some n []

-- a printed number is a word
pub decimal_word : (n : ℕ) → is_word (decimal n) ≡ true
decimal_word n = word_from (decimal n) (decimal_some n) (all_weaker is_digit is_inner digit_inner (decimal n) (decimal_digits n))

pub decimal_words : (ns : List ℕ) → list_all is_word (map decimal ns) ≡ true
decimal_words [] = refl
decimal_words (n ∷ ns) = and_from _ _ (decimal_word n) (decimal_words ns)

-- a word that doesn't begin with a digit is no printed number
pub no_decimal : {A : Type 0} (n b : ℕ) (bs : Bytes) → is_digit b ≡ false → decimal n ≡ b ∷ bs → A
no_decimal n b bs e same = absurd (let d : is_digit b ≡ true = (and_parts _ _ (ap (list_all is_digit) (sym same) ∙ decimal_digits n)).0 in let f : false ≡ true = sym e ∙ d in cc)

-- ---- sizes
digits_long : (k n : ℕ) (rest : Bytes) → 10 ^ k ≤ n → length (digits_onto k 10 false n rest) ≡ k + length rest
digits_long zero n rest h = omega arith
digits_long (suc k) n rest h =
    let power = pow-suc 10 k in
    let some = one-le-pow k 10 (omega arith) in
    ap (λ (t : Bool). length (if t then digit_glyph false (n % 10) ∷ rest else digits_onto k 10 false (n / 10) (digit_glyph false (n % 10) ∷ rest)))
    (ne_eqb (n / 10) 0 (λ e. omega (arith, h, power, some, e)))
    ∙ digits_long k (n / 10) (digit_glyph false (n % 10) ∷ rest) (omega (arith, h, power)) ∙ omega arith

value_more : (n : ℕ) (ds : Bytes) (x : ℕ) → value_from n (ds ++ x ∷ []) ≡ value_from n ds * 10 + (x - 48)
value_more n [] x = refl
value_more n (d ∷ ds) x = value_more (n * 10 + (d - 48)) ds x

decimal_value : (n : ℕ) → n < 10 ^ 64 → value (decimal n) ≡ n
decimal_value = decimal_by_steps_wide (λ n ds. value ds ≡ n) (λ n h. omega arith) more
  where
    more : (n : ℕ) (ds : Bytes) → 10 ≤ n → value ds ≡ n / 10 → value (ds ++ (48 + n % 10) ∷ []) ≡ n
    more n ds h i =
        let whole : n / 10 * 10 + (48 + n % 10 - 48) ≡ n = omega arith in
        value_more 0 ds (48 + n % 10) ∙ ap (λ x. x * 10 + (48 + n % 10 - 48)) i ∙ whole

long_decimal : (n : ℕ) → 10 ^ 64 ≤ n → length (decimal n) ≡ 64
unfolding digits
long_decimal n h = digits_long 64 n [] h ∙ refl

-- a number with the text of a small one is small
pub small_printed : (n m : ℕ) → decimal n ≡ decimal m → m < 2 ^ 64 → n < 2 ^ 64
small_printed n m e h = by (cases_lt n (10 ^ 64))
  where
    by : (n < 10 ^ 64) ⊎ (10 ^ 64 ≤ n) → n < 2 ^ 64
    by (inl low) = let same = sym (decimal_value n low) ∙ ap value e ∙ number_value m h in omega (arith, same, h)
    by (inr high) =
        let long = sym (long_decimal n high) ∙ ap length e in
        let short = length-decimal-le 20 m (omega arith) (omega (arith, h)) h in
        absurd (omega (arith, long, short))
