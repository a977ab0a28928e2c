-- Bytes of printed texts, by tests that all of them pass.
use Rattle.std.proofs.Common.{◌≡◌, ℕ, ◌+◌, ◌-◌, ◌*◌, ◌/◌, ◌%◌, ◌^◌, ◌<◌, ◌≤◌, Bool, true, false, ◌&&◌, ◌||◌, if◌then◌else◌, nat_eq, List, [], ◌∷◌, ◌++◌, refl, sym, ap, ap₂, ◌∙◌, arith}
use Rattle.std.specs.Prelude.{decimal, cond}
use Rattle.std.specs.List.{list_all, join_with_byte, slice_split, onto_first}
use Rattle.std.proofs.lemmas.Bool.{and_parts, and_from}
use Rattle.std.proofs.lemmas.Bool.Decides.{nat_tests}
use Rattle.std.proofs.lemmas.Fmt.{decimal_by_steps}
use Rattle.std.proofs.lemmas.List.Folds.{list_all-append}
use Rattle.fm_words.specs.Parts.{Bytes}
use Rattle.fm_words.specs.Words.{is_exact, is_digit, is_number, value, value_from, is_name, is_name_byte}

-- a digit, a letter, `_`, `^`, `*` or `+`: a byte of a printed polynomial
abbrev pub is_plain : ℕ → Bool
is_plain b = is_name_byte b || (nat_eq b 94 || (nat_eq b 42 || nat_eq b 43))

abbrev pub are_plain : Bytes → Bool
are_plain xs = list_all is_plain xs

pub all_append : (p : ℕ → Bool) (xs ys : Bytes) → list_all p xs ≡ true → list_all p ys ≡ true → list_all p (xs ++ ys) ≡ true
all_append p xs ys h k = list_all-append p xs ys ∙ ap₂ (λ a b. a && b) h k

pub all_weaker : (p q : ℕ → Bool) → ((b : ℕ) → p b ≡ true → q b ≡ true) → (xs : Bytes) → list_all p xs ≡ true → list_all q xs ≡ true
all_weaker p q w [] h = refl
all_weaker p q w (x ∷ xs) h = and_from _ _ (w x (and_parts _ _ h).0) (all_weaker p q w xs (and_parts _ _ h).1)

abbrev pub AllAre : (ℕ → Bool) → List Bytes → Type 0
AllAre p [] = Unit {0}
AllAre p (x ∷ xs) = (list_all p x ≡ true) × AllAre p xs

pub all_joined : (p : ℕ → Bool) (c : ℕ) → p c ≡ true → (xs : List Bytes) → AllAre p xs → list_all p (join_with_byte c xs) ≡ true
all_joined p c h [] a = refl
all_joined p c h (x ∷ []) a = a.0
all_joined p c h (x ∷ y ∷ ys) a = all_append p x (c ∷ join_with_byte c (y ∷ ys)) a.0 (and_from _ _ h (all_joined p c h (y ∷ ys) a.1))

-- ---- digits
is_a_digit : (d : ℕ) → d < 10 → is_digit (48 + d) ≡ true
is_a_digit d h = grind (arith, nat_tests)

value_more : (n : ℕ) (ds : Bytes) (x : ℕ) → value_from n (ds ++ x ∷ []) ≡ value_from n ds * 10 + (x - 48)
value_more n [] x = refl
value_more n (d ∷ ds) x = value_more (n * 10 + (d - 48)) ds x

exact_pair : (b : ℕ) (bs : Bytes) (x : ℕ) → nat_eq b 48 ≡ false → is_exact ((b ∷ bs) ++ x ∷ []) ≡ true
exact_pair b [] x e = ap (λ (t : Bool). if t then false else true) e
exact_pair b (c ∷ bs) x e = ap (λ (t : Bool). if t then false else true) e

-- one digit, or digits of which the first isn't 0; their number is n
pub record IsDecimalOf (n : ℕ) (ds : Bytes) : Type 0 where
  pub first : ℕ
  pub others : Bytes
  pub is : ds ≡ first ∷ others
  pub digits : list_all is_digit ds ≡ true
  pub val : value ds ≡ n
  pub exact : is_exact ds ≡ true
  pub leads : 0 < n → nat_eq first 48 ≡ false

pub decimal_is : (n : ℕ) → n < 2 ^ 64 → IsDecimalOf n (decimal n)
decimal_is = decimal_by_steps IsDecimalOf one more
  where
    one : (n : ℕ) → n < 10 → IsDecimalOf n ((48 + n) ∷ [])
    one n h = record { first = 48 + n; others = []; is = refl; digits = and_from _ _ (is_a_digit n h) refl; val = omega arith; exact = refl; leads = λ l. grind (arith, nat_tests) }

    more : (n : ℕ) (ds : Bytes) → 10 ≤ n → IsDecimalOf (n / 10) ds → IsDecimalOf n (ds ++ (48 + n % 10) ∷ [])
    more n ds h i =
        let some : 0 < n / 10 = omega (arith, h) in
        let whole : n / 10 * 10 + (48 + n % 10 - 48) ≡ n = omega arith in
        record {
          first = i.first;
          others = i.others ++ (48 + n % 10) ∷ [];
          is = ap (λ x. x ++ (48 + n % 10) ∷ []) i.is;
          digits = all_append is_digit ds ((48 + n % 10) ∷ []) i.digits (and_from _ _ (is_a_digit (n % 10) (omega arith)) refl);
          val = value_more 0 ds (48 + n % 10) ∙ ap (λ x. x * 10 + (48 + n % 10 - 48)) i.val ∙ whole;
          exact = ap (λ x. is_exact (x ++ (48 + n % 10) ∷ [])) i.is ∙ exact_pair i.first i.others (48 + n % 10) (i.leads some);
          leads = λ l. i.leads some;
        }

pub number_digits : (n : ℕ) → n < 2 ^ 64 → list_all is_digit (decimal n) ≡ true
number_digits n h = (decimal_is n h).digits

pub number_value : (n : ℕ) → n < 2 ^ 64 → value (decimal n) ≡ n
number_value n h = (decimal_is n h).val

number_tested : (ds : Bytes) (first : ℕ) (others : Bytes) → ds ≡ first ∷ others → list_all is_digit ds ≡ true → is_number ds ≡ true
number_tested ds first others e h = ap is_number e ∙ sym (ap (list_all is_digit) e) ∙ h

pub decimal_is_number : (n : ℕ) → n < 2 ^ 64 → is_number (decimal n) ≡ true
decimal_is_number n h = number_tested (decimal n) (decimal_is n h).first (decimal_is n h).others (decimal_is n h).is (number_digits n h)

-- ---- names
letter_is_byte : (b : ℕ) → is_name (b ∷ []) ≡ true → is_name_byte b ≡ true
letter_is_byte b h = grind (arith, nat_tests)

letter_no_digit : (b : ℕ) → is_name (b ∷ []) ≡ true → is_digit b ≡ false
letter_no_digit b h = grind (arith, nat_tests)

pub name_bytes : (m : Bytes) → is_name m ≡ true → list_all is_name_byte m ≡ true
name_bytes [] h = absurd (let e : false ≡ true = h in cc)
name_bytes (b ∷ bs) h = and_from _ _ (letter_is_byte b (and_from _ _ (and_parts _ _ h).0 refl)) (and_parts _ _ h).1

pub name_is_no_number : (m rest : Bytes) → is_name m ≡ true → is_number (m ++ rest) ≡ false
name_is_no_number [] rest h = absurd (let e : false ≡ true = h in cc)
name_is_no_number (b ∷ bs) rest h = ap (λ x. x && list_all is_digit (bs ++ rest)) (letter_no_digit b (and_from _ _ (and_parts _ _ h).0 refl))

digit_is_plain : (b : ℕ) → is_digit b ≡ true → is_plain b ≡ true
digit_is_plain b h = grind (arith, nat_tests)

byte_is_plain : (b : ℕ) → is_name_byte b ≡ true → is_plain b ≡ true
byte_is_plain b h = grind (arith, nat_tests)

pub number_is_plain : (n : ℕ) → n < 2 ^ 64 → are_plain (decimal n) ≡ true
number_is_plain n h = all_weaker is_digit is_plain digit_is_plain (decimal n) (number_digits n h)

pub name_is_plain : (m : Bytes) → is_name m ≡ true → are_plain m ≡ true
name_is_plain m h = all_weaker is_name_byte is_plain byte_is_plain m (name_bytes m h)

-- ---- cutting where there is nothing to cut
pub not_split : (p : ℕ → Bool) (xs : Bytes) → list_all (λ b. if p b then false else true) xs ≡ true → slice_split p xs ≡ xs ∷ []
not_split p [] h = refl
not_split p (x ∷ xs) h = by_test (p x) (and_parts _ _ h).0 (not_split p xs (and_parts _ _ h).1)
  where
    by_test : (t : Bool) → (if t then false else true) ≡ true → slice_split p xs ≡ xs ∷ [] → cond t ([] ∷ slice_split p xs) (onto_first x (slice_split p xs)) ≡ (x ∷ xs) ∷ []
    by_test true h e = absurd (let f : false ≡ true = h in cc)
    by_test false h e = ap (onto_first x) e

pub without : (p : ℕ → Bool) → ((b : ℕ) → is_plain b ≡ true → (if p b then false else true) ≡ true) → (xs : Bytes) → are_plain xs ≡ true
    → list_all (λ b. if p b then false else true) xs ≡ true
without p w xs h = all_weaker is_plain (λ b. if p b then false else true) w xs h
