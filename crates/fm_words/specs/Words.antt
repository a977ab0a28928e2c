-- Words, numbers and names.
use Rattle.std.specs.Prelude.{◌≡◌, ℕ, ◌+◌, ◌-◌, ◌*◌, ◌^◌, Bool, true, false, ◌&&◌, ◌||◌, if◌then◌else◌, nat_eq, nat_lt, List, [], ◌∷◌, Option, Some, None}
use Rattle.std.specs.List.{list_all}
use lib.Pointwise.{pointwise}
use Rattle.fm_words.specs.declared.mark.Mark.TheVariants.{Blank}
use Rattle.fm_words.specs.Parts.{Bytes, is_mark, parts, after_mark}

-- the texts that aren't empty
abbrev pub nonempty : List Bytes → List Bytes
nonempty [] = []
nonempty ([] ∷ ws) = nonempty ws
nonempty ((b ∷ bs) ∷ ws) = (b ∷ bs) ∷ nonempty ws

-- the words of a text: what stands between blanks
abbrev pub words : Bytes → List Bytes
words text = nonempty (parts Blank text)

abbrev pub is_empty : {A : Type 0} → List A → Bool
is_empty [] = true
is_empty (x ∷ xs) = false

-- the text is blanks alone
abbrev pub is_blank : Bytes → Bool
is_blank text = is_empty (words text)

-- the text after the first word
abbrev pub after_word : Bytes → Bytes
after_word [] = []
after_word (b ∷ bs) = if is_mark Blank b then after_word bs else after_mark Blank (b ∷ bs)

abbrev pub same_bytes : Bytes → Bytes → Bool
same_bytes x y = pointwise nat_eq x y

abbrev pub is_digit : ℕ → Bool
is_digit b = nat_lt 47 b && nat_lt b 58

-- one or more decimal digits
abbrev pub is_number : Bytes → Bool
is_number [] = false
is_number (b ∷ bs) = is_digit b && list_all is_digit bs

-- the number with the decimal digits of n and then these
abbrev pub value_from : ℕ → Bytes → ℕ
value_from n [] = n
value_from n (b ∷ bs) = value_from (n * 10 + (b - 48)) bs

-- the number with these decimal digits
abbrev pub value : Bytes → ℕ
value w = value_from 0 w

-- digits without leading zeros
abbrev pub is_exact : Bytes → Bool
is_exact [] = false
is_exact (b ∷ []) = true
is_exact (b ∷ c ∷ bs) = if nat_eq b 48 then false else true

-- the number, if it is below 2^64
abbrev pub small : ℕ → Option ℕ
small n = if nat_lt n (2 ^ 64) then Some n else None

-- an ASCII letter
abbrev pub is_letter : ℕ → Bool
is_letter b = (nat_lt 64 b && nat_lt b 91) || (nat_lt 96 b && nat_lt b 123)

-- a letter, a digit or `_`
abbrev pub is_name_byte : ℕ → Bool
is_name_byte b = is_letter b || (is_digit b || nat_eq b 95)

-- a letter, followed by letters, digits and `_`
abbrev pub is_name : Bytes → Bool
is_name [] = false
is_name (b ∷ bs) = is_letter b && list_all is_name_byte bs

-- names, no two of them equal
abbrev pub are_names : List Bytes → Bool
are_names [] = true
are_names (m ∷ ms) = is_name m && (list_all (λ o. if same_bytes o m then false else true) ms && are_names ms)

unfoldable pub AreNames : List Bytes → Type 0
AreNames names = are_names names ≡ true
