-- The factors of a printed term are read back.
use Rattle.std.proofs.Common.{◌≡◌, ℕ, ◌+◌, ◌^◌, ◌<◌, Bool, true, false, ◌&&◌, if◌then◌else◌, nat_eq, List, [], ◌∷◌, ◌++◌, map, length, Some, None, refl, sym, ap, ap₂, ◌∙◌, arith, inl, inr}
use Rattle.std.specs.Prelude.{decimal}
use Rattle.std.specs.List.{list_all}
use Rattle.std.proofs.lemmas.Bool.{and_parts, cases_eq, eq-eqb, ne_eqb}
use Rattle.std.proofs.lemmas.Bool.Decides.{nat_tests}
use Rattle.fm_algebra.specs.Twist.{AllBelow}
use Rattle.fm_words.specs.Parts.{Bytes, is_mark, only}
use Rattle.fm_words.specs.Words.{is_name, are_names, nonempty, is_number, value}
use Rattle.fm_text.specs.Texts.{factor_text, factor_texts, with_coefficient}
use Rattle.fm_words.specs.declared.mark.Mark.TheVariants.{Blank}
use Rattle.fm_words.proofs.Cutting.{pieces_one, pieces_at}
use Rattle.fm_text.proofs.PrintedFactors.{name_text, number_text}
use Rattle.fm_text.specs.Factors.{Factor, Number, Power, one_word, factor_of_words, factor_of}
use Rattle.fm_text.proofs.Bytes.{is_plain, are_plain, not_split, without, number_is_plain, name_is_plain, decimal_is_number, number_value, name_is_no_number, all_append, AllAre}

no_blank : (b : ℕ) → is_plain b ≡ true → (if is_mark Blank b then false else true) ≡ true
no_blank b h = grind (arith, nat_tests)

some_word : (w : Bytes) → 0 < length w → nonempty (w ∷ []) ≡ w ∷ []
some_word [] h = absurd (omega arith)
some_word (b ∷ bs) h = refl

-- a text without blanks is one word
pub plain_word : (w : Bytes) → are_plain w ≡ true → 0 < length w → one_word w ≡ Some w
plain_word w h l = ap (λ ps. only (nonempty ps)) (not_split (is_mark Blank) w (without (is_mark Blank) no_blank w h)) ∙ ap only (some_word w l)

pub no_blanks : (w : Bytes) → are_plain w ≡ true → list_all (λ b. if is_mark Blank b then false else true) w ≡ true
no_blanks w h = without (is_mark Blank) no_blank w h

name_long : (m : Bytes) → is_name m ≡ true → 0 < length m
name_long m h = (name_text m h).some

number_factor : (c : ℕ) → c < 2 ^ 64 → factor_of (decimal c) ≡ Some (Number c)
number_factor c b =
    ap (λ ps. factor_of_words (map one_word ps)) (pieces_one 1 94 (omega arith) (decimal c) (number_text c b).within)
    ∙ ap (λ o. factor_of_words (o ∷ [])) (plain_word (decimal c) (number_is_plain c b) (number_text c b).some)
    ∙ ap (λ t. if t then Some (Number (value (decimal c))) else (if is_name (decimal c) then Some (Power (decimal c) 1) else None)) (decimal_is_number c b)
    ∙ ap (λ v. Some (Number v)) (number_value c b)

name_factor : (m : Bytes) → is_name m ≡ true → factor_of m ≡ Some (Power m 1)
name_factor m h =
    ap (λ ps. factor_of_words (map one_word ps)) (pieces_one 1 94 (omega arith) m (name_text m h).within)
    ∙ ap (λ o. factor_of_words (o ∷ [])) (plain_word m (name_is_plain m h) (name_long m h))
    ∙ ap (λ t. if t then Some (Number (value m)) else (if is_name m then Some (Power m 1) else None)) (no_number m h)
    ∙ ap (λ t. if t then Some (Power m 1) else None) h
  where
    no_number : (m : Bytes) → is_name m ≡ true → is_number m ≡ false
    no_number m h = ap is_number (sym (Rattle.std.proofs.Common.append-nil m)) ∙ name_is_no_number m [] h

power_factor_read : (m : Bytes) (e : ℕ) → is_name m ≡ true → e < 2 ^ 64 → factor_of (m ++ 94 ∷ decimal e) ≡ Some (Power m e)
power_factor_read m e h b =
    ap (λ ps. factor_of_words (map one_word ps))
    (pieces_at 1 94 (omega arith) m (decimal e) (name_text m h).within ∙ ap (λ ps. m ∷ ps) (pieces_one 1 94 (omega arith) (decimal e) (number_text e b).within))
    ∙ ap₂ (λ x y. factor_of_words (x ∷ y ∷ [])) (plain_word m (name_is_plain m h) (name_long m h)) (plain_word (decimal e) (number_is_plain e b) (number_text e b).some)
    ∙ ap₂ (λ x y. if x && y then Some (Power m (value (decimal e))) else None) h (decimal_is_number e b)
    ∙ ap (λ v. Some (Power m v)) (number_value e b)

pub factor_read : (m : Bytes) (e : ℕ) → is_name m ≡ true → e < 2 ^ 64 → factor_of (factor_text m e) ≡ Some (Power m e)
factor_read m e h b = elim (cases_eq e 1) [
  | inl i ↦ rw (eq-eqb e 1 i) (name_factor m h ∙ ap (λ k. Some (Power m k)) (sym i))
  | inr n ↦ rw (ne_eqb e 1 n) (power_factor_read m e h b)
]

-- ---- the factors of a term
abbrev pub powers : List Bytes → List ℕ → List Factor
powers [] es = []
powers (m ∷ ms) [] = []
powers (m ∷ ms) (e ∷ es) = if nat_eq e 0 then powers ms es else (Power m e ∷ powers ms es)

abbrev pub with_number : ℕ → List Factor → List Factor
with_number c [] = Number c ∷ []
with_number c (g ∷ gs) = if nat_eq c 1 then g ∷ gs else (Number c ∷ g ∷ gs)

pub powers_read : (names : List Bytes) (es : List ℕ) → are_names names ≡ true → AllBelow (2 ^ 64) es → map factor_of (factor_texts names es) ≡ map Some (powers names es)
powers_read [] es h b = refl
powers_read (m ∷ ms) [] h b = refl
powers_read (m ∷ ms) (e ∷ es) h b = by_test (nat_eq e 0) (factor_read m e (and_parts _ _ h).0 b.0) (powers_read ms es (and_parts _ _ (and_parts _ _ h).1).1 b.1)
  where
    by_test : (t : Bool) → factor_of (factor_text m e) ≡ Some (Power m e) → map factor_of (factor_texts ms es) ≡ map Some (powers ms es)
        → map factor_of (if t then factor_texts ms es else (factor_text m e ∷ factor_texts ms es)) ≡ map Some (if t then powers ms es else (Power m e ∷ powers ms es))
    by_test true f fs = fs
    by_test false f fs = ap₂ (λ x xs. x ∷ xs) f fs

pub coefficient_read : (ws : List Bytes) (fs : List Factor) (c : ℕ) → c < 2 ^ 64 → map factor_of ws ≡ map Some fs → map factor_of (with_coefficient c ws) ≡ map Some (with_number c fs)
coefficient_read [] [] c b e = ap (λ x. x ∷ []) (number_factor c b)
coefficient_read [] (f ∷ fs) c b e = absurd (cc)
coefficient_read (w ∷ ws) [] c b e = absurd (cc)
coefficient_read (w ∷ ws) (f ∷ fs) c b e = by_test (nat_eq c 1)
  where
    by_test : (t : Bool) → map factor_of (if t then w ∷ ws else (decimal c ∷ w ∷ ws)) ≡ map Some (if t then f ∷ fs else (Number c ∷ f ∷ fs))
    by_test true = e
    by_test false = ap₂ (λ x xs. x ∷ xs) (number_factor c b) e

-- ---- bytes
factor_is_plain : (m : Bytes) (e : ℕ) → is_name m ≡ true → e < 2 ^ 64 → are_plain (factor_text m e) ≡ true
factor_is_plain m e h b = by_test (nat_eq e 1)
  where
    by_test : (t : Bool) → are_plain (if t then m else (m ++ 94 ∷ decimal e)) ≡ true
    by_test true = name_is_plain m h
    by_test false = all_append is_plain m (94 ∷ decimal e) (name_is_plain m h) (number_is_plain e b)

factors_are_plain : (names : List Bytes) (es : List ℕ) → are_names names ≡ true → AllBelow (2 ^ 64) es → AllAre is_plain (factor_texts names es)
factors_are_plain [] es h b = tt
factors_are_plain (m ∷ ms) [] h b = tt
factors_are_plain (m ∷ ms) (e ∷ es) h b = by_test (nat_eq e 0) (factor_is_plain m e (and_parts _ _ h).0 b.0) (factors_are_plain ms es (and_parts _ _ (and_parts _ _ h).1).1 b.1)
  where
    by_test : (t : Bool) → are_plain (factor_text m e) ≡ true → AllAre is_plain (factor_texts ms es) → AllAre is_plain (if t then factor_texts ms es else (factor_text m e ∷ factor_texts ms es))
    by_test true f fs = fs
    by_test false f fs = (f, fs)

pub coefficient_is_plain : (names : List Bytes) (es : List ℕ) (c : ℕ) → are_names names ≡ true → AllBelow (2 ^ 64) es → c < 2 ^ 64
    → AllAre is_plain (with_coefficient c (factor_texts names es))
coefficient_is_plain names es c h b l = with_texts (factor_texts names es) (factors_are_plain names es h b)
  where
    with_texts : (ws : List Bytes) → AllAre is_plain ws → AllAre is_plain (with_coefficient c ws)
    with_texts [] w = (number_is_plain c l, tt)
    with_texts (x ∷ xs) w = by_test (nat_eq c 1)
      where
        by_test : (t : Bool) → AllAre is_plain (if t then x ∷ xs else (decimal c ∷ x ∷ xs))
        by_test true = w
        by_test false = (number_is_plain c l, w)
