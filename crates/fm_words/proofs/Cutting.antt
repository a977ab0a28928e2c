-- Joining pieces by a byte and cutting them apart again. Separators have levels, so that one lemma serves all of them.
use Rattle.std.proofs.Common.{◌≡◌, ℕ, ◌<◌, ◌≤◌, List, [], ◌∷◌, ◌++◌, length, refl, ap, ◌∙◌, arith, inl, inr, length-append}
use Rattle.std.specs.Prelude.{false, if◌then◌else◌, nat_eq}
use Rattle.std.specs.List.{join_with_byte}
use Rattle.std.proofs.lemmas.Bool.{cases_eq, eq-eqb, ne_eqb}
use Rattle.fm_words.specs.Parts.{Bytes, pieces}

-- `^` 1, `*` 2, `+` 3, `,` 4, `(` and `)` 5, blank 6, LF 7, and 0 for all else
abbrev pub level : ℕ → ℕ
level b =
    if nat_eq b 94 then 1
    else (if nat_eq b 42 then 2
    else (if nat_eq b 43 then 3
    else (if nat_eq b 44 then 4
    else (if nat_eq b 40 then 5
    else (if nat_eq b 41 then 5
    else (if nat_eq b 32 then 6
    else (if nat_eq b 10 then 7 else 0)))))))

-- the level of each byte is below k
abbrev pub Within : ℕ → Bytes → Type 0
Within k [] = Unit {0}
Within k (b ∷ bs) = (level b < k) × Within k bs

-- a text that isn't empty, with levels below k
pub record IsText (k : ℕ) (x : Bytes) : Type 0 where
  pub within : Within k x
  pub some : 0 < length x

abbrev pub AreTexts : ℕ → List Bytes → Type 0
AreTexts k [] = Unit {0}
AreTexts k (x ∷ xs) = IsText k x × AreTexts k xs

pub within_more : (j k : ℕ) → j ≤ k → (xs : Bytes) → Within j xs → Within k xs
within_more j k h [] w = tt
within_more j k h (x ∷ xs) w = (raised j k (level x) h w.0, within_more j k h xs w.1) where
  raised : (j k l : ℕ) → j ≤ k → l < j → l < k
  raised j k l h w = omega arith

pub text_more : (j k : ℕ) → j ≤ k → (x : Bytes) → IsText j x → IsText k x
text_more j k h x t = record { within = within_more j k h x t.within; some = t.some }

pub texts_more : (j k : ℕ) → j ≤ k → (xs : List Bytes) → AreTexts j xs → AreTexts k xs
texts_more j k h [] ts = tt
texts_more j k h (x ∷ xs) ts = (text_more j k h x ts.0, texts_more j k h xs ts.1)

pub within_append : (k : ℕ) (xs ys : Bytes) → Within k xs → Within k ys → Within k (xs ++ ys)
within_append k [] ys v w = w
within_append k (x ∷ xs) ys v w = (v.0, within_append k xs ys v.1 w)

pub differs : (k b c : ℕ) → k ≤ level c → level b < k → nat_eq b c ≡ false
differs k b c h w = elim (cases_eq b c) [
  | inl e ↦ absurd (apart (level b) (level c) k (ap level e) h w)
  | inr n ↦ ne_eqb b c n
] where
  apart : (i j k : ℕ) → i ≡ j → k ≤ j → i < k → ⊥
  apart i j k e h w = omega arith

-- a piece without the byte is one piece
pub pieces_one : (k c : ℕ) → k ≤ level c → (xs : Bytes) → Within k xs → pieces c xs ≡ xs ∷ []
pieces_one k c h [] w = refl
pieces_one k c h (x ∷ xs) w = rw (differs k x c h w.0, pieces_one k c h xs w.1)

-- a piece without the byte, the byte, and the rest
pub pieces_at : (k c : ℕ) → k ≤ level c → (xs ys : Bytes) → Within k xs → pieces c (xs ++ c ∷ ys) ≡ xs ∷ pieces c ys
pieces_at k c h [] ys w = rw (eq-eqb c c refl)
pieces_at k c h (x ∷ xs) ys w = rw (differs k x c h w.0, pieces_at k c h xs ys w.1)

-- what is joined by a byte is cut apart again
pub pieces_join : (k c : ℕ) → k ≤ level c → (x : Bytes) (xs : List Bytes) → AreTexts k (x ∷ xs) → pieces c (join_with_byte c (x ∷ xs)) ≡ x ∷ xs
pieces_join k c h x [] ts = pieces_one k c h x ts.0.within
pieces_join k c h x (y ∷ ys) ts = pieces_at k c h x _ ts.0.within ∙ ap (λ zs. x ∷ zs) (pieces_join k c h y ys ts.1)

pub join_text : (k c : ℕ) → level c < k → (x : Bytes) (xs : List Bytes) → AreTexts k (x ∷ xs) → IsText k (join_with_byte c (x ∷ xs))
join_text k c h x [] ts = ts.0
join_text k c h x (y ∷ ys) ts = record {
  within = within_append k x _ ts.0.within (h, (join_text k c h y ys ts.1).within);
  some = longer x (c ∷ join_with_byte c (y ∷ ys)) ts.0.some;
} where
  longer : (xs ys : Bytes) → 0 < length xs → 0 < length (xs ++ ys)
  longer xs ys h = omega (arith, length-append xs ys)
