-- The printed form of polynomials and vectors.
use Rattle.std.specs.Prelude.{◌≡◌, ℕ, ◌<◌, ◌^◌, List, [], ◌∷◌, ◌++◌, map, length, if◌then◌else◌, nat_eq, decimal}
use Rattle.std.specs.List.{join_with_byte}
use Rattle.fm_algebra.specs.Twist.{AllBelow}
use Rattle.fm_words.specs.Parts.{Bytes}

-- a list of terms, each an exponent tuple and a coefficient
abbrev pub Terms : Type 0
Terms = List (List ℕ × ℕ)

-- `x`, or `x^2`
abbrev pub factor_text : Bytes → ℕ → Bytes
factor_text name e = if nat_eq e 1 then name else (name ++ 94 ∷ decimal e)

-- the factors of a monomial, in the order of the variables; an exponent 0 has none
abbrev pub factor_texts : List Bytes → List ℕ → List Bytes
factor_texts [] es = []
factor_texts (m ∷ ms) [] = []
factor_texts (m ∷ ms) (e ∷ es) = if nat_eq e 0 then factor_texts ms es else (factor_text m e ∷ factor_texts ms es)

-- a coefficient before factors; 1 is left out where there is a factor
abbrev pub with_coefficient : ℕ → List Bytes → List Bytes
with_coefficient c [] = decimal c ∷ []
with_coefficient c (g ∷ gs) = if nat_eq c 1 then g ∷ gs else (decimal c ∷ g ∷ gs)

-- the coefficient and the factors, joined by `*`
unfoldable pub term_text : List Bytes → List ℕ × ℕ → Bytes
term_text names t = join_with_byte 42 (with_coefficient t.1 (factor_texts names t.0))

-- the terms joined by `+`, or `0`
unfoldable pub poly_text : List Bytes → Terms → Bytes
poly_text names [] = 48 ∷ []
poly_text names (t ∷ ts) = join_with_byte 43 (map (term_text names) (t ∷ ts))

-- `(`, the entries joined by `,`, and `)`
unfoldable pub vector_text : List Bytes → List Terms → Bytes
vector_text names v = 40 ∷ join_with_byte 44 (map (poly_text names) v) ++ 41 ∷ []

-- ---- what is printed

-- n exponents and a coefficient that isn't 0, all below 2^64
unfoldable pub IsPrintableTerm : ℕ → List ℕ × ℕ → Type 0
IsPrintableTerm n t = (length t.0 ≡ n) × AllBelow (2 ^ 64) t.0 × (0 < t.1) × (t.1 < 2 ^ 64)

abbrev pub ArePrintable : ℕ → Terms → Type 0
ArePrintable n [] = Unit {0}
ArePrintable n (t ∷ ts) = IsPrintableTerm n t × ArePrintable n ts

abbrev pub AllPrintable : ℕ → List Terms → Type 0
AllPrintable n [] = Unit {0}
AllPrintable n (f ∷ fs) = ArePrintable n f × AllPrintable n fs
