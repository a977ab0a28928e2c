-- The line that tells a fault of a problem text states nothing.
use Rattle.std.proofs.Common.{◌≡◌, ℕ, zero, suc, ◌+◌, ◌/◌, ◌%◌, ◌==◌, [], ◌∷◌, ◌++◌, refl, ap, ◌∙◌, arith, append_assoc}
use Rattle.std.specs.Prelude.{Bool, true, false, if◌then◌else◌, nat_eq, nat_lt, not, codes, decimal}
use Rattle.std.specs.Fmt.{digit_glyph, digits_onto, digits}
use Rattle.std.specs.List.{list_all}
use Rattle.std.proofs.lemmas.Bool.{and_parts, and_from}
use Rattle.std.proofs.lemmas.Bool.Decides.{nat_tests}
use Rattle.fm_words.specs.Parts.{Bytes}
use Rattle.fm_problem.specs.Faults.{fault_text}
use Rattle.fm_problem.specs.declared.fault_kind.FaultKind.{FaultKind}
use Rattle.fm_problem.specs.declared.fault_kind.FaultKind.TheVariants.{Syntax, UnknownName, Repeated, Range, NotPrime, Limit}
use Rattle.fm_report.specs.Holding.{VerdictsHold}
use Rattle.fm_report.proofs.Silent.{message_holds}

-- no byte is LF
abbrev pub is_one_line : Bytes → Bool
is_one_line bs = list_all (λ b. not (nat_eq b 10)) bs

pub one_line_append : (xs ys : Bytes) → is_one_line xs ≡ true → is_one_line ys ≡ true → is_one_line (xs ++ ys) ≡ true
one_line_append [] ys h k = k
one_line_append (x ∷ xs) ys h k = and_from _ _ (and_parts _ _ h).0 (one_line_append xs ys (and_parts _ _ h).1 k)

glyph_is_no_end : (d : ℕ) → not (nat_eq (digit_glyph false d) 10) ≡ true
glyph_is_no_end d = by_test (nat_lt d 10)
  where
    by_test : (t : Bool) → not (nat_eq (if t then 48 + d else 87 + d) 10) ≡ true
    by_test true = grind (arith, nat_tests)
    by_test false = grind (arith, nat_tests)

digits_one_line : (k n : ℕ) (acc : Bytes) → is_one_line acc ≡ true → is_one_line (digits_onto k 10 false n acc) ≡ true
digits_one_line zero n acc h = h
digits_one_line (suc k) n acc h = by_test (n / 10 == 0) (digits_one_line k (n / 10) (digit_glyph false (n % 10) ∷ acc) more)
  where
    more : is_one_line (digit_glyph false (n % 10) ∷ acc) ≡ true
    more = and_from _ _ (glyph_is_no_end (n % 10)) h

    by_test : (t : Bool) → is_one_line (digits_onto k 10 false (n / 10) (digit_glyph false (n % 10) ∷ acc)) ≡ true
        → is_one_line (if t then digit_glyph false (n % 10) ∷ acc else digits_onto k 10 false (n / 10) (digit_glyph false (n % 10) ∷ acc)) ≡ true
    by_test true rest = more
    by_test false rest = rest

pub decimal_one_line : (n : ℕ) → is_one_line (decimal n) ≡ true
unfolding digits
decimal_one_line n = digits_one_line 64 n [] refl

fault_one_line : (k : FaultKind) → is_one_line (fault_text k) ≡ true
fault_one_line Syntax = refl
fault_one_line UnknownName = refl
fault_one_line Repeated = refl
fault_one_line Range = refl
fault_one_line NotPrime = refl
fault_one_line Limit = refl

pub fault_line_holds : (l : ℕ) (k : FaultKind) (front back : Bytes) → codes "line " ++ (decimal l ++ (codes ": " ++ (fault_text k ++ 10 ∷ []))) ≡ front ++ back → VerdictsHold front
fault_line_holds l k front back e =
    message_holds (codes "line " ++ (decimal l ++ (codes ": " ++ fault_text k)))
    (one_line_append (codes "line ") (decimal l ++ (codes ": " ++ fault_text k)) refl
    (one_line_append (decimal l) (codes ": " ++ fault_text k) (decimal_one_line l) (one_line_append (codes ": ") (fault_text k) refl (fault_one_line k))))
    refl front back (ap (λ rest. codes "line " ++ rest) (append_assoc (decimal l) (codes ": " ++ fault_text k) (10 ∷ [])) ∙ e)
