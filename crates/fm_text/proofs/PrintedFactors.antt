-- The bytes of printed factors and terms.
use Rattle.std.proofs.Common.{◌≡◌, ℕ, ◌^◌, ◌<◌, ◌≤◌, List, [], ◌∷◌, length, refl, sym, ap, subst, ◌∙◌, arith, inl, inr, length-append}
use Rattle.std.specs.Prelude.{Bool, true, false, if◌then◌else◌, nat_eq, decimal}
use Rattle.std.specs.List.{join_with_byte, list_all}
use Rattle.std.proofs.lemmas.Bool.{and_parts, cases_eq, eq-eqb, ne_eqb, false≢true}
use Rattle.std.proofs.lemmas.Bool.Decides.{nat_tests}
use Rattle.fm_algebra.specs.Twist.{AllBelow}
use Rattle.fm_words.specs.Parts.{Bytes, pieces}
use Rattle.fm_words.specs.Words.{is_letter, is_name_byte, same_bytes, is_name, are_names, AreNames}
use Rattle.fm_text.specs.Texts.{factor_text, factor_texts, with_coefficient, term_text, IsPrintableTerm}
use Rattle.fm_words.proofs.Cutting.{level, Within, IsText, AreTexts, within_append, within_more, text_more, texts_more, pieces_join, join_text}
use Rattle.fm_words.proofs.Decimals.{decimal_text}

-- ---- names
letter_level : (b : ℕ) → is_letter b ≡ true → level b < 1
letter_level b h = grind (arith, nat_tests)

name_byte_level : (b : ℕ) → is_name_byte b ≡ true → level b < 1
name_byte_level b h = grind (arith, nat_tests)

bytes_within : (bs : Bytes) → list_all is_name_byte bs ≡ true → Within 1 bs
bytes_within [] h = tt
bytes_within (b ∷ bs) h = (name_byte_level b (and_parts _ _ h).0, bytes_within bs (and_parts _ _ h).1)

pub name_text : (m : Bytes) → is_name m ≡ true → IsText 1 m
name_text [] h = absurd (false≢true h)
name_text (b ∷ bs) h = record { within = (letter_level b (and_parts _ _ h).0, bytes_within bs (and_parts _ _ h).1); some = omega arith }

-- ---- factors
pub number_text : (n : ℕ) → n < 2 ^ 64 → IsText 1 (decimal n)
number_text n h = decimal_text n h

factor_is_text : (m : Bytes) (e : ℕ) → is_name m ≡ true → e < 2 ^ 64 → IsText 2 (factor_text m e)
factor_is_text m e h b = elim (cases_eq e 1) [
  | inl i ↦ rw (eq-eqb e 1 i) (text_more 1 2 (omega arith) m (name_text m h))
  | inr n ↦ rw (ne_eqb e 1 n) (record {
    within = within_append 2 m _ (within_more 1 2 (omega arith) m (name_text m h).within) (omega arith, within_more 1 2 (omega arith) (decimal e) (number_text e b).within);
    some = omega (arith, length-append m (94 ∷ decimal e));
  })
]

-- ---- factors of a term
pub same_refl : (m : Bytes) → same_bytes m m ≡ true
same_refl [] = refl
same_refl (b ∷ bs) = rw (eq-eqb b b refl) (same_refl bs)

pub factors_are_texts : (names : List Bytes) (es : List ℕ) → are_names names ≡ true → AllBelow (2 ^ 64) es → AreTexts 2 (factor_texts names es)
factors_are_texts [] es h b = tt
factors_are_texts (m ∷ ms) [] h b = tt
factors_are_texts (m ∷ ms) (e ∷ es) h b =
    with_factor (nat_eq e 0) (factor_is_text m e (and_parts _ _ h).0 b.0) (factors_are_texts ms es (and_parts _ _ (and_parts _ _ h).1).1 b.1)
  where
    with_factor : (t : Bool) → IsText 2 (factor_text m e) → AreTexts 2 (factor_texts ms es)
        → AreTexts 2 (if t then factor_texts ms es else (factor_text m e ∷ factor_texts ms es))
    with_factor true n ns = ns
    with_factor false n ns = (n, ns)

-- ---- terms
-- a list that isn't empty
pub record HasFirst (xs : List Bytes) : Type 0 where
  pub first : Bytes
  pub more : List Bytes
  pub is : xs ≡ first ∷ more

pub with_coefficient_texts : (fs : List Bytes) (c : ℕ) → c < 2 ^ 64 → AreTexts 2 fs → AreTexts 2 (with_coefficient c fs) × HasFirst (with_coefficient c fs)
with_coefficient_texts [] c b t = ((text_more 1 2 (omega arith) (decimal c) (number_text c b), tt), record { first = decimal c; more = []; is = refl })
with_coefficient_texts (g ∷ gs) c b t = by_test (nat_eq c 1) where
  by_test : (u : Bool) → AreTexts 2 (if u then g ∷ gs else (decimal c ∷ g ∷ gs)) × HasFirst (if u then g ∷ gs else (decimal c ∷ g ∷ gs))
  by_test true = (t, record { first = g; more = gs; is = refl })
  by_test false = ((text_more 1 2 (omega arith) (decimal c) (number_text c b), t), record { first = decimal c; more = g ∷ gs; is = refl })

pub join_cut : (k c : ℕ) → k ≤ level c → (xs : List Bytes) → HasFirst xs → AreTexts k xs → pieces c (join_with_byte c xs) ≡ xs
join_cut k c h xs f t = ap (λ ys. pieces c (join_with_byte c ys)) f.is ∙ pieces_join k c h f.first f.more (subst (AreTexts k) f.is t) ∙ sym f.is

pub joined_text : (k c : ℕ) → level c < k → (xs : List Bytes) → HasFirst xs → AreTexts k xs → IsText k (join_with_byte c xs)
joined_text k c h xs f t = subst (λ ys. IsText k (join_with_byte c ys)) (sym f.is) (join_text k c h f.first f.more (subst (AreTexts k) f.is t))

-- a printed term is a text without `+`
pub term_is_text : (names : List Bytes) (t : List ℕ × ℕ) → AreNames names → IsPrintableTerm (length names) t → IsText 3 (term_text names t)
unfolding AreNames IsPrintableTerm term_text
term_is_text names t h p =
    let texts = with_coefficient_texts (factor_texts names t.0) t.1 p.3 (factors_are_texts names t.0 h p.1) in
    joined_text 3 42 (omega arith) _ texts.1 (texts_more 2 3 (omega arith) _ texts.0)
