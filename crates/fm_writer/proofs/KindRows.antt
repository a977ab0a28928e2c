-- The rows of lines by their kinds, as they are pushed.
use Rattle.std.proofs.Common.{ℕ, ◌≡◌, ◌<◌, ◌^◌, Bool, true, false, List, [], ◌∷◌, ◌++◌, Option, Some, None, refl, sym, ap, ap₂, ◌∙◌, subst}
use Rattle.std.specs.Prelude.{IfSome, decimal}
use Rattle.fm_words.specs.Parts.{Bytes}
use Rattle.fm_cert.specs.Fields.{by_words}
use Rattle.fm_cert.specs.Lines.{Line, line_words}
use Rattle.fm_cert.specs.Pieces.{words_text}
use Rattle.fm_cert.specs.Writable.{AreSmall}
use Rattle.fm_standard.specs.Small.{IsSmallLine}
use Rattle.fm_writer.specs.Kinds.{named_line, named_word, named_number, exact_line, generating_line, generating_word, generating_number, excluding_line, excluding_word, excluding_number, has_column}
use Rattle.fm_writer.specs.Writers.{WriterValue, HasLine}
use Rattle.fm_writer.specs.declared.kinds.Named.{Named}
use Rattle.fm_writer.specs.declared.kinds.Named.TheVariants as named
use Rattle.fm_writer.specs.declared.kinds.Generating.{Generating}
use Rattle.fm_writer.specs.declared.kinds.Generating.TheVariants as generating
use Rattle.fm_writer.specs.declared.kinds.Excluding.{Excluding}
use Rattle.fm_writer.specs.declared.kinds.Excluding.TheVariants as excluding
use Rattle.fm_writer.proofs.Pages.{line_from}

-- a number that some kinds have, before other words
abbrev pub with_number : Option ℕ → List Bytes → List Bytes
with_number (Some j) ws = decimal j ∷ ws
with_number None ws = ws

abbrev pub with_column : Bool → ℕ → List Bytes → List Bytes
with_column true c ws = decimal c ∷ ws
with_column false c ws = ws

-- a line whose words were pushed
pub line_pushed : (w new : WriterValue) (l : Line) (words : List Bytes) → words ≡ line_words w.names l → IsSmallLine l
    → new ≡ record { names = w.names; text = w.text ++ words_text words; shelf = w.shelf } → HasLine w l new
line_pushed w new l words e small n = record { page = line_from w new l words e n; small = small }

-- ---- one part
module _ (names : List Bytes) (p : ℕ) where
  named_words : (k : Named) → line_words names (named_line k p) ≡ named_word k ∷ with_number (named_number k) (decimal p ∷ [])
  named_words (named.D j) = refl
  named_words (named.Theta j) = refl
  named_words (named.Morphism) = refl
  named_words (named.Stable s) = refl
  named_words (named.Whole) = refl
  named_words (named.Coordinates) = refl
  named_words (named.Dies s) = refl
  named_words (named.Cofactors) = refl
  named_words (named.Power) = refl
  named_words (named.Settles j) = refl
  named_words (named.Lambda j) = refl
  named_words (named.Phi) = refl
  named_words (named.Null) = refl
  named_words (named.One) = refl
  named_words (named.Onto s) = refl
  named_words (named.Closes s) = refl

module _ (p : ℕ) (few : p < 2 ^ 64) where
  named_small : (k : Named) → IfSome (named_number k) (λ j. j < 2 ^ 64) → IsSmallLine (named_line k p)
  named_small (named.D j) s = (s, (few, tt))
  named_small (named.Theta j) s = (s, (few, tt))
  named_small (named.Morphism) s = (few, tt)
  named_small (named.Stable j) s = (s, (few, tt))
  named_small (named.Whole) s = (few, tt)
  named_small (named.Coordinates) s = (few, tt)
  named_small (named.Dies j) s = (s, (few, tt))
  named_small (named.Cofactors) s = (few, tt)
  named_small (named.Power) s = (few, tt)
  named_small (named.Settles j) s = (s, (few, tt))
  named_small (named.Lambda j) s = (s, (few, tt))
  named_small (named.Phi) s = (few, tt)
  named_small (named.Null) s = (few, tt)
  named_small (named.One) s = (few, tt)
  named_small (named.Onto j) s = (s, (few, tt))
  named_small (named.Closes j) s = (s, (few, tt))

pub named_pushed : (w new : WriterValue) (k : Named) (p : ℕ) (word : Bytes) (o : Option ℕ) → word ≡ named_word k → o ≡ named_number k
    → IfSome o (λ j. j < 2 ^ 64) → p < 2 ^ 64
    → new ≡ record { names = w.names; text = w.text ++ words_text (word ∷ with_number o (decimal p ∷ [])); shelf = w.shelf } → HasLine w (named_line k p) new
named_pushed w new k p word o e f small few n =
    line_pushed w new (named_line k p) (word ∷ with_number o (decimal p ∷ []))
    (ap₂ (λ (x : Bytes) (y : Option ℕ). x ∷ with_number y (decimal p ∷ [])) e f ∙ sym (named_words w.names p k))
    (named_small p few k (subst (λ (y : Option ℕ). IfSome y (λ j. j < 2 ^ 64)) f small)) n

-- ---- P, a log, X and W
module _ (names : List Bytes) (p n x y : ℕ) where
  generating_words : (k : Generating) → line_words names (generating_line k p n x y)
      ≡ generating_word k ∷ with_number (generating_number k) (decimal p ∷ decimal n ∷ decimal x ∷ decimal y ∷ [])
  generating_words (generating.Cocycles) = refl
  generating_words (generating.Relations) = refl
  generating_words (generating.Chain s) = refl
  generating_words (generating.Annihilator) = refl
  generating_words (generating.Colon j) = refl
  generating_words (generating.Fibre) = refl
  generating_words (generating.Link j) = refl

module _ (p n x y : ℕ) (few_p : p < 2 ^ 64) (few_n : n < 2 ^ 64) (few_x : x < 2 ^ 64) (few_y : y < 2 ^ 64) where
  generating_small : (k : Generating) → IfSome (generating_number k) (λ j. j < 2 ^ 64) → IsSmallLine (generating_line k p n x y)
  generating_small (generating.Cocycles) s = (few_p, (few_n, (few_x, (few_y, tt))))
  generating_small (generating.Relations) s = (few_p, (few_n, (few_x, (few_y, tt))))
  generating_small (generating.Chain j) s = (s, (few_p, (few_n, (few_x, (few_y, tt)))))
  generating_small (generating.Annihilator) s = (few_p, (few_n, (few_x, (few_y, tt))))
  generating_small (generating.Colon j) s = (s, (few_p, (few_n, (few_x, (few_y, tt)))))
  generating_small (generating.Fibre) s = (few_p, (few_n, (few_x, (few_y, tt))))
  generating_small (generating.Link j) s = (s, (few_p, (few_n, (few_x, (few_y, tt)))))

pub generating_pushed : (w new : WriterValue) (k : Generating) (p n x y : ℕ) (word : Bytes) (o : Option ℕ) → word ≡ generating_word k → o ≡ generating_number k
    → IfSome o (λ j. j < 2 ^ 64) → p < 2 ^ 64 → n < 2 ^ 64 → x < 2 ^ 64 → y < 2 ^ 64
    → new ≡ record { names = w.names; text = w.text ++ words_text (word ∷ with_number o (decimal p ∷ decimal n ∷ decimal x ∷ decimal y ∷ [])); shelf = w.shelf }
    → HasLine w (generating_line k p n x y) new
generating_pushed w new k p n x y word o e f small few_p few_n few_x few_y h =
    let rest = decimal p ∷ decimal n ∷ decimal x ∷ decimal y ∷ [] in
    line_pushed w new (generating_line k p n x y) (word ∷ with_number o rest)
    (ap₂ (λ (v : Bytes) (u : Option ℕ). v ∷ with_number u rest) e f ∙ sym (generating_words w.names p n x y k))
    (generating_small p n x y few_p few_n few_x few_y k (subst (λ (u : Option ℕ). IfSome u (λ j. j < 2 ^ 64)) f small)) h

-- ---- a log, a column and the members that reduce it
module _ (names : List Bytes) (n c : ℕ) (by : List ℕ) where
  excluding_words : (k : Excluding) → line_words names (excluding_line k n c by)
      ≡ excluding_word k ∷ with_number (excluding_number k) (decimal n ∷ with_column (has_column k) c (by_words by ++ []))
  excluding_words (excluding.Grows s) = refl
  excluding_words (excluding.Proper) = refl
  excluding_words (excluding.Lives s) = refl
  excluding_words (excluding.Foreign) = refl
  excluding_words (excluding.Least) = refl
  excluding_words (excluding.NonNull) = refl
  excluding_words (excluding.NotOne) = refl
  excluding_words (excluding.Short s) = refl

module _ (n c : ℕ) (by : List ℕ) (few_n : n < 2 ^ 64) (few_c : c < 2 ^ 64) (few_by : AreSmall by) where
  excluding_small : (k : Excluding) → IfSome (excluding_number k) (λ j. j < 2 ^ 64) → IsSmallLine (excluding_line k n c by)
  excluding_small (excluding.Grows s) h = (h, (few_n, (few_c, (few_by, tt))))
  excluding_small (excluding.Proper) h = (few_n, (few_c, (few_by, tt)))
  excluding_small (excluding.Lives s) h = (h, (few_n, (few_by, tt)))
  excluding_small (excluding.Foreign) h = (few_n, (few_by, tt))
  excluding_small (excluding.Least) h = (few_n, (few_c, (few_by, tt)))
  excluding_small (excluding.NonNull) h = (few_n, (few_c, (few_by, tt)))
  excluding_small (excluding.NotOne) h = (few_n, (few_c, (few_by, tt)))
  excluding_small (excluding.Short s) h = (h, (few_n, (few_c, (few_by, tt))))

pub excluding_pushed : (w new : WriterValue) (k : Excluding) (n c : ℕ) (by : List ℕ) (word : Bytes) (o : Option ℕ) (t : Bool) → word ≡ excluding_word k → o ≡ excluding_number k → t ≡ has_column k
    → IfSome o (λ j. j < 2 ^ 64) → n < 2 ^ 64 → c < 2 ^ 64 → AreSmall by
    → new ≡ record { names = w.names; text = w.text ++ words_text (word ∷ with_number o (decimal n ∷ with_column t c (by_words by ++ []))); shelf = w.shelf }
    → HasLine w (excluding_line k n c by) new
excluding_pushed w new k n c by word o t e f g small few_n few_c few_by h =
    line_pushed w new (excluding_line k n c by) (word ∷ with_number o (decimal n ∷ with_column t c (by_words by ++ [])))
    (ap (λ (b : Bool). word ∷ with_number o (decimal n ∷ with_column b c (by_words by ++ []))) g
    ∙ ap₂ (λ (v : Bytes) (u : Option ℕ). v ∷ with_number u (decimal n ∷ with_column (has_column k) c (by_words by ++ []))) e f ∙ sym (excluding_words w.names n c by k))
    (excluding_small n c by few_n few_c few_by k (subst (λ (u : Option ℕ). IfSome u (λ j. j < 2 ^ 64)) f small)) h
