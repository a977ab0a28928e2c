-- Pieces that are written one after another.
use Rattle.std.proofs.Common.{◌≡◌, ◌∙◌, ℕ, List, [], ◌∷◌, ◌++◌, map, true, false, refl, sym, ap, subst, append_assoc, append-nil}
use Rattle.std.specs.List.{join_with_byte}
use Rattle.std.proofs.lemmas.Grind.{flat_map-append}
use Rattle.fm_poly.specs.Polys.{PolyValue, pairs}
use Rattle.fm_text.specs.Texts.{poly_text, vector_text}
use Rattle.fm_text.specs.Printing.{joined}
use Rattle.fm_text.proofs.PrintingSteps.{join_first}
use Rattle.fm_words.specs.Parts.{Bytes}
use Rattle.fm_cert.specs.Fields.{comma_words, polynomial_word, vector_word}
use Rattle.std.specs.Prelude.{Vec}
use Rattle.std.specs.Global.{Global}
use Rattle.fm_cert.specs.Pieces.{AreColumnsOver, columns_of, words_text, after_commas}
use Rattle.fm_cert.specs.Statements.{vector_of_texts}

-- a word after a blank
pub word_written : (w old mid new : Bytes) → mid ≡ old ++ 32 ∷ [] → new ≡ mid ++ w → new ≡ old ++ joined 32 true (w ∷ [])
word_written w old mid new m n = n ∙ ap (λ y. y ++ w) m ∙ append_assoc old (32 ∷ []) w ∙ ap (λ y. old ++ 32 ∷ y) (sym (append-nil w))

-- words, and then others
pub more_written : (all xs ys : List Bytes) (old new : Bytes) → all ≡ xs ++ ys → new ≡ old ++ joined 32 true xs
    → new ++ joined 32 true ys ≡ old ++ joined 32 true all
more_written all xs ys old new e n =
    ap (λ y. y ++ joined 32 true ys) n ∙ append_assoc old (joined 32 true xs) (joined 32 true ys)
    ∙ ap (λ y. old ++ y) (sym (flat_map-append (λ x. 32 ∷ x) xs ys) ∙ ap (joined 32 true) (sym e))

-- words, and then the last ones
pub both_written : (xs ys : List Bytes) (old mid new : Bytes) → mid ≡ old ++ joined 32 true xs → new ≡ mid ++ joined 32 true ys
    → new ≡ old ++ joined 32 true (xs ++ ys)
both_written xs ys old mid new m n = n ∙ more_written (xs ++ ys) xs ys old mid refl m

-- a row: its first word, the others, and LF
pub row_written : (first : Bytes) (words : List Bytes) (old begun continued new : Bytes) → begun ≡ old ++ first
    → continued ≡ begun ++ joined 32 true words → new ≡ continued ++ 10 ∷ [] → new ≡ old ++ words_text (first ∷ words)
row_written first words old begun continued new b c n =
    n ∙ ap (λ y. y ++ 10 ∷ []) (c ∙ ap (λ y. y ++ joined 32 true words) b ∙ append_assoc old first (joined 32 true words))
    ∙ append_assoc old (first ++ joined 32 true words) (10 ∷ []) ∙ ap (λ y. old ++ (y ++ 10 ∷ [])) (sym (join_first 32 first words))

-- the first text, and then the others
pub first_written : (all : List Bytes) (x : Bytes) (xs : List Bytes) (old mid new : Bytes) → all ≡ x ∷ xs → mid ≡ old ++ x
    → new ≡ mid ++ joined 44 true xs → new ≡ old ++ joined 44 false all
first_written all x xs old mid new e m w =
    w ∙ ap (λ y. y ++ joined 44 true xs) m ∙ append_assoc old x (joined 44 true xs) ∙ ap (λ y. old ++ y) (sym (join_first 44 x xs))
    ∙ ap (λ us. old ++ join_with_byte 44 us) (sym e)

pub map-map : {A B C : Type 0} (f : B → C) (g : A → B) (xs : List A) → map f (map g xs) ≡ map (λ x. f (g x)) xs
map-map f g [] = refl
map-map f g (x ∷ xs) = ap (λ ys. f (g x) ∷ ys) (map-map f g xs)

-- the text of a vector, by the texts of its entries
pub vector_text_of : (names : List Bytes) (fs : List PolyValue) → vector_word names fs ≡ vector_of_texts (map (polynomial_word names) fs)
unfolding vector_text
vector_text_of names fs = ap (λ texts. 40 ∷ join_with_byte 44 texts ++ 41 ∷ []) (map-map (poly_text names) (λ (f : PolyValue). pairs f.terms) fs)

-- ---- generators
pub commas : (x : Bytes) (xs : List Bytes) → joined 32 true (comma_words (x ∷ xs)) ≡ 32 ∷ (x ++ after_commas xs)
commas x [] = refl
commas x (y ∷ ys) = ap (λ z. 32 ∷ z) (ap (λ z. (x ++ 44 ∷ []) ++ z) (commas y ys) ∙ append_assoc x (44 ∷ []) (32 ∷ (y ++ after_commas ys)))

pub generators_written : (all : List Bytes) (x : Bytes) (xs : List Bytes) (old begun mid new : Bytes) → all ≡ x ∷ xs → begun ≡ old ++ 32 ∷ []
    → mid ≡ begun ++ x → new ≡ mid ++ after_commas xs → new ≡ old ++ joined 32 true (comma_words all)
generators_written all x xs old begun mid new e b m n =
    n ∙ ap (λ y. y ++ after_commas xs) (m ∙ ap (λ y. y ++ x) b ∙ append_assoc old (32 ∷ []) x) ∙ append_assoc old (32 ∷ x) (after_commas xs)
    ∙ ap (λ y. old ++ y) (sym (commas x xs) ∙ ap (λ us. joined 32 true (comma_words us)) (sym e))

pub generator_written : (all : List Bytes) (x : Bytes) (xs : List Bytes) (old mid new : Bytes) → all ≡ x ∷ xs → mid ≡ old ++ 44 ∷ 32 ∷ []
    → new ≡ mid ++ x → new ++ after_commas xs ≡ old ++ after_commas all
generator_written all x xs old mid new e m n =
    ap (λ y. y ++ after_commas xs) (n ∙ ap (λ y. y ++ x) m ∙ append_assoc old (44 ∷ 32 ∷ []) x) ∙ append_assoc old (44 ∷ 32 ∷ x) (after_commas xs)
    ∙ ap (λ us. old ++ after_commas us) (sym e)

-- one more column
pub column_written : (names : List Bytes) (n : ℕ) (all rest : List (Vec PolyValue Global)) (c : Vec PolyValue Global) (entries : List PolyValue) (old new whole : Bytes)
    → all ≡ c ∷ rest → entries ≡ c.items → new ≡ old ++ joined 32 true (vector_of_texts (map (polynomial_word names) entries) ∷ [])
    → (old ++ joined 32 true (map (vector_word names) (columns_of all)) ≡ whole) × AreColumnsOver n all
    → (new ++ joined 32 true (map (vector_word names) (columns_of rest)) ≡ whole) × AreColumnsOver n rest
column_written names n all rest c entries old new whole e own w h =
    let word : vector_of_texts (map (polynomial_word names) entries) ≡ vector_word names c.items =
    ap (λ fs. vector_of_texts (map (polynomial_word names) fs)) own ∙ sym (vector_text_of names c.items) in
    let cut : map (vector_word names) (columns_of all) ≡ vector_word names c.items ∷ map (vector_word names) (columns_of rest) =
    ap (λ cs. map (vector_word names) (columns_of cs)) e in (
      more_written (map (vector_word names) (columns_of all)) (vector_word names c.items ∷ []) (map (vector_word names) (columns_of rest)) old new cut
          (w ∙ ap (λ v. old ++ joined 32 true (v ∷ [])) word) ∙ h.0,
      (subst (AreColumnsOver n) e h.1).1,
    )
