-- The bytes of printed polynomials and vectors.
use Rattle.std.proofs.Common.{◌≡◌, ◌<◌, List, [], ◌∷◌, map, length, refl, ap, ◌∙◌, arith}
use Rattle.std.specs.Prelude.{Option, Some, option_map}
use Rattle.std.specs.List.{join_with_byte}
use Rattle.fm_words.specs.Parts.{Bytes}
use Rattle.fm_text.specs.Texts.{Terms, term_text, poly_text, ArePrintable, AllPrintable}
use Rattle.fm_words.specs.Words.{AreNames}
use Rattle.fm_words.specs.Options.{◌>>=◌, all_of}
use Rattle.fm_words.proofs.Cutting.{Within, IsText, AreTexts, texts_more, join_text}
use Rattle.fm_text.proofs.PrintedFactors.{term_is_text}

-- what is read back one by one is read back as a list
pub all_read : {A : Type 0} (read : Bytes → Option A) (print : A → Bytes) (xs : List A) (Good : A → Type 0) (AllGood : List A → Type 0)
    → ((x : A) (rest : List A) → AllGood (x ∷ rest) → Good x × AllGood rest)
    → ((x : A) → Good x → read (print x) ≡ Some x) → AllGood xs → all_of (map read (map print xs)) ≡ Some xs
all_read read print [] Good AllGood parts one h = refl
all_read read print (x ∷ xs) Good AllGood parts one h =
    ap (λ o. o >>= λ a. option_map (λ rest. a ∷ rest) (all_of (map read (map print xs)))) (one x (parts x xs h).0)
    ∙ ap (option_map (λ rest. x ∷ rest)) (all_read read print xs Good AllGood parts one (parts x xs h).1)

pub terms_are_texts : (names : List Bytes) (ts : Terms) → AreNames names → ArePrintable (length names) ts → AreTexts 3 (map (term_text names) ts)
terms_are_texts names [] h p = tt
terms_are_texts names (t ∷ ts) h p = (term_is_text names t h p.0, terms_are_texts names ts h p.1)

pub poly_is_text : (names : List Bytes) (ts : Terms) → AreNames names → ArePrintable (length names) ts → IsText 4 (poly_text names ts)
unfolding poly_text
poly_is_text names [] h p = record { within = (omega arith, tt); some = omega arith }
poly_is_text names (t ∷ ts) h p = join_text 4 43 (omega arith) (term_text names t) (map (term_text names) ts) (texts_more 3 4 (omega arith) (map (term_text names) (t ∷ ts)) (terms_are_texts names (t ∷ ts) h p))

pub polys_are_texts : (names : List Bytes) (v : List Terms) → AreNames names → AllPrintable (length names) v → AreTexts 4 (map (poly_text names) v)
polys_are_texts names [] h p = tt
polys_are_texts names (f ∷ fs) h p = (poly_is_text names f h p.0, polys_are_texts names fs h p.1)

entries_text : (names : List Bytes) (f : Terms) (fs : List Terms) → AreNames names → AllPrintable (length names) (f ∷ fs) → IsText 5 (join_with_byte 44 (map (poly_text names) (f ∷ fs)))
entries_text names f fs h p = join_text 5 44 (omega arith) (poly_text names f) (map (poly_text names) fs) (texts_more 4 5 (omega arith) (map (poly_text names) (f ∷ fs)) (polys_are_texts names (f ∷ fs) h p))

pub entries_within : (names : List Bytes) (v : List Terms) → AreNames names → AllPrintable (length names) v → Within 5 (join_with_byte 44 (map (poly_text names) v))
entries_within names [] h p = tt
entries_within names (f ∷ fs) h p = (entries_text names f fs h p).within

pub entries_long : (names : List Bytes) (f : Terms) (fs : List Terms) → AreNames names → AllPrintable (length names) (f ∷ fs) → 0 < length (join_with_byte 44 (map (poly_text names) (f ∷ fs)))
entries_long names f fs h p = (entries_text names f fs h p).some
