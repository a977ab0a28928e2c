-- Texts with more parts than a factor has.
use Rattle.std.proofs.Common.{◌≡◌, List, ◌∷◌, ◌∙◌, Option, Some, None, map, ap, sym, refl}
use Rattle.fm_words.specs.declared.mark.Mark.TheVariants.{Caret}
use Rattle.fm_words.specs.Parts.{Bytes, parts}
use Rattle.fm_words.proofs.Cuts.{first_of_parts}
use Rattle.fm_text.specs.Factors.{factor_of, factor_of_words, one_word}

three : (a b c : Option Bytes) (rest : List (Option Bytes)) → factor_of_words (a ∷ b ∷ c ∷ rest) ≡ None
three None b c rest = refl
three (Some w) None c rest = refl
three (Some w) (Some e) c rest = refl

three_parts : (x y : Bytes) (qs : List Bytes) → (q : Bytes) × (ps : List Bytes) × (qs ≡ q ∷ ps) → factor_of_words (map one_word (x ∷ y ∷ qs)) ≡ None
three_parts x y qs h = ap (λ v. factor_of_words (map one_word (x ∷ y ∷ v))) h.2 ∙ three (one_word x) (one_word y) (one_word h.0) (map one_word h.1)

-- a text with two carets is no factor
pub no_factor : (all rest third x y : Bytes) → parts Caret all ≡ x ∷ parts Caret rest → parts Caret rest ≡ y ∷ parts Caret third → None ≡ factor_of all
no_factor all rest third x y one two =
    sym (ap (λ v. factor_of_words (map one_word v)) (one ∙ ap (λ v. x ∷ v) two) ∙ three_parts x y (parts Caret third) (first_of_parts Caret third))
