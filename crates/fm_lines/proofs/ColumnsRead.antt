-- Columns are read one after another.
use Rattle.std.proofs.Common.{◌≡◌, ℕ, ◌++◌, List, [], ◌∷◌, Vec, Option, Some, None, map, length, refl, sym, ap, ◌∙◌, append_assoc}
use Rattle.std.specs.Prelude.{nat_eq, option_map}
use Rattle.std.specs.Global.{Global}
use Rattle.fm_poly.specs.Polys.{PolyValue}
use Rattle.fm_poly.specs.declared.ring.Ring.{Ring}
use Rattle.fm_vec.specs.Components.{AreOver}
use Rattle.fm_words.specs.Options.{◌>>=◌, where_so, all_of}
use Rattle.fm_words.specs.Parts.{Bytes}
use Rattle.fm_cert.specs.Fields.{first_word, exact_number, read_vector, counted_vectors}
use Rattle.fm_lines.specs.Rows.{AreColumnsOver, columns_of}

columns_more : (cs : List (Vec PolyValue Global)) (c : Vec PolyValue Global) → columns_of (cs ++ c ∷ []) ≡ columns_of cs ++ c.items ∷ []
columns_more [] c = refl
columns_more (d ∷ cs) c = ap (λ v. d.items ∷ v) (columns_more cs c)

pub vectors_more : (cs : List (Vec PolyValue Global)) (c : Vec PolyValue Global) (o : Option (List (List PolyValue)))
    → option_map (λ vs. columns_of cs ++ vs) (option_map (λ vs. c.items ∷ vs) o) ≡ option_map (λ vs. columns_of (cs ++ c ∷ []) ++ vs) o
vectors_more cs c None = refl
vectors_more cs c (Some vs) = ap Some (sym (append_assoc (columns_of cs) (c.items ∷ []) vs) ∙ ap (λ us. us ++ vs) (sym (columns_more cs c)))

pub columns_over : (r : Ring) (cs : List (Vec PolyValue Global)) (c : Vec PolyValue Global) → AreColumnsOver r cs → AreOver r c.items → AreColumnsOver r (cs ++ c ∷ [])
columns_over r [] c h o = (o, tt)
columns_over r (d ∷ cs) c h o = (h.0, columns_over r cs c h.1 o)

-- as many vectors as the number tells
abbrev pub counted_in : Ring → List Bytes → ℕ × List Bytes → Option (List (List PolyValue))
counted_in r names x = where_so (nat_eq x.0 (length x.1)) (all_of (map (read_vector r names) x.1))

abbrev number_before : List Bytes → ℕ → ℕ × List Bytes
number_before ws n = (n, ws)

number_first : (r : Ring) (names : List Bytes) (ws : List Bytes) (o : Option ℕ)
    → (o >>= λ c. where_so (nat_eq c (length ws)) (all_of (map (read_vector r names) ws))) ≡ (option_map (number_before ws) o >>= counted_in r names)
number_first r names ws None = refl
number_first r names ws (Some c) = refl

-- the number stands first
pub counted : (r : Ring) (names : List Bytes) (ws : List Bytes) → counted_vectors r names ws ≡ (first_word exact_number ws >>= counted_in r names)
counted r names [] = refl
counted r names (w ∷ ws) = number_first r names ws (exact_number w)
