-- Entries and vectors are read one after another.
use Rattle.std.proofs.Common.{◌≡◌, ℕ, ◌+◌, ◌++◌, List, [], ◌∷◌, Vec, Option, Some, map, length, option_map, sym, ap, ◌∙◌, arith, length-append}
use Rattle.std.specs.Global.{Global}
use Rattle.fm_poly.specs.Polys.{PolyValue}
use Rattle.fm_poly.specs.declared.ring.Ring.{Ring}
use Rattle.fm_words.specs.Options.{◌>>=◌, all_of}
use Rattle.fm_words.specs.Parts.{Bytes, parts}
use Rattle.fm_words.specs.declared.mark.Mark.TheVariants.{Comma}
use Rattle.fm_cert.specs.Fields.{read_polynomial, read_vector}
use Rattle.fm_lines.specs.Rows.{columns_of}
use Rattle.fm_lines.proofs.GeneratorsRead.{entries_more}
use Rattle.fm_lines.proofs.ColumnsRead.{vectors_more}

module _ (r : Ring) (names : List Bytes) where
  pub entries_go_on : (found new : List PolyValue) (f : PolyValue) (from part rest : Bytes) (all : Option (List PolyValue)) → parts Comma from ≡ part ∷ parts Comma rest
      → Some f ≡ read_polynomial r names part → new ≡ found ++ f ∷ []
      → option_map (λ fs. found ++ fs) (all_of (map (read_polynomial r names) (parts Comma from))) ≡ all
      → option_map (λ fs. new ++ fs) (all_of (map (read_polynomial r names) (parts Comma rest))) ≡ all
  entries_go_on found new f from part rest all e p n i =
      let later : Option (List PolyValue) = all_of (map (read_polynomial r names) (parts Comma rest)) in
      ap (λ v. option_map (λ fs. v ++ fs) later) n
      ∙ sym (entries_more found f later)
      ∙ ap (λ (o : Option PolyValue). option_map (λ fs. found ++ fs) (o >>= λ a. option_map (λ zs. a ∷ zs) later)) p
      ∙ ap (λ ps. option_map (λ fs. found ++ fs) (all_of (map (read_polynomial r names) ps))) (sym e)
      ∙ i

  pub vectors_go_on : (found new : List (Vec PolyValue Global)) (c : Vec PolyValue Global) (us : List Bytes) (w : Bytes) (ws : List Bytes) (all : Option (List (List PolyValue)))
      → us ≡ w ∷ ws → Some c.items ≡ read_vector r names w → new ≡ found ++ c ∷ []
      → option_map (λ vs. columns_of found ++ vs) (all_of (map (read_vector r names) us)) ≡ all
      → option_map (λ vs. columns_of new ++ vs) (all_of (map (read_vector r names) ws)) ≡ all
  vectors_go_on found new c us w ws all e p n i =
      let later : Option (List (List PolyValue)) = all_of (map (read_vector r names) ws) in
      ap (λ v. option_map (λ vs. columns_of v ++ vs) later) n
      ∙ sym (vectors_more found c later)
      ∙ ap (λ (o : Option (List PolyValue)). option_map (λ vs. columns_of found ++ vs) (o >>= λ a. option_map (λ zs. a ∷ zs) later)) p
      ∙ ap (λ xs. option_map (λ vs. columns_of found ++ vs) (all_of (map (read_vector r names) xs))) (sym e)
      ∙ i

-- each word gives a vector
pub one_each : (found new : List (Vec PolyValue Global)) (c : Vec PolyValue Global) (us : List Bytes) (w : Bytes) (ws : List Bytes) (n : ℕ) → us ≡ w ∷ ws → new ≡ found ++ c ∷ []
    → length found + length us ≡ n → length new + length ws ≡ n
one_each found new c us w ws n e m h = omega (arith, ap length e, ap length m, length-append found (c ∷ []), h)
