-- Words that stand in rows.
use Rattle.std.proofs.Common.{◌≡◌, false, List, [], ◌∷◌, None, refl, ap}
use Rattle.std.specs.Prelude.{Bool}
use Rattle.fm_poly.specs.declared.ring.Ring.{Ring}
use Rattle.fm_words.specs.Options.{where_so}
use Rattle.fm_words.specs.Parts.{Bytes}
use Rattle.fm_cert.specs.Fields.{Item, word, read_row}
use Rattle.fm_lines.specs.Left.{begins_with}

-- a row is not read where its word is not there
pub not_there : (r : Ring) (names : List Bytes) (w : Bytes) (items : List Item) (ws : List Bytes) → begins_with w ws ≡ false → read_row r names (word w ∷ items) ws ≡ None
not_there r names w items [] h = refl
not_there r names w items (v ∷ ws) h = ap (λ (t : Bool). where_so t (read_row r names items ws)) h
