-- Rows that do not stand in a place claim nothing there.
use Rattle.std.proofs.Common.{◌≡◌, ℕ, List, None, Vec, refl}
use Rattle.std.specs.Global.{Global}
use Rattle.fm_poly.specs.declared.ring.Ring.{Ring}
use Rattle.fm_report.specs.Parts.{Part}
use Rattle.fm_report.specs.Sheets.{Block}
use Rattle.fm_parts.specs.Conditions.{Log}
use Rattle.fm_judge.specs.Goals.{Goal}
use Rattle.fm_judge.specs.Claims.{claim}
use Rattle.fm_judge.specs.Places as places
use Rattle.fm_cert.specs.Lines.{Line}
use Rattle.fm_cert.specs.Lines as lines
use Rattle.fm_lines.specs.Rows.{row_line}
use Rattle.fm_lines.specs.declared.ending.Ending.TheVariants as endings
use Rattle.fm_lines.specs.declared.part_form.PartForm.TheVariants as forms
use Rattle.fm_lines.specs.declared.row.Row.{Row}
use Rattle.fm_lines.specs.declared.row.Row.TheVariants as rows
use Rattle.fm_lines.specs.declared.shown.Generated.{Generated}
use Rattle.fm_lines.specs.declared.shown.Excluded.{Excluded}
use Rattle.fm_claims.specs.Views.{claim_on}

module _ (r : Ring) (g : Goal) (b : Block) (parts : List Part) (logs : List Log) where
  pub not_differential : (j : ℕ) (row : Row) → ((j' : ℕ) (k : ℕ) → row ≡ rows.D j' k → ⊥) → claim_on r g b parts logs (places.differential j) (row_line row) ≡ None
  unfolding claim
  not_differential j (rows.D j' k) n = absurd (n j' k refl)
  not_differential j (rows.Ended (endings.Zero is_zero stable)) n = refl
  not_differential j (rows.Part number (forms.Flip part)) n = refl
  not_differential j row n = refl

  pub not_exactness : (j : ℕ) (row : Row) → ((j' : ℕ) (shown : Generated) → row ≡ rows.Exact j' shown → ⊥) → claim_on r g b parts logs (places.exactness j) (row_line row) ≡ None
  unfolding claim
  not_exactness j (rows.Exact j' shown) n = absurd (n j' shown refl)
  not_exactness j (rows.Ended (endings.Zero is_zero stable)) n = refl
  not_exactness j (rows.Part number (forms.Flip part)) n = refl
  not_exactness j row n = refl

  pub not_lift : (j : ℕ) (row : Row) → ((j' : ℕ) (k : ℕ) → row ≡ rows.Theta j' k → ⊥) → claim_on r g b parts logs (places.lift j) (row_line row) ≡ None
  unfolding claim
  not_lift j (rows.Theta j' k) n = absurd (n j' k refl)
  not_lift j (rows.Ended (endings.Zero is_zero stable)) n = refl
  not_lift j (rows.Part number (forms.Flip part)) n = refl
  not_lift j row n = refl

  pub not_cocycles : (row : Row) → ((k : ℕ) (shown : Generated) → row ≡ rows.Cocycles k shown → ⊥) → claim_on r g b parts logs places.cocycles (row_line row) ≡ None
  unfolding claim
  not_cocycles (rows.Cocycles k shown) n = absurd (n k shown refl)
  not_cocycles (rows.Ended (endings.Zero is_zero stable)) n = refl
  not_cocycles (rows.Part number (forms.Flip part)) n = refl
  not_cocycles row n = refl

  pub not_relations : (row : Row) → ((k : ℕ) (shown : Generated) → row ≡ rows.Relations k shown → ⊥) → claim_on r g b parts logs places.relations (row_line row) ≡ None
  unfolding claim
  not_relations (rows.Relations k shown) n = absurd (n k shown refl)
  not_relations (rows.Ended (endings.Zero is_zero stable)) n = refl
  not_relations (rows.Part number (forms.Flip part)) n = refl
  not_relations row n = refl

  pub not_morphism : (row : Row) → ((k : ℕ) → row ≡ rows.Morphism k → ⊥) → claim_on r g b parts logs places.morphism (row_line row) ≡ None
  unfolding claim
  not_morphism (rows.Morphism k) n = absurd (n k refl)
  not_morphism (rows.Ended (endings.Zero is_zero stable)) n = refl
  not_morphism (rows.Part number (forms.Flip part)) n = refl
  not_morphism row n = refl

  pub not_chain : (s : ℕ) (row : Row) → ((s' : ℕ) (k : ℕ) (shown : Generated) → row ≡ rows.Chain s' k shown → ⊥) → claim_on r g b parts logs (places.chain s) (row_line row) ≡ None
  unfolding claim
  not_chain s (rows.Chain s' k shown) n = absurd (n s' k shown refl)
  not_chain s (rows.Ended (endings.Zero is_zero stable)) n = refl
  not_chain s (rows.Part number (forms.Flip part)) n = refl
  not_chain s row n = refl

  pub not_turn : (s : ℕ) (row : Row) → ((s' : ℕ) (shown : Excluded) → row ≡ rows.Grows s' shown → ⊥) → ((t : ℕ) (w : ℕ) → row ≡ rows.Stable t w → ⊥) → claim_on r g b parts logs (places.turn s) (row_line row) ≡ None
  unfolding claim
  not_turn s (rows.Grows s' shown) n0 n1 = absurd (n0 s' shown refl)
  not_turn s (rows.Stable t w) n0 n1 = absurd (n1 t w refl)
  not_turn s (rows.Ended (endings.Zero is_zero stable)) n0 n1 = refl
  not_turn s (rows.Part number (forms.Flip part)) n0 n1 = refl
  not_turn s row n0 n1 = refl

  pub not_whole : (t : ℕ) (row : Row) → ((w : ℕ) → row ≡ rows.Whole w → ⊥) → claim_on r g b parts logs (places.whole t) (row_line row) ≡ None
  unfolding claim
  not_whole t (rows.Whole w) n = absurd (n w refl)
  not_whole t (rows.Ended (endings.Zero is_zero stable)) n = refl
  not_whole t (rows.Part number (forms.Flip part)) n = refl
  not_whole t row n = refl

  pub not_proper : (t : ℕ) (row : Row) → ((shown : Excluded) → row ≡ rows.Proper shown → ⊥) → claim_on r g b parts logs (places.proper t) (row_line row) ≡ None
  unfolding claim
  not_proper t (rows.Proper shown) n = absurd (n shown refl)
  not_proper t (rows.Ended (endings.Zero is_zero stable)) n = refl
  not_proper t (rows.Part number (forms.Flip part)) n = refl
  not_proper t row n = refl

  pub not_coordinates : (t : ℕ) (row : Row) → ((k : ℕ) → row ≡ rows.Coordinates k → ⊥) → claim_on r g b parts logs (places.coordinates t) (row_line row) ≡ None
  unfolding claim
  not_coordinates t (rows.Coordinates k) n = absurd (n k refl)
  not_coordinates t (rows.Ended (endings.Zero is_zero stable)) n = refl
  not_coordinates t (rows.Part number (forms.Flip part)) n = refl
  not_coordinates t row n = refl

  pub not_lives : (v : Part) (t : ℕ) (k : ℕ) (row : Row) → ((k' : ℕ) (log : ℕ) (by : Vec ℕ Global) → row ≡ rows.Lives k' log by → ⊥) → claim_on r g b parts logs (places.lives v t k) (row_line row) ≡ None
  unfolding claim
  not_lives v t k (rows.Lives k' log by) n = absurd (n k' log by refl)
  not_lives v t k (rows.Ended (endings.Zero is_zero stable)) n = refl
  not_lives v t k (rows.Part number (forms.Flip part)) n = refl
  not_lives v t k row n = refl

  pub not_dies : (v : Part) (t : ℕ) (m : ℕ) (row : Row) → ((m' : ℕ) (w : ℕ) → row ≡ rows.Dies m' w → ⊥) → claim_on r g b parts logs (places.dies v t m) (row_line row) ≡ None
  unfolding claim
  not_dies v t m (rows.Dies m' w) n = absurd (n m' w refl)
  not_dies v t m (rows.Ended (endings.Zero is_zero stable)) n = refl
  not_dies v t m (rows.Part number (forms.Flip part)) n = refl
  not_dies v t m row n = refl

  pub not_lives_on : (v : Part) (t : ℕ) (row : Row) → ((k : ℕ) (log : ℕ) (by : Vec ℕ Global) → row ≡ rows.Lives k log by → ⊥) → claim_on r g b parts logs (places.lives_on v t) (row_line row) ≡ None
  unfolding claim
  not_lives_on v t (rows.Lives k log by) n = absurd (n k log by refl)
  not_lives_on v t (rows.Ended (endings.Zero is_zero stable)) n = refl
  not_lives_on v t (rows.Part number (forms.Flip part)) n = refl
  not_lives_on v t row n = refl

  pub not_ideal_row : (row : Row) → ((j : ℕ) (k : ℕ) → row ≡ rows.D j k → ⊥) → claim_on r g b parts logs places.ideal_row (row_line row) ≡ None
  unfolding claim
  not_ideal_row (rows.D j k) n = absurd (n j k refl)
  not_ideal_row (rows.Ended (endings.Zero is_zero stable)) n = refl
  not_ideal_row (rows.Part number (forms.Flip part)) n = refl
  not_ideal_row row n = refl

  pub not_cofactors : (d : Part) (row : Row) → ((x : ℕ) → row ≡ rows.Cofactors x → ⊥) → claim_on r g b parts logs (places.cofactors d) (row_line row) ≡ None
  unfolding claim
  not_cofactors d (rows.Cofactors x) n = absurd (n x refl)
  not_cofactors d (rows.Ended (endings.Zero is_zero stable)) n = refl
  not_cofactors d (rows.Part number (forms.Flip part)) n = refl
  not_cofactors d row n = refl

  pub not_foreign : (d : Part) (row : Row) → ((log : ℕ) (by : Vec ℕ Global) → row ≡ rows.Foreign log by → ⊥) → claim_on r g b parts logs (places.foreign d) (row_line row) ≡ None
  unfolding claim
  not_foreign d (rows.Foreign log by) n = absurd (n log by refl)
  not_foreign d (rows.Ended (endings.Zero is_zero stable)) n = refl
  not_foreign d (rows.Part number (forms.Flip part)) n = refl
  not_foreign d row n = refl

  -- places in which no row stands
  pub not_datum : (l : Line) → claim_on r g b parts logs places.datum l ≡ None
  unfolding claim
  not_datum (lines.Row kind v) = refl
  not_datum l = refl

  pub not_datum_beyond : (t : ℕ) (l : Line) → claim_on r g b parts logs (places.datum_beyond t) l ≡ None
  unfolding claim
  not_datum_beyond t (lines.Row kind v) = refl
  not_datum_beyond t l = refl

  pub not_end : (l : Line) → claim_on r g b parts logs places.end l ≡ None
  unfolding claim
  not_end (lines.Row kind v) = refl
  not_end l = refl
