-- Rows that do not stand in a place on inverting, on the support or on maps claim nothing there.
use Rattle.std.proofs.Common.{◌≡◌, ℕ, List, None, refl}
use Rattle.fm_poly.specs.Polys.{PolyValue}
use Rattle.fm_poly.specs.declared.ring.Ring.{Ring}
use Rattle.fm_report.specs.Parts.{Part}
use Rattle.fm_report.specs.Sheets.{Block}
use Rattle.fm_parts.specs.Conditions.{Log}
use Rattle.fm_judge.specs.Goals.{Goal}
use Rattle.fm_judge.specs.Claims.{claim}
use Rattle.fm_judge.specs.Places as places
use Rattle.fm_lines.specs.Rows.{row_line}
use Rattle.fm_lines.specs.declared.ending.Ending.TheVariants as endings
use Rattle.fm_lines.specs.declared.part_form.PartForm.TheVariants as forms
use Rattle.fm_lines.specs.declared.row.Row.{Row}
use Rattle.fm_lines.specs.declared.row.Row.TheVariants as rows
use Rattle.fm_lines.specs.declared.shown.Generated.{Generated}
use Rattle.fm_lines.specs.declared.shown.Excluded.{Excluded}
use Rattle.fm_claims.specs.Views.{claim_on}

module _ (r : Ring) (g : Goal) (b : Block) (parts : List Part) (logs : List Log) where
  pub not_power : (f : PolyValue) (t k : ℕ) (row : Row) → ((w : ℕ) → row ≡ rows.Power w → ⊥)
      → claim_on r g b parts logs (places.power f t k) (row_line row) ≡ None
  unfolding claim
  not_power f t k (rows.Power w) n = absurd (n w refl)
  not_power f t k (rows.Ended (endings.Zero is_zero stable)) n = refl
  not_power f t k (rows.Part number (forms.Flip part)) n = refl
  not_power f t k row n = refl

  pub not_least : (f : PolyValue) (t k : ℕ) (row : Row) → ((shown : Excluded) → row ≡ rows.Least shown → ⊥)
      → claim_on r g b parts logs (places.least f t k) (row_line row) ≡ None
  unfolding claim
  not_least f t k (rows.Least shown) n = absurd (n shown refl)
  not_least f t k (rows.Ended (endings.Zero is_zero stable)) n = refl
  not_least f t k (rows.Part number (forms.Flip part)) n = refl
  not_least f t k row n = refl

  pub not_colon : (f : PolyValue) (t : ℕ) (found : List Part) (row : Row) → ((j : ℕ) (part : ℕ) (shown : Generated) → row ≡ rows.Colon j part shown → ⊥) → ((j : ℕ) (w : ℕ) → row ≡ rows.Settles j w → ⊥)
      → claim_on r g b parts logs (places.colon f t found) (row_line row) ≡ None
  unfolding claim
  not_colon f t found (rows.Colon j part shown) n0 n1 = absurd (n0 j part shown refl)
  not_colon f t found (rows.Settles j w) n0 n1 = absurd (n1 j w refl)
  not_colon f t found (rows.Ended (endings.Zero is_zero stable)) n0 n1 = refl
  not_colon f t found (rows.Part number (forms.Flip part)) n0 n1 = refl
  not_colon f t found row n0 n1 = refl

  pub not_proper_colon : (t : ℕ) (found : List Part) (row : Row) → ((shown : Excluded) → row ≡ rows.Proper shown → ⊥)
      → claim_on r g b parts logs (places.proper_colon t found) (row_line row) ≡ None
  unfolding claim
  not_proper_colon t found (rows.Proper shown) n = absurd (n shown refl)
  not_proper_colon t found (rows.Ended (endings.Zero is_zero stable)) n = refl
  not_proper_colon t found (rows.Part number (forms.Flip part)) n = refl
  not_proper_colon t found row n = refl

  pub not_annihilator : (ideal : List PolyValue) (t : ℕ) (row : Row) → ((part : ℕ) (shown : Generated) → row ≡ rows.Annihilator part shown → ⊥)
      → claim_on r g b parts logs (places.annihilator ideal t) (row_line row) ≡ None
  unfolding claim
  not_annihilator ideal t (rows.Annihilator part shown) n = absurd (n part shown refl)
  not_annihilator ideal t (rows.Ended (endings.Zero is_zero stable)) n = refl
  not_annihilator ideal t (rows.Part number (forms.Flip part)) n = refl
  not_annihilator ideal t row n = refl

  pub not_lambda : (t : ℕ) (identity : List Part) (row : Row) → ((j : ℕ) (part : ℕ) → row ≡ rows.Lambda j part → ⊥)
      → claim_on r g b parts logs (places.lambda t identity) (row_line row) ≡ None
  unfolding claim
  not_lambda t identity (rows.Lambda j part) n = absurd (n j part refl)
  not_lambda t identity (rows.Ended (endings.Zero is_zero stable)) n = refl
  not_lambda t identity (rows.Part number (forms.Flip part)) n = refl
  not_lambda t identity row n = refl

  pub not_phi : (t : ℕ) (identity : List Part) (row : Row) → ((part : ℕ) → row ≡ rows.Phi part → ⊥)
      → claim_on r g b parts logs (places.phi t identity) (row_line row) ≡ None
  unfolding claim
  not_phi t identity (rows.Phi part) n = absurd (n part refl)
  not_phi t identity (rows.Ended (endings.Zero is_zero stable)) n = refl
  not_phi t identity (rows.Part number (forms.Flip part)) n = refl
  not_phi t identity row n = refl

  pub not_null : (t : ℕ) (Phi : Part) (row : Row) → ((w : ℕ) → row ≡ rows.Null w → ⊥)
      → claim_on r g b parts logs (places.null t Phi) (row_line row) ≡ None
  unfolding claim
  not_null t Phi (rows.Null w) n = absurd (n w refl)
  not_null t Phi (rows.Ended (endings.Zero is_zero stable)) n = refl
  not_null t Phi (rows.Part number (forms.Flip part)) n = refl
  not_null t Phi row n = refl

  pub not_nonnull : (t : ℕ) (Phi : Part) (row : Row) → ((shown : Excluded) → row ≡ rows.NonNull shown → ⊥)
      → claim_on r g b parts logs (places.nonnull t Phi) (row_line row) ≡ None
  unfolding claim
  not_nonnull t Phi (rows.NonNull shown) n = absurd (n shown refl)
  not_nonnull t Phi (rows.Ended (endings.Zero is_zero stable)) n = refl
  not_nonnull t Phi (rows.Part number (forms.Flip part)) n = refl
  not_nonnull t Phi row n = refl

  pub not_fibre : (t : ℕ) (Phi : Part) (row : Row) → ((part : ℕ) (shown : Generated) → row ≡ rows.Fibre part shown → ⊥)
      → claim_on r g b parts logs (places.fibre t Phi) (row_line row) ≡ None
  unfolding claim
  not_fibre t Phi (rows.Fibre part shown) n = absurd (n part shown refl)
  not_fibre t Phi (rows.Ended (endings.Zero is_zero stable)) n = refl
  not_fibre t Phi (rows.Part number (forms.Flip part)) n = refl
  not_fibre t Phi row n = refl

  pub not_one : (t : ℕ) (Phi C : Part) (row : Row) → ((w : ℕ) → row ≡ rows.One w → ⊥)
      → claim_on r g b parts logs (places.one t Phi C) (row_line row) ≡ None
  unfolding claim
  not_one t Phi C (rows.One w) n = absurd (n w refl)
  not_one t Phi C (rows.Ended (endings.Zero is_zero stable)) n = refl
  not_one t Phi C (rows.Part number (forms.Flip part)) n = refl
  not_one t Phi C row n = refl

  pub not_notone : (t : ℕ) (Phi C : Part) (row : Row) → ((shown : Excluded) → row ≡ rows.NotOne shown → ⊥)
      → claim_on r g b parts logs (places.notone t Phi C) (row_line row) ≡ None
  unfolding claim
  not_notone t Phi C (rows.NotOne shown) n = absurd (n shown refl)
  not_notone t Phi C (rows.Ended (endings.Zero is_zero stable)) n = refl
  not_notone t Phi C (rows.Part number (forms.Flip part)) n = refl
  not_notone t Phi C row n = refl

  pub not_link : (t : ℕ) (Phi : Part) (found : List Part) (row : Row) → ((j : ℕ) (part : ℕ) (shown : Generated) → row ≡ rows.Link j part shown → ⊥)
      → claim_on r g b parts logs (places.link t Phi found) (row_line row) ≡ None
  unfolding claim
  not_link t Phi found (rows.Link j part shown) n = absurd (n j part shown refl)
  not_link t Phi found (rows.Ended (endings.Zero is_zero stable)) n = refl
  not_link t Phi found (rows.Part number (forms.Flip part)) n = refl
  not_link t Phi found row n = refl

  pub not_open_link : (t : ℕ) (Phi : Part) (found : List Part) (row : Row) → ((j : ℕ) (part : ℕ) (shown : Generated) → row ≡ rows.Link j part shown → ⊥) → ((j : ℕ) (w : ℕ) → row ≡ rows.Closes j w → ⊥)
      → claim_on r g b parts logs (places.open_link t Phi found) (row_line row) ≡ None
  unfolding claim
  not_open_link t Phi found (rows.Link j part shown) n0 n1 = absurd (n0 j part shown refl)
  not_open_link t Phi found (rows.Closes j w) n0 n1 = absurd (n1 j w refl)
  not_open_link t Phi found (rows.Ended (endings.Zero is_zero stable)) n0 n1 = refl
  not_open_link t Phi found (rows.Part number (forms.Flip part)) n0 n1 = refl
  not_open_link t Phi found row n0 n1 = refl

  pub not_short : (t : ℕ) (Phi : Part) (found : List Part) (row : Row) → ((j : ℕ) (shown : Excluded) → row ≡ rows.Short j shown → ⊥)
      → claim_on r g b parts logs (places.short t Phi found) (row_line row) ≡ None
  unfolding claim
  not_short t Phi found (rows.Short j shown) n = absurd (n j shown refl)
  not_short t Phi found (rows.Ended (endings.Zero is_zero stable)) n = refl
  not_short t Phi found (rows.Part number (forms.Flip part)) n = refl
  not_short t Phi found row n = refl

  pub not_onto : (t : ℕ) (Phi : Part) (found : List Part) (row : Row) → ((j : ℕ) (w : ℕ) → row ≡ rows.Onto j w → ⊥)
      → claim_on r g b parts logs (places.onto t Phi found) (row_line row) ≡ None
  unfolding claim
  not_onto t Phi found (rows.Onto j w) n = absurd (n j w refl)
  not_onto t Phi found (rows.Ended (endings.Zero is_zero stable)) n = refl
  not_onto t Phi found (rows.Part number (forms.Flip part)) n = refl
  not_onto t Phi found row n = refl

  pub not_never_onto : (t : ℕ) (Phi : Part) (found : List Part) (row : Row) → ((j : ℕ) (shown : Excluded) → row ≡ rows.Short j shown → ⊥)
      → claim_on r g b parts logs (places.never_onto t Phi found) (row_line row) ≡ None
  unfolding claim
  not_never_onto t Phi found (rows.Short j shown) n = absurd (n j shown refl)
  not_never_onto t Phi found (rows.Ended (endings.Zero is_zero stable)) n = refl
  not_never_onto t Phi found (rows.Part number (forms.Flip part)) n = refl
  not_never_onto t Phi found row n = refl
