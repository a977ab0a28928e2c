-- Rows without polynomials are of each ring.
use Rattle.std.proofs.Common.{◌≡◌, ℕ, true, false}
use Rattle.fm_poly.specs.declared.ring.Ring.{Ring}
use Rattle.fm_lines.specs.declared.ending.Ending.{Ending}
use Rattle.fm_lines.specs.declared.ending.Ending.TheVariants as endings
use Rattle.fm_lines.specs.declared.part_form.PartForm.{PartForm}
use Rattle.fm_lines.specs.declared.part_form.PartForm.TheVariants as forms
use Rattle.fm_lines.specs.declared.row.Row as program
use Rattle.fm_lines.specs.declared.row.Row.TheVariants as rows
use Rattle.fm_lines.specs.PlainRows.{is_plain_line}
use Rattle.fm_lines.specs.Rows.{row_line, ending_line, part_line, IsRowOver, IsEndingOver, IsFormOver}

pub impossible : {A : Type 0} → false ≡ true → A
impossible h = absurd (cc)

module _ (r : Ring) where
  pub ending_over : (e : Ending) → is_plain_line (ending_line e) ≡ true → IsEndingOver r e
  ending_over (endings.Zero v0 v1) h = tt
  ending_over (endings.Class v0) h = tt
  ending_over (endings.Invert v0) h = tt
  ending_over (endings.Root v0 v1) h = tt
  ending_over (endings.Ranks v0) h = tt
  ending_over (endings.ExtOf v0 v1) h = tt
  ending_over (endings.Map v0 v1 v2) h = tt
  ending_over (endings.Member v0) h = tt
  ending_over (endings.Budget v0) h = tt
  ending_over (endings.Exponents v0) h = tt
  ending_over (endings.WrongLength v0 v1) h = tt
  ending_over (endings.NotCocycle v0) h = tt
  ending_over (endings.NotContained v0) h = tt
  ending_over (endings.Support ideal) h = impossible h

  pub form_over : (k : ℕ) (form : PartForm) → is_plain_line (part_line k form) ≡ true → IsFormOver r form
  form_over k (forms.Twist a b) h = tt
  form_over k (forms.Flip a) h = tt
  form_over k (forms.Beside a b) h = tt
  form_over k (forms.Stack a b) h = tt
  form_over k (forms.Times a b) h = tt
  form_over k (forms.Pick a b) h = tt
  form_over k (forms.Given a b) h = impossible h

  pub row_over : (row : program.Row) → is_plain_line (row_line row) ≡ true → IsRowOver r row
  row_over (rows.Report v0) h = tt
  row_over (rows.Log v0 v1) h = tt
  row_over (rows.Input v0 v1 v2) h = tt
  row_over (rows.Pair v0 v1 v2 v3) h = tt
  row_over (rows.Skip v0 v1 v2) h = tt
  row_over rows.EndLog h = tt
  row_over (rows.Datum v0 v1) h = tt
  row_over (rows.D v0 v1) h = tt
  row_over (rows.Exact v0 v1) h = tt
  row_over (rows.Theta v0 v1) h = tt
  row_over (rows.Cocycles v0 v1) h = tt
  row_over (rows.Relations v0 v1) h = tt
  row_over (rows.Morphism v0) h = tt
  row_over (rows.Chain v0 v1 v2) h = tt
  row_over (rows.Grows v0 v1) h = tt
  row_over (rows.Stable v0 v1) h = tt
  row_over (rows.Z v0) h = tt
  row_over (rows.N v0) h = tt
  row_over (rows.U v0) h = tt
  row_over (rows.K v0 v1) h = tt
  row_over (rows.Whole v0) h = tt
  row_over (rows.Proper v0) h = tt
  row_over (rows.Coordinates v0) h = tt
  row_over (rows.Lives v0 v1 v2) h = tt
  row_over (rows.Dies v0 v1) h = tt
  row_over (rows.Cofactors v0) h = tt
  row_over (rows.Foreign v0 v1) h = tt
  row_over (rows.Annihilator v0 v1) h = tt
  row_over (rows.Power v0) h = tt
  row_over (rows.Least v0) h = tt
  row_over (rows.Colon v0 v1 v2) h = tt
  row_over (rows.Settles v0 v1) h = tt
  row_over (rows.Lambda v0 v1) h = tt
  row_over (rows.Phi v0) h = tt
  row_over (rows.Null v0) h = tt
  row_over (rows.NonNull v0) h = tt
  row_over (rows.Fibre v0 v1) h = tt
  row_over (rows.One v0) h = tt
  row_over (rows.NotOne v0) h = tt
  row_over (rows.Link v0 v1 v2) h = tt
  row_over (rows.Short v0 v1) h = tt
  row_over (rows.Onto v0 v1) h = tt
  row_over (rows.Closes v0 v1) h = tt
  row_over (rows.Done v0) h = tt
  row_over rows.EndReport h = tt
  row_over (rows.Ended e) h = ending_over e h
  row_over (rows.Part k form) h = form_over k form h
