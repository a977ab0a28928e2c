use Rattle.std.proofs.Common.{List, length, [], ◌∷◌, ap, ◌∙◌}
use Rattle.fm_poly.specs.Polys.{PolyValue}
use Rattle.fm_resolve.proofs.Memberships.{row_of_column}
use Rattle.fm_resolve.proofs.rows.generators_row.Goals as goal

pub returns-clause-value : goal.returns-clause-value
returns-clause-value c =
    row_of_column c.args.ring c.args.generators.now c.in_ok-column.column c.in_ok-row.row
    (c.in_ok-column.ensures ∙ ap (λ (fs : List PolyValue). record { ring = c.args.ring; rows = length fs; columns = fs ∷ [] }) c.in_ok-copy_of.ensures) c.in_ok-row.ensures.value
