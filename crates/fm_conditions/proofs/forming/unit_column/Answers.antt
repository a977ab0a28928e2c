use Rattle.std.proofs.Common.{sym, subst}
use Rattle.fm_limit.specs.Facts.{unit_column}
use Rattle.fm_mat.specs.Matrices.{MatrixValue}
use Rattle.fm_judge.specs.Claims.{unit_column_part}
use Rattle.fm_pres.specs.Kept.{IsValue}
use Rattle.fm_conditions.proofs.Formed.{if_ok, printed_value, column_room}
use Rattle.fm_conditions.proofs.forming.unit_column.Goals as goal

pub unit_column-requires-clause-room : goal.unit_column-requires-clause-room
unit_column-requires-clause-room c = column_room c.args.ring c.args.n c.requires.fits

pub returns-clause-value : goal.returns-clause-value
returns-clause-value c =
    let r = c.args.ring in
    let e = c.in_ok-column.ensures in
    if_ok c.shared.result (λ s h. subst (λ (x : MatrixValue). IsValue r (unit_column_part r c.args.n) x) (sym h)
    (printed_value r (unit_column r.prime r.vars c.args.n) c.in_ok-column.column e.ring e.value)) c.shared.ensures.value
