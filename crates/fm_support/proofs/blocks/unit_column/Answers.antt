use Rattle.std.proofs.Common.{rules, ap}
use Rattle.fm_mat.specs.Matrices.{MatrixValue}
use Rattle.fm_support.proofs.Tables.{unit_column_is}
use Rattle.fm_support.proofs.blocks.unit_column.Goals as goal

pub returns-clause-value : goal.returns-clause-value
returns-clause-value c =
    let r = c.args.ring in
    unit_column_is r c.args.g c.new-2.result (ap (λ (m : MatrixValue). m.rows) c.new-2.ensures)
    (search rules)
