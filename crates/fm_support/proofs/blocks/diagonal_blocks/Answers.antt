use Rattle.std.proofs.Common.{ap}
use Rattle.fm_mat.specs.Matrices.{MatrixValue}
use Rattle.fm_support.proofs.Tables.{blocks_at}
use Rattle.fm_support.proofs.blocks.diagonal_blocks.Goals as goal

pub returns-clause-value : goal.returns-clause-value
returns-clause-value c =
    let k = c.args.k.now in
    blocks_at k c.new.result c.ring.result c.rows-g.result c.cols.result c.columns.result.now c.in_ok-columns.columns.items c.ring.ensures c.rows-g.ensures c.cols.ensures c.columns.ensures.same
    (ap (λ (m : MatrixValue). m.rows) c.new.ensures) (ap (λ (m : MatrixValue). m.columns) c.new.ensures) c.in_ok-columns.ensures.value
