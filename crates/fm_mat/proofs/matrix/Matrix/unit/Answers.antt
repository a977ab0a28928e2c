use Rattle.fm_mat.proofs.Meanings.{means_unit}
use Rattle.fm_mat.proofs.matrix.Matrix.unit.Goals as goal

pub returns-clause-value : goal.returns-clause-value
returns-clause-value c = means_unit c.args.ring c.args.n c.in_ok-columns.columns.items c.in_ok-columns.ensures.value
