use Rattle.std.proofs.Common.{rules}
use Rattle.fm_mat.proofs.Meanings.{flip_value}
use Rattle.fm_mat.proofs.matrix.Matrix.flip.Goals as goal

pub returns-clause-value : goal.returns-clause-value
returns-clause-value c = flip_value c.args.self.now c.self.inside.ring c.self.inside.rows c.self.inside.columns.items c.self.view_is c.cols.result c.in_ok-columns.columns.items (search rules) (search rules)
