use Rattle.std.proofs.Common.{length}
use Rattle.fm_mat.specs.Matrices.{column_meaning, matrix_meaning}
use Rattle.fm_mat.proofs.Steps.{map_length}
use Rattle.fm_chain.proofs.Lifts.{solution_long}
use Rattle.fm_chain.proofs.classes.coordinates.Goals as goal

pub returns-in-InImage-clause-length : goal.returns-in-InImage-clause-length
returns-in-InImage-clause-length c =
    let g = c.args.g.now in
    let r = g.matrix.ring in
    λ inside. solution_long r c.args.e (matrix_meaning r g.matrix) (length g.matrix.columns) (column_meaning r c.args.z.now) _ c.lift_at.result c.in_ok-lifted.lifted c.in-InImage.w (map_length (column_meaning r) g.matrix.columns)
    c.in_ok-lifted.ensures c.in-InImage.is c.lift_at.ensures.solves
