use Rattle.std.proofs.Common.{subst}
use Rattle.fm_poly.specs.declared.ring.Ring.{Ring}
use Rattle.fm_mat.specs.Matrices.{AreColumns}
use Rattle.fm_syz.proofs.Solutions.{columns_solved}
use Rattle.fm_syz.proofs.lifts.lift_columns.Goals as goal

pub returns-clause-solves : goal.returns-clause-solves
returns-clause-solves c =
    let g = c.args.g.now in
    let r = g.matrix.ring in
    columns_solved g c.args.b.now c.solve_columns.ensures.complete
    (subst (λ m. AreColumns r m c.args.b.now.columns) c.requires.rows (subst (λ (s : Ring). AreColumns s c.args.b.now.rows c.args.b.now.columns) c.requires.ring c.solve_columns.ensures.shape))
    c.requires.rows c.args.work.now c.solve_columns.new.work c.solve_columns.result c.solve_columns.ensures.follows
