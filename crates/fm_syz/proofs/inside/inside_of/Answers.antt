use Rattle.std.proofs.Common.{refl, subst}
use Rattle.fm_poly.specs.declared.ring.Ring.{Ring}
use Rattle.fm_mat.specs.Matrices.{AreColumns}
use Rattle.fm_syz.proofs.Insides.{inside_solves}
use Rattle.fm_syz.proofs.inside.inside_of.Goals as goal

pub returns-clause-solves : goal.returns-clause-solves
returns-clause-solves c =
    let g = c.args.g.now in
    let r = g.matrix.ring in
    inside_solves r g c.args.m.now c.lift_to_the_first_outside.ensures.complete
    (subst (λ m. AreColumns r m c.args.m.now.columns) c.requires.rows (subst (λ (s : Ring). AreColumns s c.args.m.now.rows c.args.m.now.columns) c.requires.ring c.lift_to_the_first_outside.ensures.shape))
    c.requires.rows c.args.work.now c.lift_to_the_first_outside.new.work c.lift_to_the_first_outside.result c.lift_to_the_first_outside.ensures.follows refl
