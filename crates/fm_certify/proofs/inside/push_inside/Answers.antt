use Rattle.std.proofs.Common.{length, sym, subst, subst₂}
use Rattle.std.proofs.lemmas.Result.{on_ok_weaker}
use Rattle.fm_mat.specs.Matrices.{AreColumns}
use Rattle.fm_writer.specs.Kinds.{excluding_line, named_line}
use Rattle.fm_syz.specs.Insides.{HasColumns}
use Rattle.fm_certify.proofs.ChainedInsides.{all_line}
use Rattle.fm_certify.proofs.inside.push_inside.Goals as goal

pub returns-in-All : goal.returns-in-All
returns-in-All c =
    let g = c.args.graph.now in
    let r = g.matrix.ring in
    let solutions = subst (HasColumns r (length g.matrix.columns)) c.in-All.is c.requires in
    on_ok_weaker c.push_columns.result (all_line r g c.args.inside.now (named_line c.args.all) (excluding_line c.args.some) _ _ c.in-All.columns _ _ c.in-All.is c.as_slice.ensures.value c.width.ensures)
    (c.push_columns.ensures r (subst₂ (AreColumns r) (sym c.width.ensures) (sym c.as_slice.ensures.value) solutions.0))
