use Rattle.std.proofs.Common.{length, ap, sym, ◌∙◌}
use Rattle.fm_syz.specs.GraphValues.{GraphValue}
use Rattle.fm_top.proofs.FirstRank.{first_rank}
use Rattle.fm_top.proofs.class_tests.is_zero.Goals as goal

pub is_zero_at-requires-clause-length : goal.is_zero_at-requires-clause-length
is_zero_at-requires-clause-length c =
    let x = c.args.resolution.now in
    c.requires.one ∙ sym (first_rank x.first.matrix.ring x ∙ ap (λ (g : GraphValue). length g.matrix.columns) (sym c.first.ensures.same) ∙ sym c.width.ensures ∙ c.if-width-ne1.false)
