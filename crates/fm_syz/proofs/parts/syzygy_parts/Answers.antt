use Rattle.std.proofs.Common.{◌+◌, ◌-◌, ◌≡◌, length, take, drop, ap, ◌∙◌, arith}
use Rattle.fm_syz.proofs.CutBlocks.{if_both, cuts_are}
use Rattle.fm_syz.proofs.parts.syzygy_parts.Goals as goal

pub returns-clause-upper : goal.returns-clause-upper
returns-clause-upper c =
    let g = c.args.g.now in
    let a = c.args.a in
    let n = a + (c.width.result - a) in
    let wide : n ≡ length g.matrix.columns = omega (arith, c.width.ensures, c.requires) in
    if_both c.cut_blocks.result (λ out rows is. cuts_are g.matrix.ring c.ring.result g c.rows.result n c.members-members.result.now (λ q. take a) c.ring.ensures c.rows.ensures wide c.members-members.ensures.same out.upper a rows is)
    c.cut_blocks.ensures.upper_rows c.cut_blocks.ensures.upper

pub returns-clause-lower : goal.returns-clause-lower
returns-clause-lower c =
    let g = c.args.g.now in
    let a = c.args.a in
    let n = a + (c.width.result - a) in
    let wide : n ≡ length g.matrix.columns = omega (arith, c.width.ensures, c.requires) in
    let high : c.width.result - a ≡ length g.matrix.columns - a = ap (λ k. k - a) c.width.ensures in
    if_both c.cut_blocks.result (λ out rows is. cuts_are g.matrix.ring c.ring.result g c.rows.result n c.members-members.result.now (λ q. drop a) c.ring.ensures c.rows.ensures wide c.members-members.ensures.same out.lower
    (length g.matrix.columns - a) (rows ∙ high) is)
    c.cut_blocks.ensures.lower_rows c.cut_blocks.ensures.lower
