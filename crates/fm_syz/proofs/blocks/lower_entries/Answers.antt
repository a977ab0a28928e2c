use Rattle.std.proofs.Common.{length, ap, ◌∙◌, arith}
use Rattle.fm_syz.proofs.Lower.{lower_is, length_column}
use Rattle.fm_syz.proofs.blocks.lower_entries.Goals as goal

pub split_off-requires : goal.split_off-requires
split_off-requires c =
    let h = c.requires in
    let k = ap length c.in_ok-column.ensures ∙ length_column c.args.v.now.ring c.args.v.now.rows 1 c.args.v.now.terms in
    omega (arith, h, k)

pub returns : goal.returns
returns c r n ring rows =
    lower_is r c.args.v.now c.args.m n c.in_ok-column.column.items c.in_ok-lower.lower.items ring rows c.in_ok-column.ensures c.in_ok-lower.ensures.tail
