use Rattle.std.proofs.Common.{refl, arith}
use Rattle.fm_pres.proofs.Nodes.{seen, parts_length}
use Rattle.fm_pres.proofs.table.Table.len.Goals as goal

pub returns : goal.returns
returns c =
    let s = seen c.args.self.now c.self.inside.ring c.self.inside.nodes.items c.self.inside.nodes.items c.self.view_is refl in
    let long = parts_length c.self.inside.nodes.items in
    rw s (omega (arith, long, c.len.ensures))
