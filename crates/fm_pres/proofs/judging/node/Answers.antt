use Rattle.std.proofs.Common.{◌-◌, arith, length, refl}
use Rattle.std.proofs.lemmas.Option.{slice_get_read}
use Rattle.fm_pres.specs.Nodes.{parts_of}
use Rattle.fm_pres.proofs.Tables.{is_number_bounds}
use Rattle.fm_pres.proofs.Nodes.{parts_length, node_is_part}
use Rattle.fm_pres.proofs.judging.node.Goals as goal

pub bounds-nodes-k : goal.bounds-nodes-k
bounds-nodes-k c =
    let b = is_number_bounds (parts_of c.args.nodes.now) c.args.k c.requires.number in
    let n = parts_length c.args.nodes.now in
    omega (arith, b.0, b.1, n)

pub returns-clause-part : goal.returns-clause-part
returns-clause-part c = node_is_part c.args.nodes.now c.args.k c.index-nodes-k.result c.requires.nodes c.requires.number c.index-nodes-k.is

pub returns-clause-at : goal.returns-clause-at
returns-clause-at c =
    let b = is_number_bounds (parts_of c.args.nodes.now) c.args.k c.requires.number in
    let n = parts_length c.args.nodes.now in
    slice_get_read c.args.nodes.now (length c.args.nodes.now) (c.args.k - 1) c.index-nodes-k.result refl (omega (arith, b.0, b.1, n)) c.index-nodes-k.is
