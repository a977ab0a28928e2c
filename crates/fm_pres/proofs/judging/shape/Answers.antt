use Rattle.std.proofs.Common.{length, ap, ◌∙◌, arith}
use Rattle.std.specs.List.{list_all}
use Rattle.std.proofs.lemmas.Bool.{and_parts}
use Rattle.fm_parts.specs.Replays.{is_number}
use Rattle.fm_parts.specs.Shapes.{columns_of}
use Rattle.fm_pres.specs.Tables.{part_at, is_column}
use Rattle.fm_pres.specs.Nodes.{parts_of}
use Rattle.fm_pres.proofs.Shapes.{given_shape, pick_shape}
use Rattle.fm_pres.proofs.judging.shape.Goals as goal

pub returns-in-Given : goal.returns-in-Given
returns-in-Given c =
    let m = c.in-Given.m in
    let low = c.rows.ensures in
    let size = c.rows.type_inv in
    rw c.in-Given.is (given_shape m c.rows.result (length c.columns.result.now) c.columns.ensures.shape (omega (arith, low, size)) c.columns.ensures.few c.rows.ensures (ap length c.columns.ensures.same))

pub returns-in-Pick : goal.returns-in-Pick
returns-in-Pick c =
    let ps = parts_of c.args.nodes.now in
    let r = rw c.in-Pick.is at c.requires.numbers in
    let t = and_parts (is_number ps c.in-Pick.part) (list_all (is_column (columns_of (part_at ps c.in-Pick.part))) c.in-Pick.columns.items) r in
    let n = c.node-in-Pick.result.now in
    rw c.in-Pick.is (c.pick.ensures ∙ pick_shape (part_at ps c.in-Pick.part) c.in-Pick.columns.items n.shape n.depth c.len.result c.node-in-Pick.ensures.part.fitting t.1 c.node-in-Pick.ensures.part.measured (omega (arith, c.len.ensures, c.in-Pick.columns.ok)))
