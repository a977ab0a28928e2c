use Rattle.std.proofs.Common.{◌*◌, Some, ◌∙◌, sym, ap}
use Rattle.fm_report.specs.Parts.{given}
use Rattle.fm_pres.specs.declared.shape.Shape.{Shape}
use Rattle.fm_pres.specs.Tables.{parts_in, part_at}
use Rattle.fm_conditions.specs.Measures.{of_size}
use Rattle.fm_conditions.proofs.Measures.{measured, unit_measure, power_measure, unit_column_measure, blocks_measure}
use Rattle.fm_conditions.proofs.shaping.+shape_of.Goals as goal

pub returns-in-Part : goal.returns-in-Part
returns-in-Part t c =
    let P = part_at (parts_in c.args.table.now) c.in-Part.k in
    rw c.in-Part.is (ap Some c.part_shape.ensures.shape ∙ sym (measured P c.part_shape.ensures.fits))

pub returns-in-Given : goal.returns-in-Given
returns-in-Given t c = rw c.in-Given.is (ap Some c.given_shape.ensures.shape ∙ sym (measured (given c.in-Given.m.rows c.in-Given.m.columns) c.given_shape.ensures.fits))

pub returns-in-Unit : goal.returns-in-Unit
returns-in-Unit t c = rw c.in-Unit.is (ap Some c.square.ensures.shape ∙ unit_measure c.args.table.now.ring c.in-Unit.n c.square.ensures.few)

pub returns-in-UnitColumn : goal.returns-in-UnitColumn
returns-in-UnitColumn t c = rw c.in-UnitColumn.is (c.unit_column_shape.ensures ∙ unit_column_measure c.args.table.now.ring c.in-UnitColumn.n)

pub returns-in-Blocks : goal.returns-in-Blocks
returns-in-Blocks t c =
    let P = part_at (parts_in c.args.table.now) c.in-Blocks.k in
    rw c.in-Blocks.is (c.blocks_shape.ensures ∙ ap (λ (s : Shape). of_size (s.rows * s.rows) (s.rows * s.columns)) c.part_shape-in-Blocks.ensures.shape
    ∙ blocks_measure c.args.table.now.ring P c.part_shape-in-Blocks.ensures.fits)

pub returns-in-Power : goal.returns-in-Power
returns-in-Power t c = rw c.in-Power.is (ap Some c.square-in-Power.ensures.shape ∙ power_measure c.args.table.now.ring c.in-Power.f c.in-Power.k c.in-Power.rows c.square-in-Power.ensures.few)
