use Rattle.std.proofs.Common.{Ok}
use Rattle.fm_pres.specs.Tables.{parts_in}
use Rattle.fm_asked.proofs.Namings.{member_said, number_told, other_differential, needs_told}
use Rattle.fm_asked.proofs.naming.say_beside.Goals as goal

pub returns-in-Member : goal.returns-in-Member
returns-in-Member c = λ w.
    rw c.in-D.is (member_said {F = Unit {0}} (parts_in c.args.table.now) c.args.asked.now c.in-D.j c.in-D.part (Ok c.is_some.result) (c.in-Member.ideal, c.in-Member.f, c.in-Member.is)
    (number_told (parts_in c.args.table.now) c.in-D.part c.numbered.result c.is_some.result c.numbered.ensures c.is_some.ensures))

pub returns-in_default-asked : goal.returns-in_default-asked
returns-in_default-asked c = λ w.
    rw c.in-D.is (other_differential (parts_in c.args.table.now) c.args.asked.now c.in-D.j c.in-D.part c.in_default-asked.not-Member)

pub returns-in_default : goal.returns-in_default
returns-in_default c = λ w. needs_told (parts_in c.args.table.now) c.args.asked.now c.args.row.now w c.in_default.not-D c.needs_block.result c.needs_block.ensures
