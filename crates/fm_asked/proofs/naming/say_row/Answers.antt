use Rattle.fm_pres.specs.Tables.{parts_in}
use Rattle.fm_asked.proofs.Namings.{identity_said}
use Rattle.fm_asked.proofs.naming.say_row.Goals as goal

pub returns-in-Lambda-clause-said : goal.returns-in-Lambda-clause-said
returns-in-Lambda-clause-said c = λ w.
    rw c.in-Lambda.is (identity_said (parts_in c.args.table.now) c.args.block.now c.args.identity.now.items c.add_named.new.list.items c.args.asked.now c.in-Lambda.j c.in-Lambda.part c.add_named.result
    c.add_named.ensures.adds)
