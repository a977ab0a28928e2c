use Rattle.std.proofs.Common.{refl, sym, subst}
use Rattle.fm_pres.specs.Kept.{IsValue}
use Rattle.fm_pres.specs.Tables.{parts_in}
use Rattle.fm_conditions.specs.Meanings.{operand_part}
use Rattle.fm_conditions.proofs.Formed.{value_moved, evaluated_moved}
use Rattle.fm_conditions.proofs.Equalities.{equal_first, equal_second, equal_last}
use Rattle.fm_conditions.proofs.holding.are_equal.Goals as goal

pub returns-in-Err-clause-judges : goal.returns-in-Err-clause-judges
returns-in-Err-clause-judges c =
    let t = c.args.table.now in
    let ps = parts_in t in
    equal_first t.ring (operand_part t.ring ps c.args.a.now) (operand_part t.ring ps c.args.b.now) c.in-Err.refused c.in-Err.ensures.judges

pub returns-in-Err-evaluated-clause-judges : goal.returns-in-Err-evaluated-clause-judges
returns-in-Err-evaluated-clause-judges c =
    let t = c.args.table.now in
    let ps = parts_in t in
    equal_second t.ring (operand_part t.ring ps c.args.a.now) (operand_part t.ring ps c.args.b.now) c.in-Ok.a.value c.in-Err-evaluated.refused c.in-Ok.ensures.value
    (evaluated_moved t c.evaluated.new.table c.in-Ok.ensures.unchanged c.args.b.now c.in-Err-evaluated.refused c.in-Err-evaluated.ensures.judges)

pub returns-clause-judges : goal.returns-clause-judges
returns-clause-judges c =
    let t = c.args.table.now in
    let ps = parts_in t in
    let first = subst (IsValue t.ring (operand_part t.ring ps c.args.a.now)) (sym c.deref.ensures) c.in-Ok.ensures.value in
    let second = value_moved t c.evaluated.new.table c.args.b.now c.args.b.now c.in-Ok.ensures.unchanged refl c.in-Ok-evaluated.b.value c.deref-2.result.now c.deref-2.ensures c.in-Ok-evaluated.ensures.value in
    equal_last t.ring (operand_part t.ring ps c.args.a.now) (operand_part t.ring ps c.args.b.now) c.deref.result.now c.deref-2.result.now c.same.result first second (c.same.ensures t.ring first.ring)
