use Rattle.std.proofs.Common.{rules, refl}
use Rattle.fm_pres.specs.Tables.{parts_in}
use Rattle.fm_conditions.specs.Meanings.{operand_part}
use Rattle.fm_conditions.proofs.Formed.{left_passes, right_passes, bound_moved, value_moved}
use Rattle.fm_conditions.proofs.generating.both_of.Goals as goal

pub returns-in_err-a-clause-exponent : goal.returns-in_err-a-clause-exponent
returns-in_err-a-clause-exponent c = λ why.
    let t = c.args.table.now in
    left_passes t.ring (operand_part t.ring (parts_in t) c.args.a.now) (operand_part t.ring (parts_in t) c.args.b.now) (c.in_err-a.ensures.exponent (search rules))

pub returns-in_err-b-clause-exponent : goal.returns-in_err-b-clause-exponent
returns-in_err-b-clause-exponent c = λ why.
    let t = c.args.table.now in
    right_passes t.ring (operand_part t.ring (parts_in t) c.args.a.now) (operand_part t.ring (parts_in t) c.args.b.now)
    (bound_moved t c.value_of.new.table c.args.b.now c.args.b.now c.in_ok-a.ensures.unchanged refl (c.in_err-b.ensures.exponent (search rules)))

pub returns-clause-value : goal.returns-clause-value
returns-clause-value c =
    let t = c.args.table.now in
    c.joined.ensures.value t.ring (operand_part t.ring (parts_in t) c.args.a.now) (operand_part t.ring (parts_in t) c.args.b.now)
    (value_moved t t c.args.a.now c.args.a.now refl refl c.in_ok-a.a.value c.deref.result.now c.deref.ensures c.in_ok-a.ensures.value)
    (value_moved t c.value_of.new.table c.args.b.now c.args.b.now c.in_ok-a.ensures.unchanged refl c.in_ok-b.b.value c.deref-2.result.now c.deref-2.ensures c.in_ok-b.ensures.value)
