use Rattle.std.proofs.Common.{rules, ◌≡◌, false, sym, subst}
use Rattle.fm_parts.specs.Values.{is_within_bound}
use Rattle.fm_pres.specs.Kept.{IsValue}
use Rattle.fm_pres.specs.Tables.{TableValue, parts_in, part_at}
use Rattle.fm_conditions.proofs.Formed.{first_passes, second_passes, part_moved}
use Rattle.fm_conditions.proofs.generating.product_of.Goals as goal

pub returns-in_err-a-clause-exponent : goal.returns-in_err-a-clause-exponent
returns-in_err-a-clause-exponent c = λ why.
    let t = c.args.table.now in
    first_passes t.ring (part_at (parts_in t) c.args.a) (part_at (parts_in t) c.args.b) (c.in_err-a.ensures.exponent (search rules))

pub returns-in_err-b-clause-exponent : goal.returns-in_err-b-clause-exponent
returns-in_err-b-clause-exponent c = λ why.
    let t = c.args.table.now in
    second_passes t.ring (part_at (parts_in t) c.args.a) (part_at (parts_in t) c.args.b)
    (subst (λ (x : TableValue). is_within_bound x.ring (part_at (parts_in x) c.args.b) ≡ false) c.in_ok-a.ensures.unchanged (c.in_err-b.ensures.exponent (search rules)))

pub returns-clause-value : goal.returns-clause-value
returns-clause-value c =
    let t = c.args.table.now in
    let u = c.value.new.self in
    c.multiplied.ensures.value t.ring (part_at (parts_in t) c.args.a) (part_at (parts_in t) c.args.b)
    (subst (IsValue t.ring (part_at (parts_in t) c.args.a)) (sym c.deref.ensures) c.in_ok-a.ensures.value)
    (part_moved t u c.in_ok-a.ensures.unchanged c.args.b c.in_ok-b.b.value c.deref-2.result.now c.deref-2.ensures c.in_ok-b.ensures.value)

pub returns-clause-exponent : goal.returns-clause-exponent
returns-clause-exponent c = λ why.
    let t = c.args.table.now in
    let u = c.value.new.self in
    c.multiplied.ensures.exponent t.ring (part_at (parts_in t) c.args.a) (part_at (parts_in t) c.args.b)
    (subst (IsValue t.ring (part_at (parts_in t) c.args.a)) (sym c.deref.ensures) c.in_ok-a.ensures.value)
    (part_moved t u c.in_ok-a.ensures.unchanged c.args.b c.in_ok-b.b.value c.deref-2.result.now c.deref-2.ensures c.in_ok-b.ensures.value) why
