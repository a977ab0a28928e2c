use Rattle.std.proofs.Common.{rules, ◌≡◌, ◌∙◌, false, sym, subst}
use Rattle.fm_report.specs.Parts.{stack}
use Rattle.fm_parts.specs.Values.{is_within_bound}
use Rattle.fm_pres.specs.Kept.{IsValue}
use Rattle.fm_pres.specs.Tables.{TableValue, parts_in, part_at}
use Rattle.fm_conditions.proofs.Formed.{second_passes, upper_passes, lower_passes, part_moved}
use Rattle.fm_conditions.proofs.generating.product_below.Goals as goal

pub returns-in_err-c-clause-exponent : goal.returns-in_err-c-clause-exponent
returns-in_err-c-clause-exponent c = λ G v why.
    let t = c.args.table.now in
    let C = part_at (parts_in t) c.args.c in
    let X = part_at (parts_in t) c.args.x in
    second_passes t.ring G (stack C X) (upper_passes t.ring C X (c.in_err-c.ensures.exponent (search rules)))

pub returns-in_err-x-clause-exponent : goal.returns-in_err-x-clause-exponent
returns-in_err-x-clause-exponent c = λ G v why.
    let t = c.args.table.now in
    let C = part_at (parts_in t) c.args.c in
    let X = part_at (parts_in t) c.args.x in
    second_passes t.ring G (stack C X)
    (lower_passes t.ring C X (subst (λ (y : TableValue). is_within_bound y.ring (part_at (parts_in y) c.args.x) ≡ false) c.in_ok-c.ensures.unchanged (c.in_err-x.ensures.exponent (search rules))))

pub multiplied-requires-clause-ring : goal.multiplied-requires-clause-ring
multiplied-requires-clause-ring c =
    let t = c.args.table.now in
    let C = part_at (parts_in t) c.args.c in
    let X = part_at (parts_in t) c.args.x in
    let w = c.in_ok-under.ensures.value t.ring C X (subst (IsValue t.ring C) (sym c.deref.ensures) c.in_ok-c.ensures.value)
    (part_moved t c.value.new.self c.in_ok-c.ensures.unchanged c.args.x c.in_ok-x.x.value c.deref-2.result.now c.deref-2.ensures c.in_ok-x.ensures.value) in
    (subst (IsValue t.ring (stack C X)) (sym c.deref-3.ensures) w).ring ∙ sym c.requires.ring

pub multiplied-requires-clause-inner : goal.multiplied-requires-clause-inner
multiplied-requires-clause-inner c =
    let t = c.args.table.now in
    let C = part_at (parts_in t) c.args.c in
    let X = part_at (parts_in t) c.args.x in
    let w = c.in_ok-under.ensures.value t.ring C X (subst (IsValue t.ring C) (sym c.deref.ensures) c.in_ok-c.ensures.value)
    (part_moved t c.value.new.self c.in_ok-c.ensures.unchanged c.args.x c.in_ok-x.x.value c.deref-2.result.now c.deref-2.ensures c.in_ok-x.ensures.value) in
    (subst (IsValue t.ring (stack C X)) (sym c.deref-3.ensures) w).rows ∙ c.requires.inner

pub returns-clause-value : goal.returns-clause-value
returns-clause-value c = λ G v.
    let t = c.args.table.now in
    let C = part_at (parts_in t) c.args.c in
    let X = part_at (parts_in t) c.args.x in
    let w = c.in_ok-under.ensures.value t.ring C X (subst (IsValue t.ring C) (sym c.deref.ensures) c.in_ok-c.ensures.value)
    (part_moved t c.value.new.self c.in_ok-c.ensures.unchanged c.args.x c.in_ok-x.x.value c.deref-2.result.now c.deref-2.ensures c.in_ok-x.ensures.value) in
    c.multiplied.ensures.value t.ring G (stack C X) v (subst (IsValue t.ring (stack C X)) (sym c.deref-3.ensures) w)

pub returns-clause-exponent : goal.returns-clause-exponent
returns-clause-exponent c = λ G v why.
    let t = c.args.table.now in
    let C = part_at (parts_in t) c.args.c in
    let X = part_at (parts_in t) c.args.x in
    let w = c.in_ok-under.ensures.value t.ring C X (subst (IsValue t.ring C) (sym c.deref.ensures) c.in_ok-c.ensures.value)
    (part_moved t c.value.new.self c.in_ok-c.ensures.unchanged c.args.x c.in_ok-x.x.value c.deref-2.result.now c.deref-2.ensures c.in_ok-x.ensures.value) in
    c.multiplied.ensures.exponent t.ring G (stack C X) v (subst (IsValue t.ring (stack C X)) (sym c.deref-3.ensures) w) why
