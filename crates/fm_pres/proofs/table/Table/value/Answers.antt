use Rattle.std.proofs.Common.{rules, ◌≡◌, true, false, ◌≤◌, List, length, refl, sym, subst}
use Rattle.fm_mat.specs.Matrices.{MatrixValue}
use Rattle.fm_parts.specs.Replays.{is_number}
use Rattle.fm_parts.specs.Values.{is_within_bound}
use Rattle.fm_pres.specs.Tables.{part_at, parts_in}
use Rattle.fm_pres.specs.Nodes.{parts_of}
use Rattle.fm_pres.specs.Kept.{AreValues, IsValue}
use Rattle.fm_pres.specs.declared.node.Node.{Node}
use Rattle.fm_pres.proofs.Tables.{is_number_bounds}
use Rattle.fm_pres.proofs.Nodes.{seen, carried}
use Rattle.fm_pres.proofs.table.Table.value.Goals as goal

pub invariant_of-self : goal.invariant_of-self
invariant_of-self c =
    let ns = c.self.inside.nodes.items in
    let r = c.self.inside.ring in
    let high = subst (λ ps. c.args.k ≤ length ps) (seen c.args.self.now r ns ns c.self.view_is refl) (is_number_bounds (parts_in c.args.self.now) c.args.k c.requires).1 in
    (c.self.invariant.0, c.self.invariant.1, c.make_room.ensures.values r (parts_of ns) high c.self.invariant.2, c.self.invariant.3)

pub evaluate-requires-clause-number : goal.evaluate-requires-clause-number
evaluate-requires-clause-number c =
    subst (λ ps. is_number ps c.args.k ≡ true) (seen c.args.self.now c.self.inside.ring c.self.inside.nodes.items c.deref.result.now c.self.view_is c.deref.ensures.value) c.requires

pub evaluate-requires-clause-values : goal.evaluate-requires-clause-values
evaluate-requires-clause-values c =
    let ns = c.self.inside.nodes.items in
    let r = c.self.inside.ring in
    let high = subst (λ ps. c.args.k ≤ length ps) (seen c.args.self.now r ns ns c.self.view_is refl) (is_number_bounds (parts_in c.args.self.now) c.args.k c.requires).1 in
    subst (λ (ms : List Node). AreValues r (parts_of ms) c.make_room.new.values.items) (sym c.deref.ensures.value)
    (c.make_room.ensures.values r (parts_of ns) high c.self.invariant.2)

pub returns-in_err-evaluate-clause-exponent : goal.returns-in_err-evaluate-clause-exponent
returns-in_err-evaluate-clause-exponent c = λ why.
    carried (λ r ps. is_within_bound r (part_at ps c.args.k) ≡ false) c.args.self.now c.self.inside.ring c.self.inside.nodes.items c.deref.result.now c.self.view_is
    c.deref.ensures.value (c.in_err-evaluate.ensures.exponent (search rules))

pub returns-clause-value : goal.returns-clause-value
returns-clause-value c =
    carried (λ r ps. IsValue r (part_at ps c.args.k) c.in_ok-value.value.value) c.args.self.now c.self.inside.ring c.self.inside.nodes.items c.deref.result.now c.self.view_is
    c.deref.ensures.value
    (subst (λ (m : MatrixValue). IsValue c.self.inside.ring (part_at (parts_of c.deref.result.now) c.args.k) m) (sym c.in_ok-value.ensures.cases)
    (c.kept.ensures c.self.inside.ring (parts_of c.deref.result.now)
    (subst (AreValues c.self.inside.ring (parts_of c.deref.result.now)) (sym c.deref-2.ensures.value) c.in_ok-evaluate.ensures.values)))
