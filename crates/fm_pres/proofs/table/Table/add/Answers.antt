use Rattle.std.proofs.Common.{◌≡◌, ◌+◌, ◌<◌, sym, subst, ap, length, arith}
use Rattle.fm_pres.specs.Tables.{TableValue, IsOver}
use Rattle.fm_pres.specs.Nodes.{parts_of}
use Rattle.fm_pres.specs.declared.node.Node.{Node}
use Rattle.fm_pres.proofs.Tables.{refused, refused_parts, taken}
use Rattle.fm_pres.proofs.Nodes.{seen, parts_length, invariant_push, parts_pushed}
use Rattle.fm_pres.proofs.table.Table.add.Goals as goal

pub returns-in-Err-clause-answer : goal.returns-in-Err-clause-answer
returns-in-Err-clause-answer c =
    rw (seen c.args.self.now c.self.inside.ring c.self.inside.nodes.items c.deref.result.now c.self.view_is c.deref.ensures.value)
    (refused (parts_of c.deref.result.now) c.args.form c.in-Err.fault c.in-Err.ensures)

pub returns-in-Err-clause-parts : goal.returns-in-Err-clause-parts
returns-in-Err-clause-parts c =
    rw (seen c.args.self.now c.self.inside.ring c.self.inside.nodes.items c.deref.result.now c.self.view_is c.deref.ensures.value)
    (refused_parts (parts_of c.deref.result.now) c.args.form c.in-Err.fault c.in-Err.ensures)

pub invariant_of-self-2 : goal.invariant_of-self-2
invariant_of-self-2 c =
    let n : Node = record { form = c.args.form; shape = c.in-Ok.measures.0; depth = c.in-Ok.measures.1 } in
    let v = c.self.invariant in
    let few : length c.self.inside.nodes.items + 1 < 4294967296 = omega (arith, c.if-len.false, c.len.ensures, c.self.inside.nodes.ok) in
    invariant_push c.self.inside.ring c.self.inside.nodes.items c.deref.result.now c.push.new.self.items n c.self.inside.values.items
    c.deref.ensures.value c.in_ok-push.ensures.items v.0 v.1 v.2 few
    (subst (λ r. IsOver r c.args.form) (sym (ap (λ (t : TableValue). t.ring) c.self.view_is)) c.requires) c.in-Ok.ensures.0 c.in-Ok.ensures.1

pub returns-clause-answer : goal.returns-clause-answer
returns-clause-answer c =
    let long = parts_length c.deref.result.now in
    let same : length c.deref.result.now ≡ length c.self.inside.nodes.items = ap length c.deref.ensures.value in
    rw (seen c.args.self.now c.self.inside.ring c.self.inside.nodes.items c.deref.result.now c.self.view_is c.deref.ensures.value)
    (taken (parts_of c.deref.result.now) c.args.form (c.len-2.result + 1) c.in-Ok.ensures.0 (omega (arith, long, same, c.len-2.ensures, c.self.inside.nodes.ok)))

pub returns-clause-parts : goal.returns-clause-parts
returns-clause-parts c =
    let n : Node = record { form = c.args.form; shape = c.in-Ok.measures.0; depth = c.in-Ok.measures.1 } in
    parts_pushed c.args.self.now c.self.inside.ring c.self.inside.nodes.items c.deref.result.now c.push.new.self.items n c.self.view_is
    c.deref.ensures.value c.in_ok-push.ensures.items c.in-Ok.ensures.0
