use Rattle.std.proofs.Common.{rules, ◌≡◌, Some, sym, ◌∙◌, subst}
use Rattle.fm_pres.specs.Nodes.{parts_of}
use Rattle.fm_pres.specs.Tables.{tree_of}
use Rattle.fm_pres.specs.Kept.{operands_of}
use Rattle.fm_pres.proofs.Values.{AreOutside, operands_outside}
use Rattle.fm_pres.proofs.evaluating.+evaluate.Goals as goal

pub returns-in_err-evaluate-clause-exponent : goal.returns-in_err-evaluate-clause-exponent
returns-in_err-evaluate-clause-exponent t c = λ why.
    let r = c.args.ring in
    let ps = parts_of c.args.nodes.now in
    let f = c.node.result.now.form in
    let s : operands_of f ≡ Some (c.in-Some.a, c.in-Some.b) = sym c.operands.ensures ∙ c.in-Some.is in
    rw c.node.ensures.part.is ((subst (AreOutside r ps (tree_of ps f)) s (operands_outside r ps f)).0 (c.in_err-evaluate.ensures.exponent (search rules)))

pub returns-in_err-evaluate-2-clause-exponent : goal.returns-in_err-evaluate-2-clause-exponent
returns-in_err-evaluate-2-clause-exponent t c = λ why.
    let r = c.args.ring in
    let ps = parts_of c.args.nodes.now in
    let f = c.node.result.now.form in
    let s : operands_of f ≡ Some (c.in-Some.a, c.in-Some.b) = sym c.operands.ensures ∙ c.in-Some.is in
    rw c.node.ensures.part.is ((subst (AreOutside r ps (tree_of ps f)) s (operands_outside r ps f)).1 (c.in_err-evaluate-2.ensures.exponent (search rules)))
