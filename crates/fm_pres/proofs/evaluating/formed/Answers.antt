use Rattle.std.proofs.Common.{rules, ◌≡◌, ◌-◌, true, length, map, sym, ap, ◌∙◌, subst}
use Rattle.std.specs.List.{list_all}
use Rattle.std.proofs.lemmas.Bool.{and_parts}
use Rattle.fm_mat.specs.Columns.{AreNumbers}
use Rattle.fm_mat.specs.Matrices.{MatrixValue}
use Rattle.fm_report.specs.Parts.{given, pick}
use Rattle.fm_parts.specs.Replays.{is_number}
use Rattle.fm_parts.specs.Shapes.{columns_of}
use Rattle.fm_pres.specs.Tables.{part_at, tree_of, is_column, refers, IsOver}
use Rattle.fm_pres.specs.Nodes.{parts_of}
use Rattle.fm_pres.specs.Kept.{IsValue}
use Rattle.fm_pres.proofs.Nodes.{over_at}
use Rattle.fm_pres.proofs.Values.{are_numbers, given_value, twist_value, twist_outside, flip_value, beside_value, stack_value, times_value, times_outside, pick_value}
use Rattle.fm_pres.proofs.evaluating.formed.Goals as goal

pub returns-in_err-value-in-Twist-clause-exponent : goal.returns-in_err-value-in-Twist-clause-exponent
returns-in_err-value-in-Twist-clause-exponent c = λ why.
    let r = c.args.ring in
    let ps = parts_of c.args.nodes.now in
    let at = c.node.ensures.part.is ∙ ap (tree_of ps) c.in-Twist.is in
    let x = c.operand.ensures r ps c.requires.values in
    rw at (twist_outside r (part_at ps c.in-Twist.part) c.in-Twist.power c.operand.result.now x (c.in_err-value-in-Twist.ensures.exponent r x.ring (search rules)))

pub returns-in_err-value-in-Times-clause-exponent : goal.returns-in_err-value-in-Times-clause-exponent
returns-in_err-value-in-Times-clause-exponent c = λ why.
    let r = c.args.ring in
    let ps = parts_of c.args.nodes.now in
    let at = c.node.ensures.part.is ∙ ap (tree_of ps) c.in-Times.is in
    let x = c.operand-in-Times.ensures r ps c.requires.values in
    let y = c.operand-in-Times-2.ensures r ps c.requires.values in
    rw at (times_outside r (part_at ps c.in-Times.a) (part_at ps c.in-Times.b) c.operand-in-Times.result.now c.operand-in-Times-2.result.now x y (c.in_err-value-in-Times.ensures.exponent r x.ring (search rules)))

pub pick-requires-clause-numbers : goal.pick-requires-clause-numbers
pick-requires-clause-numbers c =
    let ps = parts_of c.args.nodes.now in
    let a = c.operand-in-Pick.result.now in
    let x = c.operand-in-Pick.ensures c.args.ring ps c.requires.values in
    let back : refers ps c.node.result.now.form ≡ true = c.node.ensures.part.refers_back in
    let f = rw c.in-Pick.is at back in
    let t = and_parts (is_number ps c.in-Pick.part) (list_all (is_column (columns_of (part_at ps c.in-Pick.part))) c.in-Pick.columns.items) f in
    subst (λ js. AreNumbers (length a.columns) js) (sym c.deref.ensures.value)
    (subst (λ n. AreNumbers n c.in-Pick.columns.items) (sym x.columns) (are_numbers (columns_of (part_at ps c.in-Pick.part)) c.in-Pick.columns.items t.1))

pub returns-in_ok-value-in-Given-clause-value : goal.returns-in_ok-value-in-Given-clause-value
returns-in_ok-value-in-Given-clause-value c =
    let r = c.args.ring in
    let ps = parts_of c.args.nodes.now in
    let at = c.node.ensures.part.is ∙ ap (tree_of ps) c.in-Given.is in
    let m = c.in-Given.m in
    let o = subst (IsOver r) c.in-Given.is (over_at r c.args.nodes.now (c.args.k - 1) c.node.result.now c.requires.over c.node.ensures.at) in
    rw at (subst (λ (v : MatrixValue). IsValue r (given m.rows m.columns) v) (sym c.in_ok-value-in-Given.ensures) (given_value r m o))

pub returns-in_ok-value-in-Twist-clause-value : goal.returns-in_ok-value-in-Twist-clause-value
returns-in_ok-value-in-Twist-clause-value c =
    let r = c.args.ring in
    let ps = parts_of c.args.nodes.now in
    let at = c.node.ensures.part.is ∙ ap (tree_of ps) c.in-Twist.is in
    let x = c.operand.ensures r ps c.requires.values in
    let e = c.in_ok-value-in-Twist.ensures in
    rw at (twist_value r (part_at ps c.in-Twist.part) c.in-Twist.power c.operand.result.now c.in_ok-value-in-Twist.value x e.ring e.rows e.count (e.value r x.ring) (e.fits r x.ring))

pub returns-in_ok-value-in-Flip-clause-value : goal.returns-in_ok-value-in-Flip-clause-value
returns-in_ok-value-in-Flip-clause-value c =
    let r = c.args.ring in
    let ps = parts_of c.args.nodes.now in
    let at = c.node.ensures.part.is ∙ ap (tree_of ps) c.in-Flip.is in
    let x = c.operand-in-Flip.ensures r ps c.requires.values in
    let e = c.in_ok-value-in-Flip.ensures in
    rw at (flip_value r (part_at ps c.in-Flip.a) c.operand-in-Flip.result.now c.in_ok-value-in-Flip.value x e.ring e.rows e.count (e.value r x.ring))

pub returns-in_ok-value-in-Beside-clause-value : goal.returns-in_ok-value-in-Beside-clause-value
returns-in_ok-value-in-Beside-clause-value c =
    let r = c.args.ring in
    let ps = parts_of c.args.nodes.now in
    let at = c.node.ensures.part.is ∙ ap (tree_of ps) c.in-Beside.is in
    let x = c.operand-in-Beside.ensures r ps c.requires.values in
    let y = c.operand-in-Beside-2.ensures r ps c.requires.values in
    let e = c.in_ok-value-in-Beside.ensures in
    rw at (beside_value r (part_at ps c.in-Beside.a) (part_at ps c.in-Beside.b) c.operand-in-Beside.result.now c.operand-in-Beside-2.result.now c.in_ok-value-in-Beside.value x y e.ring e.rows e.count (e.value r x.ring))

pub returns-in_ok-value-in-Stack-clause-value : goal.returns-in_ok-value-in-Stack-clause-value
returns-in_ok-value-in-Stack-clause-value c =
    let r = c.args.ring in
    let ps = parts_of c.args.nodes.now in
    let at = c.node.ensures.part.is ∙ ap (tree_of ps) c.in-Stack.is in
    let x = c.operand-in-Stack.ensures r ps c.requires.values in
    let y = c.operand-in-Stack-2.ensures r ps c.requires.values in
    let e = c.in_ok-value-in-Stack.ensures in
    rw at (stack_value r (part_at ps c.in-Stack.a) (part_at ps c.in-Stack.b) c.operand-in-Stack.result.now c.operand-in-Stack-2.result.now c.in_ok-value-in-Stack.value x y e.ring e.rows e.count (e.value r x.ring))

pub returns-in_ok-value-in-Times-clause-value : goal.returns-in_ok-value-in-Times-clause-value
returns-in_ok-value-in-Times-clause-value c =
    let r = c.args.ring in
    let ps = parts_of c.args.nodes.now in
    let at = c.node.ensures.part.is ∙ ap (tree_of ps) c.in-Times.is in
    let x = c.operand-in-Times.ensures r ps c.requires.values in
    let y = c.operand-in-Times-2.ensures r ps c.requires.values in
    let e = c.in_ok-value-in-Times.ensures in
    rw at (times_value r (part_at ps c.in-Times.a) (part_at ps c.in-Times.b) c.operand-in-Times.result.now c.operand-in-Times-2.result.now c.in_ok-value-in-Times.value x y e.ring e.rows e.count (e.value r x.ring) (e.fits r x.ring))

pub returns-in_ok-value-in-Pick-clause-value : goal.returns-in_ok-value-in-Pick-clause-value
returns-in_ok-value-in-Pick-clause-value c =
    let r = c.args.ring in
    let ps = parts_of c.args.nodes.now in
    let at = c.node.ensures.part.is ∙ ap (tree_of ps) c.in-Pick.is in
    let x = c.operand-in-Pick.ensures r ps c.requires.values in
    let e = c.in_ok-value-in-Pick.ensures in
    let m = c.in_ok-value-in-Pick.value in
    let A = part_at ps c.in-Pick.part in
    let v = pick_value r A c.deref.result.now c.operand-in-Pick.result.now m x e.ring e.rows e.count (e.value r x.ring) in
    rw at (subst (λ js. IsValue r (pick A (map (λ j. j - 1) js)) m) c.deref.ensures.value v)
