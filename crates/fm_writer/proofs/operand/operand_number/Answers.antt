use Rattle.std.proofs.Common.{ℕ, IfOk, sym, subst}
use Rattle.fm_report.specs.Parts.{beside, flip, given, twist}
use Rattle.fm_standard.specs.Writing.{flip_line, form_written, twist_line}
use Rattle.fm_writer.specs.Claims.{given_of, operand_part}
use Rattle.fm_writer.specs.Writers.{HasNumbered, HasPart}
use Rattle.fm_writer.specs.declared.operand.Operand.{Operand}
use Rattle.fm_writer.proofs.Claimed.{flipped, if_ok, twisted}
use Rattle.fm_writer.proofs.operand.operand_number.Goals as goal

pub returns-in_ok-a-in-Flip : goal.returns-in_ok-a-in-Flip
returns-in_ok-a-in-Flip c =
    let w = c.args.writer.now in
    let one = c.matrix_number-in-Flip.new.writer in
    let new = c.flip.new.self in
    let a = c.in_ok-a-in-Flip.a in
    subst (λ (o : Operand). IfOk c.flip.result (HasPart w (operand_part o) new)) (sym c.in-Flip.is)
    (if_ok {P = HasNumbered one (form_written one.names (flip_line a) one.shelf) new} {Q = HasPart w (flip (given_of c.in-Flip.m.now)) new} c.flip.result
    (λ k h. flipped w one new (given_of c.in-Flip.m.now) a k c.in_ok-a-in-Flip.ensures h) c.flip.ensures)

pub returns-in_ok-a-in-Twist : goal.returns-in_ok-a-in-Twist
returns-in_ok-a-in-Twist c =
    let w = c.args.writer.now in
    let one = c.matrix_number-in-Twist.new.writer in
    let new = c.twist.new.self in
    let a = c.in_ok-a-in-Twist.a in
    subst (λ (o : Operand). IfOk c.twist.result (HasPart w (operand_part o) new)) (sym c.in-Twist.is)
    (if_ok {P = HasNumbered one (form_written one.names (twist_line a 1) one.shelf) new} {Q = HasPart w (twist (given_of c.in-Twist.m.now) 1) new} c.twist.result
    (λ k h. twisted w one new (given_of c.in-Twist.m.now) 1 a k c.in_ok-a-in-Twist.ensures h) c.twist.ensures)

pub returns-in_ok-a-in-TwistOfJoin : goal.returns-in_ok-a-in-TwistOfJoin
returns-in_ok-a-in-TwistOfJoin c =
    let w = c.args.writer.now in
    let one = c.join_number-in-TwistOfJoin.new.writer in
    let new = c.twist-in-TwistOfJoin.new.self in
    let a = c.in_ok-a-in-TwistOfJoin.a in
    let both = beside (given_of c.in-TwistOfJoin.m.now) (given_of c.in-TwistOfJoin.n.now) in
    subst (λ (o : Operand). IfOk c.twist-in-TwistOfJoin.result (HasPart w (operand_part o) new)) (sym c.in-TwistOfJoin.is)
    (if_ok {P = HasNumbered one (form_written one.names (twist_line a 1) one.shelf) new} {Q = HasPart w (twist both 1) new} c.twist-in-TwistOfJoin.result
    (λ k h. twisted w one new both 1 a k c.in_ok-a-in-TwistOfJoin.ensures h) c.twist-in-TwistOfJoin.ensures)
