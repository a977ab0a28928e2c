use Rattle.std.proofs.Common.{ℕ, IfOk, sym, subst}
use Rattle.fm_report.specs.Parts.{beside}
use Rattle.fm_standard.specs.Writing.{beside_line, form_written}
use Rattle.fm_writer.specs.Claims.{given_of, operand_part, whole_part}
use Rattle.fm_writer.specs.Writers.{HasNumbered, HasPart}
use Rattle.fm_writer.specs.declared.operand.Whole.{Whole}
use Rattle.fm_writer.proofs.Claimed.{if_ok, joined}
use Rattle.fm_writer.proofs.operand.whole_number.Goals as goal

pub returns-in_ok-b-in-Beside : goal.returns-in_ok-b-in-Beside
returns-in_ok-b-in-Beside c =
    let w = c.args.writer.now in
    let one = c.matrix_number.new.writer in
    let two = c.operand_number-in-Beside.new.writer in
    let new = c.beside.new.self in
    let a = c.in_ok-a-in-Beside.a in
    let b = c.in_ok-b-in-Beside.b in
    let m = given_of c.in-Beside.m.now in
    let o = operand_part c.in-Beside.operand in
    subst (λ (x : Whole). IfOk c.beside.result (HasPart w (whole_part x) new)) (sym c.in-Beside.is)
    (if_ok {P = HasNumbered two (form_written two.names (beside_line a b) two.shelf) new} {Q = HasPart w (beside m o) new} c.beside.result
    (λ k h. joined w one two new m o a b k c.in_ok-a-in-Beside.ensures c.in_ok-b-in-Beside.ensures h) c.beside.ensures)
