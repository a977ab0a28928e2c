use Rattle.std.proofs.Common.{ℕ}
use Rattle.fm_report.specs.Parts.{beside, given}
use Rattle.fm_standard.specs.Writing.{beside_line, form_written}
use Rattle.fm_writer.specs.Writers.{HasNumbered, HasPart}
use Rattle.fm_writer.proofs.Claimed.{if_ok, joined}
use Rattle.fm_writer.proofs.operand.join_number.Goals as goal

pub returns : goal.returns
returns c =
    let w = c.args.writer.now in
    let one = c.matrix_number.new.writer in
    let two = c.matrix_number-2.new.writer in
    let new = c.beside.new.self in
    let m = given c.args.m.now.rows c.args.m.now.columns in
    let n = given c.args.n.now.rows c.args.n.now.columns in
    if_ok {P = HasNumbered two (form_written two.names (beside_line c.in_ok-a.a c.in_ok-b.b) two.shelf) new} {Q = HasPart w (beside m n) new} c.beside.result
    (λ k h. joined w one two new m n c.in_ok-a.a c.in_ok-b.b k c.in_ok-a.ensures c.in_ok-b.ensures h) c.beside.ensures
