use Rattle.std.proofs.Common.{length, sym, ap, arith}
use Rattle.fm_problem.proofs.NamedStatements.{ring_line_names}
use Rattle.fm_problem.proofs.NamesRead.{ring_counted}
use Rattle.fm_problem.proofs.reading.read_ring.Goals as goal

pub overflow_cast-ring : goal.overflow_cast-ring
overflow_cast-ring c =
    let h = rw c.in-Some-Ring.field-0-is at c.in-Some-Ring.ensures in
    let names = ring_line_names c.args.line.now _ _ h in
    let count = ring_counted _ _ names.1 c.in_ok-vars.ensures in omega (arith, count.1, c.len.ensures)

pub returns-clause-bounded : goal.returns-clause-bounded
returns-clause-bounded c =
    let h = rw c.in-Some-Ring.field-0-is at c.in-Some-Ring.ensures in
    let names = ring_line_names c.args.line.now _ _ h in
    let count = ring_counted _ _ names.1 c.in_ok-vars.ensures in
    record {
      named = sym c.len.ensures;
      some = omega (arith, count.0, c.len.ensures);
      few = omega (arith, count.1, c.len.ensures);
      few_ideals = let none = ap length c.new.ensures in omega (arith, none);
    }
