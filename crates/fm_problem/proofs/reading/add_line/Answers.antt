use Rattle.fm_problem.proofs.NamedStatements.{ideal_line_name}
use Rattle.fm_problem.proofs.reading.add_line.Goals as goal

pub add_ideal-requires-clause-name : goal.add_ideal-requires-clause-name
add_ideal-requires-clause-name c = let h = rw c.in-Ideal.is at c.in-Some.ensures in ideal_line_name c.args.line.now _ _ h
