use Rattle.fm_limit.proofs.DegreeZero.{first_killed, first_zero, first_yes, first_never}
use Rattle.fm_limit.proofs.laws.examples.classes_in_degree_zero.Goals as goal

pub returns-clause-moves : goal.returns-clause-moves
returns-clause-moves c = first_killed

pub returns-clause-limit : goal.returns-clause-limit
returns-clause-limit c = first_zero

pub returns-clause-yes : goal.returns-clause-yes
returns-clause-yes c = first_yes

pub returns-clause-never : goal.returns-clause-never
returns-clause-never c = first_never
