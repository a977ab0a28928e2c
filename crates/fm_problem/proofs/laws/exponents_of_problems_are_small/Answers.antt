use Rattle.fm_problem.proofs.SmallExponents.{problem_within}
use Rattle.fm_problem.proofs.laws.exponents_of_problems_are_small.Goals as goal

pub returns : goal.returns
returns c = problem_within
