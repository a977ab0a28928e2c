use Rattle.fm_problem.proofs.tests.problem_of.Goals as goal

pub returns : goal.returns
returns c = c.in_ok-problem.ensures.sound.bounded
