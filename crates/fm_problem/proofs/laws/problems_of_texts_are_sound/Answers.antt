use Rattle.fm_problem.proofs.PrintedNames.{variables_are_names}
use Rattle.fm_problem.proofs.SoundProblems.{problem_sound, query_of_sound}
use Rattle.fm_problem.proofs.laws.problems_of_texts_are_sound.Goals as goal

pub returns-clause-problem : goal.returns-clause-problem
returns-clause-problem c = problem_sound

pub returns-clause-query : goal.returns-clause-query
returns-clause-query c = query_of_sound

pub returns-clause-names : goal.returns-clause-names
returns-clause-names c = variables_are_names
