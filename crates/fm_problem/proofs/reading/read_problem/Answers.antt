use Rattle.fm_problem.proofs.SoundProblems.{problem_sound}
use Rattle.fm_problem.proofs.reading.read_problem.Goals as goal

pub returns-in-Ok-clause-sound : goal.returns-in-Ok-clause-sound
returns-in-Ok-clause-sound c = problem_sound c.args.text.now _ c.in-Ok.ensures
