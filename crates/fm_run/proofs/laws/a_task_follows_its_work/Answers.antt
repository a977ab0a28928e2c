use Rattle.fm_run.proofs.Calls.{task_follows}
use Rattle.fm_run.proofs.laws.a_task_follows_its_work.Goals as goal

pub returns : goal.returns
returns g c = λ view task work old new answer h. task_follows view task old new work answer h
