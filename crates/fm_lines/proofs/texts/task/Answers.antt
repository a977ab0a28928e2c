use Rattle.fm_lines.proofs.PartsLeft.{task_is}
use Rattle.fm_lines.proofs.texts.task.Goals as goal

pub returns : goal.returns
returns c = task_is c.args.words.rest
