use Rattle.fm_parts.proofs.Wholes.{graph_completed}
use Rattle.fm_parts.proofs.laws.whole_logs_complete_graphs.Goals as goal

pub returns : goal.returns
returns c = graph_completed
