use Rattle.fm_groebner.proofs.Examples.{worked_run, worked_complete}
use Rattle.fm_groebner.proofs.laws.examples.a_worked_log_is_complete.Goals as goal

pub returns-clause-run : goal.returns-clause-run
returns-clause-run c = worked_run

pub returns-clause-complete : goal.returns-clause-complete
returns-clause-complete c = worked_complete
