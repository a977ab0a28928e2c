use Rattle.fm_run.specs.Runs.{halt_of}
use Rattle.fm_run.proofs.Calls.{row_goes, row_stops}
use Rattle.fm_run.proofs.laws.calls_in_a_row_follow_their_runs.Goals as goal

pub returns-clause-goes : goal.returns-clause-goes
returns-clause-goes g c = λ view view' run f old mid new x answer spends first second. row_goes run f old new (view x) mid first spends view' halt_of answer second

pub returns-clause-stops : goal.returns-clause-stops
returns-clause-stops g c = λ view view' run f old new stop spends first. row_stops run f old new view view' halt_of stop spends first
