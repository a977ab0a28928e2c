use Rattle.std.proofs.Common.{arith}
use Rattle.fm_complete.specs.Bases.{basis_value}
use Rattle.fm_complete.specs.Completions.{completed}
use Rattle.fm_complete.specs.Divisions.{terms_of}
use Rattle.fm_run.proofs.Calls.{wanted}
use Rattle.fm_complete.proofs.CompletionSpending.{completed_spends}
use Rattle.fm_complete.proofs.borrowing.complete_all.Goals as goal

pub returns-in_err-all-clause-follows : goal.returns-in_err-all-clause-follows
returns-in_err-all-clause-follows c =
    let units = c.args.work.now in
    let inputs = terms_of c.args.inputs.now in
    wanted basis_value c.from_residual.result units units (completed c.args.ring inputs units) c.from_residual.ensures (omega arith) (completed_spends c.args.ring inputs units)
