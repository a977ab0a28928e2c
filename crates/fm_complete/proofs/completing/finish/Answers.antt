use Rattle.fm_run.specs.Runs.{Budget, halt_of}
use Rattle.fm_run.specs.Turns.{repeated}
use Rattle.fm_run.proofs.Calls.{turn_halts}
use Rattle.fm_complete.specs.Bases.{completion_value}
use Rattle.fm_complete.specs.Completions as runs
use Rattle.fm_complete.proofs.CompletionSpending.{next_spends}
use Rattle.fm_complete.proofs.completing.finish.Goals as goal

pub returns-in-Err-clause-follows : goal.returns-in-Err-clause-follows
returns-in-Err-clause-follows c =
    let r = c.args.ring in
    turn_halts Budget (runs.next_pair r) (next_spends r) c.args.work.now c.next_pair.new.work (repeated Budget (runs.next_pair r) (completion_value c.args.c.now) c.args.work.now)
    (completion_value c.pairs.c) c.pairs.work c.pairs.invariant.left c.pairs.invariant.spent (halt_of c.in-Err.stop) c.in-Err.ensures.follows
