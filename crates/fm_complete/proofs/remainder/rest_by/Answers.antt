use Rattle.fm_run.specs.Runs.{ended_with}
use Rattle.fm_run.proofs.Calls.{wanted}
use Rattle.fm_complete.specs.Divisions.{terms_of}
use Rattle.fm_complete.specs.Reductions.{reduced}
use Rattle.fm_complete.specs.Remainders.{remainder_value, remainder_of}
use Rattle.fm_complete.proofs.Spending.{reduced_left}
use Rattle.fm_complete.proofs.remainder.rest_by.Goals as goal

pub returns-in_err-by-clause-follows : goal.returns-in_err-by-clause-follows
returns-in_err-by-clause-follows c =
    let v = c.args.v.now in
    let ms = terms_of c.args.basis.now in
    let h = reduced_left v.ring ms v.terms c.args.work.now c.reduce.new.work _ c.in_ok-reduction.ensures.follows in
    wanted remainder_value c.from_residual-in_err-by.result c.args.work.now c.reduce.new.work (ended_with remainder_of (reduced v.ring ms c.args.work.now v.terms)) c.from_residual-in_err-by.ensures h.0 h.1
