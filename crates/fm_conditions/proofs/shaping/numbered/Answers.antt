use Rattle.std.proofs.Common.{◌-◌, arith}
use Rattle.fm_pres.proofs.Tables.{is_number_bounds}
use Rattle.fm_conditions.proofs.Logs.{log_kept}
use Rattle.fm_conditions.proofs.shaping.numbered.Goals as goal

pub returns-clause-kept : goal.returns-clause-kept
returns-clause-kept c = λ r ps a.
    let b = is_number_bounds c.args.logs.now c.args.k c.requires in
    log_kept r ps c.args.logs.now (c.args.k - 1) c.index-logs-k.result a (omega (arith, b.0, b.1)) c.index-logs-k.is
