use Rattle.std.proofs.Common.{◌≡◌, length, arith}
use Rattle.fm_pres.specs.Tables.{parts_in}
use Rattle.fm_asked.proofs.AskedLogs.{logs_count}
use Rattle.fm_asked.proofs.asked_logs.log_row.Goals as goal

pub returns-clause-judged : goal.returns-clause-judged
returns-clause-judged c s g p w r =
    let count = logs_count (parts_in c.args.asked.now.table) c.args.asked.now.logs.items s.logs w.logs in
    let len = c.len-logs.ensures in
    let same : length s.logs ≡ c.len-logs.result = omega (arith, count, len, c.args.asked.now.logs.ok) in
    c.open_log.ensures.judged s g p w.parts r same
