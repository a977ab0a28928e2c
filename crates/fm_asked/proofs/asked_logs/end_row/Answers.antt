use Rattle.fm_pres.specs.Tables.{parts_in}
use Rattle.fm_asked.proofs.AskedLogs.{asked_more}
use Rattle.fm_asked.proofs.asked_logs.end_row.Goals as goal

pub returns-in_ok-push-in-Some-clause-asked : goal.returns-in_ok-push-in-Some-clause-asked
returns-in_ok-push-in-Some-clause-asked c r h w =
    asked_more r c.args.asked.now c.in-Some.kept c.push.new.self h c.in_ok-push-in-Some.ensures.items (c.in-Some.ensures.kept r (parts_in c.args.asked.now.table) w)
