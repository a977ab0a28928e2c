use Rattle.std.proofs.Common.{ap}
use Rattle.fm_places.specs.Meanings.{goal_of, place_of}
use Rattle.fm_report.specs.Sheets.{ring_in}
use Rattle.fm_check.specs.Standings.{parts_of}
use Rattle.fm_check.proofs.PartRows.{log_begins}
use Rattle.fm_check.proofs.certificates.begin_log.Goals as goal

pub returns-clause-leads : goal.returns-clause-leads
returns-clause-leads c = λ s says.
    let q = c.args.problem.now in
    let a = c.args.asked.now in
    let k = c.args.certificate.now in
    let g = goal_of q (parts_of a) k.goal in
    let p = place_of q.ring (parts_of a) k.goal.aim k.place in
    log_begins q a c.log_row.new.asked k s c.in_ok-log.log _ c.log_row.ensures.unchanged says c.in_ok-log.ensures.fresh
    (c.in_ok-log.ensures.judged s g p says.asked (ap ring_in says.head))
