use Rattle.fm_check.specs.Standings.{parts_of}
use Rattle.fm_check.proofs.LogRows.{is_closed, is_replaying}
use Rattle.fm_check.proofs.certificates.row_under_answer.Goals as goal

pub on_log-requires : goal.on_log-requires
on_log-requires c = record {
  replaying = is_replaying c.args.problem.now.ring (parts_of c.args.asked.now) c.args.certificate.now.log c.is_some-is_open.result c.is_some-is_open.ensures c.if-is_open.true c.requires.certificate.log;
}

pub certificate_row-requires-clause-log : goal.certificate_row-requires-clause-log
certificate_row-requires-clause-log c = is_closed c.args.certificate.now.log c.is_some-is_open.result c.is_some-is_open.ensures c.if-is_open.false

pub returns-then-is_open-clause-leads : goal.returns-then-is_open-clause-leads
returns-then-is_open-clause-leads c = λ s says version stands. c.on_log.ensures.leads c.args.problem.now s c.requires.asked c.requires.certificate says version stands

pub returns-clause-leads : goal.returns-clause-leads
returns-clause-leads c = λ s says version stands. c.certificate_row.ensures.leads s says stands
