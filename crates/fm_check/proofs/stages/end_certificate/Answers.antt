use Rattle.fm_check.proofs.StageRows.{not_done, numbered_done, other_done}
use Rattle.fm_check.proofs.stages.end_certificate.Goals as goal

pub returns-in_default : goal.returns-in_default
returns-in_default c = record { judged = λ p a s count tells stands. not_done s c.args.row.now stands.0 c.in_default.not-Done; stage = λ q. tt }

pub returns-then-number-count-clause-judged : goal.returns-then-number-count-clause-judged
returns-then-number-count-clause-judged c = λ p a s count tells stands.
    other_done p s a.query c.args.row.now c.in-Done.number c.args.count c.in-Done.is c.if-number-count.true count tells stands.0 stands.1

pub returns-clause-judged : goal.returns-clause-judged
returns-clause-judged c = λ p a s count tells stands.
    numbered_done p s a.query c.args.row.now c.in-Done.number c.args.count c.in-Done.is c.if-number-count.false count tells stands.0 stands.1
