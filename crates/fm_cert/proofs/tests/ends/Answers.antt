use Rattle.fm_cert.proofs.tests.ends.Goals as goal

pub push-requires-clause-over : goal.push-requires-clause-over
push-requires-clause-over c = c.requires c.in_ok-problem.problem.ring.vars
