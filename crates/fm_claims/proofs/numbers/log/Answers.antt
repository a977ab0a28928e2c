use Rattle.std.proofs.Common.{inl, inr, arith}
use Rattle.fm_claims.proofs.Numbering.{log_numbered, no_log_numbered}
use Rattle.fm_claims.proofs.numbers.log.Goals.{then-n-eq0-via-then-n-eq0, then-n-eq0-via-else-n-eq0+then-n-logs}
use Rattle.fm_claims.proofs.numbers.log.Goals as goal

pub returns-then-n-eq0-clause-log : goal.returns-then-n-eq0-clause-log
returns-then-n-eq0-clause-log c = λ ps. elim c.then-n-eq0.branch [
  | then-n-eq0-via-then-n-eq0 w ↦ no_log_numbered ps c.args.logs.now c.args.n (inl w.if-n-eq0.true)
  | then-n-eq0-via-else-n-eq0+then-n-logs w ↦ no_log_numbered ps c.args.logs.now c.args.n (inr w.if-n-logs.true)
]

pub returns-clause-log : goal.returns-clause-log
returns-clause-log c = λ ps. log_numbered ps c.args.logs.now c.args.n (omega arith) (omega arith)
