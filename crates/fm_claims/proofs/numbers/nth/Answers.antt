use Rattle.std.proofs.Common.{refl}
use Rattle.fm_claims.proofs.Numbering.{nth_part, no_nth_part, nth_number}
use Rattle.fm_claims.proofs.numbers.nth.Goals as goal

pub returns-then-n-numbers-clause-part : goal.returns-then-n-numbers-clause-part
returns-then-n-numbers-clause-part c = λ ps. no_nth_part ps c.args.numbers.now c.args.n c.if-n-numbers.true

pub returns-clause-part : goal.returns-clause-part
returns-clause-part c = λ ps. nth_part ps c.args.numbers.now c.args.n _ c.if-n-numbers.false refl

pub returns-clause-there : goal.returns-clause-there
returns-clause-there c = λ ps a. nth_number ps c.args.numbers.now c.args.n c.if-n-numbers.false a
