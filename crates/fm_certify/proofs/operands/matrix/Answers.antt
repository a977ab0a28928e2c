use Rattle.fm_certify.proofs.SingleParts.{matrix_given}
use Rattle.fm_certify.proofs.operands.matrix.Goals as goal

pub returns-clause-value : goal.returns-clause-value
returns-clause-value c = let m = c.args.m.now in matrix_given m.ring m c.tell_matrix.ensures
