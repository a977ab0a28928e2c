use Rattle.std.proofs.Common.{ap}
use Rattle.fm_report.specs.Parts as parts
use Rattle.fm_certify.proofs.SingleParts.{matrix_given}
use Rattle.fm_certify.proofs.operands.flip.Goals as goal

pub returns-clause-value : goal.returns-clause-value
returns-clause-value c = let m = c.args.m.now in ap parts.flip (matrix_given m.ring m c.tell_matrix.ensures)
