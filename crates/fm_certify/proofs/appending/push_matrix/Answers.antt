use Rattle.std.proofs.Common.{ap}
use Rattle.fm_report.specs.Parts.{Part}
use Rattle.fm_standard.specs.Writing.{part_claim}
use Rattle.fm_writer.specs.Kinds.{named_line}
use Rattle.fm_certify.proofs.Appended.{claim_appended}
use Rattle.fm_certify.proofs.appending.push_matrix.Goals as goal

pub returns : goal.returns
returns c =
    claim_appended c.args.m.now.ring.vars _ _ _ _ c.in_ok-push.ensures.items c.matrix.ensures.over
    (ap (λ (a : Part). part_claim a (named_line c.args.kind)) c.matrix.ensures.value)
