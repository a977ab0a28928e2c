use Rattle.std.proofs.Common.{ap, refl}
use Rattle.fm_report.specs.Parts.{Part}
use Rattle.fm_standard.specs.Writing.{part_claim}
use Rattle.fm_writer.specs.Kinds.{named_line}
use Rattle.fm_certify.proofs.Appended.{claim_appended}
use Rattle.fm_certify.proofs.SingleParts.{columns_given}
use Rattle.fm_certify.proofs.appending.push_columns.Goals as goal

pub returns : goal.returns
returns c r over =
    claim_appended r.vars _ _ _ _ c.in_ok-push.ensures.items (r, refl, over)
    (ap (λ (a : Part). part_claim a (named_line c.args.kind)) (columns_given r c.args.rows c.args.columns.now (c.tell_columns.ensures r c.args.rows over)))
