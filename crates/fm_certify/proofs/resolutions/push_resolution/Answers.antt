use Rattle.fm_certify.proofs.SingleResolutions.{resolution_lines}
use Rattle.fm_certify.proofs.resolutions.push_resolution.Goals as goal

pub returns : goal.returns
returns c =
    resolution_lines c.args.resolution.now _ _ _ _ c.push_exacts.result c.first-first.result.now c.matrix.result.now c.next-next.result.now
    c.first-first.ensures.resolution c.first-first.ensures.same c.next-next.ensures.same c.matrix.ensures.same
    c.in_ok-push_matrix.ensures c.in_ok-push_differentials.ensures c.push_exacts.ensures
