use Rattle.fm_cert.proofs.LinesWritten.{head_written}
use Rattle.fm_cert.proofs.heads.push_head.Goals as goal

pub returns : goal.returns
returns c =
    head_written c.args.version c.args.problem.now _ _ _ _ _ _ c.order_word.ensures c.in_ok-push_version.ensures c.in_ok-push_ring.ensures c.in_ok-push_row.ensures
    c.in_ok-push_ideals.ensures
