use Rattle.fm_cert.proofs.PiecesWritten.{row_written}
use Rattle.fm_cert.proofs.printing.push_row.Goals as goal

pub returns : goal.returns
returns c = row_written _ _ _ _ _ _ c.in_ok-extend_from_slice.ensures.items c.in_ok-push_pieces.ensures c.in_ok-push.ensures.items
