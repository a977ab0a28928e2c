use Rattle.std.proofs.Common.{map, string_bytes}
use Rattle.fm_cert.proofs.PiecesWritten.{column_written}
use Rattle.fm_cert.proofs.polynomials.push_columns.Goals as goal

pub columns-preserved : goal.columns-preserved
columns-preserved c =
    column_written (map string_bytes c.args.names.now) _ _ _ _ _ _ _ _ c.in-Some.ensures.cases.0 c.deref.ensures.value c.in_ok-push_vector.ensures c.columns.invariant
