use Rattle.std.proofs.Common.{◌∙◌}
use Rattle.fm_cert.proofs.LinesWritten.{ideal_row}
use Rattle.fm_cert.proofs.heads.push_ideal.Goals as goal

pub returns : goal.returns
returns c = ideal_row _ _ _ _ _ _ (c.as_bytes.ensures.value ∙ c.as_str.ensures) c.as_slice.ensures c.in_ok-push_row.ensures
