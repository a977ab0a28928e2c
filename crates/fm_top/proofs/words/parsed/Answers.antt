use Rattle.std.proofs.Common.{◌∙◌}
use Rattle.fm_top.proofs.CommandLine.{taken, matched, refused}
use Rattle.fm_top.proofs.words.parsed.Goals as goal

pub returns-in-Ok : goal.returns-in-Ok
returns-in-Ok c = (taken _ _ c.in_ok-command.ensures c.in-Ok.ensures.kinds, matched _ _ _ c.in_ok-command.ensures c.in-Ok.ensures.matches)

pub returns : goal.returns
returns c = refused _ _ c.in-Err.error c.in_ok-command.ensures c.in-Err.ensures.kinds (λ same. c.in_default.not-OutOfMemory (c.kind.ensures ∙ same))
