use Rattle.fm_mono.proofs.Packing.{within_is}
use Rattle.fm_mono.proofs.mono.Mono.vars.Goals as goal

pub returns-clause-within : goal.returns-clause-within
returns-clause-within c = within_is _ _ c.self.invariant c.self.view_is
