use Rattle.std.proofs.Common.{sym, ◌∙◌}
use Rattle.fm_mono.proofs.Words.{packed_first}
use Rattle.fm_mono.proofs.mono.Mono.compare_first.Goals as goal

pub returns : goal.returns
returns c = c.compare_first.ensures ∙ packed_first c.self.inside c.b.inside _ _ c.self.invariant c.b.invariant c.self.view_is c.b.view_is (sym c.requires)
