use Rattle.fm_mono.proofs.Bounds.{bounded_at}
use Rattle.fm_mono.proofs.mono.Mono.exponent.Goals as goal

pub returns-clause-within : goal.returns-clause-within
returns-clause-within c = bounded_at c.self.inside.exponents c.self.invariant.within c.from.result
