use Rattle.std.proofs.Common.{sym, arith}
use Rattle.fm_tuple.proofs.TupleEntries.{sum_divisor}
use Rattle.fm_mono.proofs.Packing.{degree_is, divides_padded}
use Rattle.fm_mono.proofs.mono.Mono.divides.Goals as goal

pub returns-then-self-b : goal.returns-then-self-b
returns-then-self-b c = (
  λ e. cc,
  λ d. absurd (omega (arith, c.if-self-b.true, sum_divisor _ _ d, degree_is _ _ c.self.invariant c.self.view_is, degree_is _ _ c.b.invariant c.b.view_is)),
)

pub returns : goal.returns
returns c =
    let padded = divides_padded _ _ _ _ c.self.invariant c.b.invariant c.self.view_is c.b.view_is (sym c.requires) in
    (λ all. padded.0 (c.divides_all.ensures.0 all), λ d. c.divides_all.ensures.1 (padded.1 d))
