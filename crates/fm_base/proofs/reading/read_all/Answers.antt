use Rattle.std.proofs.Common.{ℕ, arith, length-append, length-take}
use Rattle.std.proofs.KnownBytes.{Consumes-trans}
use Rattle.fm_base.proofs.Moves.{consumed_count}
use Rattle.fm_base.proofs.reading.read_all.Goals as goal

pub returns-in_default-clause-part : goal.returns-in_default-clause-part
returns-in_default-clause-part g c = (_, Consumes-trans _ _ _ _ _ c.turns.invariant.consumed c.in-Ok.ensures.bytes.0)

pub returns-then-len-limit-clause-long : goal.returns-then-len-limit-clause-long
returns-then-len-limit-clause-long g c =
    λ _. consumed_count _ _ _ _ _ _ _ c.turns.invariant.consumed c.in-Ok.ensures.bytes.0 c.in-Ok.ensures.bound.0 (omega (arith, c.in-Ok-extend_from_slice.ensures.len, c.in-Ok.ensures.bound.1, c.turns.bytes.ok, c.read.auto.into, length-take {A = ℕ}, length-append {A = ℕ}))
