use Rattle.std.proofs.Common.{sym, arith}
use Rattle.fm_mono.proofs.Bounds.{within_from_sum}
use Rattle.fm_mono.proofs.entries.are_within.Goals as goal

pub returns-then-degree-le-EXPONENT_BOUND : goal.returns-then-degree-le-EXPONENT_BOUND
returns-then-degree-le-EXPONENT_BOUND c = sym (within_from_sum c.args.a.now (omega arith))
