use Rattle.std.proofs.Common.{arith}
use Rattle.fm_base.proofs.Moves.{within_rest, appends_more, appends_prefix}
use Rattle.fm_base.proofs.writing.write_all.Goals as goal

pub loop-at-preserved : goal.loop-at-preserved
loop-at-preserved g c = record {
  within = within_rest _ _ _ c.loop-at.invariant.within c.in-Ok.ensures.bound;
  taken = appends_more _ _ _ _ _ _ c.loop-at.invariant.taken c.in-Ok.ensures.bytes;
  later = let more = c.write.ensures.cause.later in omega arith;
}

pub returns-in-Err-clause-prefix : goal.returns-in-Err-clause-prefix
returns-in-Err-clause-prefix g c = appends_prefix _ _ _ _ _ c.loop-at.invariant.taken c.in-Err.ensures.bytes
