use Rattle.std.proofs.Common.{subst, sym, arith}
use Rattle.fm_vec.specs.Components.{AreOver}
use Rattle.fm_mat.proofs.Steps.{over_more, zero_more}
use Rattle.fm_mat.proofs.multiplying.zeros.Goals as goal

pub loop-k-preserved : goal.loop-k-preserved
loop-k-preserved c = record {
  over = subst (AreOver c.args.ring) (sym c.in_ok-push.ensures.items) (over_more c.args.ring c.loop-k.out.items c.zero.result c.loop-k.invariant.over c.zero.ensures.ring);
  rows = omega (arith, c.in_ok-push.ensures.len, c.loop-k.invariant.rows);
  value = zero_more c.args.ring c.loop-k._k c.loop-k.out.items c.push.new.self.items c.zero.result c.in_ok-push.ensures.items c.zero.ensures.none c.loop-k.invariant.value;
}
