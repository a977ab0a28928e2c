use Rattle.std.proofs.Common.{subst, sym, arith}
use Rattle.fm_vec.specs.Components.{AreOver}
use Rattle.fm_mat.proofs.Steps.{over_more}
use Rattle.fm_writer.proofs.tests.column.Goals as goal

pub loop-i-preserved : goal.loop-i-preserved
loop-i-preserved c = record {
  over = subst (AreOver c.args.ring) (sym c.in_ok-push.ensures.items) (over_more c.args.ring c.loop-i.out.items c.in_ok-poly.field-0 c.loop-i.invariant.over c.in_ok-poly.ensures);
  count = omega (arith, c.in_ok-push.ensures.len, c.loop-i.invariant.count);
}
