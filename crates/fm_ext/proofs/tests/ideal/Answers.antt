use Rattle.std.proofs.Common.{subst, sym, arith}
use Rattle.fm_vec.specs.Components.{AreOver}
use Rattle.fm_mat.proofs.Steps.{over_more}
use Rattle.fm_ext.specs.declared.tests.TheConstants.{PLANE}
use Rattle.fm_ext.proofs.tests.ideal.Goals as goal

pub loop-i-preserved : goal.loop-i-preserved
loop-i-preserved c = record {
  over = subst (AreOver PLANE) (sym c.in_ok-push.ensures.items) (over_more PLANE c.loop-i.out.items c.in_ok-monomial.field-0 c.loop-i.invariant.over c.in_ok-monomial.ensures);
  count = omega (arith, c.in_ok-push.ensures.len, c.loop-i.invariant.count);
}
