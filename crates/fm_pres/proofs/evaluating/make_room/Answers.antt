use Rattle.std.proofs.Common.{sym, subst, arith}
use Rattle.fm_pres.specs.Kept.{AreValues}
use Rattle.fm_pres.proofs.Values.{values_room}
use Rattle.fm_pres.proofs.evaluating.make_room.Goals as goal

pub loop-values-preserved : goal.loop-values-preserved
loop-values-preserved c = λ r ps h x.
    subst (AreValues r ps) (sym c.in_ok-push.ensures.items)
    (values_room r ps c.loop-values.values.items (c.loop-values.invariant r ps h x) (omega (arith, h, c.loop-values-test.true, c.loop-values.values.ok)))
