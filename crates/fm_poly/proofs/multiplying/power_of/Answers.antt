use Rattle.fm_poly.proofs.PowerSteps.{powers_start, powers_next}
use Rattle.fm_poly.proofs.multiplying.power_of.Goals as goal

pub loop-init : goal.loop-init
loop-init c = powers_start c.args.ring _ _ c.in_ok-power.ensures.canonical c.in_ok-power.ensures.one

pub loop-preserved : goal.loop-preserved
loop-preserved c =
    powers_next c.args.ring _ _ _ _ _ c.deref.ensures.value c.loop.invariant c.in_ok-power-2.ensures.canonical c.in_ok-power-2.ensures.product c.in_ok-power-2.ensures.fits
