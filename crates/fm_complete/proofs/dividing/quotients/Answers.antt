use Rattle.fm_complete.proofs.Running.{quotients_more}
use Rattle.fm_complete.proofs.dividing.quotients.Goals as goal

pub loop-k-preserved : goal.loop-k-preserved
loop-k-preserved c =
    quotients_more c.args.ring c.args.count c.loop-k.k c.args.steps.now c.loop-k.out.items c.push.new.self.items _ c.from_canonical.result c.in_ok-terms.terms.items
    c.loop-k-test.true c.in_ok-push.ensures.items c.from_canonical.ensures c.in_ok-terms.ensures c.loop-k.invariant
