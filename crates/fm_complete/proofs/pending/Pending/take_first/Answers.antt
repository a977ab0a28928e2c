use Rattle.fm_complete.proofs.KeptPairs.{kept_rest}
use Rattle.fm_complete.proofs.pending.Pending.take_first.Goals as goal

pub invariant_of-self-2 : goal.invariant_of-self-2
invariant_of-self-2 c = kept_rest c.self.inside c.self.invariant c.in_ok-first.first c.pop_first.new.self c.remove.new.self c.in_ok-first.ensures.removal c.remove.ensures.updates.0
