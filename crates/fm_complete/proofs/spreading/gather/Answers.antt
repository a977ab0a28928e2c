use Rattle.fm_complete.proofs.Spread.{gather_step, gather_over, gather_end}
use Rattle.fm_complete.proofs.spreading.gather.Goals as goal

pub returns-in_default-clause-column : goal.returns-in_default-clause-column
returns-in_default-clause-column c = λ r n v vector parts. gather_end r _ _ _ c.in_default.ensures.cases (c.buckets.invariant r) n v vector parts

pub returns-in_default-clause-over : goal.returns-in_default-clause-over
returns-in_default-clause-over c = λ r w. gather_over r _ _ _ (c.buckets.invariant r) w

pub buckets-preserved : goal.buckets-preserved
buckets-preserved c = λ r.
    gather_step r _ _ _ _ _ _ _ c.in-Some.ensures.cases.0 c.in_ok-push.ensures.items c.in_ok-value.ensures.ring c.in_ok-value.ensures.value c.in_ok-value.ensures.canonical (c.buckets.invariant r)
