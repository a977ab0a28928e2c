use Rattle.fm_certify.proofs.SingleReading.{entries_read, entry_read}
use Rattle.fm_certify.proofs.reading.tell_entries.Goals as goal

pub returns-in_default : goal.returns-in_default
returns-in_default c = entries_read _ _ c.in_default.ensures.cases c.entries.invariant

pub entries-preserved : goal.entries-preserved
entries-preserved c =
    entry_read _ _ c.in-Some.entry.now c.in-Some.later.now c.in-Some.ensures.cases.0 c.terms-terms.ensures.canonical c.entries.invariant
