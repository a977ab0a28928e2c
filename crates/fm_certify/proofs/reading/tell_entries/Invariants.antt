use Rattle.std.proofs.Common.{length}
use Rattle.fm_certify.proofs.SingleReading.{AreEntriesRead}
use Rattle.fm_certify.proofs.reading.tell_entries.Given as goal

abbrev pub invariant-entries : goal.invariant-entries
invariant-entries l = AreEntriesRead l.fn.entries l.left

abbrev pub decreases-entries : goal.decreases-entries
decreases-entries l = length l.left
