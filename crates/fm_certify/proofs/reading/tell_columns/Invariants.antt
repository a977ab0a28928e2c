use Rattle.std.proofs.Common.{length}
use Rattle.fm_certify.proofs.SingleReading.{AreColumnsRead}
use Rattle.fm_certify.proofs.reading.tell_columns.Given as goal

abbrev pub invariant-columns : goal.invariant-columns
invariant-columns l = AreColumnsRead l.fn.columns l.left

abbrev pub decreases-columns : goal.decreases-columns
decreases-columns l = length l.left
