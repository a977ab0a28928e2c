use Rattle.std.proofs.Common.{length}
use Rattle.fm_cert.specs.Writable.{AreSmall}
use Rattle.fm_writer.proofs.writer.tell_small.Given as goal

abbrev pub invariant-members : goal.invariant-members
invariant-members l = AreSmall l.left → AreSmall l.fn.members

abbrev pub decreases-members : goal.decreases-members
decreases-members l = length l.left
