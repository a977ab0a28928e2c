use Rattle.std.proofs.Common.{◌+◌, ◌<◌, ◌^◌, length}
use Rattle.fm_certify.proofs.SingleLoops.{AreExactsLeft}
use Rattle.fm_certify.proofs.resolutions.push_exacts.Given as goal

abbrev pub invariant-next : goal.invariant-next
invariant-next l = AreExactsLeft l.initial.claims.items l.fn.j l.fn.first l.fn.next l.claims.items l.number l.graph l.left × (l.number + length l.left < 2 ^ 64)

abbrev pub decreases-next : goal.decreases-next
decreases-next l = length l.left
