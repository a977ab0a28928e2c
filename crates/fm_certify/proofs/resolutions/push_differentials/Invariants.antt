use Rattle.std.proofs.Common.{◌+◌, ◌<◌, ◌^◌, length}
use Rattle.fm_certify.proofs.SingleLoops.{AreDifferentialsLeft}
use Rattle.fm_certify.proofs.resolutions.push_differentials.Given as goal

abbrev pub invariant-next : goal.invariant-next
invariant-next l = AreDifferentialsLeft l.initial.claims.items l.fn.j l.fn.next l.claims.items l.number l.left × (l.number + length l.left < 2 ^ 64)

abbrev pub decreases-next : goal.decreases-next
decreases-next l = length l.left
