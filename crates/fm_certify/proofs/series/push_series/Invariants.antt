use Rattle.std.proofs.Common.{◌+◌, ◌≡◌, length}
use Rattle.fm_certify.proofs.SingleLoops.{IsSeriesLeft}
use Rattle.fm_certify.proofs.series.push_series.Given as goal

abbrev pub invariant-matrices : goal.invariant-matrices
invariant-matrices l = IsSeriesLeft l.fn.series l.initial.claims.items l.fn.matrices l.claims.items l.number l.left × (l.number + length l.left ≡ length l.fn.matrices)

abbrev pub decreases-matrices : goal.decreases-matrices
decreases-matrices l = length l.left
