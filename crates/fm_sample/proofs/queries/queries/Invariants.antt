use Rattle.std.proofs.Common.{◌≡◌}
use Rattle.fm_sample.specs.Samples.{queries_on}
use Rattle.fm_sample.proofs.queries.queries.Given as goal

abbrev pub invariant-loop-ideal : goal.invariant-loop-ideal
invariant-loop-ideal l = l.queries ≡ queries_on l.ideal
