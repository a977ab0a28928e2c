use Rattle.std.proofs.Common.{◌≡◌, length}
use Rattle.fm_writer.proofs.tests.is_written.Given as goal

abbrev pub invariant-loop-step : goal.invariant-loop-step
invariant-loop-step l = length l.writer.names ≡ 2
