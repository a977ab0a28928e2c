use Rattle.std.proofs.Common.{◌≡◌, length}
use Rattle.fm_words.specs.Lines.{is_passed}
use Rattle.fm_words.proofs.lines.is_passed.Given as goal

abbrev pub invariant-bytes : goal.invariant-bytes
invariant-bytes l = is_passed l.from ≡ is_passed l.line

abbrev pub decreases-bytes : goal.decreases-bytes
decreases-bytes l = length l.from
