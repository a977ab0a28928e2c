use Rattle.std.proofs.Common.{◌≡◌, ◌<◌, ◌+◌, ◌^◌, length}
use Rattle.fm_words.specs.declared.mark.Mark.TheVariants.{Feed}
use Rattle.fm_words.specs.Parts.{parts}
use Rattle.fm_words.specs.Lines.{after_lines, end_of}
use Rattle.fm_words.proofs.lines.end_of.Given as goal

abbrev pub invariant-lines : goal.invariant-lines
invariant-lines l = (after_lines l.number (parts Feed l.from) ≡ end_of l.text) × (l.number + length l.from < 2 ^ 32)

abbrev pub decreases-lines : goal.decreases-lines
decreases-lines l = length l.from
