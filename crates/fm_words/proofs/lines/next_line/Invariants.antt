use Rattle.std.proofs.Common.{◌≡◌, ◌<◌, ◌≤◌, ◌^◌, option_map}
use Rattle.fm_words.specs.Lines.{ahead, reach, size_of}
use Rattle.fm_words.proofs.lines.next_line.Given as goal

abbrev pub invariant-lines : goal.invariant-lines
invariant-lines l = (ahead l.from.number (option_map (λ r. r.now) l.from.rest) ≡ ahead l.lines.number (option_map (λ r. r.now) l.lines.rest))
    × (reach l.from.number (option_map (λ r. r.now) l.from.rest) < 2 ^ 32)
    × (size_of (option_map (λ r. r.now) l.from.rest) ≤ size_of (option_map (λ r. r.now) l.lines.rest))

abbrev pub decreases-lines : goal.decreases-lines
decreases-lines l = size_of (option_map (λ r. r.now) l.from.rest)
