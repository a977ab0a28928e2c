use Rattle.std.proofs.Common.{◌≡◌, ◌<◌, ◌^◌, option_map}
use Rattle.fm_words.specs.Lines.{ahead, reach, size_of}
use Rattle.fm_problem.specs.Problems.{IsBounded, plus_line}
use Rattle.fm_words.specs.Steps.{steps}
use Rattle.fm_problem.proofs.reading.read_lines.Given as goal

abbrev pub invariant-lines : goal.invariant-lines
invariant-lines l =
    (steps plus_line l.problem (ahead l.from.number (option_map (λ r. r.now) l.from.rest)) ≡ steps plus_line l.fn.begun (ahead l.lines.number (option_map (λ r. r.now) l.lines.rest)))
    × IsBounded l.problem
    × (reach l.from.number (option_map (λ r. r.now) l.from.rest) < 2 ^ 32)

abbrev pub decreases-lines : goal.decreases-lines
decreases-lines l = size_of (option_map (λ r. r.now) l.from.rest)
