use Rattle.std.proofs.Common.{◌≡◌, ◌++◌, length}
use Rattle.fm_cert.specs.Lines.{lines_text}
use Rattle.fm_cert.specs.Said.{AreLinesOver, line_values}
use Rattle.fm_cert.proofs.writing.push_lines.Given as goal

abbrev pub invariant-lines : goal.invariant-lines
invariant-lines l =
    (l.out.items ++ lines_text l.problem.vars (line_values l.problem l.left)
    ≡ l.initial.out.items ++ lines_text l.problem.vars (line_values l.problem l.fn.lines))
    × AreLinesOver l.problem.ring.vars l.left

abbrev pub decreases-lines : goal.decreases-lines
decreases-lines l = length l.left
