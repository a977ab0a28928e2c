use Rattle.std.proofs.Common.{All, map, length, ◌++◌, ◌≡◌}
use Rattle.fm_problem.specs.Sound.{IsIdealOf}
use Rattle.fm_cert.specs.Lines.{lines_text}
use Rattle.fm_cert.specs.Questions.{ideal_line}
use Rattle.fm_cert.proofs.heads.push_ideals.Given as goal

abbrev pub invariant-ideals : goal.invariant-ideals
invariant-ideals l =
    (l.out.items ++ lines_text l.fn.problem.vars (map (ideal_line l.fn.problem.vars) l.left)
    ≡ l.initial.out.items ++ lines_text l.fn.problem.vars (map (ideal_line l.fn.problem.vars) l.fn.problem.ideals))
    × All (IsIdealOf l.fn.problem.ring) l.left

abbrev pub decreases-ideals : goal.decreases-ideals
decreases-ideals l = length l.left
