use Rattle.std.proofs.Common.{◌≡◌, ◌++◌, length}
use Rattle.fm_vec.specs.Components.{placed}
use Rattle.fm_vec.proofs.columns.push_placed.Given as goal

abbrev pub invariant-terms : goal.invariant-terms
invariant-terms l = l.out.items ++ placed l.component l.terms ≡ l.initial.out.items ++ placed l.component l.initial.terms

abbrev pub decreases-terms : goal.decreases-terms
decreases-terms l = length l.terms
