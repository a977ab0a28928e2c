use Rattle.std.proofs.Common.{◌≡◌, ◌++◌, length}
use Rattle.fm_mat.proofs.copying.push_columns.Given as goal

abbrev pub invariant-columns : goal.invariant-columns
invariant-columns l = l.out.items ++ l.columns ≡ l.initial.out.items ++ l.initial.columns

abbrev pub decreases-columns : goal.decreases-columns
decreases-columns l = length l.columns
