use Rattle.std.proofs.Common.{◌≡◌, ◌++◌, length}
use Rattle.fm_mat.proofs.copying.push_entries.Given as goal

abbrev pub invariant-entries : goal.invariant-entries
invariant-entries l = l.out.items ++ l.entries ≡ l.initial.out.items ++ l.initial.entries

abbrev pub decreases-entries : goal.decreases-entries
decreases-entries l = length l.entries
