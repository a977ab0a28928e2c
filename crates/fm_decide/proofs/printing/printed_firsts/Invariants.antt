use Rattle.std.proofs.Common.{length}
use Rattle.fm_mat.specs.Matrices.{columns_meaning}
use Rattle.fm_decide.proofs.FirstEntries.{AreFirstsLeft, firsts_printed}
use Rattle.fm_decide.proofs.printing.printed_firsts.Given as goal

abbrev pub invariant-columns : goal.invariant-columns
invariant-columns l = AreFirstsLeft l.fn.ring l.fn.rows (firsts_printed l.fn.ring (columns_meaning l.fn.ring l.initial.columns)) l.out.items l.left

abbrev pub decreases-columns : goal.decreases-columns
decreases-columns l = length l.left
