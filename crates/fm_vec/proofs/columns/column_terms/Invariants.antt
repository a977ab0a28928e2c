use Rattle.std.proofs.Common.{◌≡◌, ◌+◌, ◌++◌, suc, length}
use Rattle.fm_vec.specs.Components.{AreOver, column_terms}
use Rattle.fm_vec.specs.Vectors.{IsVector}
use Rattle.fm_vec.proofs.columns.column_terms.Given as goal

abbrev pub invariant-column : goal.invariant-column
invariant-column l = record {
  over : AreOver l.fn.ring l.column;
  count : l.component + length l.column ≡ length l.initial.column;
  whole : l.out.items ++ column_terms (suc l.component) l.column ≡ column_terms 1 l.initial.column;
  vector : IsVector l.fn.ring l.component l.out.items;
}

abbrev pub decreases-column : goal.decreases-column
decreases-column l = length l.column
