use Rattle.std.proofs.Common.{◌≡◌, ◌++◌}
use Rattle.std.specs.Vec.Iter.{into_iter_items, into_iter_len}
use Rattle.fm_lines.specs.Rows.{columns_of}
use Rattle.fm_asked.proofs.forms.as_columns.Given as goal

abbrev pub invariant-columns : goal.invariant-columns
invariant-columns l = l.made.items ++ columns_of (into_iter_items l.left) ≡ columns_of l.fn.columns.items

abbrev pub decreases-columns : goal.decreases-columns
decreases-columns l = into_iter_len l.left
