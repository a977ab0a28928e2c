use Rattle.std.proofs.Common.{◌≡◌, length}
use Rattle.std.specs.List.{list_all}
use Rattle.fm_pres.specs.Tables.{is_column}
use Rattle.fm_pres.proofs.judging.are_columns.Given as goal

abbrev pub invariant-numbers : goal.invariant-numbers
invariant-numbers l = list_all (is_column l.count) l.numbers-2 ≡ list_all (is_column l.count) l.numbers

abbrev pub decreases-numbers : goal.decreases-numbers
decreases-numbers l = length l.numbers
