use Rattle.std.proofs.Common.{◌≡◌, length, take}
use Rattle.fm_complete.specs.Divisions.{terms_of}
use Rattle.fm_complete.specs.Indexed.{IsIndexOf}
use Rattle.fm_complete.proofs.head_index.HeadIndex.of.Given as goal

abbrev pub invariant-loop-k : goal.invariant-loop-k
invariant-loop-k l = record {
  index : IsIndexOf l.ring l.rows (terms_of (take l.k l.members)) l.out;
  count : length l.out ≡ l.rows;
}
