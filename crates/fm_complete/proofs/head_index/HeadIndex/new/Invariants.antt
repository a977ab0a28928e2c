use Rattle.std.proofs.Common.{◌≡◌, []}
use Rattle.fm_complete.specs.Indexed.{heads_from}
use Rattle.fm_complete.proofs.head_index.HeadIndex.new.Given as goal

abbrev pub invariant-loop-k : goal.invariant-loop-k
invariant-loop-k l = l.all.items ≡ heads_from l._k 1 []
