use Rattle.std.proofs.Common.{◌≡◌}
use Rattle.fm_syz.specs.Numbers.{numbers_from}
use Rattle.fm_syz.proofs.trimming.numbers_to.Given as goal

abbrev pub invariant-loop-k : goal.invariant-loop-k
invariant-loop-k l = l.out.items ≡ numbers_from 1 l.k
