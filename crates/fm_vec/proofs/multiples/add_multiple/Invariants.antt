use Rattle.std.proofs.Common.{length}
use Rattle.fm_vec.proofs.Adding.{Adding}
use Rattle.fm_vec.proofs.multiples.add_multiple.Given as goal

abbrev pub invariant-turns : goal.invariant-turns
invariant-turns l = Adding l.ring l.d l.m l.initial.g l.initial.f l.initial.out.items l.out.items l.g l.f

abbrev pub decreases-turns : goal.decreases-turns
decreases-turns l = length l.g
