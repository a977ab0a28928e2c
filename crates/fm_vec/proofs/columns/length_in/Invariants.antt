use Rattle.std.proofs.Common.{◌≡◌, ◌+◌, length}
use Rattle.fm_vec.specs.Steps.{front_count}
use Rattle.fm_vec.proofs.columns.length_in.Given as goal

abbrev pub invariant-terms : goal.invariant-terms
invariant-terms l = record {
  count : l.count + front_count l.component l.terms ≡ front_count l.component l.initial.terms;
  within : l.count + length l.terms ≡ length l.initial.terms;
}

abbrev pub decreases-terms : goal.decreases-terms
decreases-terms l = length l.terms
