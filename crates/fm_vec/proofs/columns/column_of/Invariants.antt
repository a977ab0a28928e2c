use Rattle.std.proofs.Common.{◌≡◌, ◌-◌, ◌++◌, suc}
use Rattle.fm_vec.specs.Components.{column_from}
use Rattle.fm_term.specs.Places.{Falls}
use Rattle.fm_vec.specs.Steps.{AreFrom}
use Rattle.fm_term.specs.Falling.{AreTerms}
use Rattle.fm_vec.proofs.columns.column_of.Given as goal

abbrev pub invariant-loop-k : goal.invariant-loop-k
invariant-loop-k l = record {
  falls : Falls l.ring.order l.terms;
  proper : AreTerms l.ring.prime l.ring.vars l.terms;
  within : AreFrom (suc l.k) l.terms;
  whole : l.out.items ++ column_from l.ring (l.rows - l.k) (suc l.k) l.terms ≡ column_from l.ring l.rows 1 l.initial.terms;
}
