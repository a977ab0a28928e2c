use Rattle.std.proofs.Common.{◌≡◌, ◌≤◌, ◌-◌, length}
use Rattle.fm_judge.specs.Claims.{factored_part}
use Rattle.fm_pres.specs.Kept.{IsValue}
use Rattle.fm_conditions.proofs.powers.multiplied.Given as goal

abbrev pub invariant-loop-count : goal.invariant-loop-count
invariant-loop-count l = record {
  few : l.count ≤ l.k;
  ring : l.power.ring ≡ l.f.ring;
  rows : l.power.rows ≡ 1;
  columns : length l.power.columns ≡ 1;
  value : IsValue l.f.ring (factored_part l.f.ring l.f l.count) l.power;
}

abbrev pub decreases-loop-count : goal.decreases-loop-count
decreases-loop-count l = l.k - l.count
