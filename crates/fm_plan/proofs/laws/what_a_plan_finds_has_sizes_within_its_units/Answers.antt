use Rattle.fm_plan.proofs.SizesOfMaps.{plan_sizes}
use Rattle.fm_plan.proofs.laws.what_a_plan_finds_has_sizes_within_its_units.Goals as goal

pub returns : goal.returns
returns c = λ r q units left x e. plan_sizes r q units left x e
