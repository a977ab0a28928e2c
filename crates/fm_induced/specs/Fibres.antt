-- The program's fibres, and those of the plan that they mean.
use Rattle.std.specs.Prelude.{ℕ, ◌≡◌}
use Rattle.fm_graphs.specs.Graphs as runs
use Rattle.fm_graphs.specs.Trims as trims
use Rattle.fm_poly.specs.declared.ring.Ring.{Ring}
use Rattle.fm_syz.specs.GeneratorValues.{preimage_meaning}
use Rattle.fm_syz.specs.Insides.{HasColumns, inside_value}
use Rattle.fm_induced.specs.declared.fibres.Fibre.{Fibre}

abbrev pub fibre_value : (r : Ring) → Fibre → trims.Preimage r × runs.Inside r
fibre_value r x = (preimage_meaning r x.fibre, inside_value r x.inside)

-- the fibre is over r, and the solutions have m entries
abbrev pub IsFibreOver : Ring → ℕ → Fibre → Type 0
IsFibreOver r m x = (x.fibre.generators.graph.matrix.ring ≡ r) × HasColumns r m x.inside
