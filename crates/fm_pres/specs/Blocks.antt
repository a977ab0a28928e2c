-- The matrices that lines have named, by the numbers of their parts.
use Rattle.std.specs.Prelude.{ℕ, ◌≡◌, true, List, map}
use Rattle.fm_report.specs.Parts.{Part}
use Rattle.fm_report.specs.Sheets as sheets
use Rattle.fm_parts.specs.Replays.{are_numbers}
use Rattle.fm_pres.specs.Tables.{part_at}
use Rattle.fm_pres.specs.declared.block.Block.{Block}

abbrev pub parts_at : List Part → List ℕ → List Part
parts_at ps ks = map (part_at ps) ks

-- the matrices that they are
abbrev pub block_of : List Part → Block → sheets.Block
block_of ps b = record {
  ideal = b.ideal;
  degree = b.degree;
  differentials = parts_at ps b.differentials.items;
  lift = parts_at ps b.lift.items;
  cocycles = parts_at ps b.cocycles.items;
  kernels = parts_at ps b.kernels.items;
  morphism = parts_at ps b.morphism.items;
}

-- each of the parts is there
abbrev pub AreBlockParts : List Part → Block → Type 0
AreBlockParts ps b =
    (are_numbers ps b.differentials.items ≡ true) × (are_numbers ps b.lift.items ≡ true) × (are_numbers ps b.cocycles.items ≡ true)
    × (are_numbers ps b.kernels.items ≡ true) × (are_numbers ps b.morphism.items ≡ true)
