-- The matrices that lines name, as the program keeps them: by the numbers of parts.
use Rattle.std.specs.Prelude.{ℕ, ◌≡◌, Bool, true, false, ◌&&◌, ◌++◌, ◌∷◌, [], List, Option, Some, option_map, Result, Ok, Err}
use Rattle.fm_problem.specs.declared.query.Query.{Query}
use Rattle.fm_report.specs.Parts.{Part}
use Rattle.fm_report.specs.Sheets.{Sheet}
use Rattle.fm_parts.specs.Replays.{is_number, are_numbers}
use Rattle.fm_lines.specs.declared.row.Row.{Row}
use Rattle.fm_lines.specs.declared.row.Row.TheVariants as rows
use Rattle.fm_pres.specs.declared.block.Block.{Block}
use Rattle.fm_pres.specs.Blocks.{block_of, parts_at}
use Rattle.fm_asked.specs.Beginnings.{IsBlockIf}

-- the sheet has these parts, this block at hand, this lift of the identity, and this query
pub record Shows (ps : List Part) (at_hand : Option Block) (lift : List ℕ) (z : Query) (s : Sheet) : Type 0 where
  pub parts : s.parts ≡ ps
  pub block : s.block ≡ option_map (block_of ps) at_hand
  pub identity : s.identity ≡ parts_at ps lift
  pub asked : s.asked ≡ Some z

-- the sheet with this block at hand, and this lift of the identity
abbrev pub with_named : Sheet → List Part → Option Block → List ℕ → Sheet
with_named s ps block identity = record s { block = option_map (block_of ps) block; identity = parts_at ps identity }

-- the rows that end a query, add a part or begin a block change more of a sheet than what is named
abbrev pub is_naming : Row → Bool
is_naming (rows.Ended ending) = false
is_naming (rows.Part number form) = false
is_naming (rows.Datum name degree) = false
is_naming (rows.Done number) = false
is_naming row = true

-- the parts exist that the block at hand names, and those of the lift of the identity
abbrev pub AreNamed : List Part → Option Block → List ℕ → Type 0
AreNamed ps at_hand identity = IsBlockIf ps at_hand × (are_numbers ps identity ≡ true)

-- and what is named goes into the block at hand, where there is one
abbrev pub names_in_block : Row → Bool
names_in_block (rows.Lambda j part) = false
names_in_block row = is_naming row

-- rows that name a matrix that only a block has, or speak of the kernels of a block
abbrev pub needs_block : Row → Bool
needs_block (rows.Theta j part) = true
needs_block (rows.Cocycles part shown) = true
needs_block (rows.Z part) = true
needs_block (rows.Relations part shown) = true
needs_block (rows.N part) = true
needs_block (rows.Morphism part) = true
needs_block (rows.U part) = true
needs_block (rows.Chain s part shown) = true
needs_block (rows.K s part) = true
needs_block (rows.Stable t w) = true
needs_block row = false

abbrev pub with_block : Sheet → List Part → Block → Sheet
with_block s ps b = record s { block = Some (block_of ps b) }

-- a part is added to a list of numbers where it exists and the test holds
abbrev pub Adds : {F : Type 0} → List Part → (old new : List ℕ) → Bool → ℕ → Result Bool F → Type 0
Adds ps old new test part (Err e) = Unit {0}
Adds ps old new test part (Ok true) = (test ≡ true) × (is_number ps part ≡ true) × (new ≡ old ++ part ∷ [])
Adds ps old new test part (Ok false) = ((test && is_number ps part) ≡ false) × (new ≡ old)
