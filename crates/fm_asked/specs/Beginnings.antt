-- Blocks, as the program keeps them, and where they begin.
use Rattle.std.specs.Prelude.{ℕ, zero, suc, ◌≡◌, nat_eq, Bool, true, false, List, [], ◌∷◌, map, Option, Some, None, option_map}
use Rattle.fm_problem.specs.declared.problem.Problem.{Problem}
use Rattle.fm_problem.specs.declared.query.Query.{Query}
use Rattle.fm_problem.specs.declared.query.Query.TheVariants as queries
use Rattle.fm_report.specs.Parts.{Part}
use Rattle.fm_report.specs.Sheets.{Sheet}
use Rattle.fm_pres.specs.declared.block.Block.{Block}
use Rattle.fm_pres.specs.Blocks.{AreBlockParts, block_of}

-- what becomes of the sheet, where the row can be said
abbrev pub IsSaid : Bool → Sheet → Option Sheet → Type 0
IsSaid true t o = o ≡ Some t
IsSaid false t o = o ≡ None

-- the parts that the block at hand names exist, where there is one
abbrev pub IsBlockIf : List Part → Option Block → Type 0
IsBlockIf ps None = Unit {0}
IsBlockIf ps (Some b) = AreBlockParts ps b

-- the sheet is of this problem and this query, and has these finished blocks and this block at hand
pub record HasBlocks (ps : List Part) (q : Problem) (z : Query) (done : List Block) (at_hand : Option Block) (s : Sheet) : Type 0 where
  pub head : s.head ≡ Some q
  pub asked : s.asked ≡ Some z
  pub finished : s.finished ≡ map (block_of ps) done
  pub block : s.block ≡ option_map (block_of ps) at_hand

abbrev pub with_blocks : Sheet → List Part → List Block → Option Block → Sheet
with_blocks s ps finished block = record s { finished = map (block_of ps) finished; block = option_map (block_of ps) block }

-- the parts that blocks name exist
abbrev pub AreBlocks : List Part → List Block → Type 0
AreBlocks ps [] = Unit {0}
AreBlocks ps (b ∷ bs) = AreBlockParts ps b × AreBlocks ps bs

-- the ideal, by its number from 0, and the degree of which the block speaks that comes after so many
abbrev pub next_about : Query → ℕ → Option (ℕ × ℕ)
next_about (queries.Zero i k) zero = Some (k, i)
next_about (queries.Class i k e z) zero = Some (k, i)
next_about (queries.Root i k) zero = Some (k, i)
next_about (queries.Invert i k f) zero = Some (k, i)
next_about (queries.Support i k) zero = Some (k, i)
next_about (queries.Map i k t) zero = Some (k, i)
next_about (queries.Map i k t) (suc zero) = Some (t, i)
next_about (queries.Resolution i k) zero = Some (k, i)
next_about (queries.ExtOf i k) zero = Some (k, i)
next_about z n = None

-- the place that is found is this one
abbrev pub is_there : Option ℕ → ℕ → Bool
is_there None k = false
is_there (Some m) k = nat_eq m k
