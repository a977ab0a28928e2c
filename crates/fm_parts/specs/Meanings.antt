-- What conditions say of the matrices that their parts mean.
use Rattle.std.specs.Prelude.{ℕ, ◌-◌, ◌<◌, ◌≡◌, ◌≤◌, List, [], ◌∷◌, get_or, true}
use Rattle.fm_algebra.specs.PolynomialMatrices.{GeneratesKernel, GeneratesPreimage, InImage, matrix_twist}
use Rattle.fm_poly.specs.declared.ring.Ring.{Ring}
use Rattle.fm_report.specs.Parts.{meant, part_value}
use Rattle.fm_parts.specs.Shapes.{rows_of, columns_of, fits}
use Rattle.fm_parts.specs.Conditions.{Condition, equal, follows, kernel, preimage, outside, lists, agrees, never, nonzero_entries}
use Rattle.fm_parts.specs.Sound.{IsSoundLog}

module _ (r : Ring) where
  -- An equation; C generates the kernel of A, or all w with A * w in im B; a column of V isn't in the image of a twist of A; the entries that
  -- aren't zero; the number. Shapes are said with them.
  abbrev pub Says : Condition → Type 0
  Says (equal A B) = (fits A ≡ true) × (fits B ≡ true) × (rows_of A ≡ rows_of B) × (columns_of A ≡ columns_of B) × (part_value r A ≡ part_value r B)
  Says (follows A B) = rows_of B ≡ columns_of A
  Says (kernel log A C X W) = (rows_of C ≡ columns_of A) × GeneratesKernel r.prime r.vars (part_value r C) (part_value r A)
  Says (preimage log A B C X W) = (rows_of C ≡ columns_of A) × GeneratesPreimage r.prime r.vars (part_value r C) (part_value r A) (part_value r B)
  Says (outside log e A V column by) =
      0 < column → column ≤ columns_of V → ¬ (InImage r.prime r.vars (matrix_twist r.prime r.vars e (part_value r A)) (get_or (part_value r V).columns (column - 1) []))
  Says (lists fs P) = meant r fs ≡ nonzero_entries r (part_value r P)
  Says (agrees k n) = k ≡ n
  Says never = ⊥

  abbrev pub AllSay : List Condition → Type 0
  AllSay [] = Unit {0}
  AllSay (c ∷ cs) = Says c × AllSay cs

  -- the logs on which a condition rests are sound
  abbrev pub HasSoundLog : Condition → Type 0
  HasSoundLog (kernel log A C X W) = IsSoundLog r log
  HasSoundLog (preimage log A B C X W) = IsSoundLog r log
  HasSoundLog (outside log e A V column by) = IsSoundLog r log
  HasSoundLog c = Unit {0}

  abbrev pub HaveSoundLogs : List Condition → Type 0
  HaveSoundLogs [] = Unit {0}
  HaveSoundLogs (c ∷ cs) = HasSoundLog c × HaveSoundLogs cs
