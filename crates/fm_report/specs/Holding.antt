-- When what a report states holds.
use Rattle.std.specs.Prelude.{◌≡◌, ◌++◌, List, [], ◌∷◌, Option, Some, None}
use Rattle.fm_limit.specs.Verdicts.{RestsOn, Holds}
use Rattle.fm_words.specs.Parts.{Bytes}
use Rattle.fm_report.specs.Verdicts.{Stated, verdict, unreadable}
use Rattle.fm_report.specs.Reading.{statements}

-- What is stated holds: the printed matrices are those on which the verdict rests, and along them it is true.
unfoldable pub IsHeld : Stated → Type 0
IsHeld (verdict p n v) = RestsOn p n v × Holds p n v
IsHeld unreadable = ⊥

abbrev pub AllHold : List Stated → Type 0
AllHold [] = Unit {0}
AllHold (s ∷ ss) = IsHeld s × AllHold ss

-- all that the bytes state holds
unfoldable pub VerdictsHold : Bytes → Type 0
VerdictsHold bytes = AllHold (statements bytes)

-- all holds that is stated by the bytes by which a text grew, where it is told
unfoldable pub VerdictsHoldSince : Option Bytes → Option Bytes → Type 0
VerdictsHoldSince None new = Unit {0}
VerdictsHoldSince (Some before) None = Unit {0}
VerdictsHoldSince (Some before) (Some after) = (bytes : Bytes) → after ≡ before ++ bytes → VerdictsHold bytes
