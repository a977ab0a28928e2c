-- Numbers of lines as numbers that a program counts by.
use Rattle.std.specs.Prelude.{ℕ, ◌≡◌, true, false, if◌then◌else◌, nat_le, List, Option, Some, None}
use Rattle.fm_report.specs.Parts.{Part}
use Rattle.fm_parts.specs.Replays.{is_number}

-- the number, where it isn't above the bound; else 0, which is the number of nothing
abbrev pub within : ℕ → ℕ → ℕ
within bound k = if nat_le k bound then k else 0

-- numbers of 32 bits
abbrev pub MOST : ℕ
MOST = 4294967295

abbrev pub narrowed : ℕ → ℕ
narrowed k = within MOST k

-- k is the number of a part, or there is none with it
abbrev pub IsNumbered : List Part → ℕ → Option ℕ → Type 0
IsNumbered ps k None = is_number ps k ≡ false
IsNumbered ps k (Some n) = (n ≡ k) × (is_number ps k ≡ true)
