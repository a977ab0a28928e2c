-- Draws.
use Rattle.std.specs.Prelude.{ℕ, ◌+◌, ◌*◌, ◌/◌, ◌%◌, ◌^◌}

-- the number that stands after a draw from s
unfoldable pub next : ℕ → ℕ
next s = (s * 6364136223846793005 + 1442695040888963407) % 2 ^ 64

-- what was drawn where s stands now: 0, 1 or 2
unfoldable pub drawn : ℕ → ℕ
drawn s = (s / 2 ^ 33) % 3
