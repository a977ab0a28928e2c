use Rattle.std.proofs.Common.{◌≡◌, ◌<◌, ◌≤◌, ◌-◌, ℕ, false, length, get_or}
use Rattle.fm_words.specs.Parts.{is_mark}
use Rattle.fm_words.proofs.parts.first_part.Given as goal

abbrev pub invariant-bytes : goal.invariant-bytes
invariant-bytes l = (l.at ≤ length l.text) × ((k : ℕ) → k < l.at → is_mark l.mark (get_or l.text k 0) ≡ false)

abbrev pub decreases-bytes : goal.decreases-bytes
decreases-bytes l = length l.text - l.at
