use Rattle.std.proofs.Common.{◌≡◌, ◌<◌, ◌≤◌, ◌-◌, ℕ, None, length, get_or}
use Rattle.fm_text.specs.Factors.{sign_of_byte}
use Rattle.fm_text.proofs.terms.first_term.Given as goal

abbrev pub invariant-bytes : goal.invariant-bytes
invariant-bytes l = (l.at ≤ length l.text) × ((k : ℕ) → k < l.at → sign_of_byte (get_or l.text k 0) ≡ None)

abbrev pub decreases-bytes : goal.decreases-bytes
decreases-bytes l = length l.text - l.at
