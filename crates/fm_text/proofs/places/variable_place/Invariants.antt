use Rattle.std.proofs.Common.{◌≡◌, ◌+◌, length, map, string_bytes}
use Rattle.fm_words.specs.Steps.{place}
use Rattle.fm_text.proofs.places.variable_place.Given as goal

abbrev pub invariant-names : goal.invariant-names
invariant-names l = (place l.k l.name (map string_bytes l.rest) ≡ place 0 l.name (map string_bytes l.names)) × (l.k + length l.rest ≡ length l.names)

abbrev pub decreases-names : goal.decreases-names
decreases-names l = length l.rest
