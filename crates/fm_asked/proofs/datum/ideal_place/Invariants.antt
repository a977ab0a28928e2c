use Rattle.std.proofs.Common.{◌≡◌, ◌+◌, length, map}
use Rattle.fm_words.specs.Steps.{place}
use Rattle.fm_asked.proofs.datum.ideal_place.Given as goal

abbrev pub invariant-ideals : goal.invariant-ideals
invariant-ideals l = (place l.k l.name (map (λ i. i.name) l.rest) ≡ place 0 l.name (map (λ i. i.name) l.ideals)) × (l.k + length l.rest ≡ length l.ideals)

abbrev pub decreases-ideals : goal.decreases-ideals
decreases-ideals l = length l.rest
