use Rattle.std.proofs.Common.{◌≡◌, ◌<◌, ◌^◌, length}
use Rattle.fm_words.specs.Words.{value_from}
use Rattle.fm_words.proofs.numbers.number.Given as goal

abbrev pub invariant-digits : goal.invariant-digits
invariant-digits l = (l.n < 2 ^ 64) × (value_from l.n l.from ≡ value_from 0 l.digits)

abbrev pub decreases-digits : goal.decreases-digits
decreases-digits l = length l.from
