use Rattle.std.proofs.Common.{◌≡◌, length}
use Rattle.std.specs.List.{list_all}
use Rattle.fm_words.specs.Words.{is_digit}
use Rattle.fm_words.proofs.numbers.are_digits.Given as goal

abbrev pub invariant-digits : goal.invariant-digits
invariant-digits l = list_all is_digit l.from ≡ list_all is_digit l.word

abbrev pub decreases-digits : goal.decreases-digits
decreases-digits l = length l.from
