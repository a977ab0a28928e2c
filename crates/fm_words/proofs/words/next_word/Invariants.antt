use Rattle.std.proofs.Common.{◌≡◌, ◌≤◌, length}
use Rattle.fm_words.specs.Words.{words, after_word}
use Rattle.fm_words.proofs.words.next_word.Given as goal

abbrev pub invariant-blanks : goal.invariant-blanks
invariant-blanks l = (words l.from ≡ words l.text) × (after_word l.from ≡ after_word l.text) × (length l.from ≤ length l.text)

abbrev pub decreases-blanks : goal.decreases-blanks
decreases-blanks l = length l.from
