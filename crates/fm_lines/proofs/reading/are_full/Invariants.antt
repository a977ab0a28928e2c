use Rattle.std.proofs.Common.{◌≡◌, length}
use Rattle.std.specs.List.{list_all}
use Rattle.fm_words.specs.Parts.{parts}
use Rattle.fm_words.specs.declared.mark.Mark.TheVariants.{Blank}
use Rattle.fm_cert.specs.Lines.{is_full}
use Rattle.fm_lines.proofs.reading.are_full.Given as goal

abbrev pub invariant-words : goal.invariant-words
invariant-words l = list_all is_full (parts Blank l.from) ≡ list_all is_full (parts Blank l.text)

abbrev pub decreases-words : goal.decreases-words
decreases-words l = length l.from
