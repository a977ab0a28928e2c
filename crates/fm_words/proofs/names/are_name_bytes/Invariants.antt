use Rattle.std.proofs.Common.{◌≡◌, length}
use Rattle.std.specs.List.{list_all}
use Rattle.fm_words.specs.Words.{is_name_byte}
use Rattle.fm_words.proofs.names.are_name_bytes.Given as goal

abbrev pub invariant-bytes : goal.invariant-bytes
invariant-bytes l = list_all is_name_byte l.from ≡ list_all is_name_byte l.word

abbrev pub decreases-bytes : goal.decreases-bytes
decreases-bytes l = length l.from
