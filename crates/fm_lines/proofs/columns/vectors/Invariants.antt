use Rattle.std.proofs.Common.{◌≡◌, ◌+◌, ◌++◌, length}
use Rattle.std.specs.Prelude.{map, option_map, string_bytes}
use Rattle.fm_words.specs.Options.{all_of}
use Rattle.fm_cert.specs.Fields.{read_vector}
use Rattle.fm_lines.specs.Left.{left}
use Rattle.fm_lines.specs.Rows.{AreColumnsOver, columns_of}
use Rattle.fm_lines.proofs.columns.vectors.Given as goal

abbrev pub invariant-vectors : goal.invariant-vectors
invariant-vectors l =
    (option_map (λ vs. columns_of l.found.items ++ vs) (all_of (map (read_vector l.ring (map string_bytes l.names)) (left l.from)))
    ≡ all_of (map (read_vector l.ring (map string_bytes l.names)) (left l.words)))
    × AreColumnsOver l.ring l.found.items
    × (length l.found.items + length (left l.from) ≡ length (left l.words))

abbrev pub decreases-vectors : goal.decreases-vectors
decreases-vectors l = length (left l.from)
