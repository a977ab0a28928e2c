use Rattle.std.proofs.Common.{◌≡◌, ◌++◌, length}
use Rattle.std.specs.Prelude.{map, option_map, string_bytes}
use Rattle.fm_vec.specs.Components.{AreOver}
use Rattle.fm_words.specs.Options.{all_of}
use Rattle.fm_words.specs.Parts.{parts}
use Rattle.fm_words.specs.declared.mark.Mark.TheVariants.{Comma}
use Rattle.fm_cert.specs.Fields.{read_polynomial}
use Rattle.fm_lines.proofs.vectors.some_entries.Given as goal

abbrev pub invariant-entries : goal.invariant-entries
invariant-entries l =
    (option_map (λ fs. l.found.items ++ fs) (all_of (map (read_polynomial l.ring (map string_bytes l.names)) (parts Comma l.from)))
    ≡ all_of (map (read_polynomial l.ring (map string_bytes l.names)) (parts Comma l.text)))
    × AreOver l.ring l.found.items

abbrev pub decreases-entries : goal.decreases-entries
decreases-entries l = length l.from
