use Rattle.std.proofs.Common.{◌≡◌, length}
use Rattle.std.specs.Prelude.{map, string_bytes}
use Rattle.fm_vec.specs.Components.{AreOver}
use Rattle.fm_lines.specs.GeneratorWords.{kept_generators}
use Rattle.fm_lines.specs.Left.{left}
use Rattle.fm_lines.proofs.GeneratorsRead.{reads}
use Rattle.fm_lines.proofs.generators.generators.Given as goal

abbrev pub invariant-generators : goal.invariant-generators
invariant-generators l =
    (reads l.ring (map string_bytes l.names) l.kept.items (left l.from) ≡ kept_generators l.ring (map string_bytes l.names) (left l.words))
    × AreOver l.ring l.kept.items

abbrev pub decreases-generators : goal.decreases-generators
decreases-generators l = length (left l.from)
