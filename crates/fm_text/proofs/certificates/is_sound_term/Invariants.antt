use Rattle.std.proofs.Common.{◌≡◌, length, map, string_bytes}
use Rattle.fm_text.specs.Certificates.{is_sound_term}
use Rattle.fm_text.proofs.certificates.is_sound_term.Given as goal

abbrev pub invariant-factors : goal.invariant-factors
invariant-factors l = is_sound_term (map string_bytes l.names) l.from ≡ is_sound_term (map string_bytes l.names) l.text

abbrev pub decreases-factors : goal.decreases-factors
decreases-factors l = length l.from
