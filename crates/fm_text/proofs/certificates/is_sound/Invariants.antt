use Rattle.std.proofs.Common.{◌≡◌, length, map, string_bytes}
use Rattle.std.specs.List.{list_all}
use Rattle.fm_text.specs.Certificates.{is_sound, is_sound_term}
use Rattle.fm_text.specs.Factors.{signed}
use Rattle.fm_text.proofs.certificates.is_sound.Given as goal

abbrev pub invariant-terms : goal.invariant-terms
invariant-terms l = list_all (λ t. is_sound_term (map string_bytes l.names) t.text) (signed l.from.sign l.from.text.now) ≡ is_sound (map string_bytes l.names) l.text

abbrev pub decreases-terms : goal.decreases-terms
decreases-terms l = length l.from.text.now
