use Rattle.std.proofs.Common.{◌≡◌, length}
use Rattle.fm_text.specs.Certificates.{has_blank}
use Rattle.fm_text.proofs.certificates.has_blank.Given as goal

abbrev pub invariant-bytes : goal.invariant-bytes
invariant-bytes l = has_blank l.from ≡ has_blank l.text

abbrev pub decreases-bytes : goal.decreases-bytes
decreases-bytes l = length l.from
