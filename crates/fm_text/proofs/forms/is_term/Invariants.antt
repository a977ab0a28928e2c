use Rattle.std.proofs.Common.{◌≡◌, length}
use Rattle.fm_text.specs.Factors.{is_term}
use Rattle.fm_text.proofs.forms.is_term.Given as goal

abbrev pub invariant-factors : goal.invariant-factors
invariant-factors l = is_term l.from ≡ is_term l.text

abbrev pub decreases-factors : goal.decreases-factors
decreases-factors l = length l.from
