use Rattle.std.proofs.Common.{◌≡◌, length}
use Rattle.std.specs.List.{list_all}
use Rattle.fm_text.specs.Factors.{is_term, is_polynomial, signed}
use Rattle.fm_text.proofs.forms.is_polynomial.Given as goal

abbrev pub invariant-terms : goal.invariant-terms
invariant-terms l = list_all (λ t. is_term t.text) (signed l.from.sign l.from.text.now) ≡ is_polynomial l.text

abbrev pub decreases-terms : goal.decreases-terms
decreases-terms l = length l.from.text.now
