use Rattle.std.proofs.Common.{◌≡◌, length}
use Rattle.fm_text.specs.Factors.{terms_of}
use Rattle.fm_text.proofs.terms.all_terms.Given as goal

abbrev pub invariant-blanks : goal.invariant-blanks
invariant-blanks l = terms_of l.from ≡ terms_of l.text

abbrev pub decreases-blanks : goal.decreases-blanks
decreases-blanks l = length l.from
