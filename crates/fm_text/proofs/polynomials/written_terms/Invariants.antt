use Rattle.std.proofs.Common.{◌≡◌, All, length}
use Rattle.fm_poly.specs.Polys.{IsTermOf}
use Rattle.fm_text.specs.Factors.{signed}
use Rattle.fm_words.specs.Steps.{steps}
use Rattle.fm_text.specs.Polynomials.{plus_term, written_terms}
use Rattle.fm_text.specs.Views.{rules_view}
use Rattle.fm_text.proofs.polynomials.written_terms.Given as goal

abbrev pub invariant-terms : goal.invariant-terms
invariant-terms l =
    (steps (plus_term (rules_view l.rules)) l.terms.items (signed l.from.sign l.from.text.now) ≡ written_terms (rules_view l.rules) l.text)
    × All (IsTermOf l.rules.ring) l.terms.items

abbrev pub decreases-terms : goal.decreases-terms
decreases-terms l = length l.from.text.now
