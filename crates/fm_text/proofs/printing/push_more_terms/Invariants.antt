use Rattle.std.proofs.Common.{map, length, true, string_bytes}
use Rattle.fm_poly.specs.Polys.{pairs}
use Rattle.fm_text.specs.Printing.{HaveLength, joined}
use Rattle.fm_text.specs.Texts.{term_text}
use Rattle.fm_text.proofs.PrintingSteps.{Writing}
use Rattle.fm_text.proofs.printing.push_more_terms.Given as goal

abbrev pub invariant-terms : goal.invariant-terms
invariant-terms l =
    Writing l.initial.out.items l.out.items (joined 43 true (map (term_text (map string_bytes l.names)) (pairs l.left)))
    (joined 43 true (map (term_text (map string_bytes l.names)) (pairs l.fn.terms)))
    × HaveLength (length l.names) (pairs l.left)

abbrev pub decreases-terms : goal.decreases-terms
decreases-terms l = length l.left
