use Rattle.fm_algebra.proofs.TermWords.{of_swap, of_like, of_modulo, of_drop}
use Rattle.fm_algebra.proofs.laws.terms.like_terms_are_added.Goals as goal

pub returns-clause-swap : goal.returns-clause-swap
returns-clause-swap c = of_swap

pub returns-clause-like : goal.returns-clause-like
returns-clause-like c = of_like

pub returns-clause-modulo : goal.returns-clause-modulo
returns-clause-modulo c = of_modulo

pub returns-clause-nothing : goal.returns-clause-nothing
returns-clause-nothing c = of_drop
