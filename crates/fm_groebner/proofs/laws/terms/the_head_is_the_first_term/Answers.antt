use Rattle.fm_groebner.proofs.NormalForms.{head_is_first}
use Rattle.fm_groebner.proofs.Consequences.{head_unique}
use Rattle.fm_groebner.proofs.laws.terms.the_head_is_the_first_term.Goals as goal

pub returns-clause-first : goal.returns-clause-first
returns-clause-first c = head_is_first

pub returns-clause-unique : goal.returns-clause-unique
returns-clause-unique c = head_unique
