use Rattle.fm_poly.proofs.KeptTerms.{first_term_head, first_term_coefficient}
use Rattle.fm_poly.proofs.laws.the_first_term_leads.Goals as goal

pub returns-clause-head : goal.returns-clause-head
returns-clause-head c = first_term_head

pub returns-clause-coefficient : goal.returns-clause-coefficient
returns-clause-coefficient c = first_term_coefficient
