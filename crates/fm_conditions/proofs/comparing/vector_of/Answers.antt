use Rattle.fm_syz.proofs.ColumnTerms.{vector_terms}
use Rattle.fm_conditions.proofs.comparing.vector_of.Goals as goal

pub returns-clause-terms : goal.returns-clause-terms
returns-clause-terms c = vector_terms c.args.ring c.in_ok-v.v c.args.column.now c.in_ok-v.ensures c.requires.over c.head-head.ensures.proper
