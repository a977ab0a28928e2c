use Rattle.fm_claims.proofs.chained.matrix.Goals as goal

pub returns-in-First-clause-there : goal.returns-in-First-clause-there
returns-in-First-clause-there c = λ r ps h. let k = rw c.in-First.is at h in c.beside.ensures.there r ps k.0 k.1

pub returns-in-First-clause-formable : goal.returns-in-First-clause-formable
returns-in-First-clause-formable c = λ r ps. c.beside.ensures.formable r ps tt tt
