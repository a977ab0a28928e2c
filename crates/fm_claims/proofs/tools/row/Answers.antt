use Rattle.fm_claims.proofs.tools.row.Goals as goal

pub returns-clause-part : goal.returns-clause-part
returns-clause-part c = λ r ps. rw (c.in_ok-column.ensures.part r ps) at (c.flipped.ensures.part r ps)

pub returns-clause-there : goal.returns-clause-there
returns-clause-there c = λ ps. c.flipped.ensures.there c.args.ring ps (c.in_ok-column.ensures.there ps)

pub returns-clause-formable : goal.returns-clause-formable
returns-clause-formable c = λ r ps. c.flipped.ensures.formable r ps (c.in_ok-column.ensures.formable r ps)
