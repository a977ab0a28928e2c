use Rattle.std.proofs.Common.{◌∙◌, sym}
use Rattle.std.proofs.lemmas.Bool.{eqb-false}
use Rattle.fm_asked.proofs.AllLines.{next_ended, last_of}
use Rattle.fm_asked.proofs.lines.next_line.Goals as goal

pub returns-in-Some-clause-lines : goal.returns-in-Some-clause-lines
returns-in-Some-clause-lines c = next_ended c.args.text.now c.first_part.result.0.now c.in-Some.rest.now (rw c.in-Some.is at c.first_part.ensures.parts)

pub returns-in-None-clause-lines : goal.returns-in-None-clause-lines
returns-in-None-clause-lines c = last_of c.args.text.now c.first_part.result.0.now (eqb-false _ _ (sym c.is_empty.ensures ∙ c.if-is_empty.false))
    (rw c.in-None.is at c.first_part.ensures.parts)
