use Rattle.std.proofs.Common.{ap, option_map}
use Rattle.fm_asked.proofs.TaskWords.{no_more}
use Rattle.fm_asked.proofs.tasks.ends_so.Goals as goal

pub returns-in-Some-more : goal.returns-in-Some-more
returns-in-Some-more c =
    no_more c.args.numbered _ c.in-Some.text.now _ c.in-Some-more.field-0.now c.if-not-numbered.false (ap (option_map (λ t. t.now)) c.in-Some.is)
    (rw c.in-Some-more.is at c.first_part.ensures.parts)
