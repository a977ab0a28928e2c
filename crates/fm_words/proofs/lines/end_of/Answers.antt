use Rattle.std.proofs.Common.{◌∙◌, arith}
use Rattle.fm_words.proofs.Cuts.{after_more}
use Rattle.fm_words.proofs.lines.end_of.Goals as goal

pub lines-preserved : goal.lines-preserved
lines-preserved c = let h = rw c.in-Some.is at c.first_part.ensures.parts in let k = rw c.in-Some.is at c.first_part.ensures.shorter in
    (after_more c.lines.number c.lines.from.now c.in-Some.rest.now _ h ∙ c.lines.invariant.0, omega (arith, c.lines.invariant.1, k))
