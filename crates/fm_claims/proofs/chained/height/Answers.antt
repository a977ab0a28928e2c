use Rattle.std.proofs.Common.{refl, ◌∙◌}
use Rattle.fm_claims.proofs.chained.height.Goals as goal

pub rows-requires : goal.rows-requires
rows-requires c = let h = rw c.in-First.is at c.requires in h.0

pub rows-requires-in-Found : goal.rows-requires-in-Found
rows-requires-in-Found c = rw c.in-Found.is at c.requires

pub returns-in-First : goal.returns-in-First
returns-in-First c = c.rows.ensures ∙ rw c.in-First.is refl

pub returns-in-Found : goal.returns-in-Found
returns-in-Found c = c.rows-in-Found.ensures ∙ rw c.in-Found.is refl
