use Rattle.std.proofs.Common.{sym, subst}
use Rattle.fm_places.specs.Meanings.{IsGoal}
use Rattle.fm_check.proofs.block_rows.cross.Goals as goal

pub returns-clause-sound : goal.returns-clause-sound
returns-clause-sound c = λ q ps ideals h o. c.beyond.ensures.sound q ps ideals (subst (IsGoal q ps) (sym c.replace.ensures.value) h) (c.in_ok-source.ensures.parts ps o)
