use Rattle.fm_sample.proofs.Sound.{drawn, drawn_sound, drawn_small}
use Rattle.fm_sample.proofs.sampling.sample.Goals as goal

pub returns-clause-drawn : goal.returns-clause-drawn
returns-clause-drawn c = drawn _ _ _ _ c.in_ok-variables.ensures c.in_ok-draw_ideals.ensures c.in_ok-queries.ensures

pub returns-clause-sound : goal.returns-clause-sound
returns-clause-sound c = drawn_sound _ _ _ _ c.in_ok-variables.ensures c.in_ok-draw_ideals.ensures c.in_ok-queries.ensures

pub returns-clause-small : goal.returns-clause-small
returns-clause-small c = drawn_small _ _ _ _ c.in_ok-variables.ensures c.in_ok-draw_ideals.ensures c.in_ok-queries.ensures
