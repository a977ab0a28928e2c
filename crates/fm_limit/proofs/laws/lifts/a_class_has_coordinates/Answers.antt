use Rattle.fm_limit.proofs.StageWords.{coordinates_words}
use Rattle.fm_limit.proofs.laws.lifts.a_class_has_coordinates.Goals as goal

pub returns : goal.returns
returns c = λ p n i I r Z s k. coordinates_words p n r Z s k
