use Rattle.fm_limit.proofs.HomotopyWords.{move_map_words}
use Rattle.fm_limit.proofs.IndependenceWords.{carried_class_words, image_first}
use Rattle.fm_limit.proofs.SameClass.{well_defined_words}
use Rattle.fm_limit.proofs.laws.homotopy.moving_and_mapping_a_class.Goals as goal

pub returns-clause-commute : goal.returns-clause-commute
returns-clause-commute c = λ p n i I J r s ls k. move_map_words p n r s k

pub returns-clause-classes : goal.returns-clause-classes
returns-clause-classes c = λ p n i I J r s ls k. carried_class_words p n r s k

pub returns-clause-degree_zero : goal.returns-clause-degree_zero
returns-clause-degree_zero c = λ p n I J r s ls k. image_first p n r s k

pub returns-clause-well_defined : goal.returns-clause-well_defined
returns-clause-well_defined c = λ p n i I J r s ls k. well_defined_words p n r s k
