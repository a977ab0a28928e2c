use Rattle.fm_limit.proofs.StageWords.{class_moves, class_words, coboundary_words, move_words}
use Rattle.fm_limit.proofs.laws.stages.stages_in_words_of_lists.Goals as goal

pub returns-clause-class : goal.returns-clause-class
returns-clause-class c = λ p n i I r. class_words p n r

pub returns-clause-coboundary : goal.returns-clause-coboundary
returns-clause-coboundary c = λ p n i I r. coboundary_words p n r

pub returns-clause-moves : goal.returns-clause-moves
returns-clause-moves c = λ p n i I r. move_words p n r

pub returns-clause-classes_move : goal.returns-clause-classes_move
returns-clause-classes_move c = λ p n i I r. class_moves p n r
