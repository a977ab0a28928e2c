use Rattle.fm_limit.proofs.Roots.{root_zero_words, root_covers_words, root_moves_words}
use Rattle.fm_limit.proofs.laws.roots.a_root_determines_the_limit.Goals as goal

pub returns-clause-zero : goal.returns-clause-zero
returns-clause-zero c = λ p n i I r Z K U R. root_zero_words p n r R

pub returns-clause-classes : goal.returns-clause-classes
returns-clause-classes c = λ p n i I r Z K U R. root_covers_words p n r R

pub returns-clause-moves : goal.returns-clause-moves
returns-clause-moves c = λ p n i I r Z K U R. root_moves_words p n r R
