use Rattle.std.proofs.Common.{length}
use Rattle.fm_limit.proofs.IndependenceWords.{lies_read}
use Rattle.fm_limit.proofs.NextMatrices.{liftable, identity_exists, morphism_exists, phi_exists}
use Rattle.fm_limit.proofs.laws.lifts.the_next_matrix_of_a_lift_exists.Goals as goal

pub returns-clause-theta : goal.returns-clause-theta
returns-clause-theta c = λ p n i fs ds R j ts b f. (liftable p n R j ts b f).1

pub returns-clause-lambda : goal.returns-clause-lambda
returns-clause-lambda c = λ p n i fs gs ds us D S l j ls b f. identity_exists p n D S (lies_read p n fs gs l) j ls b f

pub returns-clause-morphism : goal.returns-clause-morphism
returns-clause-morphism c = λ p n i fs ds ts R f Z s k. morphism_exists p n R ts f (length Z.columns) Z s k

pub returns-clause-phi : goal.returns-clause-phi
returns-clause-phi c = λ p n i fs gs ds us ls D S l f ZS ZT s t kS kT. phi_exists p n D S (lies_read p n fs gs l) ls f (length ZS.columns) (length ZT.columns) ZS ZT s t kS kT
