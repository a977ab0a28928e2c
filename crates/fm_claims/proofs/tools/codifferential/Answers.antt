use Rattle.std.proofs.Common.{refl}
use Rattle.fm_algebra.specs.Matrix.{listed, table, transpose, zero_matrix}
use Rattle.fm_algebra.specs.PolynomialMatrices.{matrix_transpose, matrix_zero}
use Rattle.fm_claims.proofs.tools.codifferential.Goals as goal

pub returns-then-degree-eq0-clause-part : goal.returns-then-degree-eq0-clause-part
unfolding matrix_transpose matrix_zero transpose zero_matrix table listed
returns-then-degree-eq0-clause-part c = λ ps. rw (c.if-degree-eq0.true, c.new-none.ensures, c.new.ensures.items) refl

pub returns-clause-there : goal.returns-clause-there
returns-clause-there c = λ ps a. c.in_ok-d.ensures.there c.args.ring ps (c.in-Some.ensures.there ps a)

pub returns-clause-formable : goal.returns-clause-formable
returns-clause-formable c = λ r ps. c.in_ok-d.ensures.formable r ps tt
