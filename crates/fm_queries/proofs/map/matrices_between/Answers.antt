use Rattle.std.proofs.Common.{◌≡◌, sym, subst}
use Rattle.fm_lift.specs.Lifts.{AreMatricesOver}
use Rattle.fm_ext.specs.Exts.{ring_of}
use Rattle.fm_queries.proofs.MapBetween.{lambda_fails, long, matrix_rows, matrix_columns, phi_fails, compare_fails, compare_goes}
use Rattle.fm_queries.proofs.map.matrices_between.Goals as goal

pub returns-in_err-lambda-clause-follows : goal.returns-in_err-lambda-clause-follows
returns-in_err-lambda-clause-follows c =
    let b = c.args.source.now in
    let d = c.args.target.now in
    let i = c.args.degree in
    lambda_fails i b d c.args.work.now c.lambda_of.new.work c.in_err-lambda.field-0.0 c.in_err-lambda.ensures.follows c.from_residual.result c.from_residual.ensures

pub matrix_of-requires : goal.matrix_of-requires
matrix_of-requires c =
    let b = c.args.source.now in
    let d = c.args.target.now in
    let i = c.args.degree in
    let ls = c.in_ok-lambda.lambda in
    let items = c.deref.result.now in
    let same : items ≡ ls.items = c.deref.ensures.value in
    long i b d ls items same c.in_ok-lambda.ensures.source.ext c.in_ok-lambda.ensures.target.ext c.requires.ring c.requires.source c.requires.target (c.in_ok-lambda.ensures.lifts c.requires.nested)

pub phi_of-requires-clause-ring_lambda : goal.phi_of-requires-clause-ring_lambda
phi_of-requires-clause-ring_lambda c =
    let b = c.args.source.now in
    let d = c.args.target.now in
    let i = c.args.degree in
    let ls = c.in_ok-lambda.lambda in
    let items = c.deref.result.now in
    let same : items ≡ ls.items = c.deref.ensures.value in
    let m = c.matrix_of.result.now in
    let rings : AreMatricesOver (ring_of b.ext) items = subst (AreMatricesOver (ring_of b.ext)) (sym same) c.in_ok-lambda.ensures.rings in
    c.matrix_of.ensures.ring (ring_of b.ext) rings

pub phi_of-requires-clause-rows : goal.phi_of-requires-clause-rows
phi_of-requires-clause-rows c =
    let b = c.args.source.now in
    let d = c.args.target.now in
    let i = c.args.degree in
    let ls = c.in_ok-lambda.lambda in
    let items = c.deref.result.now in
    let same : items ≡ ls.items = c.deref.ensures.value in
    let m = c.matrix_of.result.now in
    matrix_rows i b d ls items same c.in_ok-lambda.ensures.source.ext c.in_ok-lambda.ensures.target.ext c.requires.ring c.requires.source c.requires.target (c.in_ok-lambda.ensures.lifts c.requires.nested) m (c.matrix_of.ensures.value (ring_of b.ext))

pub phi_of-requires-clause-columns : goal.phi_of-requires-clause-columns
phi_of-requires-clause-columns c =
    let b = c.args.source.now in
    let d = c.args.target.now in
    let i = c.args.degree in
    let ls = c.in_ok-lambda.lambda in
    let items = c.deref.result.now in
    let same : items ≡ ls.items = c.deref.ensures.value in
    let m = c.matrix_of.result.now in
    matrix_columns i b d ls items same c.in_ok-lambda.ensures.source.ext c.in_ok-lambda.ensures.target.ext c.requires.ring c.requires.source c.requires.target (c.in_ok-lambda.ensures.lifts c.requires.nested) m (c.matrix_of.ensures.value (ring_of b.ext))

pub returns-in_err-phi-clause-follows : goal.returns-in_err-phi-clause-follows
returns-in_err-phi-clause-follows c =
    let b = c.args.source.now in
    let d = c.args.target.now in
    let i = c.args.degree in
    let ls = c.in_ok-lambda.lambda in
    let items = c.deref.result.now in
    let same : items ≡ ls.items = c.deref.ensures.value in
    let m = c.matrix_of.result.now in
    phi_fails i b d ls items same c.in_ok-lambda.ensures.first c.args.work.now c.lambda_of.new.work c.in_ok-lambda.ensures.follows m (c.matrix_of.ensures.value (ring_of b.ext)) c.phi_of.new.work c.in_err-phi.field-0.0 c.in_err-phi.ensures.follows c.from_residual-in_err-phi.result c.from_residual-in_err-phi.ensures

pub returns-in_err-compared-clause-follows : goal.returns-in_err-compared-clause-follows
returns-in_err-compared-clause-follows c =
    let b = c.args.source.now in
    let d = c.args.target.now in
    let i = c.args.degree in
    let ls = c.in_ok-lambda.lambda in
    let items = c.deref.result.now in
    let same : items ≡ ls.items = c.deref.ensures.value in
    let m = c.matrix_of.result.now in
    compare_fails i b d ls items same c.in_ok-lambda.ensures.first c.args.work.now c.lambda_of.new.work c.in_ok-lambda.ensures.follows m (c.matrix_of.ensures.value (ring_of b.ext)) c.phi_of.new.work c.in_ok-phi.phi c.in_ok-phi.ensures.follows c.compare.new.work c.in_err-compared.field-0.0 c.in_err-compared.ensures.follows c.from_residual-in_err-compared.result c.from_residual-in_err-compared.ensures

pub returns-clause-follows : goal.returns-clause-follows
returns-clause-follows c =
    let b = c.args.source.now in
    let d = c.args.target.now in
    let i = c.args.degree in
    let ls = c.in_ok-lambda.lambda in
    let items = c.deref.result.now in
    let same : items ≡ ls.items = c.deref.ensures.value in
    let m = c.matrix_of.result.now in
    compare_goes i b d ls items same c.in_ok-lambda.ensures.first c.args.work.now c.lambda_of.new.work c.in_ok-lambda.ensures.follows m (c.matrix_of.ensures.value (ring_of b.ext)) c.phi_of.new.work c.in_ok-phi.phi c.in_ok-phi.ensures.follows c.compare.new.work c.in_ok-compared.compared c.in_ok-compared.ensures.follows

pub returns-clause-over : goal.returns-clause-over
returns-clause-over c =
    let over = c.in_ok-compared.ensures.over in
    record { lambda = c.in_ok-lambda.ensures.rings; phi = c.in_ok-phi.ensures.ring; null = over.null; one = over.one; onto = over.onto }
