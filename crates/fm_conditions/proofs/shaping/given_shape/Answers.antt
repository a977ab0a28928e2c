use Rattle.std.proofs.Common.{arith}
use Rattle.fm_pres.proofs.Shapes.{given_fits}
use Rattle.fm_conditions.proofs.shaping.given_shape.Goals as goal

pub returns-clause-fits : goal.returns-clause-fits
returns-clause-fits c = let low = c.rows.ensures in let size = c.rows.type_inv in given_fits c.args.m.now c.columns.ensures.shape (omega (arith, low, size)) c.columns.ensures.few
