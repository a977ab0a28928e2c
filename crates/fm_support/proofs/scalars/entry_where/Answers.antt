use Rattle.std.proofs.Common.{rules}
use Rattle.fm_poly.specs.Polys.{meaning}
use Rattle.fm_support.proofs.Tables.{other_place}
use Rattle.fm_support.proofs.scalars.entry_where.Goals as goal

pub returns-then-i-j-clause-value : goal.returns-then-i-j-clause-value
returns-then-i-j-clause-value c = let f = c.args.f.now in other_place f.ring (meaning f.ring f.terms) c.zero.result c.args.i c.args.j c.zero.ensures.none (search rules)
