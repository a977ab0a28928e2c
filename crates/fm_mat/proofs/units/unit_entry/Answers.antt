use Rattle.std.proofs.Common.{rules}
use Rattle.fm_mat.proofs.Steps.{other_entry}
use Rattle.fm_mat.proofs.units.unit_entry.Goals as goal

pub returns-then-i-j-clause-value : goal.returns-then-i-j-clause-value
returns-then-i-j-clause-value c = other_entry c.args.ring c.zero.result c.args.i c.args.j c.zero.ensures.none (search rules)
