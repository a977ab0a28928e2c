use Rattle.std.proofs.Common.{All}
use Rattle.fm_poly.specs.Polys.{IsTermOf}
use Rattle.fm_writer.proofs.tests.listed.Given as goal

abbrev pub invariant-loop-t : goal.invariant-loop-t
invariant-loop-t l = All (IsTermOf l.ring) l.terms.items
