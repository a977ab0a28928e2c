use Rattle.std.proofs.Common.{subst, sym}
use Rattle.fm_vec.specs.Steps.{AreFrom}
use Rattle.fm_vec.proofs.PlacedTerms.{within_from}
use Rattle.fm_vec.proofs.vector.Vector.to_column.Goals as goal

pub column_of-requires-clause-within : goal.column_of-requires-clause-within
column_of-requires-clause-within c = subst (AreFrom 1) (sym c.deref.ensures.value) (within_from c.self.inside.ring c.self.inside.rows c.self.inside.terms.items c.self.invariant.within)
