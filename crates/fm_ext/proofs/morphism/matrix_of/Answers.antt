use Rattle.std.proofs.Common.{◌≡◌, get_or, subst}
use Rattle.fm_ext.proofs.Differentials.{read_of, ring_of}
use Rattle.fm_ext.proofs.morphism.matrix_of.Goals as goal

pub returns-clause-ring : goal.returns-clause-ring
returns-clause-ring c r over =
    ring_of r c.args.lift.now c.args.degree c.index-lift-from.result c.requires (subst (λ k. c.index-lift-from.result ≡ get_or c.args.lift.now k c.index-lift-from.result) c.from.ensures c.index-lift-from.is) over

pub returns-clause-value : goal.returns-clause-value
returns-clause-value c r =
    read_of r c.args.lift.now c.args.degree c.index-lift-from.result c.requires (subst (λ k. c.index-lift-from.result ≡ get_or c.args.lift.now k c.index-lift-from.result) c.from.ensures c.index-lift-from.is)
