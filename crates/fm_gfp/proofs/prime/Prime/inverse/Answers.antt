use Rattle.std.proofs.Common.{arith}
use Rattle.fm_gfp.proofs.Residues.{inverse_exists, inverse_positive}
use Rattle.fm_gfp.proofs.prime.Prime.inverse.Goals as goal

pub unreachable-requires : goal.unreachable-requires
unreachable-requires c =
    let found = inverse_exists c.args.self c.args.a c.requires.not_zero c.requires.a_below in
    c.loop-k.invariant found.0 (inverse_positive _ _ _ found.2) (omega (arith, found.1, c.loop-k-test.false, c.value-k-end.ensures)) found.2
