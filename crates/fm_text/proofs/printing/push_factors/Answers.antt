use Rattle.std.proofs.Common.{map, string_bytes, arith}
use Rattle.fm_text.proofs.PrintingSteps.{factors_end}
use Rattle.fm_text.proofs.printing.push_factors.Goals as goal

pub returns-clause-ok : goal.returns-clause-ok
returns-clause-ok c =
    factors_end _ _ _ (map string_bytes c.loop-k.left.now) c.args.mono.now c.loop-k.k c.loop-k.some c.loop-k.invariant (omega (arith, c.vars-k-end.ensures.exact, c.loop-k-test.false))
