use Rattle.std.proofs.Common.{◌*◌, ◌-◌, ap₂, sym, ◌∙◌, arith}
use Rattle.std.specs.Ordering.{nat_cmp}
use Rattle.fm_mono.proofs.LastVariable.{last_cmp_none}
use Rattle.fm_mono.proofs.Words.{last_decides}
use Rattle.fm_mono.proofs.entries.compare_last.Goals as goal

pub returns-then-x-y : goal.returns-then-x-y
returns-then-x-y c =
    c.cmp.ensures ∙ ap₂ nat_cmp c.word-y.ensures c.word-x.ensures
    ∙ last_decides _ _ (6 - 2 * c.loop-k.k) (7 - 2 * c.loop-k.k) (omega (arith, c.loop-k-test.true)) (c.told-b ∙ sym c.told-a) (omega (arith, c.loop-k-test.true, c.told-a)) c.fits-a c.fits-b
    (λ j later. c.loop-k.invariant j (omega (arith, c.loop-k-test.true))) (λ e. c.if-x-y.true (c.word-x.ensures ∙ e ∙ sym c.word-y.ensures))

pub returns : goal.returns
returns c = last_cmp_none _ _ (c.told-b ∙ sym c.told-a) (λ j. c.loop-k.invariant j (omega (arith, c.loop-k-test.false)))
