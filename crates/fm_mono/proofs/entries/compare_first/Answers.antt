use Rattle.std.proofs.Common.{◌*◌, ap₂, sym, ◌∙◌, arith}
use Rattle.std.specs.Ordering.{nat_cmp}
use Rattle.fm_mono.proofs.FirstVariable.{first_cmp_none}
use Rattle.fm_mono.proofs.Words.{first_decides}
use Rattle.fm_mono.proofs.entries.compare_first.Goals as goal

pub returns-then-x-y : goal.returns-then-x-y
returns-then-x-y c =
    c.cmp.ensures ∙ ap₂ nat_cmp c.word-x.ensures c.word-y.ensures
    ∙ first_decides _ _ (2 * c.loop-k.k) (c.told-b ∙ sym c.told-a) (omega (arith, c.loop-k-test.true, c.told-a)) c.fits-a c.fits-b
    c.loop-k.invariant (λ e. c.if-x-y.true (c.word-x.ensures ∙ e ∙ sym c.word-y.ensures))

pub returns : goal.returns
returns c = first_cmp_none _ _ (c.told-b ∙ sym c.told-a) (λ j below. c.loop-k.invariant j (omega (arith, c.loop-k-test.false, c.told-a)))
