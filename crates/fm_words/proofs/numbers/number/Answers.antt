use Rattle.std.proofs.Common.{arith}
use Rattle.fm_words.proofs.LargeNumbers.{past_next}
use Rattle.fm_words.proofs.numbers.number.Goals as goal

pub returns-in_default-checked_mul : goal.returns-in_default-checked_mul
returns-in_default-checked_mul c =
    past_next _ _ _ _ c.args.digits.now c.in-Some.ensures.cases.0 c.digits.invariant.1 (omega (arith, c.in_default-checked_mul.ensures))

pub returns-in_default-checked_add : goal.returns-in_default-checked_add
returns-in_default-checked_add c =
    past_next _ _ _ _ c.args.digits.now c.in-Some.ensures.cases.0 c.digits.invariant.1 (omega (arith, c.in_default-checked_add.ensures, c.in-Some-checked_mul.ensures, c.from.ensures, c.saturating_sub.ensures))
