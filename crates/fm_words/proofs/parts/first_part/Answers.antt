use Rattle.std.proofs.Common.{sym}
use Rattle.fm_words.proofs.Cuts.{parts_at, before_at, after_at, not_cut, all_before, none_after}
use Rattle.fm_words.proofs.parts.first_part.Goals as goal

pub returns-then-is-clause-parts : goal.returns-then-is-clause-parts
returns-then-is-clause-parts c = parts_at c.args.mark _ _ c.bytes-test.true c.bytes.invariant.1 (sym c.if-is.ensures)

pub returns-then-is-clause-before : goal.returns-then-is-clause-before
returns-then-is-clause-before c = before_at c.args.mark _ _ c.bytes-test.true c.bytes.invariant.1 (sym c.if-is.ensures)

pub returns-then-is-clause-after : goal.returns-then-is-clause-after
returns-then-is-clause-after c = after_at c.args.mark _ _ c.bytes-test.true c.bytes.invariant.1 (sym c.if-is.ensures)

pub returns-clause-parts : goal.returns-clause-parts
returns-clause-parts c = not_cut c.args.mark _ _ c.bytes-test.false c.bytes.invariant.1

pub returns-clause-before : goal.returns-clause-before
returns-clause-before c = all_before c.args.mark _ _ c.bytes-test.false c.bytes.invariant.1

pub returns-clause-after : goal.returns-clause-after
returns-clause-after c = none_after c.args.mark _ _ c.bytes-test.false c.bytes.invariant.1
