use Rattle.std.proofs.Common.{refl, ap, arith}
use Rattle.fm_parts.specs.Replays.{is_number}
use Rattle.fm_pres.specs.Tables.{parts_in}
use Rattle.fm_pres.proofs.Tables.{bounds_is_number}
use Rattle.fm_asked.proofs.PartNumbers.{past}
use Rattle.fm_asked.proofs.narrowing.numbered.Goals as goal

pub returns-then-number-eq0 : goal.returns-then-number-eq0
returns-then-number-eq0 c = ap (is_number (parts_in c.args.table.now)) c.if-number-eq0.true

pub returns-then-number-len : goal.returns-then-number-len
returns-then-number-len c =
    let h = c.if-number-len.true in
    let len = c.len.ensures in
    past (parts_in c.args.table.now) c.args.number (omega (arith, h, len))

pub returns : goal.returns
returns c =
    let low = c.if-number-eq0.false in
    let high = c.if-number-len.false in
    let len = c.len.ensures in
    (refl, bounds_is_number (parts_in c.args.table.now) c.args.number (omega (arith, low)) (omega (arith, high, len)))
