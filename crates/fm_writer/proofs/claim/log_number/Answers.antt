use Rattle.std.proofs.Common.{ℕ, map}
use Rattle.fm_complete.specs.Bases.{entry_value}
use Rattle.fm_standard.specs.Writing.{log, log_written, reference_written}
use Rattle.fm_writer.specs.Claims.{whole_part}
use Rattle.fm_writer.specs.Writers.{HasNumbered}
use Rattle.fm_writer.proofs.Claimed.{if_ok, logged}
use Rattle.fm_writer.proofs.claim.log_number.Goals as goal

pub returns : goal.returns
returns c =
    let w = c.args.writer.now in
    let one = c.whole_number.new.writer in
    let new = c.log.new.self in
    let g = whole_part c.args.whole.now in
    let entries = map entry_value c.args.log.now in
    if_ok {P = HasNumbered one (log_written entries c.in_ok-g.g one.shelf) new} {Q = HasNumbered w (reference_written w.names (log g entries) w.shelf) new} c.log.result
    (λ k h. logged w one new g entries c.in_ok-g.g k c.in_ok-g.ensures h) c.log.ensures
