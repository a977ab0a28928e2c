use Rattle.std.proofs.Common.{map, [], ◌∷◌}
use Rattle.fm_complete.specs.Bases.{entry_value}
use Rattle.fm_standard.specs.Writing.{log, part}
use Rattle.fm_writer.specs.Claims.{given_of, whole_part}
use Rattle.fm_writer.proofs.Claimed.{more_named, one_named}
use Rattle.fm_writer.proofs.claim.push_shown.Goals as goal

pub returns : goal.returns
returns c =
    let s = c.args.shown.now in
    let one = c.log_number.new.writer in
    let two = c.matrix_number.new.writer in
    let new = c.matrix_number-2.new.writer in
    let x = part (given_of s.x.now) in
    let y = part (given_of s.w.now) in
    more_named c.args.writer.now one new (log (whole_part s.whole) (map entry_value s.log.now)) (x ∷ y ∷ []) c.in_ok-n.n (c.in_ok-x.x ∷ c.in_ok-w.w ∷ []) c.in_ok-n.ensures
    (more_named one two new x (y ∷ []) c.in_ok-x.x (c.in_ok-w.w ∷ []) c.in_ok-x.ensures (one_named two new y c.in_ok-w.w c.in_ok-w.ensures))
