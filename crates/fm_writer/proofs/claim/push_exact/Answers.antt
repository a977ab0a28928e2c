use Rattle.std.proofs.Common.{arith, refl}
use Rattle.fm_cert.specs.Lines.{line_words}
use Rattle.fm_writer.specs.Kinds.{exact_line}
use Rattle.fm_writer.proofs.KindRows.{line_pushed}
use Rattle.fm_writer.proofs.Pages.{on_ok}
use Rattle.fm_writer.proofs.claim.push_exact.Goals as goal

pub returns : goal.returns
returns c =
    let w = c.args.writer.now in
    let l = exact_line c.args.number c.args.n c.args.x c.args.w in
    on_ok c.push.result
    (line_pushed w c.push.new.self l (line_words w.names l) refl (c.ranges.number.fits, (c.ranges.n.fits, (c.ranges.x.fits, (c.ranges.w.fits, tt)))))
    c.push.ensures
