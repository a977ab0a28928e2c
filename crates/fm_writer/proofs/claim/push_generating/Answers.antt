use Rattle.std.proofs.Common.{ℕ, ◌<◌, ◌^◌, Option, Some, None, sym, subst, ◌∙◌}
use Rattle.std.specs.Prelude.{IfSome}
use Rattle.fm_writer.proofs.KindRows.{generating_pushed}
use Rattle.fm_writer.proofs.Pages.{on_ok}
use Rattle.fm_writer.proofs.claim.push_generating.Goals as goal

pub returns-in-Some : goal.returns-in-Some
returns-in-Some c =
    on_ok c.push.result
    (generating_pushed c.args.writer.now c.push.new.self c.args.kind c.args.p c.args.n c.args.x c.args.w c.word.result.now (Some c.in-Some.j) c.word.ensures (sym c.in-Some.is ∙ c.number.ensures.value)
    (subst (λ (o : Option ℕ). IfSome o (λ j. j < 2 ^ 64)) c.in-Some.is c.number.ensures.small) c.ranges.p.fits c.ranges.n.fits c.ranges.x.fits c.ranges.w.fits)
    c.push.ensures

pub returns-in-None : goal.returns-in-None
returns-in-None c =
    on_ok c.push-in-None.result
    (generating_pushed c.args.writer.now c.push-in-None.new.self c.args.kind c.args.p c.args.n c.args.x c.args.w c.word-in-None.result.now None c.word-in-None.ensures
    (sym c.in-None.is ∙ c.number.ensures.value) tt c.ranges.p.fits c.ranges.n.fits c.ranges.x.fits c.ranges.w.fits)
    c.push-in-None.ensures
