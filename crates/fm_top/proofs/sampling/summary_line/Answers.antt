use Rattle.std.proofs.Common.{codes, refl}
use Rattle.fm_top.proofs.Summaries.{appended}
use Rattle.fm_top.proofs.sampling.summary_line.Goals as goal

pub returns : goal.returns
returns c =
    appended (codes "sample ") (codes " queries ") (codes " yes ") (codes " no ") (codes " unanswered ") _ _ _ _ _ _ _ _ _ _ _ _ c.args.number c.args.queries c.args.counts.now.yes c.args.counts.now.no c.args.counts.now.unanswered
    c.new-line.ensures.items c.from.ensures refl c.from-2.ensures c.from-3.ensures c.from-4.ensures
    c.in_ok-push_count.ensures c.in_ok-push_count-2.ensures c.in_ok-push_count-3.ensures c.in_ok-push_count-4.ensures c.in_ok-push_count-5.ensures c.in_ok-push.ensures.items
