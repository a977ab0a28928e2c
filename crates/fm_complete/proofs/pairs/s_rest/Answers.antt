use Rattle.std.proofs.Common.{arith}
use Rattle.fm_complete.specs.Divisions.{terms_of}
use Rattle.fm_complete.specs.Trails.{member_at}
use Rattle.fm_complete.proofs.CompletionSpending.{s_leaves}
use Rattle.fm_complete.proofs.pairs.s_rest.Goals as goal

pub returns-in-Err-Memory-clause-follows : goal.returns-in-Err-Memory-clause-follows
returns-in-Err-Memory-clause-follows c =
    let ms = terms_of c.args.members.now in
    let paid = c.if-not-spend.ensures in
    (omega (arith, paid), s_leaves c.args.ring ms (member_at ms c.args.earlier) (member_at ms c.args.later) c.args.work.now c.spend.new.self paid)
