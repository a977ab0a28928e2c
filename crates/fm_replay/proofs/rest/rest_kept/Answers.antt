use Rattle.fm_replay.proofs.Additions.{next_member}
use Rattle.fm_replay.proofs.rest.rest_kept.Goals as goal

pub returns-clause-next : goal.returns-clause-next
returns-clause-next c = next_member c.args.rest.ring c.args.rest.rows c.args.rest.terms c.in-Some._head c.in-Some.ensures.head c.head.ensures.proper c.in_ok-member.member c.in_ok-member.ensures
