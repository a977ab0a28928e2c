use Rattle.fm_complete.proofs.Numbered.{numbered, numbered_ring, numbered_rows}
use Rattle.fm_complete.proofs.pairs.member.Goals as goal

pub returns-clause-terms : goal.returns-clause-terms
returns-clause-terms c = numbered c.args.number c.args.members.now c.split_at.result.1.now c.in-Some.v.now c.in-Some._later.now c.requires.low c.split_at.ensures.back c.in-Some.ensures.cases.0

pub returns-clause-ring : goal.returns-clause-ring
returns-clause-ring c = numbered_ring c.args.number c.args.members.now c.split_at.result.1.now c.in-Some.v.now c.in-Some._later.now c.requires.low c.split_at.ensures.back c.in-Some.ensures.cases.0 c.args.ring c.args.rows c.requires.members

pub returns-clause-rows : goal.returns-clause-rows
returns-clause-rows c = numbered_rows c.args.number c.args.members.now c.split_at.result.1.now c.in-Some.v.now c.in-Some._later.now c.requires.low c.split_at.ensures.back c.in-Some.ensures.cases.0 c.args.ring c.args.rows c.requires.members
