use Rattle.std.proofs.Common.{ap}
use Rattle.fm_complete.specs.Divisions.{terms_of}
use Rattle.fm_parts.specs.Replays as definitions
use Rattle.fm_replay.proofs.VectorNumbers.{no_member}
use Rattle.fm_replay.proofs.stepping.reduce_once.Goals as goal

pub returns-in_default-clause-follows : goal.returns-in_default-clause-follows
returns-in_default-clause-follows c why =
    ap (λ g. definitions.reduce_once c.args.ring why c.args.k g c.args.v.now.terms) (no_member (terms_of c.args.members.now) c.args.k c.in_default.ensures.there)
