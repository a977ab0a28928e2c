use Rattle.std.proofs.Common.{◌&&◌, ◌∙◌, ap}
use Rattle.fm_complete.specs.Divisions.{terms_of}
use Rattle.fm_parts.specs.Replays.{all_paired_from}
use Rattle.fm_replay.proofs.Endings.{whole_same}
use Rattle.fm_replay.proofs.replay.Replay.is_whole.Goals as goal

pub returns-then-all_taken : goal.returns-then-all_taken
returns-then-all_taken c s kept =
    let p = c.args.self.now in
    c.all_paired.ensures ∙ ap (λ b. b && all_paired_from 1 (terms_of p.members) (terms_of p.members) p.treated) c.if-all_taken.ensures ∙ whole_same p s kept (terms_of c.args.inputs.now)

pub returns-else-all_taken : goal.returns-else-all_taken
returns-else-all_taken c s kept =
    let p = c.args.self.now in
    c.if-all_taken.false ∙ ap (λ b. b && all_paired_from 1 (terms_of p.members) (terms_of p.members) p.treated) c.if-all_taken.ensures ∙ whole_same p s kept (terms_of c.args.inputs.now)
