use Rattle.std.proofs.Common.{[], ◌∷◌}
use Rattle.fm_asked.proofs.tasks.after_side.Goals as goal

pub returns-in-Source : goal.returns-in-Source
returns-in-Source c = λ v b. rw c.in-Source.is (c.after_word.ensures (v ∷ []) b)

pub returns-in-Target : goal.returns-in-Target
returns-in-Target c = λ v b. rw c.in-Target.is (c.after_word-in-Target.ensures (v ∷ []) b)
