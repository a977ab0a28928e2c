use Rattle.std.proofs.Common.{◌≡◌, Ok, false, refl, sym, ap, subst}
use Rattle.fm_words.proofs.FirstFaults.{same_ok}
use Rattle.fm_parts.specs.Replays.{Replay, nothing_replayed, replay_entry, is_whole, replayed}
use Rattle.fm_parts.specs.Examples.{small_ring, small_inputs, first_entries}
use Rattle.fm_parts.proofs.laws.a_small_log_is_replayed.Goals as goal

pub returns-clause-formed : goal.returns-clause-formed
unfolding nothing_replayed replay_entry is_whole
returns-clause-formed c = refl

pub returns-clause-skipped : goal.returns-clause-skipped
unfolding nothing_replayed replay_entry is_whole
returns-clause-skipped c = refl

pub returns-clause-whole : goal.returns-clause-whole
unfolding nothing_replayed replay_entry is_whole
returns-clause-whole c = refl

pub returns-clause-unfinished : goal.returns-clause-unfinished
unfolding nothing_replayed replay_entry is_whole
returns-clause-unfinished c = λ s e. subst (λ t. is_whole small_inputs t ≡ false) (same_ok e) refl

pub returns-clause-not_zero : goal.returns-clause-not_zero
unfolding nothing_replayed replay_entry is_whole
returns-clause-not_zero c = refl

pub returns-clause-no_divisor : goal.returns-clause-no_divisor
unfolding nothing_replayed replay_entry is_whole
returns-clause-no_divisor c = refl

pub returns-clause-no_member : goal.returns-clause-no_member
unfolding nothing_replayed replay_entry is_whole
returns-clause-no_member c = refl

pub returns-clause-too_early : goal.returns-clause-too_early
unfolding nothing_replayed replay_entry is_whole
returns-clause-too_early c = refl

pub returns-clause-twice : goal.returns-clause-twice
unfolding nothing_replayed replay_entry is_whole
returns-clause-twice c = refl

pub returns-clause-no_input : goal.returns-clause-no_input
unfolding nothing_replayed replay_entry is_whole
returns-clause-no_input c = refl

pub returns-clause-turned : goal.returns-clause-turned
unfolding nothing_replayed replay_entry is_whole
returns-clause-turned c = refl
