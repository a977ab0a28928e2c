-- Runs in turns: a state is taken further up to the last turn.
use Rattle.std.specs.Prelude.{ℕ, zero, suc}
use Rattle.fm_run.specs.Runs.{Run, ready, halted, ◌>>=◌}

-- how a turn ends: it is the last, or another one follows
pub data Turn (S A : Type 0) : Type 0 where
  last : A → Turn S A
  again : S → Turn S A

module _ {E : Type 0} (spent : E) {S A : Type 0} (turn : S → Run E (Turn S A)) where
  abbrev pub after_turn : (S → Run E A) → Turn S A → Run E A
  after_turn f (last x) = ready x
  after_turn f (again s) = f s

  -- a turn, and at most count more
  abbrev pub turns : ℕ → S → Run E A
  turns zero s = turn s >>= after_turn (λ s'. halted spent)
  turns (suc count) s = turn s >>= after_turn (turns count)

  -- turns up to the last one; each but the last spends a unit, so that with no unit left there is no other
  abbrev pub repeated : S → Run E A
  repeated s units = turns units s units
