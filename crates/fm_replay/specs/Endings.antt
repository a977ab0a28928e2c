-- What comes of logs.
use Rattle.std.specs.Prelude.{◌≡◌, ℕ, Bool, true, false, List, [], ◌∷◌, ◌++◌, length, Ok, Err}
use Rattle.fm_poly.specs.declared.ring.Ring.{Ring}
use Rattle.fm_term.specs.declared.vterm.VTerm.{VTerm}
use Rattle.fm_groebner.specs.Logs.{Entry}
use Rattle.fm_complete.specs.Divisions.{terms_of}
use Rattle.fm_parts.specs.Replays.{Reason, Truncated, Form, Exponents, Reference, Shape, Depth, Value, BadEntry, BadLog, Reduction, Replay, replay_entry, replayed, is_whole}
use Rattle.fm_replay.specs.declared.replaying.Replayed.{Replayed}
use Rattle.fm_replay.specs.declared.replaying.Replayed.TheVariants.{Members, Unfinished, Bad}
use Rattle.fm_replay.specs.Kept.{ReplayValue, Keeps}

abbrev pub is_exponents : Reason → Bool
is_exponents Exponents = true
is_exponents Truncated = false
is_exponents Form = false
is_exponents Reference = false
is_exponents Shape = false
is_exponents Depth = false
is_exponents Value = false
is_exponents BadEntry = false
is_exponents BadLog = false
is_exponents Reduction = false

-- the entry behind the first n ones, which are free steps, is none
pub record IsFirstBad (r : Ring) (inputs : List (List VTerm)) (log : List Entry) (n : ℕ) (exponents : Bool) : Type 0 where
  pub before : List Entry
  pub entry : Entry
  pub after : List Entry
  pub replay : Replay
  pub why : Reason
  pub is : log ≡ before ++ entry ∷ after
  pub count : length before ≡ n
  pub free : replayed r inputs before ≡ Ok replay
  pub refused : replay_entry r inputs replay entry ≡ Err why
  pub reason : exponents ≡ is_exponents why

-- what came of the replay of a log
abbrev pub Ends : Ring → List (List VTerm) → List Entry → Replayed → Type 0
Ends r inputs log (Members vs) = (s : Replay) × (replayed r inputs log ≡ Ok s) × (is_whole inputs s ≡ true) × (terms_of vs.items ≡ s.members)
Ends r inputs log Unfinished = (s : Replay) × (replayed r inputs log ≡ Ok s) × (is_whole inputs s ≡ false)
Ends r inputs log (Bad n exponents) = IsFirstBad r inputs log n exponents

-- what came of a log whose replay is kept at its end
abbrev pub EndsFrom : ReplayValue → List (List VTerm) → Replayed → Type 0
EndsFrom p inputs (Members vs) = ((s : Replay) → Keeps p s → is_whole inputs s ≡ true) × (vs.items ≡ p.members)
EndsFrom p inputs Unfinished = (s : Replay) → Keeps p s → is_whole inputs s ≡ false
EndsFrom p inputs (Bad n exponents) = ⊥
