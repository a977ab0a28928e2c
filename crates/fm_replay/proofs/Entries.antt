-- Entries by what they take up.
use Rattle.std.proofs.Common.{ℕ, ◌≡◌, List, sym}
use Rattle.fm_poly.specs.declared.ring.Ring.{Ring}
use Rattle.fm_term.specs.declared.vterm.VTerm.{VTerm}
use Rattle.fm_complete.specs.declared.entry.Entry.{Entry as ProgramEntry}
use Rattle.fm_complete.specs.declared.entry.Start.TheVariants as starts
use Rattle.fm_complete.specs.Bases.{entry_value, start_value}
use Rattle.fm_parts.specs.Replays.{Replay, take_input, take_pair, skip_pair, start_entry, replay_entry}

module _ (r : Ring) (inputs : List (List VTerm)) (s : Replay) (e : ProgramEntry) where
  pub input_entry : (k : ℕ) (by : List ℕ) → e.start ≡ starts.Input k → by ≡ e.by.items → take_input r inputs s k by e.keep ≡ replay_entry r inputs s (entry_value e)
  unfolding replay_entry
  input_entry k by is same = λ i. start_entry r inputs s (start_value (sym is i)) (same i) e.keep

  pub pair_entry : (a b : ℕ) (by : List ℕ) → e.start ≡ starts.Pair a b → by ≡ e.by.items → take_pair r inputs s a b by e.keep ≡ replay_entry r inputs s (entry_value e)
  unfolding replay_entry
  pair_entry a b by is same = λ i. start_entry r inputs s (start_value (sym is i)) (same i) e.keep

  pub skip_entry : (a b k : ℕ) → e.start ≡ starts.Skip a b k → skip_pair r inputs s a b k ≡ replay_entry r inputs s (entry_value e)
  unfolding replay_entry
  skip_entry a b k is = λ i. start_entry r inputs s (start_value (sym is i)) e.by.items e.keep
