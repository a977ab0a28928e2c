-- The inputs of a completion one after the other, and the completion as a whole.
use Rattle.std.proofs.Common.{ℕ, suc, ◌+◌, ◌≤◌, ◌≡◌, List, [], ◌∷◌, Option, Ok, sym, ap, ◌∙◌, subst, arith}
use Rattle.fm_poly.specs.declared.ring.Ring.{Ring}
use Rattle.fm_term.specs.declared.vterm.VTerm.{VTerm}
use Rattle.fm_run.specs.Runs.{Halt, Budget, Ended, ready, Halts, ◌>>=◌}
use Rattle.fm_run.specs.Turns.{repeated}
use Rattle.fm_run.proofs.Following.{after_value}
use Rattle.fm_run.proofs.Spending.{ready_spends, then_spends}
use Rattle.fm_run.proofs.Calls.{halts_row, halts_after, later_halts}
use Rattle.fm_groebner.specs.Logs.{Input}
use Rattle.fm_complete.specs.Reductions.{divided}
use Rattle.fm_complete.specs.Completions.{Completion, numbers, kept, taken_up, with_inputs, next_pair, completed}
use Rattle.fm_complete.proofs.Spending.{divided_run_spends}
use Rattle.fm_complete.proofs.CompletionSpending.{inputs_spend, pairs_spend}

module _ (r : Ring) (k : ℕ) (v : List VTerm) (vs : List (List VTerm)) (c : Completion) where
  abbrev Taken : ℕ → ℕ → Ended Completion
  Taken j units = taken_up r (Input j) c (λ u. divided r c.members u v) units

  one_more : suc k ≡ k + 1
  one_more = omega arith

  pub input_next : (units left : ℕ) (c' : Completion) → taken_up r (Input (k + 1)) c (λ u. divided r c.members u v) units ≡ record { end = Ok c'; left = left }
      → with_inputs r (suc (k + 1)) vs c' left ≡ with_inputs r (suc k) (v ∷ vs) c units
  input_next units left c' e =
      ap (λ j. with_inputs r (suc j) vs c' left) (sym one_more)
      ∙ sym (after_value (taken_up r (Input (suc k)) c (λ u. divided r c.members u v)) (with_inputs r (suc (suc k)) vs) units left c' (ap (λ j. Taken j units) one_more ∙ e))

  pub input_halts : (old units new : ℕ) (all : Ended Completion) → units ≤ old → with_inputs r (suc k) (v ∷ vs) c units ≡ all → (o : Option Halt)
      → Halts units new (taken_up r (Input (k + 1)) c (λ u. divided r c.members u v) units) o → Halts old new all o
  input_halts old units new all spent whole o h =
      later_halts old units new all spent o (subst (λ d. Halts units new d o) whole
      (halts_row (taken_up r (Input (suc k)) c (λ u. divided r c.members u v)) (with_inputs r (suc (suc k)) vs) units new (λ d. inputs_spend r (suc (suc k)) vs d) o
      (subst (λ j. Halts units new (Taken j units) o) (sym one_more) h)))

  pub input_left : (units left : ℕ) (c' : Completion) → taken_up r (Input (k + 1)) c (λ u. divided r c.members u v) units ≡ record { end = Ok c'; left = left } → left ≤ units
  input_left units left c' e =
      let h = then_spends (λ u. divided r c.members u v) (λ x. ready (kept r (Input (k + 1)) (numbers x.steps) x.rest c)) (divided_run_spends r c.members v) (λ x. ready_spends (kept r (Input (k + 1)) (numbers x.steps) x.rest c)) units in
      let l : (Taken (k + 1) units).left ≡ left = ap (λ (d : Ended Completion). d.left) e in
      omega (arith, h, l)

module _ (r : Ring) (inputs : List (List VTerm)) (start : Completion) (empty : start ≡ record { members = []; pending = []; log = [] }) (units : ℕ) where
  abbrev From : Completion → Ended Completion
  From s = (with_inputs r 1 inputs s >>= repeated Budget (next_pair r)) units

  completed_from : From start ≡ completed r inputs units
  unfolding completed
  completed_from = ap From empty

  pub inputs_halt : (new : ℕ) (o : Option Halt) → Halts units new (with_inputs r 1 inputs start units) o → Halts units new (completed r inputs units) o
  inputs_halt new o h = subst (λ d. Halts units new d o) completed_from (halts_row (with_inputs r 1 inputs start) (repeated Budget (next_pair r)) units new (λ c. pairs_spend r c) o h)

  pub pairs_halt : (c : Completion) (mid new : ℕ) → with_inputs r 1 inputs start units ≡ record { end = Ok c; left = mid } → (o : Option Halt) → Halts mid new (repeated Budget (next_pair r) c mid) o
      → Halts units new (completed r inputs units) o
  pairs_halt c mid new e o h =
      subst (λ d. Halts units new d o) completed_from (halts_after (with_inputs r 1 inputs start) (repeated Budget (next_pair r)) units new c mid e (λ u. inputs_spend r 1 inputs start u) o h)

  pub completion_ends : (c d : Completion) (mid left : ℕ) → with_inputs r 1 inputs start units ≡ record { end = Ok c; left = mid } → repeated Budget (next_pair r) c mid ≡ record { end = Ok d; left = left }
      → completed r inputs units ≡ record { end = Ok d; left = left }
  completion_ends c d mid left e f = sym completed_from ∙ after_value (with_inputs r 1 inputs start) (repeated Budget (next_pair r)) units mid c e ∙ f
