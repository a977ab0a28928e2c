-- Completions spend units and make none.
use Rattle.std.proofs.Common.{ℕ, zero, suc, ◌+◌, ◌<◌, ◌≤◌, ◌≡◌, Result, Ok, ap, if◌then◌else◌, Bool, true, false, List, [], ◌∷◌, Err, arith}
use Rattle.fm_poly.specs.declared.ring.Ring.{Ring}
use Rattle.fm_term.specs.declared.vterm.VTerm.{VTerm}
use Rattle.fm_vec.specs.Multiples.{s_vector_fits, s_vector_of}
use Rattle.fm_run.specs.Runs.{Halt, Budget, Exponent, Ended, Spends, ended_with, ready}
use Rattle.fm_run.specs.Turns.{again, repeated}
use Rattle.fm_run.proofs.Spending.{ready_spends, then_spends, turns_spend}
use Rattle.fm_groebner.specs.Logs.{Entry, Input, Pair}
use Rattle.fm_complete.specs.declared.critical_pair.CriticalPair.{CriticalPair}
use Rattle.fm_complete.specs.Trails.{member_at}
use Rattle.fm_complete.specs.Reductions.{reduced, divided}
use Rattle.fm_complete.specs.Completions.{Completion, skipping, numbers, kept, taken_up, with_inputs, s_divided, pair_formed, pair_turn, next_pair, completed}
use Rattle.fm_complete.specs.Remainders.{RemainderValue, remainder_of}
use Rattle.fm_complete.proofs.Spending.{reduced_spends, divided_run_spends}

module _ (r : Ring) where
  pub s_divided_spends : (members : List (List VTerm)) (f g : List VTerm) → Spends (s_divided r members f g)
  s_divided_spends members f g zero = omega arith
  s_divided_spends members f g (suc units) = go (s_vector_fits f g)
    where
      go : (b : Bool) → (if b then reduced r members units (s_vector_of r f g) else record { end = Err Exponent; left = units }).left ≤ suc units
      go true = let h = reduced_spends r members (s_vector_of r f g) units in omega (arith, h)
      go false = omega arith

  pub inputs_spend : (k : ℕ) (vs : List (List VTerm)) (c : Completion) → Spends (with_inputs r k vs c)
  inputs_spend k [] c = ready_spends c
  inputs_spend k (v ∷ vs) c =
      then_spends (taken_up r (Input k) c (λ units. divided r c.members units v)) (with_inputs r (suc k) vs)
      (then_spends (λ units. divided r c.members units v) (λ x. ready (kept r (Input k) (numbers x.steps) x.rest c)) (divided_run_spends r c.members v) (λ x. ready_spends (kept r (Input k) (numbers x.steps) x.rest c)))
      (λ d. inputs_spend (suc k) vs d)

  pub pair_spends : (members : List (List VTerm)) (log : List Entry) (pending : List CriticalPair) → Spends (pair_turn r members log pending)
  pair_spends members log [] = λ units. omega arith
  pair_spends members log (p ∷ ps) =
      let c : Completion = record { members = members; pending = ps; log = log } in
      let run = s_divided r members (member_at members p.earlier) (member_at members p.later) in
      then_spends (pair_formed r p c) (λ d. ready (again d)) (then_spends run (λ x. ready (kept r (Pair p.earlier p.later) (numbers x.steps) x.rest c)) (s_divided_spends members (member_at members p.earlier) (member_at members p.later))
      (λ x. ready_spends (kept r (Pair p.earlier p.later) (numbers x.steps) x.rest c))) (λ d units. omega arith)

  pub completed_spends : (inputs : List (List VTerm)) → Spends (completed r inputs)
  unfolding completed
  completed_spends inputs = then_spends (with_inputs r 1 inputs (record { members = []; pending = []; log = [] })) (repeated Budget (next_pair r)) (inputs_spend 1 inputs (record { members = []; pending = []; log = [] }))
      (λ c units. turns_spend Budget (next_pair r) (λ c. pair_spends (skipping c.members c.log c.pending).members (skipping c.members c.log c.pending).log (skipping c.members c.log c.pending).pending) units c units)

  -- the turns of a completion
  pub next_spends : (c : Completion) → Spends (next_pair r c)
  next_spends c = pair_spends (skipping c.members c.log c.pending).members (skipping c.members c.log c.pending).log (skipping c.members c.log c.pending).pending

  pub pairs_spend : (c : Completion) → Spends (repeated Budget (next_pair r) c)
  pairs_spend c units = turns_spend Budget (next_pair r) next_spends units c units

  -- the unit of an S-vector
  pub s_leaves : (members : List (List VTerm)) (f g : List VTerm) (u u' : ℕ) → u ≡ u' + 1 → (s_divided r members f g u).left ≤ u'
  s_leaves members f g zero u' paid = absurd (omega (arith, paid))
  s_leaves members f g (suc u) u' paid = go (s_vector_fits f g)
    where
      go : (b : Bool) → (if b then reduced r members u (s_vector_of r f g) else record { end = Err Exponent; left = u }).left ≤ u'
      go true = let h = reduced_spends r members (s_vector_of r f g) u in omega (arith, h, paid)
      go false = omega (arith, paid)

  pub s_paid : (members : List (List VTerm)) (f g : List VTerm) (u left : ℕ) (y : RemainderValue) → ended_with remainder_of (s_divided r members f g u) ≡ record { end = Ok y; left = left } → left < u
  s_paid members f g zero left y e = absurd (no_budget (ap (λ (d : Ended RemainderValue). d.end) e))
    where
      no_budget : ◌≡◌ {A = Result RemainderValue Halt} (Err Budget) (Ok y) → ⊥
      no_budget h = cc
  s_paid members f g (suc u) left y e =
      let h = s_leaves members f g (suc u) u (omega arith) in
      let k : (s_divided r members f g (suc u)).left ≡ left = ap (λ (d : Ended RemainderValue). d.left) e in
      omega (arith, h, k)
