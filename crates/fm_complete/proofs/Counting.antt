-- A completion that ends has at most as many members as it has spent units: each rest that is kept costs one.
use Rattle.std.proofs.Common.{ℕ, zero, suc, ◌+◌, ◌<◌, ◌≤◌, ◌≡◌, List, [], ◌∷◌, ◌++◌, length, Option, Some, None, refl, sym, ap, subst, arith}
use Rattle.std.proofs.lemmas.List.{length-append}
use Rattle.fm_groebner.specs.Logs.{Entry, Start, Input, Pair}
use Rattle.fm_poly.specs.declared.ring.Ring.{Ring}
use Rattle.fm_term.specs.declared.vterm.VTerm.{VTerm}
use Rattle.fm_vec.specs.Multiples.{monic_of}
use Rattle.fm_complete.specs.declared.critical_pair.CriticalPair.{CriticalPair}
use Rattle.fm_run.specs.Runs.{Budget, Ended, ready}
use Rattle.fm_run.specs.Turns.{Turn, last, again, repeated}
use Rattle.fm_run.proofs.Ends.{Ends, no_value, bound}
use Rattle.fm_run.proofs.Counting.{same_end, LeadsLeft, turns_lead_left}
use Rattle.fm_complete.specs.Reductions.{Reduced, divided}
use Rattle.fm_complete.specs.Trails.{member_at}
use Rattle.fm_complete.specs.Completions.{Completion, skipper, skipped_by, skip_entry, skipping, numbers, kept, taken_up, with_inputs, s_divided, pair_formed, pair_turn, next_pair, completed}
use Rattle.fm_complete.proofs.Spending.{divided_spends}
use Rattle.fm_complete.proofs.CompletionSpending.{s_leaves}

module _ (r : Ring) where
  kept_members : (start : Start) (by : List ℕ) (rest : List VTerm) (c : Completion) → length (kept r start by rest c).members ≤ suc (length c.members)
  kept_members start by [] c = omega arith
  kept_members start by (t ∷ ts) c = let h = length-append c.members (monic_of r (t ∷ ts) ∷ []) in omega (arith, h)

  s_divided_paid : (members : List (List VTerm)) (f g : List VTerm) (units left : ℕ) (x : Reduced) → Ends (s_divided r members f g units) x left → left < units
  s_divided_paid members f g zero left x e = absurd (no_value Budget x zero left e)
  s_divided_paid members f g (suc units) left x e =
      let h = s_leaves r members f g (suc units) units (omega arith) in
      let k : (s_divided r members f g (suc units)).left ≡ left = ap (λ (d : Ended Reduced). d.left) e in
      omega (arith, h, k)

  skipping_members : (pending : List CriticalPair) (members : List (List VTerm)) (log : List Entry) → (skipping members log pending).members ≡ members
  skipping_members [] members log = refl
  skipping_members (p ∷ ps) members log = go (skipper ps p 1 members) (λ log'. skipping_members ps members log')
    where
      go : (k : Option ℕ) → ((log' : List Entry) → (skipping members log' ps).members ≡ members) → (skipped_by p ps members log (skipping members (log ++ skip_entry p k) ps) k).members ≡ members
      go None later = refl
      go (Some k) later = later (log ++ skip_entry p (Some k))

  module _ (total : ℕ) where
    abbrev Counted : Completion → ℕ → Type 0
    Counted c left = length c.members + left ≤ total

    inputs_counted : (k : ℕ) (vs : List (List VTerm)) (c : Completion) (units left : ℕ) (y : Completion) → Counted c units → Ends (with_inputs r k vs c units) y left → Counted y left
    inputs_counted k [] c units left y h e = same_end Counted c y units left e h
    inputs_counted k (v ∷ vs) c units left y h e =
        let next = λ (x : Reduced). kept r (Input k) (numbers x.steps) x.rest c in
        let b = bound (taken_up r (Input k) c (λ u. divided r c.members u v)) (with_inputs r (suc k) vs) units left y e in
        let d = bound (λ u. divided r c.members u v) (λ x. ready (next x)) units b.between b.value b.first in
        let paid = divided_spends r c.members v units d.between d.value d.first in
        let more = kept_members (Input k) (numbers d.value.steps) d.value.rest c in
        let one : Counted (next d.value) d.between = omega (arith, h, paid, more) in
        inputs_counted (suc k) vs b.value b.between left y (same_end Counted (next d.value) b.value d.between b.between d.second one) b.second

    formed_counted : (p : CriticalPair) (c : Completion) (units left : ℕ) (y : Completion) → Counted c units → Ends (pair_formed r p c units) y left → Counted y left
    formed_counted p c units left y h e =
        let f = member_at c.members p.earlier in
        let g = member_at c.members p.later in
        let next = λ (x : Reduced). kept r (Pair p.earlier p.later) (numbers x.steps) x.rest c in
        let b = bound (s_divided r c.members f g) (λ x. ready (next x)) units left y e in
        let paid = s_divided_paid c.members f g units b.between b.value b.first in
        let more = kept_members (Pair p.earlier p.later) (numbers b.value.steps) b.value.rest c in
        let one : Counted (next b.value) b.between = omega (arith, h, paid, more) in
        same_end Counted (next b.value) y b.between left b.second one

    abbrev lead : Turn Completion Completion → ℕ → Type 0
    lead t left = LeadsLeft Budget (next_pair r) Counted Counted t left

    turn_counted : (c : Completion) (units left : ℕ) (t : Turn Completion Completion) → Counted c units → Ends (next_pair r c units) t left → lead t left
    turn_counted c units left t h e = go s.pending e
      where
        s : Completion
        s = skipping c.members c.log c.pending

        same : length s.members + units ≤ total
        same = subst (λ (vs : List (List VTerm)). length vs + units ≤ total) (sym (skipping_members c.pending c.members c.log)) h

        go : (pending : List CriticalPair) → Ends (pair_turn r s.members s.log pending units) t left → lead t left
        go [] e = same_end lead (last (record { members = s.members; pending = []; log = s.log })) t units left e same
        go (p ∷ ps) e =
            let now : Completion = record { members = s.members; pending = ps; log = s.log } in
            let b = bound (pair_formed r p now) (λ c. ready (again c)) units left t e in
            same_end lead (again b.value) t b.between left b.second (formed_counted p now units b.between b.value same b.first)

  -- the members of a completion that ends
  pub completed_counted : (inputs : List (List VTerm)) (units left : ℕ) (c : Completion) → Ends (completed r inputs units) c left → length c.members + left ≤ units
  unfolding completed
  completed_counted inputs units left c e =
      let none : Completion = record { members = []; pending = []; log = [] } in
      let b = bound (with_inputs r 1 inputs none) (repeated Budget (next_pair r)) units left c e in
      turns_lead_left Budget (next_pair r) (Counted units) (Counted units) (turn_counted units) b.between b.value b.between left c
      (inputs_counted units 1 inputs none units b.between b.value (omega arith) b.first) b.second
