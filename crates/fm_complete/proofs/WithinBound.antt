-- Divisions and completions that end stay within the bound on exponents: each multiple that they add was tested.
use Rattle.std.proofs.Common.{ℕ, zero, suc, ◌≡◌, if◌then◌else◌, Bool, true, false, List, [], ◌∷◌, ◌++◌, Option, Some, None, Result, Ok, Err, refl, ap, subst}
use Rattle.std.proofs.lemmas.Bool.{and_parts}
use Rattle.fm_groebner.specs.Logs.{Entry, Start, Input, Pair}
use Rattle.fm_poly.specs.declared.ring.Ring.{Ring}
use Rattle.fm_term.specs.declared.vterm.VTerm.{VTerm}
use Rattle.fm_term.specs.Multiples.{multiple, scaled}
use Rattle.fm_vec.specs.Multiples.{negated, inverse_of, multiple_fits, cofactor, monic_of, s_vector_of, s_vector_fits}
use Rattle.fm_complete.specs.declared.step.Step.{Step}
use Rattle.fm_complete.specs.declared.critical_pair.CriticalPair.{CriticalPair}
use Rattle.fm_run.specs.Runs.{Halt, Budget, Exponent, Ended, ready}
use Rattle.fm_run.specs.Turns.{Turn, last, again, repeated}
use Rattle.fm_run.proofs.Ends.{Ends, same_value, no_value, bound, Leads, turns_lead}
use Rattle.fm_complete.specs.Divisors.{next_step}
use Rattle.fm_complete.specs.Reductions.{Reduced, cancelled, stepped, without_units, with_unit, reduced, divided}
use Rattle.fm_complete.specs.Trails.{member_at}
use Rattle.fm_complete.specs.Completions.{Completion, skipper, skipped_by, skip_entry, skipping, numbers, kept, taken_up, with_inputs, s_divided, pair_formed, pair_turn, next_pair, completed}
use Rattle.fm_complete.specs.Within.{AllBounded, AreBounded}
use Rattle.fm_complete.proofs.BoundedQuotients.{plus_bounded}

module _ (r : Ring) where
  -- ---- vectors
  scaled_bounded : (c : ℕ) (ts : List VTerm) → AllBounded ts → AllBounded (scaled r.prime c ts)
  scaled_bounded c [] w = tt
  scaled_bounded c (t ∷ ts) w = (w.0, scaled_bounded c ts w.1)

  multiple_bounded : (c : ℕ) (a : List ℕ) (ts : List VTerm) → multiple_fits a ts ≡ true → AllBounded (multiple r.prime c a ts)
  multiple_bounded c a [] h = tt
  multiple_bounded c a (t ∷ ts) h = let h = and_parts _ _ h in (h.0, multiple_bounded c a ts h.1)

  monic_bounded : (ts : List VTerm) → AllBounded ts → AllBounded (monic_of r ts)
  monic_bounded [] w = tt
  monic_bounded (t ∷ ts) w = scaled_bounded (inverse_of r t.coeff) (t ∷ ts) w

  s_vector_bounded : (f g : List VTerm) → s_vector_fits f g ≡ true → AllBounded (s_vector_of r f g)
  s_vector_bounded [] g h = tt
  s_vector_bounded (t ∷ ts) [] h = tt
  s_vector_bounded (t ∷ ts) (u ∷ us) h =
      let h = and_parts (multiple_fits (cofactor t u) (t ∷ ts)) (multiple_fits (cofactor u t) (u ∷ us)) h in
      plus_bounded r (negated r 1) (cofactor u t) (u ∷ us) (multiple r.prime 1 (cofactor t u) (t ∷ ts)) h.1 (multiple_bounded 1 (cofactor t u) (t ∷ ts) h.0)

  -- ---- divisions
  abbrev Rest : Result Reduced Halt → Type 0
  Rest (Ok x) = AllBounded x.rest
  Rest (Err e) = Unit {0}

  module _ (members : List (List VTerm)) where
    rest_stepped : (s : Step) (d : Ended Reduced) → Rest d.end → Rest (stepped s d).end
    rest_stepped s d h = go d.end h
      where
        go : (e : Result Reduced Halt) → Rest e → Rest (stepped s (record { end = e; left = d.left })).end
        go (Err e) h = tt
        go (Ok x) h = h

    turned : (u : ℕ) (v : List VTerm) (p : Step × List VTerm) → AllBounded v → ((v : List VTerm) → AllBounded v → Rest (reduced r members u v).end) → (b : Bool) → multiple_fits p.0.mono p.1 ≡ b
        → Rest (if b then stepped p.0 (reduced r members u (cancelled r p v)) else record { end = Err Exponent; left = u }).end
    turned u v p w later false fits = tt
    turned u v p w later true fits =
        rest_stepped p.0 (reduced r members u (cancelled r p v)) (later (cancelled r p v) (plus_bounded r (negated r p.0.coeff) p.0.mono p.1 v fits w))

    rest_bounded : (u : ℕ) (v : List VTerm) → AllBounded v → Rest (reduced r members u v).end
    rest_bounded zero v w = go (next_step r members v)
      where
        go : (o : Option (Step × List VTerm)) → Rest (without_units v o).end
        go None = w
        go (Some p) = tt
    rest_bounded (suc u) v w = go (next_step r members v) (λ v x. rest_bounded u v x)
      where
        go : (o : Option (Step × List VTerm)) → ((v : List VTerm) → AllBounded v → Rest (reduced r members u v).end) → Rest (with_unit r u v (λ x. reduced r members u x) o).end
        go None later = w
        go (Some p) later = turned u v p w later (multiple_fits p.0.mono p.1) refl

    reduced_bounded : (units left : ℕ) (v : List VTerm) (x : Reduced) → AllBounded v → Ends (reduced r members units v) x left → AllBounded x.rest
    reduced_bounded units left v x w e = subst Rest (ap (λ (d : Ended Reduced). d.end) e) (rest_bounded units v w)

    -- the rest of a division that ends
    pub divided_bounded : (units left : ℕ) (v : List VTerm) (x : Reduced) → AllBounded v → Ends (divided r members units v) x left → AllBounded x.rest
    divided_bounded zero left v x w e = absurd (no_value Budget x zero left e)
    divided_bounded (suc units) left v x w e = reduced_bounded units left v x w e

    s_divided_bounded : (f g : List VTerm) (units left : ℕ) (x : Reduced) → Ends (s_divided r members f g units) x left → AllBounded x.rest
    s_divided_bounded f g zero left x e = absurd (no_value Budget x zero left e)
    s_divided_bounded f g (suc units) left x e = go (s_vector_fits f g) refl e
      where
        go : (b : Bool) → s_vector_fits f g ≡ b → Ends (if b then reduced r members units (s_vector_of r f g) else record { end = Err Exponent; left = units }) x left → AllBounded x.rest
        go true fits e = reduced_bounded units left (s_vector_of r f g) x (s_vector_bounded f g fits) e
        go false fits e = absurd (no_value Exponent x units left e)

  -- ---- completions
  abbrev Within : Completion → Type 0
  Within c = AreBounded c.members

  more_bounded : (vs : List (List VTerm)) (v : List VTerm) → AreBounded vs → AllBounded v → AreBounded (vs ++ v ∷ [])
  more_bounded [] v w h = (h, tt)
  more_bounded (u ∷ us) v w h = (w.0, more_bounded us v w.1 h)

  kept_bounded : (start : Start) (by : List ℕ) (rest : List VTerm) (c : Completion) → Within c → AllBounded rest → Within (kept r start by rest c)
  kept_bounded start by [] c w h = w
  kept_bounded start by (t ∷ ts) c w h = more_bounded c.members (monic_of r (t ∷ ts)) w (monic_bounded (t ∷ ts) h)

  inputs_bounded : (k : ℕ) (vs : List (List VTerm)) (c : Completion) → AreBounded vs → Within c → (units left : ℕ) (y : Completion) → Ends (with_inputs r k vs c units) y left → Within y
  inputs_bounded k [] c w h units left y e = subst Within (same_value c y units left e) h
  inputs_bounded k (v ∷ vs) c w h units left y e =
      let next = λ (x : Reduced). kept r (Input k) (numbers x.steps) x.rest c in
      let b = bound (taken_up r (Input k) c (λ u. divided r c.members u v)) (with_inputs r (suc k) vs) units left y e in
      let d = bound (λ u. divided r c.members u v) (λ x. ready (next x)) units b.between b.value b.first in
      let one = kept_bounded (Input k) (numbers d.value.steps) d.value.rest c h (divided_bounded c.members units d.between v d.value w.0 d.first) in
      inputs_bounded (suc k) vs b.value w.1 (subst Within (same_value (next d.value) b.value d.between b.between d.second) one) b.between left y b.second

  skipping_bounded : (pending : List CriticalPair) (members : List (List VTerm)) (log : List Entry) → AreBounded members → Within (skipping members log pending)
  skipping_bounded [] members log w = w
  skipping_bounded (p ∷ ps) members log w = go (skipper ps p 1 members) (λ log'. skipping_bounded ps members log' w)
    where
      go : (k : Option ℕ) → ((log' : List Entry) → Within (skipping members log' ps)) → Within (skipped_by p ps members log (skipping members (log ++ skip_entry p k) ps) k)
      go None later = w
      go (Some k) later = later (log ++ skip_entry p (Some k))

  formed_bounded : (p : CriticalPair) (c : Completion) → Within c → (units left : ℕ) (y : Completion) → Ends (pair_formed r p c units) y left → Within y
  formed_bounded p c w units left y e =
      let f = member_at c.members p.earlier in
      let g = member_at c.members p.later in
      let next = λ (x : Reduced). kept r (Pair p.earlier p.later) (numbers x.steps) x.rest c in
      let b = bound (s_divided r c.members f g) (λ x. ready (next x)) units left y e in
      subst Within (same_value (next b.value) y b.between left b.second)
      (kept_bounded (Pair p.earlier p.later) (numbers b.value.steps) b.value.rest c w (s_divided_bounded c.members f g units b.between b.value b.first))

  turn_bounded : (c : Completion) (units left : ℕ) (t : Turn Completion Completion) → Within c → Ends (next_pair r c units) t left → Leads Budget (next_pair r) Within Within t
  turn_bounded c units left t w e = go s.pending e
    where
      s : Completion
      s = skipping c.members c.log c.pending

      kept_members : AreBounded s.members
      kept_members = skipping_bounded c.pending c.members c.log w

      go : (pending : List CriticalPair) → Ends (pair_turn r s.members s.log pending units) t left → Leads Budget (next_pair r) Within Within t
      go [] e = subst (Leads Budget (next_pair r) Within Within) (same_value (last (record { members = s.members; pending = []; log = s.log })) t units left e) kept_members
      go (p ∷ ps) e =
          let now : Completion = record { members = s.members; pending = ps; log = s.log } in
          let b = bound (pair_formed r p now) (λ c. ready (again c)) units left t e in
          subst (Leads Budget (next_pair r) Within Within) (same_value (again b.value) t b.between left b.second) (formed_bounded p now kept_members units b.between b.value b.first)

  -- the members of a completion that ends
  pub completed_bounded : (inputs : List (List VTerm)) → AreBounded inputs → (units left : ℕ) (c : Completion) → Ends (completed r inputs units) c left → AreBounded c.members
  unfolding completed
  completed_bounded inputs w units left c e =
      let b = bound (with_inputs r 1 inputs (record { members = []; pending = []; log = [] })) (repeated Budget (next_pair r)) units left c e in
      turns_lead Budget (next_pair r) Within Within turn_bounded b.between b.value b.between left c
      (inputs_bounded 1 inputs (record { members = []; pending = []; log = [] }) w tt units b.between b.value b.first) b.second
