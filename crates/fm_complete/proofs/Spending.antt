-- Divisions spend units and make none.
use Rattle.std.proofs.Common.{ℕ, zero, suc, ◌+◌, ◌<◌, ◌≤◌, ◌≡◌, if◌then◌else◌, Bool, true, false, List, Option, Some, None, Result, Ok, Err, ap, arith}
use Rattle.fm_poly.specs.declared.ring.Ring.{Ring}
use Rattle.fm_term.specs.declared.vterm.VTerm.{VTerm}
use Rattle.fm_vec.specs.Multiples.{multiple_fits}
use Rattle.fm_run.specs.Runs.{Halt, Budget, Exponent, Ended, Spends}
use Rattle.fm_complete.specs.declared.step.Step.{Step}
use Rattle.fm_complete.specs.Divisors.{next_step}
use Rattle.fm_complete.specs.Reductions.{Reduced, cancelled, stepped, without_units, with_unit, reduced, divided}

module _ (r : Ring) (members : List (List VTerm)) where
  pub reduced_spends : (v : List VTerm) → Spends (λ units. reduced r members units v)
  reduced_spends v zero = go (next_step r members v)
    where
      go : (o : Option (Step × List VTerm)) → (without_units v o).left ≤ 0
      go None = omega arith
      go (Some p) = omega arith
  reduced_spends v (suc units) = go (next_step r members v) (λ w. reduced_spends w units)
    where
      stays : (s : Step) (d : Ended Reduced) → d.left ≤ units → (stepped s d).left ≤ suc units
      stays s d h = omega (arith, h)

      fits : (p : Step × List VTerm) (b : Bool) → ((w : List VTerm) → (reduced r members units w).left ≤ units)
          → (if b then stepped p.0 (reduced r members units (cancelled r p v)) else record { end = Err Exponent; left = units }).left ≤ suc units
      fits p true h = stays p.0 (reduced r members units (cancelled r p v)) (h (cancelled r p v))
      fits p false h = omega arith

      go : (o : Option (Step × List VTerm)) → ((w : List VTerm) → (reduced r members units w).left ≤ units) → (with_unit r units v (λ w. reduced r members units w) o).left ≤ suc units
      go None h = omega arith
      go (Some p) h = fits p (multiple_fits p.0.mono p.1) h

  -- a division with a value has spent a unit
  pub divided_spends : (v : List VTerm) (units left : ℕ) (x : Reduced) → divided r members units v ≡ record { end = Ok x; left = left } → left < units
  divided_spends v zero left x e = absurd (no_budget (ap (λ (d : Ended Reduced). d.end) e))
    where
      no_budget : ◌≡◌ {A = Result Reduced Halt} (Err Budget) (Ok x) → ⊥
      no_budget h = cc
  divided_spends v (suc units) left x e = let h = reduced_spends v units in let k : (reduced r members units v).left ≡ left = ap (λ (d : Ended Reduced). d.left) e in omega (arith, h, k)

  pub divided_run_spends : (v : List VTerm) → Spends (λ units. divided r members units v)
  divided_run_spends v zero = omega arith
  divided_run_spends v (suc units) = let h = reduced_spends v units in omega (arith, h)

  -- no more is left after a division than after its first unit
  pub paid_leaves : (v : List VTerm) (u u' : ℕ) → u ≡ u' + 1 → (divided r members u v).left ≤ u'
  paid_leaves v u u' paid =
      let h = reduced_spends v u' in
      let same : (divided r members u v).left ≡ (divided r members (suc u') v).left = ap (λ n. (divided r members n v).left) (let e : u ≡ suc u' = omega arith in e) in
      omega (arith, h, same)

  -- what is left after a division whose head reductions came to an end
  pub paid_left : (v : List VTerm) (u u' left : ℕ) (e : Result Reduced Halt) → u ≡ u' + 1 → reduced r members u' v ≡ record { end = e; left = left } → (left < u) × ((divided r members u v).left ≤ left)
  paid_left v u u' left e paid is =
      let h = reduced_spends v u' in
      let k : (reduced r members u' v).left ≡ left = ap (λ (d : Ended Reduced). d.left) is in
      let same : (divided r members u v).left ≡ (divided r members (suc u') v).left = ap (λ n. (divided r members n v).left) (one_unit u u' paid) in
      (omega (arith, h, k, paid), omega (arith, k, same))
    where
      one_unit : (u u' : ℕ) → u ≡ u' + 1 → u ≡ suc u'
      one_unit u u' e = omega arith

  pub reduced_left : (v : List VTerm) (u left : ℕ) (e : Result Reduced Halt) → reduced r members u v ≡ record { end = e; left = left } → (left ≤ u) × ((reduced r members u v).left ≤ left)
  reduced_left v u left e is =
      let h = reduced_spends v u in
      let k : (reduced r members u v).left ≡ left = ap (λ (d : Ended Reduced). d.left) is in
      (omega (arith, h, k), omega (arith, k))
