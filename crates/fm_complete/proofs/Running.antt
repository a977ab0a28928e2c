-- The turns of the head reductions against the definition of the run
use Rattle.std.proofs.Common.{ℕ, zero, suc, ◌+◌, ◌-◌, ◌<◌, ◌≤◌, ◌≡◌, if◌then◌else◌, Bool, true, false, List, [], ◌∷◌, ◌++◌, Option, Some, None, Result, Ok, Err, refl, sym, ap, ap₂, ◌∙◌, subst, append_assoc, append-nil, arith}
use Rattle.fm_poly.specs.declared.ring.Ring.{Ring}
use Rattle.fm_term.specs.declared.vterm.VTerm.{VTerm}
use Rattle.fm_vec.specs.Multiples.{multiple_fits}
use Rattle.fm_complete.specs.declared.step.Step.{Step}
use Rattle.fm_run.specs.Runs.{Halt, Budget, Exponent, Ended}
use Rattle.fm_complete.specs.Divisors.{first_step, next_step}
use Rattle.fm_term.specs.Falling.{head_of}
use Rattle.fm_vec.specs.Vectors.{IsVector}
use Rattle.fm_complete.specs.Reductions.{Reduced, cancelled, stepped, finished, without_units, with_unit, reduced}
use Rattle.fm_poly.specs.declared.term.Term.{Term}
use Rattle.fm_poly.specs.Polys.{PolyValue}
use Rattle.fm_complete.specs.Divisions.{quotient_terms, quotients_from}
use Rattle.fm_complete.specs.Trails.{IsTrail, ahead}
use Rattle.fm_complete.proofs.Spending.{reduced_spends}
use Rattle.fm_complete.proofs.Heads.{next_is, has_tail, found}
use Rattle.fm_complete.proofs.Trails.{trail_next}

-- steps and one more
ahead_stepped : (steps : List Step) (s : Step) (d : Ended Reduced) → ahead steps (stepped s d) ≡ ahead (steps ++ s ∷ []) d
ahead_stepped steps s d = go d.end
  where
    go : (e : Result Reduced Halt)
        → ◌≡◌ {A = Ended Reduced} (ahead steps (stepped s (record { end = e; left = d.left }))) (ahead (steps ++ s ∷ []) (record { end = e; left = d.left }))
    go (Ok x) = λ i. record { end = Ok (record { steps = sym (append_assoc steps (s ∷ []) x.steps) i; rest = x.rest }); left = d.left }
    go (Err e) = refl

module _ (r : Ring) (members : List (List VTerm)) where
  done_at : (u : ℕ) (v : List VTerm) → next_step r members v ≡ None → reduced r members u v ≡ finished v u
  done_at zero v e = ap (without_units v) e
  done_at (suc u) v e = ap (with_unit r u v (λ w. reduced r members u w)) e

  -- no member's head divides
  pub done : (steps : List Step) (u : ℕ) (v : List VTerm) (all : Ended Reduced) → next_step r members v ≡ None → ahead steps (reduced r members u v) ≡ all
      → all ≡ record { end = Ok (record { steps = steps; rest = v }); left = u }
  done steps u v all e whole =
      sym whole ∙ ap (ahead steps) (done_at u v e) ∙ (λ i. record { end = Ok (record { steps = append-nil steps i; rest = v }); left = u })

  -- no unit is left for a step
  pub unpaid : (steps : List Step) (u : ℕ) (v : List VTerm) (all : Ended Reduced) (p : Step × List VTerm) → next_step r members v ≡ Some p → u ≡ 0
      → ahead steps (reduced r members u v) ≡ all → all ≡ record { end = Err Budget; left = 0 }
  unpaid steps u v all p e none whole = sym whole ∙ ap (λ k. ahead steps (reduced r members k v)) none ∙ ap (λ o. ahead steps (without_units v o)) e

  one_unit : (u u' : ℕ) → u ≡ u' + 1 → u ≡ suc u'
  one_unit u u' e = omega arith

  stepped_at : (steps : List Step) (u u' : ℕ) (v : List VTerm) (p : Step × List VTerm) → next_step r members v ≡ Some p → u ≡ u' + 1
      → ahead steps (reduced r members u v) ≡ ahead steps (if multiple_fits p.0.mono p.1 then stepped p.0 (reduced r members u' (cancelled r p v)) else record { end = Err Exponent; left = u' })
  stepped_at steps u u' v p e paid =
      ap (λ k. ahead steps (reduced r members k v)) (one_unit u u' paid) ∙ ap (λ o. ahead steps (with_unit r u' v (λ w. reduced r members u' w) o)) e

  -- the multiple passes the bound
  pub exceeded : (steps : List Step) (u u' : ℕ) (v : List VTerm) (all : Ended Reduced) (p : Step × List VTerm) → next_step r members v ≡ Some p → u ≡ u' + 1
      → multiple_fits p.0.mono p.1 ≡ false → ahead steps (reduced r members u v) ≡ all → all ≡ record { end = Err Exponent; left = u' }
  exceeded steps u u' v all p e paid passes whole =
      sym whole ∙ stepped_at steps u u' v p e paid
      ∙ ap (λ b. ahead steps (if b then stepped p.0 (reduced r members u' (cancelled r p v)) else record { end = Err Exponent; left = u' })) passes

  -- a step is done
  pub next : (steps : List Step) (u u' : ℕ) (v : List VTerm) (all : Ended Reduced) (p : Step × List VTerm) → next_step r members v ≡ Some p → u ≡ u' + 1
      → multiple_fits p.0.mono p.1 ≡ true → ahead steps (reduced r members u v) ≡ all → ahead (steps ++ p.0 ∷ []) (reduced r members u' (cancelled r p v)) ≡ all
  next steps u u' v all p e paid fits whole =
      sym (ahead_stepped steps p.0 (reduced r members u' (cancelled r p v)))
      ∙ sym (ap (λ b. ahead steps (if b then stepped p.0 (reduced r members u' (cancelled r p v)) else record { end = Err Exponent; left = u' })) fits)
      ∙ sym (stepped_at steps u u' v p e paid) ∙ whole

  -- no more is left at the end than now, also once the unit of a step is spent
  pub leaves : (steps : List Step) (u : ℕ) (v : List VTerm) (all : Ended Reduced) → ahead steps (reduced r members u v) ≡ all → all.left ≤ u
  leaves steps u v all whole = let h = reduced_spends r members v u in let k : (reduced r members u v).left ≡ all.left = ap (λ (d : Ended Reduced). d.left) whole in omega (arith, h, k)

  pub step_leaves : (steps : List Step) (u u' : ℕ) (v : List VTerm) (all : Ended Reduced) (p : Step × List VTerm) → next_step r members v ≡ Some p → u ≡ u' + 1
      → ahead steps (reduced r members u v) ≡ all → all.left ≤ u'
  step_leaves steps u u' v all p e paid whole =
      let h = of (multiple_fits p.0.mono p.1) in
      let k : (ahead steps (if multiple_fits p.0.mono p.1 then stepped p.0 (reduced r members u' (cancelled r p v)) else record { end = Err Exponent; left = u' })).left ≡ all.left =
      ap (λ (d : Ended Reduced). d.left) (sym (stepped_at steps u u' v p e paid) ∙ whole) in
      omega (arith, h, k)
    where
      of : (b : Bool) → (ahead steps (if b then stepped p.0 (reduced r members u' (cancelled r p v)) else record { end = Err Exponent; left = u' })).left ≤ u'
      of true = reduced_spends r members (cancelled r p v) u'
      of false = omega arith

pub ahead_none : (d : Ended Reduced) → ahead [] d ≡ d
ahead_none d = go d.end
  where
    go : (e : Result Reduced Halt) → ◌≡◌ {A = Ended Reduced} (ahead [] (record { end = e; left = d.left })) (record { end = e; left = d.left })
    go (Ok x) = refl
    go (Err e) = refl

-- ---- one turn of the code
module _ (r : Ring) (members : List (List VTerm)) (ss : List Step) (v : List VTerm) {q : Ring} {ss' : List Step} {s : Step} {g w : List VTerm} {h : VTerm} (ring : q ≡ r) (head : Some h ≡ head_of v)
    (step : ◌≡◌ {A = Option (Step × List VTerm)} (first_step r 1 members h) (Some (s, g))) (pushed : ss' ≡ ss ++ s ∷ []) (left : w ≡ cancelled q (s, g) v) where
  left_at : w ≡ cancelled r (s, g) v
  left_at = left ∙ ap (λ x. cancelled x (s, g) v) ring

  pub turn_run : (u u' : ℕ) (all : Ended Reduced) → u ≡ u' + 1 → multiple_fits s.mono g ≡ true → ahead ss (reduced r members u v) ≡ all → ahead ss' (reduced r members u' w) ≡ all
  turn_run u u' all paid fits whole =
      ap₂ (λ x y. ahead x (reduced r members u' y)) pushed left_at ∙ next r members ss u u' v all (s, g) (next_is r members v h head ∙ step) paid fits whole

  pub turn_trail : (n : ℕ) → IsVector q n v → IsVector r n g → IsTrail r members ss v → IsTrail r members ss' w
  turn_trail n v_vector g_vector trail =
      let whole = has_tail v h head in
      subst (λ x. IsTrail r members x w) (sym pushed) (subst (IsTrail r members (ss ++ s ∷ [])) (sym (left_at ∙ ap (cancelled r (s, g)) whole.1))
      (trail_next r members n ss s g h whole.0 (found r members h s g step) g_vector
      (subst (λ x. IsVector x n (h ∷ whole.0)) ring (subst (IsVector q n) whole.1 v_vector)) (subst (IsTrail r members ss) whole.1 trail)))

-- ---- the quotients, one more
pub quotients_more : (r : Ring) (count k : ℕ) (ss : List Step) (out out' all : List PolyValue) (q : PolyValue) (terms : List Term) → k < count → out' ≡ out ++ q ∷ []
    → q ≡ record { ring = r; terms = terms } → terms ≡ quotient_terms (k + 1) ss
    → out ++ quotients_from r (count - k) (suc k) ss ≡ all → out' ++ quotients_from r (count - (k + 1)) (suc (k + 1)) ss ≡ all
quotients_more r count k ss out out' all q terms below pushed made is whole =
    ap (λ x. x ++ quotients_from r (count - (k + 1)) (suc (k + 1)) ss) (pushed ∙ ap (λ x. out ++ x ∷ []) (made ∙ (λ i. record { ring = r; terms = is i })))
    ∙ append_assoc out (record { ring = r; terms = quotient_terms (k + 1) ss } ∷ []) (quotients_from r (count - (k + 1)) (suc (k + 1)) ss)
    ∙ ap (λ n. out ++ record { ring = r; terms = quotient_terms n ss } ∷ quotients_from r (count - n) (suc n) ss) one_more
    ∙ ap (λ n. out ++ quotients_from r n (suc k) ss) (sym one_less) ∙ whole
  where
    one_more : k + 1 ≡ suc k
    one_more = omega arith

    one_less : count - k ≡ suc (count - suc k)
    one_less = omega arith
