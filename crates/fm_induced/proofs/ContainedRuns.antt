-- A completion of the generators of an ideal, and divisions by its members one after the other.
use Rattle.std.proofs.Common.{ℕ, suc, ◌≤◌, ◌≡◌, if◌then◌else◌, Bool, true, false, not, Option, Some, List, [], ◌∷◌, map, Result, Ok, Err, sym, ap, ◌∙◌, subst, arith}
use Rattle.std.specs.Prelude.{is_some}
use Rattle.fm_complete.specs.Bases.{basis_value}
use Rattle.fm_complete.specs.Completions.{Completion, completed}
use Rattle.fm_complete.specs.Divisions as divisions
use Rattle.fm_complete.specs.Reductions.{Reduced, divided}
use Rattle.fm_complete.specs.Remainders.{RemainderValue, remainder_of, remainder_run, remainder_value}
use Rattle.fm_complete.proofs.CompletionSpending.{completed_spends}
use Rattle.fm_complete.proofs.Spending.{divided_run_spends}
use Rattle.fm_algebra.specs.Polynomials.{Polynomial}
use Rattle.fm_graphs.specs.Listing.{terms_of}
use Rattle.fm_graphs.specs.Trims.{is_zero}
use Rattle.fm_plan.specs.Queries.{contained_from, contained_work}
use Rattle.fm_plan.specs.Results.{Ideal}
use Rattle.fm_poly.specs.declared.ring.Ring.{Ring}
use Rattle.fm_term.specs.declared.vterm.VTerm.{VTerm}
use Rattle.fm_term.specs.Falling.{head_of}
use Rattle.fm_vec.specs.Vectors.{VectorValue}
use Rattle.fm_run.specs.declared.stop.Stop.{Stop}
use Rattle.fm_run.specs.Runs.{Ended, Work, Spends, Follows, ended_with, halt_of, ready, ◌>>=◌}
use Rattle.fm_run.proofs.Calls.{row_goes, row_stops}
use Rattle.fm_run.proofs.Following.{after_value, after_halt}
use Rattle.fm_run.proofs.Parts.{came}
use Rattle.fm_run.proofs.Spending.{next_spends, then_spends}
use Rattle.fm_syz.proofs.LiftedColumns.{stops_within}

-- a rest with a head is not zero
pub some_head : (some : Bool) (o : Option VTerm) (ts : List VTerm) → some ≡ is_some o → o ≡ head_of ts → is_zero ts ≡ not some
some_head some o [] e h = ap not (sym (e ∙ ap (λ (x : Option VTerm). is_some x) h))
some_head some o (t ∷ ts) e h = ap not (sym (e ∙ ap (λ (x : Option VTerm). is_some x) h))

module _ (r : Ring) (M : List (List VTerm)) where
  abbrev division : Polynomial r.prime r.vars → Work Reduced
  division f = λ units. divided r M units (terms_of r (f ∷ []))

  abbrev after : ℕ → Ideal r → Reduced → Work (Option ℕ)
  after k fs x = if is_zero x.rest then contained_from r M (suc k) fs else ready (Some k)

  by_test : (k : ℕ) (fs : Ideal r) → Spends (contained_from r M (suc k) fs) → (b : Bool) → Spends (if b then contained_from r M (suc k) fs else ready (Some k))
  by_test k fs h true = h
  by_test k fs h false = λ units. omega arith

  pub contained_spends : (fs : Ideal r) (k : ℕ) → Spends (contained_from r M k fs)
  contained_spends [] k = λ units. omega arith
  contained_spends (f ∷ fs) k = then_spends (division f) (after k fs) (divided_run_spends r M (terms_of r (f ∷ []))) (λ x. by_test k fs (contained_spends fs (suc k)) (is_zero x.rest))

  after_spends : (k : ℕ) (fs : Ideal r) (x : Reduced) → Spends (after k fs x)
  after_spends k fs x = by_test k fs (contained_spends fs (suc k)) (is_zero x.rest)

  module _ (all : Ended (Option ℕ)) (k units : ℕ) (f : Polynomial r.prime r.vars) (fs : Ideal r) (is : contained_from r M k (f ∷ fs) units ≡ all)
      (members : List VectorValue) (v : VectorValue) (same : divisions.terms_of members ≡ M) (ring : v.ring ≡ r) (terms : v.terms ≡ terms_of r (f ∷ [])) where
    run_is : remainder_run members v units ≡ ended_with remainder_of (division f units)
    run_is =
        ap (λ (q : Ring). ended_with remainder_of (divided q (divisions.terms_of members) units v.terms)) ring
        ∙ ap (λ gs. ended_with remainder_of (divided r gs units v.terms)) same
        ∙ ap (λ ts. ended_with remainder_of (divided r M units ts)) terms

    pub division_stops : (stop : Stop) (old new : ℕ) → units ≤ old → Follows remainder_value (Err stop) units new (remainder_run members v units) → Follows {X = Option ℕ} (λ k. k) (Err stop) old new all
    division_stops stop old new earlier h = subst (λ d. Follows {X = Option ℕ} (λ k. k) (Err stop) old new d) is
        (stops_within remainder_of remainder_value (λ (k : Option ℕ). k) stop old units new (division f units) ((division f >>= after k fs) units) earlier
        (λ e w. after_halt (division f) (after k fs) units new e w) (next_spends (after k fs) (after_spends k fs) (division f units))
        (subst (λ d. Follows remainder_value (Err stop) units new d) run_is h))

    module _ (x : RemainderValue) (left : ℕ) (h : remainder_run members v units ≡ record { end = Ok x; left = left }) where
      goes_by : (b : Bool) → is_zero x.rest ≡ b → (if b then contained_from r M (suc k) fs else ready (Some k)) left ≡ all
      goes_by b test =
          let d = came remainder_of (division f units) x left (sym run_is ∙ h) in
          let zero : is_zero d.0.rest ≡ b = ap (λ (y : RemainderValue). is_zero y.rest) d.2 ∙ test in
          ap (λ (b : Bool). (if b then contained_from r M (suc k) fs else ready (Some k)) left) (sym zero) ∙ sym (after_value (division f) (after k fs) units left d.0 d.1) ∙ is

      pub found : is_zero x.rest ≡ false → all ≡ record { end = Ok (Some k); left = left }
      found test = sym (goes_by false test)

      pub passed : is_zero x.rest ≡ true → contained_from r M (suc k) fs left ≡ all
      passed test = goes_by true test

      pub division_left : left ≤ units
      division_left = let a = divided_run_spends r M (terms_of r (f ∷ [])) units in let b = ap (λ (d : Ended RemainderValue). d.left) (sym run_is ∙ h) in omega (arith, a, b)

-- ---- the completion first
module _ (r : Ring) (source target : Ideal r) where
  abbrev entries : List (List VTerm)
  entries = map (λ (f : Polynomial r.prime r.vars). terms_of r (f ∷ [])) source

  abbrev divisions_by : Completion → Work (Option ℕ)
  divisions_by c = contained_from r c.members 1 target

  pub work_spends : Spends (contained_work r source target)
  unfolding contained_work
  work_spends = then_spends (completed r entries) divisions_by (completed_spends r entries) (λ c. contained_spends r c.members target 1)

  module _ (inputs : List (List VTerm)) (same : inputs ≡ entries) (old mid : ℕ) where
    pub completion_stops : (stop : Stop) → Follows basis_value (Err stop) old mid (completed r inputs old) → Follows {X = Option ℕ} (λ k. k) (Err stop) old mid (contained_work r source target old)
    unfolding contained_work
    completion_stops stop h = row_stops (completed r entries) divisions_by old mid basis_value (λ (k : Option ℕ). k) halt_of stop (λ c. contained_spends r c.members target 1)
        (subst (λ ts. Follows basis_value (Err stop) old mid (completed r ts old)) same h)

    pub completion_goes : (c : Completion) → completed r inputs old ≡ record { end = Ok c; left = mid } → (new : ℕ) (answer : Result (Option ℕ) Stop) → Follows (λ k. k) answer mid new (contained_from r c.members 1 target mid)
        → Follows (λ k. k) answer old new (contained_work r source target old)
    unfolding contained_work
    completion_goes c h new answer k = row_goes (completed r entries) divisions_by old new c mid (sym (ap (λ ts. completed r ts old) same) ∙ h) (completed_spends r entries) (λ (k : Option ℕ). k) halt_of answer k
