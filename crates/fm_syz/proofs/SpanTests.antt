-- A test of the span: a completion, and a division by its members.
use Rattle.std.proofs.Common.{ℕ, ◌≡◌, Bool, true, false, not, Option, Ok, Err, List, [], ◌∷◌, map, refl, sym, ap, ◌∙◌, subst, arith}
use Rattle.std.specs.Prelude.{is_some}
use Rattle.fm_poly.specs.declared.ring.Ring.{Ring}
use Rattle.fm_term.specs.declared.vterm.VTerm.{VTerm}
use Rattle.fm_vec.specs.Vectors.{VectorValue}
use Rattle.fm_term.specs.Falling.{head_of}
use Rattle.fm_run.specs.declared.stop.Stop.{Stop}
use Rattle.fm_run.specs.Runs.{Work, Spends, ended_with, ready, ◌>>=◌, Follows, halt_of}
use Rattle.fm_run.proofs.Following.{after_value, after_halt}
use Rattle.fm_run.proofs.Spending.{next_spends, then_spends, ready_spends}
use Rattle.fm_run.proofs.Calls.{row_stops, row_goes}
use Rattle.fm_complete.specs.Bases.{basis_value}
use Rattle.fm_complete.specs.Completions.{Completion, completed}
use Rattle.fm_complete.specs.Divisions as divisions
use Rattle.fm_complete.specs.Reductions.{Reduced, divided}
use Rattle.fm_complete.specs.Remainders.{RemainderValue, remainder_of, remainder_run, remainder_value}
use Rattle.fm_complete.proofs.CompletionSpending.{completed_spends}
use Rattle.fm_complete.proofs.Spending.{divided_run_spends}
use Rattle.fm_graphs.specs.Listing.{VectorOf, terms_of}
use Rattle.fm_graphs.specs.Trims.{is_zero, spanned}
use Rattle.fm_run.proofs.Parts.{came}
use Rattle.fm_syz.proofs.LiftedColumns.{stops_within}

pub none_is : (none : Bool) (o : Option VTerm) (ts : List VTerm) → not none ≡ is_some o → o ≡ head_of ts → none ≡ is_zero ts
none_is none o ts e h = twice none ∙ ap not (e ∙ ap (λ (x : Option VTerm). is_some x) h) ∙ go ts
  where
    twice : (b : Bool) → b ≡ not (not b)
    twice true = refl
    twice false = refl

    go : (ts : List VTerm) → not (is_some (head_of ts)) ≡ is_zero ts
    go [] = refl
    go (t ∷ ts) = refl

module _ (r : Ring) (others : List (List VTerm)) (columns : List (VectorOf r)) (w : VectorOf r) (units : ℕ) (terms : others ≡ map (terms_of r) columns) where
  abbrev first : Work Completion
  first = completed r (map (terms_of r) columns)

  abbrev division : Completion → Work Reduced
  division c = λ units. divided r c.members units (terms_of r w)

  abbrev answer : Reduced → Work Bool
  answer x = ready (is_zero x.rest)

  next_spend : (c : Completion) → Spends (division c >>= answer)
  next_spend c = then_spends (division c) answer (divided_run_spends r c.members (terms_of r w)) (λ x. ready_spends (is_zero x.rest))

  -- the completion stopped
  pub completion_stops : (stop : Stop) (new : ℕ) → Follows basis_value (Err stop) units new (completed r others units) → Follows {X = Bool} (λ yes. yes) (Err stop) units new (spanned r columns w units)
  completion_stops stop new h =
      row_stops first (λ c. division c >>= answer) units new basis_value (λ (yes : Bool). yes) halt_of stop next_spend
      (subst (λ ts. Follows basis_value (Err stop) units new (completed r ts units)) terms h)

  module _ (c : Completion) (mid : ℕ) (ends : completed r others units ≡ record { end = Ok c; left = mid }) (members : List VectorValue) (v : VectorValue)
      (same : divisions.terms_of members ≡ c.members) (ring : v.ring ≡ r) (is : v.terms ≡ terms_of r w) where
    first_ends : first units ≡ record { end = Ok c; left = mid }
    first_ends = sym (ap (λ ts. completed r ts units) terms) ∙ ends

    run_is : remainder_run members v mid ≡ ended_with remainder_of (division c mid)
    run_is =
        ap (λ (q : Ring). ended_with remainder_of (divided q (divisions.terms_of members) mid v.terms)) ring
        ∙ ap (λ gs. ended_with remainder_of (divided r gs mid v.terms)) same
        ∙ ap (λ ts. ended_with remainder_of (divided r c.members mid ts)) is

    -- the division stopped
    pub division_stops : (stop : Stop) (new : ℕ) → Follows remainder_value (Err stop) mid new (remainder_run members v mid) → Follows {X = Bool} (λ yes. yes) (Err stop) units new (spanned r columns w units)
    division_stops stop new h =
        row_goes first (λ c. division c >>= answer) units new c mid first_ends (completed_spends r (map (terms_of r) columns)) (λ (yes : Bool). yes) halt_of (Err stop)
        (stops_within remainder_of remainder_value (λ (yes : Bool). yes) stop mid mid new (division c mid) ((division c >>= answer) mid) (omega arith)
        (λ e k. after_halt (division c) answer mid new e k) (next_spends answer (λ x. ready_spends (is_zero x.rest)) (division c mid))
        (subst (λ d. Follows remainder_value (Err stop) mid new d) run_is h))

    -- both ended
    pub both_end : (x : RemainderValue) (left : ℕ) (zero : Bool) → remainder_run members v mid ≡ record { end = Ok x; left = left } → zero ≡ is_zero x.rest
        → spanned r columns w units ≡ record { end = Ok zero; left = left }
    both_end x left zero h e =
        let d = came remainder_of (division c mid) x left (sym run_is ∙ h) in
        after_value first (λ c. division c >>= answer) units mid c first_ends
        ∙ after_value (division c) answer mid left d.0 d.1
        ∙ ap (λ b. record { end = Ok b; left = left }) (ap (λ (y : RemainderValue). is_zero y.rest) d.2 ∙ sym e)
