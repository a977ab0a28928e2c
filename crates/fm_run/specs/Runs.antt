-- Runs that spend units of work, one after the other, and what it means that a call follows one.
use Rattle.std.specs.Prelude.{ℕ, ◌≤◌, ◌≡◌, Bool, if◌then◌else◌, List, [], ◌∷◌, Option, Some, None, Result, Ok, Err}
use Rattle.fm_run.specs.declared.stop.Stop.{Stop}
use Rattle.fm_run.specs.declared.stop.Stop.TheVariants as stops

-- why a run ends without a value: a unit is needed where none is left, or an exponent passes the bound. Want of memory ends no run.
pub data Halt : Type 0 where
  Budget : Halt
  Exponent : Halt

-- a run's end: a value, or why there is none; and the units left then
pub record Ending (E A : Type 0) : Type 0 where
  pub end : Result A E
  pub left : ℕ

abbrev pub Ended : Type 0 → Type 0
Ended A = Ending Halt A

-- what comes of a number of units
abbrev pub Run : Type 0 → Type 0 → Type 0
Run E A = ℕ → Ending E A

-- a run that can halt only for want of units or by the bound on exponents
abbrev pub Work : Type 0 → Type 0
Work A = Run Halt A

module _ {E : Type 0} where
  abbrev pub result_with : {A B : Type 0} → (A → B) → Result A E → Result B E
  result_with f (Ok x) = Ok (f x)
  result_with f (Err e) = Err e

  -- the same end with f of its value
  abbrev pub ended_with : {A B : Type 0} → (A → B) → Ending E A → Ending E B
  ended_with f d = record { end = result_with f d.end; left = d.left }

  -- no unit is spent
  abbrev pub ready : {A : Type 0} → A → Run E A
  ready x units = record { end = Ok x; left = units }

  abbrev pub halted : {A : Type 0} → E → Run E A
  halted e units = record { end = Err e; left = units }

  abbrev pub next_of : {A B : Type 0} → (A → Run E B) → Result A E → ℕ → Ending E B
  next_of f (Ok x) left = f x left
  next_of f (Err e) left = record { end = Err e; left = left }

  infixl 10 ◌>>=◌
  -- one run, and another over its value with the units that are left
  abbrev pub ◌>>=◌ : {A B : Type 0} → Run E A → (A → Run E B) → Run E B
  (run >>= f) units = next_of f (run units).end (run units).left

  -- a run for each of a list, in order
  abbrev pub each : {A B : Type 0} → (A → Run E B) → List A → Run E (List B)
  each f [] = ready []
  each f (x ∷ xs) = f x >>= λ y. each f xs >>= λ ys. ready (y ∷ ys)

  -- no unit is made
  abbrev pub Spends : {A : Type 0} → Run E A → Type 0
  Spends run = (units : ℕ) → (run units).left ≤ units

-- a value that is formed without units, where no exponent passes the bound
abbrev pub bounded : {A : Type 0} → Bool → A → Work A
bounded fits x = if fits then ready x else halted Exponent

-- ---- calls
-- What a call did that had `old` units before and has `new` ones now, beside a run's end: its value and its halt are the run's, with as
-- many units left. After want of memory what was spent is spent: no unit came back, and none was spent that the run doesn't spend.
module _ {E A : Type 0} (old new : ℕ) (d : Ending E A) where
  abbrev pub Halts : Option E → Type 0
  Halts (Some e) = d ≡ record { end = Err e; left = new }
  Halts None = (new ≤ old) × (d.left ≤ new)

  -- values are read by view, errors by halt_of; an error without a halt is want of memory
  abbrev pub FollowsBy : {X Z : Type 0} → (X → A) → (Z → Option E) → Result X Z → Type 0
  FollowsBy view halt_of (Ok x) = d ≡ record { end = Ok (view x); left = new }
  FollowsBy view halt_of (Err z) = Halts (halt_of z)

abbrev pub halt_of : Stop → Option Halt
halt_of stops.Budget = Some Budget
halt_of stops.Exponent = Some Exponent
halt_of stops.Memory = None

-- the stop that tells a halt
abbrev pub stop_of : Halt → Stop
stop_of Budget = stops.Budget
stop_of Exponent = stops.Exponent

abbrev pub Follows : {X A : Type 0} → (X → A) → Result X Stop → (old new : ℕ) → Ended A → Type 0
Follows view result old new d = FollowsBy old new d view halt_of result
