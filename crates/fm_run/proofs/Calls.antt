-- Calls that follow runs: in a row, over part of a value, and as tasks.
use Rattle.std.proofs.Common.{ℕ, zero, suc, ◌+◌, ◌≤◌, ◌≡◌, Bool, true, false, Option, Some, None, Result, Ok, Err, refl, sym, ap, ◌∙◌, subst, arith}
use Rattle.std.specs.Prelude.{IfErr, IfOk, IsErr, IsErrAnd}
use Rattle.fm_run.specs.declared.stop.Stop.{Stop}
use Rattle.fm_run.specs.declared.stop.Stop.TheVariants as stops
use Rattle.fm_run.specs.declared.task.Task.{Task}
use Rattle.fm_run.specs.Runs.{Halt, Exponent, Ending, Ended, Run, Work, Spends, ended_with, halted, next_of, ◌>>=◌, Halts, FollowsBy, Follows, halt_of}
use Rattle.fm_run.specs.Tasks.{named, task_run, halt_in, FollowsTasks, stopped_in}
use Rattle.fm_run.specs.Turns.{Turn, last, again, after_turn, turns}
use Rattle.fm_run.proofs.Following.{Left}
use Rattle.fm_run.proofs.Spending.{next_spends, turns_spend}

module _ {E A B : Type 0} (run : Run E A) (f : A → Run E B) (old new : ℕ) where
  -- a call that stopped, before others
  pub halts_row : ((x : A) → Spends (f x)) → (o : Option E) → Halts old new (run old) o → Halts old new ((run >>= f) old) o
  halts_row s (Some e) h = ap (λ (d : Ending E A). next_of f d.end d.left) h
  halts_row s None h = let k = next_spends f s (run old) in (h.0, omega (arith, h.1, k))

  pub row_stops : {X Y Z : Type 0} (view : X → A) (view' : Y → B) (halt_of : Z → Option E) (z : Z) → ((x : A) → Spends (f x))
      → FollowsBy old new (run old) view halt_of (Err z) → FollowsBy old new ((run >>= f) old) view' halt_of (Err z)
  row_stops view view' halt_of z s h = halts_row s (halt_of z) h

  module _ (a : A) (mid : ℕ) (first : run old ≡ record { end = Ok a; left = mid }) (spends : Spends run) where
    whole : (run >>= f) old ≡ f a mid
    whole = ap (λ (d : Ending E A). next_of f d.end d.left) first

    pub halts_after : (o : Option E) → Halts mid new (f a mid) o → Halts old new ((run >>= f) old) o
    halts_after (Some e) h = whole ∙ h
    halts_after None h =
        let k = spends old in
        let same : (run old).left ≡ mid = ap (λ (d : Ending E A). d.left) first in
        let last : ((run >>= f) old).left ≡ (f a mid).left = ap (λ (d : Ending E B). d.left) whole in
        (omega (arith, h.0, k, same), omega (arith, h.1, last))

    -- a call that came to a value, and those after it
    pub row_goes : {Y Z : Type 0} (view : Y → B) (halt_of : Z → Option E) (r : Result Y Z)
        → FollowsBy mid new (f a mid) view halt_of r → FollowsBy old new ((run >>= f) old) view halt_of r
    row_goes view halt_of (Ok y) h = whole ∙ h
    row_goes view halt_of (Err z) h = halts_after (halt_of z) h

-- part of a value
module _ {E A B : Type 0} (f : A → B) (old new : ℕ) (d : Ending E A) where
  part_halts : (o : Option E) → Halts old new d o → Halts old new (ended_with f d) o
  part_halts (Some e) h = ap (ended_with f) h
  part_halts None h = h

  pub follows_part : {X Y Z : Type 0} (view : X → A) (view' : Y → B) (halt_of : Z → Option E) (z : Z) → FollowsBy old new d view halt_of (Err z) → FollowsBy old new (ended_with f d) view' halt_of (Err z)
  follows_part view view' halt_of z h = part_halts (halt_of z) h

-- a run that is another's end
pub follows_same : {E A X Z : Type 0} (view : X → A) (halt_of : Z → Option E) (r : Result X Z) (old new : ℕ) (d d' : Ending E A) → d ≡ d' → FollowsBy old new d view halt_of r → FollowsBy old new d' view halt_of r
follows_same view halt_of r old new d d' e h = subst (λ x. FollowsBy old new x view halt_of r) e h

-- the work of a task
module _ {A X : Type 0} (view : X → A) (task : Task) (old new : ℕ) (work : Work A) where
  task_halts : (o : Option Halt) → Halts old new (work old) o → Halts old new (task_run task work old) (halt_in task o)
  task_halts (Some e) h = ap (λ (d : Ending Halt A). record { end = named (λ halt. record { task = task; halt = halt }) d.end; left = d.left }) h
  task_halts None h = h

  pub task_follows : (r : Result X Stop) → Follows view r old new (work old) → FollowsTasks view (stopped_in task r) old new (task_run task work old)
  task_follows (Ok x) h = ap (λ (d : Ending Halt A). record { end = named (λ halt. record { task = task; halt = halt }) d.end; left = d.left }) h
  task_follows (Err stop) h = task_halts (halt_of stop) h

-- units that were spent before the call
module _ {E A : Type 0} (old mid new : ℕ) (d : Ending E A) (spent : mid ≤ old) where
  pub later_halts : (o : Option E) → Halts mid new d o → Halts old new d o
  later_halts (Some e) h = h
  later_halts None h = (omega (arith, h.0, spent), h.1)

  pub follows_later : {X Z : Type 0} (view : X → A) (halt_of : Z → Option E) (r : Result X Z) → FollowsBy mid new d view halt_of r → FollowsBy old new d view halt_of r
  follows_later view halt_of (Ok x) h = h
  follows_later view halt_of (Err z) h = later_halts (halt_of z) h

-- a call that wants memory
pub wanted : {X A : Type 0} (view : X → A) (r : Result X Stop) (old new : ℕ) (d : Ended A) → IsErr r × IsErrAnd r (λ e. e ≡ stops.Memory) → new ≤ old → d.left ≤ new → Follows view r old new d
wanted view (Ok x) old new d h spent leaves = absurd (other h.0)
  where
    other : ◌≡◌ {A = Bool} false true → ⊥
    other e = cc
wanted view (Err stops.Memory) old new d h spent leaves = (spent, leaves)
wanted view (Err stops.Budget) old new d h spent leaves = absurd (other h.1)
  where
    other : stops.Budget ≡ stops.Memory → ⊥
    other e = cc
wanted view (Err stops.Exponent) old new d h spent leaves = absurd (other h.1)
  where
    other : stops.Exponent ≡ stops.Memory → ⊥
    other e = cc

-- a value that comes without units, or want of memory
pub given : {X A : Type 0} (view : X → A) (r : Result X Stop) (units : ℕ) (d : Ended A) (x : A) → d ≡ record { end = Ok x; left = units } → IfOk r (λ y. view y ≡ x) → IfErr r (λ e. e ≡ stops.Memory)
    → Follows view r units units d
given view (Ok y) units d x e same memory = e ∙ (λ i. record { end = Ok (sym same i); left = units })
given {X} {A} view (Err stop) units d x e same memory =
    let left : d.left ≡ units = ap (λ (q : Ended A). q.left) e in
    wanted view (Err stop) units units d (refl, memory) (omega arith) (omega (arith, left))

-- a unit is spent
pub spent_now : (u u' old : ℕ) → u ≡ u' + 1 → u ≤ old → u' ≤ old
spent_now u u' old paid h = omega (arith, paid, h)

-- a call that stopped otherwise than for want of units
pub stopped : {X A : Type 0} (view : X → A) (e : Stop) (old left : ℕ) (all : Ended A) → (e ≡ stops.Budget → ⊥) → (e ≡ stops.Exponent → all ≡ record { end = Err Exponent; left = left })
    → left ≤ old → all.left ≤ left → Follows view (Err e) old left all
stopped view stops.Budget old left all never passes spent leaves = absurd (never refl)
stopped view stops.Exponent old left all never passes spent leaves = passes refl
stopped view stops.Memory old left all never passes spent leaves = (spent, leaves)

-- a run that came to its value, before a call that wants memory
pub row_wants : {E A B : Type 0} (run : Run E A) (f : A → Run E B) (old new : ℕ) → Spends run → ((x : A) → Spends (f x)) → (run old).left ≡ new → (new ≤ old) × (((run >>= f) old).left ≤ new)
row_wants run f old new a b left =
    let h = a old in
    let k = next_spends f b (run old) in
    (omega (arith, h, left), omega (arith, k, left))

-- ---- turns
module _ {E : Type 0} (spent : E) {S A : Type 0} (turn : S → Run E (Turn S A)) (each_turn : (s : S) → Spends (turn s)) (old new : ℕ) where
  after_spends : (f : S → Run E A) → ((s : S) → Spends (f s)) → (t : Turn S A) → Spends (after_turn spent turn f t)
  after_spends f h (last x) = λ units. omega arith
  after_spends f h (again s) = h s

  -- a turn that stopped stops all that was left
  pub turn_halts : (all : Ending E A) (s : S) (units : ℕ) → Left spent turn all s units → units ≤ old → (o : Option E) → Halts units new (turn s units) o → Halts old new all o
  turn_halts all s units w earlier o h = later_halts old units new all earlier o (go w.count w.is)
    where
      go : (count : ℕ) → turns spent turn count s units ≡ all → Halts units new all o
      go zero is = subst (λ d. Halts units new d o) is (halts_row (turn s) (after_turn spent turn (λ s'. halted spent)) units new (after_spends (λ s'. halted spent) (λ s' u. omega arith)) o h)
      go (suc count) is = subst (λ d. Halts units new d o) is (halts_row (turn s) (after_turn spent turn (turns spent turn count)) units new
          (after_spends (turns spent turn count) (turns_spend spent turn each_turn count)) o h)
