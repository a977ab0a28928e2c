-- What is known of a run by part of its end: a value under a function, or halts under a name; values within the bound; and errors that are
-- passed on.
use Rattle.std.proofs.Common.{ℕ, ◌≡◌, Bool, true, false, Option, Result, Ok, Err, refl, sym, ap, subst}
use Rattle.std.specs.Prelude.{IsErr, IsErrAnd}
use Rattle.fm_run.specs.Runs.{Exponent, Ending, Run, Halts, FollowsBy, ended_with, next_of, ready, bounded}
use Rattle.fm_run.specs.Tasks.{named, naming}
use Rattle.fm_run.proofs.Ends.{Ends, ok_same, same_value, no_value}

module _ {E A B : Type 0} (f : A → B) where
  abbrev pub Came : Ending E A → B → ℕ → Type 0
  Came d y left = (x : A) × (d ≡ record { end = Ok x; left = left }) × (f x ≡ y)

  pub came : (d : Ending E A) (y : B) (left : ℕ) → Ends (ended_with f d) y left → Came d y left
  came d y left h = go d.end d.left h
    where
      go : (e : Result A E) (k : ℕ) → Ends (ended_with f (record { end = e; left = k })) y left → Came (record { end = e; left = k }) y left
      go (Ok x) k h = (x, ap (λ l. record { end = Ok x; left = l }) (ap (λ (d : Ending E B). d.left) h), ok_same (f x) y (ap (λ (d : Ending E B). d.end) h))
      go (Err e) k h = absurd (no_value e y k left h)

-- a run under a name that came to a value
pub named_ends : {E D A : Type 0} (name : E → D) (run : Run E A) (units left : ℕ) (x : A) → Ends (naming name run units) x left → Ends (run units) x left
named_ends {E} {D} {A} name run units left x h = go (run units).end (run units).left h
  where
    go : (r : Result A E) (k : ℕ) → Ends {E = D} (record { end = named name r; left = k }) x left → Ends {E = E} (record { end = r; left = k }) x left
    go (Ok y) k h = (λ i. record { end = Ok (same_value y x k left h i); left = ap (λ (d : Ending D A). d.left) h i })
    go (Err e) k h = absurd (no_value (name e) x k left h)

-- a value that the bound allowed
pub bounded_fits : {A : Type 0} (fits : Bool) (x y : A) (units left : ℕ) → Ends (bounded fits x units) y left → fits ≡ true
bounded_fits true x y units left e = refl
bounded_fits false x y units left e = absurd (no_value Exponent y units left e)

-- a value that only passes through a function
module _ {E A B : Type 0} where
  pub ended_ready : (f : A → B) (d : Ending E A) → next_of (λ x. ready (f x)) d.end d.left ≡ ended_with f d
  ended_ready f d = go d.end d.left
    where
      go : (e : Result A E) (k : ℕ) → next_of (λ x. ready (f x)) e k ≡ ended_with f (record { end = e; left = k })
      go (Ok x) k = refl
      go (Err e) k = refl

  pub ended_twice : {C : Type 0} (f : A → B) (g : B → C) (h : A → C) → ((x : A) → g (f x) ≡ h x) → (d : Ending E A) → ended_with g (ended_with f d) ≡ ended_with h d
  ended_twice f g h same d = go d.end d.left
    where
      go : (e : Result A E) (k : ℕ) → ended_with g (ended_with f (record { end = e; left = k })) ≡ ended_with h (record { end = e; left = k })
      go (Ok x) k = ap (λ y. record { end = Ok y; left = k }) (same x)
      go (Err e) k = refl

pub ended_same : {E A : Type 0} (d : Ending E A) → ended_with (λ x. x) d ≡ d
ended_same {E} {A} d = go d.end d.left
  where
    go : (e : Result A E) (k : ℕ) → ended_with (λ x. x) (record { end = e; left = k }) ≡ record { end = e; left = k }
    go (Ok x) k = refl
    go (Err e) k = refl

-- a call that passes on the error of another
pub failed : {E A X Z : Type 0} (view : X → A) (halt_of : Z → Option E) (r : Result X Z) (z : Z) (old new : ℕ) (d : Ending E A) → IsErr r × IsErrAnd r (λ e. e ≡ z) → Halts old new d (halt_of z)
    → FollowsBy old new d view halt_of r
failed view halt_of (Ok x) z old new d h k = absurd (cc h.0)
failed view halt_of (Err e) z old new d h k = subst (λ x. Halts old new d (halt_of x)) (sym h.1) k
