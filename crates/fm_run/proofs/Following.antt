-- How a program goes along a run: one part after the other, and turn by turn.
use Rattle.std.proofs.Common.{ℕ, zero, suc, ◌<◌, ◌≤◌, ◌≡◌, Ok, Err, refl, sym, ap, ◌∙◌, arith}
use Rattle.fm_run.specs.Runs.{Ending, Run, halted, next_of, ◌>>=◌}
use Rattle.fm_run.specs.Turns.{Turn, last, again, after_turn, turns}

module _ {E A B : Type 0} (run : Run E A) (f : A → Run E B) where
  -- where the first part came to x, the whole is what f does with x
  pub after_value : (units left : ℕ) (x : A) → run units ≡ record { end = Ok x; left = left } → (run >>= f) units ≡ f x left
  after_value units left x e = ap (λ (d : Ending E A). next_of f d.end d.left) e

  pub after_halt : (units left : ℕ) (e : E) → run units ≡ record { end = Err e; left = left } → (run >>= f) units ≡ record { end = Err e; left = left }
  after_halt units left e h = ap (λ (d : Ending E A). next_of f d.end d.left) h

module _ {E : Type 0} (spent : E) {S A : Type 0} (turn : S → Run E (Turn S A)) where
  -- what is left of a run in turns
  pub record Left (all : Ending E A) (s : S) (units : ℕ) : Type 0 where
    pub count : ℕ
    pub enough : units ≤ count
    pub is : turns spent turn count s units ≡ all

  pub begun : (s : S) (units : ℕ) → Left (turns spent turn units s units) s units
  begun s units = record { count = units; enough = omega arith; is = refl }

  -- a turn that isn't the last and has spent a unit
  pub turned : (all : Ending E A) (s s' : S) (units left : ℕ) → Left all s units → turn s units ≡ record { end = Ok (again s'); left = left } → left < units → Left all s' left
  turned all s s' units left w e less = go w.count w.enough w.is
    where
      go : (count : ℕ) → units ≤ count → turns spent turn count s units ≡ all → Left all s' left
      go zero h is = absurd (omega (arith, h, less))
      go (suc count) h is = record { count = count; enough = omega (arith, h, less); is = sym (after_value (turn s) (after_turn spent turn (turns spent turn count)) units left (again s') e) ∙ is }

  -- the last turn
  pub ended : (all : Ending E A) (s : S) (units left : ℕ) (x : A) → Left all s units → turn s units ≡ record { end = Ok (last x); left = left } → all ≡ record { end = Ok x; left = left }
  ended all s units left x w e = go w.count w.is
    where
      go : (count : ℕ) → turns spent turn count s units ≡ all → all ≡ record { end = Ok x; left = left }
      go zero is = sym is ∙ after_value (turn s) (after_turn spent turn (λ s'. halted spent)) units left (last x) e
      go (suc count) is = sym is ∙ after_value (turn s) (after_turn spent turn (turns spent turn count)) units left (last x) e

  -- a turn that stopped
  pub stopped : (all : Ending E A) (s : S) (units left : ℕ) (x : E) → Left all s units → turn s units ≡ record { end = Err x; left = left } → all ≡ record { end = Err x; left = left }
  stopped all s units left x w e = go w.count w.is
    where
      go : (count : ℕ) → turns spent turn count s units ≡ all → all ≡ record { end = Err x; left = left }
      go zero is = sym is ∙ after_halt (turn s) (after_turn spent turn (λ s'. halted spent)) units left x e
      go (suc count) is = sym is ∙ after_halt (turn s) (after_turn spent turn (turns spent turn count)) units left x e
