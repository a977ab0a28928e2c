-- Runs spend units and make none.
use Rattle.std.proofs.Common.{ℕ, zero, suc, ◌≤◌, Bool, true, false, List, [], ◌∷◌, Result, Ok, Err, arith}
use Rattle.fm_run.specs.Runs.{Halt, Ending, Run, Spends, ready, halted, next_of, ◌>>=◌, each, bounded}
use Rattle.fm_run.specs.Turns.{Turn, last, again, after_turn, turns}

pub ready_spends : {A : Type 0} (x : A) → Spends {E = Halt} (ready x)
ready_spends x units = omega arith

module _ {E : Type 0} where
  -- what follows spends none of what is left
  pub next_spends : {A B : Type 0} (f : A → Run E B) → ((x : A) → Spends (f x)) → (d : Ending E A) → (next_of f d.end d.left).left ≤ d.left
  next_spends {A} {B} f b d = go d.end
    where
      go : (r : Result A E) → (next_of f r d.left).left ≤ d.left
      go (Ok x) = b x d.left
      go (Err e) = omega arith

  pub then_spends : {A B : Type 0} (run : Run E A) (f : A → Run E B) → Spends run → ((x : A) → Spends (f x)) → Spends (run >>= f)
  then_spends run f a b units = let h = a units in let k = next_spends f b (run units) in omega (arith, h, k)

  pub each_spends : {A B : Type 0} (f : A → Run E B) → ((x : A) → Spends (f x)) → (xs : List A) → Spends (each f xs)
  each_spends f s [] = λ units. omega arith
  each_spends f s (x ∷ xs) = then_spends (f x) (λ y. each f xs >>= λ ys. ready (y ∷ ys)) (s x) (λ y. then_spends (each f xs) (λ ys. ready (y ∷ ys)) (each_spends f s xs) (λ ys units. omega arith))

pub bounded_spends : {A : Type 0} (fits : Bool) (x : A) → Spends (bounded fits x)
bounded_spends true x units = omega arith
bounded_spends false x units = omega arith

module _ {E : Type 0} (spent : E) {S A : Type 0} (turn : S → Run E (Turn S A)) (each_turn : (s : S) → Spends (turn s)) where
  pub turns_spend : (count : ℕ) (s : S) → Spends (turns spent turn count s)
  turns_spend zero s = then_spends (turn s) (after_turn spent turn (λ s'. halted spent)) (each_turn s) stops
    where
      stops : (t : Turn S A) → Spends (after_turn spent turn (λ s'. halted spent) t)
      stops (last x) = λ units. omega arith
      stops (again s') = λ units. omega arith
  turns_spend (suc count) s = then_spends (turn s) (after_turn spent turn (turns spent turn count)) (each_turn s) (goes (λ s'. turns_spend count s'))
    where
      goes : ((s' : S) → Spends (turns spent turn count s')) → (t : Turn S A) → Spends (after_turn spent turn (turns spent turn count) t)
      goes h (last x) = λ units. omega arith
      goes h (again s') = h s'
