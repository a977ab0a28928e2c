-- Runs in turns that end: what holds of each state with the units that are left then.
use Rattle.std.proofs.Common.{ℕ, zero, suc, ◌≤◌, ◌≡◌, Ok, ap, subst, arith}
use Rattle.fm_run.specs.Runs.{Ending, Run, Spends, halted}
use Rattle.fm_run.specs.Turns.{Turn, last, again, after_turn, turns}
use Rattle.fm_run.proofs.Ends.{Ends, same_value, no_value, bound}

module _ {E A : Type 0} where
  pub same_left : (x y : A) (k l : ℕ) → ◌≡◌ {A = Ending E A} (record { end = Ok x; left = k }) (record { end = Ok y; left = l }) → k ≡ l
  same_left x y k l e = ap (λ (d : Ending E A). d.left) e

  -- what holds of a value and the units that are left
  pub same_end : (Goal : A → ℕ → Type 0) (x y : A) (k l : ℕ) → ◌≡◌ {A = Ending E A} (record { end = Ok x; left = k }) (record { end = Ok y; left = l }) → Goal x k → Goal y l
  same_end Goal x y k l e g = subst (λ z. Goal z l) (same_value x y k l e) (subst (Goal x) (same_left x y k l e) g)

  -- no more is left than there was
  pub left_of : (run : Run E A) (units left : ℕ) (x : A) → Spends run → Ends (run units) x left → left ≤ units
  left_of run units left x s e = let h = s units in let k : (run units).left ≡ left = ap (λ (d : Ending E A). d.left) e in omega (arith, h, k)

module _ {E : Type 0} (spent : E) {S A : Type 0} (turn : S → Run E (Turn S A)) (Holds : S → ℕ → Type 0) (Goal : A → ℕ → Type 0) where
  abbrev pub LeadsLeft : Turn S A → ℕ → Type 0
  LeadsLeft (last x) left = Goal x left
  LeadsLeft (again s) left = Holds s left

  -- what holds of each state and the units that it begins with leads to what is wanted of the value and the units left
  pub turns_lead_left : ((s : S) (units left : ℕ) (t : Turn S A) → Holds s units → Ends (turn s units) t left → LeadsLeft t left)
      → (count : ℕ) (s : S) (units left : ℕ) (x : A) → Holds s units → Ends (turns spent turn count s units) x left → Goal x left
  turns_lead_left each_turn zero s units left x h e =
      let b = bound (turn s) (after_turn spent turn (λ s'. halted spent)) units left x e in
      go b.value b.between (each_turn s units b.between b.value h b.first) b.second
    where
      go : (t : Turn S A) (l : ℕ) → LeadsLeft t l → Ends (after_turn spent turn (λ s'. halted spent) t l) x left → Goal x left
      go (last y) l g e = same_end Goal y x l left e g
      go (again s') l g e = absurd (no_value spent x l left e)
  turns_lead_left each_turn (suc count) s units left x h e =
      let b = bound (turn s) (after_turn spent turn (turns spent turn count)) units left x e in
      go b.value b.between (each_turn s units b.between b.value h b.first) b.second (λ s'. turns_lead_left each_turn count s')
    where
      go : (t : Turn S A) (l : ℕ) → LeadsLeft t l → Ends (after_turn spent turn (turns spent turn count) t l) x left
          → ((s' : S) (units left : ℕ) (x : A) → Holds s' units → Ends (turns spent turn count s' units) x left → Goal x left) → Goal x left
      go (last y) l g e more = same_end Goal y x l left e g
      go (again s') l g e more = more s' l left x g e
