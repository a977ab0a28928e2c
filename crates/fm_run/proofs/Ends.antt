-- Runs that end with a value: what their parts came to.
use Rattle.std.proofs.Common.{ℕ, zero, suc, ◌≡◌, Bool, true, false, Result, Ok, Err, refl, ap, subst}
use Rattle.fm_run.specs.Runs.{Exponent}
use Rattle.fm_run.specs.Runs.{Ending, Run, halted, next_of, ◌>>=◌, bounded}
use Rattle.fm_run.specs.Turns.{Turn, last, again, after_turn, turns}

-- the run ended with x
abbrev pub Ends : {E A : Type 0} → Ending E A → A → ℕ → Type 0
Ends {E} {A} d x left = d ≡ record { end = Ok x; left = left }

module _ {E A : Type 0} where
  pub ok_same : (x y : A) → ◌≡◌ {A = Result A E} (Ok x) (Ok y) → x ≡ y
  ok_same x y e = cc

  pub no_ok : (e : E) (y : A) → ◌≡◌ {A = Result A E} (Err e) (Ok y) → ⊥
  no_ok e y h = cc

  pub same_value : (x y : A) (k l : ℕ) → ◌≡◌ {A = Ending E A} (record { end = Ok x; left = k }) (record { end = Ok y; left = l }) → x ≡ y
  same_value x y k l e = ok_same x y (ap (λ (d : Ending E A). d.end) e)

  pub no_value : (e : E) (y : A) (k l : ℕ) → ◌≡◌ {A = Ending E A} (record { end = Err e; left = k }) (record { end = Ok y; left = l }) → ⊥
  no_value e y k l h = no_ok e y (ap (λ (d : Ending E A). d.end) h)

-- a run and what follows it
module _ {E A B : Type 0} (run : Run E A) (f : A → Run E B) where
  pub record Bound (units : ℕ) (y : B) (left : ℕ) : Type 0 where
    pub value : A
    pub between : ℕ
    pub first : Ends (run units) value between
    pub second : Ends (f value between) y left

  pub bound : (units left : ℕ) (y : B) → Ends ((run >>= f) units) y left → Bound units y left
  bound units left y e = go (run units).end (run units).left refl e
    where
      go : (r : Result A E) (l : ℕ) → run units ≡ record { end = r; left = l } → Ends (next_of f r l) y left → Bound units y left
      go (Ok x) l first second = record { value = x; between = l; first = first; second = second }
      go (Err e) l first second = absurd (no_value e y l left second)

pub bounded_value : {A : Type 0} (fits : Bool) (x y : A) (units left : ℕ) → Ends (bounded fits x units) y left → x ≡ y
bounded_value true x y units left e = same_value x y units left e
bounded_value false x y units left e = absurd (no_value Exponent y units left e)

-- ---- turns
module _ {E : Type 0} (spent : E) {S A : Type 0} (turn : S → Run E (Turn S A)) (Holds : S → Type 0) (Goal : A → Type 0) where
  abbrev pub Leads : Turn S A → Type 0
  Leads (last x) = Goal x
  Leads (again s) = Holds s

  -- what holds of each state leads to what is wanted of the value
  pub turns_lead : ((s : S) (units left : ℕ) (t : Turn S A) → Holds s → Ends (turn s units) t left → Leads t)
      → (count : ℕ) (s : S) (units left : ℕ) (x : A) → Holds s → Ends (turns spent turn count s units) x left → Goal x
  turns_lead each_turn zero s units left x h e =
      let b = bound (turn s) (after_turn spent turn (λ s'. halted spent)) units left x e in
      go b.value b.between (each_turn s units b.between b.value h b.first) b.second
    where
      go : (t : Turn S A) (l : ℕ) → Leads t → Ends (after_turn spent turn (λ s'. halted spent) t l) x left → Goal x
      go (last y) l g e = subst Goal (same_value y x l left e) g
      go (again s') l g e = absurd (no_value spent x l left e)
  turns_lead each_turn (suc count) s units left x h e =
      let b = bound (turn s) (after_turn spent turn (turns spent turn count)) units left x e in
      go b.value b.between (each_turn s units b.between b.value h b.first) b.second (λ s'. turns_lead each_turn count s')
    where
      go : (t : Turn S A) (l : ℕ) → Leads t → Ends (after_turn spent turn (turns spent turn count) t l) x left
          → ((s' : S) (units left : ℕ) (x : A) → Holds s' → Ends (turns spent turn count s' units) x left → Goal x) → Goal x
      go (last y) l g e more = subst Goal (same_value y x l left e) g
      go (again s') l g e more = more s' l left x g e
