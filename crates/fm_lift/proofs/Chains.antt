-- Matrices one after the other, each from the one before it.
use Rattle.std.proofs.Common.{ℕ, suc, ◌≡◌, ◌≤◌, List, [], ◌∷◌, ◌++◌, Option, Result, Ok, Err, refl, sym, ap, ◌∙◌, append_assoc, arith}
use Rattle.fm_run.specs.Runs.{Ending, Run, Spends, FollowsBy, ended_with, next_of, ready, ◌>>=◌}
use Rattle.fm_run.proofs.Following.{after_value}
use Rattle.fm_run.proofs.Spending.{then_spends}
use Rattle.fm_run.proofs.Parts.{ended_ready, ended_twice, ended_same}
use Rattle.fm_run.proofs.Calls.{row_stops, follows_part, follows_same, follows_later}
use Rattle.fm_lift.specs.Lifts.{after_the_first}

module _ {E M X : Type 0} (step : ℕ → M → X → Run E M) where
  abbrev pub chained : ℕ → M → List X → Run E (List M)
  chained j m [] = ready []
  chained j m (x ∷ xs) = step j m x >>= λ next. chained (suc j) next xs >>= λ later. ready (next ∷ later)

  -- what is left of a chain, where these stand
  abbrev pub Rest : List M → M → ℕ → List X → ℕ → Ending E (List M) → Type 0
  Rest done m j xs units all = ended_with (λ later. after_the_first (done ++ m ∷ later)) (chained j m xs units) ≡ all

module _ {E M X : Type 0} (step : ℕ → M → X → Run E M) (step_spends : (j : ℕ) (m : M) (x : X) → Spends (step j m x)) where
  pub chained_spends : (xs : List X) (j : ℕ) (m : M) → Spends (chained step j m xs)
  chained_spends [] j m = λ units. omega arith
  chained_spends (x ∷ xs) j m = then_spends (step j m x) (λ next. chained step (suc j) next xs >>= λ later. ready (next ∷ later)) (step_spends j m x)
      (λ next. then_spends (chained step (suc j) next xs) (λ later. ready (next ∷ later)) (chained_spends xs (suc j) next) (λ later units. omega arith))

  pub begun : (m : M) (j : ℕ) (xs : List X) (units : ℕ) → Rest step [] m j xs units (chained step j m xs units)
  begun m j xs units = ended_same (chained step j m xs units)

  module _ (done : List M) (m : M) (j : ℕ) (x : X) (xs : List X) (units left : ℕ) (all : Ending E (List M)) (rest : Rest step done m j (x ∷ xs) units all) where
    pub more : (next : M) → step j m x units ≡ record { end = Ok next; left = left } → Rest step (done ++ m ∷ []) next (suc j) xs left all
    more next e =
        sym (ended_twice (λ later. next ∷ later) (λ later. after_the_first (done ++ m ∷ later)) (λ later. after_the_first ((done ++ m ∷ []) ++ next ∷ later))
        (λ later. ap after_the_first (sym (append_assoc done (m ∷ []) (next ∷ later)))) (chained step (suc j) next xs left))
        ∙ ap (ended_with (λ later. after_the_first (done ++ m ∷ later))) (sym (after_value (step j m x) (λ n. chained step (suc j) n xs >>= λ later. ready (n ∷ later)) units left next e
        ∙ ended_ready (λ later. next ∷ later) (chained step (suc j) next xs left)))
        ∙ rest

    pub stops : {Y W Z : Type 0} (view : Y → M) (view' : W → List M) (halt_of : Z → Option E) (z : Z) (old : ℕ) → units ≤ old → FollowsBy units left (step j m x units) view halt_of (Err z)
        → FollowsBy old left all view' halt_of (Err z)
    stops {Y} {W} view view' halt_of z old earlier h =
        let f = λ (n : M). chained step (suc j) n xs >>= λ later. ready (n ∷ later) in
        let g = λ (later : List M). after_the_first (done ++ m ∷ later) in
        follows_later old units left all earlier view' halt_of (Err z)
        (follows_same view' halt_of (Err z) units left (ended_with g (chained step j m (x ∷ xs) units)) all rest
        (follows_part g units left (chained step j m (x ∷ xs) units) view' view' halt_of z
        (row_stops (step j m x) f units left view view' halt_of z (λ n. then_spends (chained step (suc j) n xs) (λ later. ready (n ∷ later)) (chained_spends xs (suc j) n) (λ later u. omega arith)) h)))

  module _ (done : List M) (m : M) (j : ℕ) (xs : List X) (units : ℕ) (all : Ending E (List M)) (rest : Rest step done m j xs units all) where
    pub rest_left : all.left ≤ units
    rest_left = let s = chained_spends xs j m units in let e = ap (λ (d : Ending E (List M)). d.left) rest in omega (arith, s, e)
