-- Logs whose first entries were replayed.
use Rattle.std.proofs.Common.{ℕ, suc, ◌+◌, ◌-◌, ◌≡◌, Bool, true, false, List, [], ◌∷◌, ◌++◌, map, length, Result, Ok, Err, refl, sym, ap, ◌∙◌, subst, arith}
use Rattle.fm_words.specs.Steps.{◌>>=◌, steps}
use Rattle.fm_poly.specs.declared.ring.Ring.{Ring}
use Rattle.fm_term.specs.declared.vterm.VTerm.{VTerm}
use Rattle.fm_groebner.specs.Logs.{Entry}
use Rattle.fm_complete.specs.Divisions.{terms_of}
use Rattle.fm_parts.specs.Replays.{Reason, Replay, replay_entry, nothing_replayed, replayed, is_taken, is_treated}
use Rattle.fm_replay.specs.declared.replaying.Replayed.{Replayed}
use Rattle.fm_replay.specs.declared.replaying.Replayed.TheVariants.{Members, Unfinished, Bad}
use Rattle.fm_replay.specs.Kept.{ReplayValue, Keeps, nothing_kept}
use Rattle.fm_replay.specs.Endings.{is_exponents, IsFirstBad, Ends, EndsFrom}

-- the first entries were replayed, and these are left
pub record IsUnderWay (r : Ring) (inputs : List (List VTerm)) (log left : List Entry) (p : ReplayValue) : Type 0 where
  pub before : List Entry
  pub replay : Replay
  pub is : log ≡ before ++ left
  pub free : replayed r inputs before ≡ Ok replay
  pub kept : Keeps p replay

through : {S X F : Type 0} (f : S → X → Result S F) (ys : List X) (x : X) (w : Result S F) → ((t : S) → steps f t (ys ++ x ∷ []) ≡ (steps f t ys >>= λ u. f u x))
    → (w >>= λ t. steps f t (ys ++ x ∷ [])) ≡ ((w >>= λ t. steps f t ys) >>= λ t. f t x)
through f ys x (Ok t) h = h t
through f ys x (Err e) h = refl

steps_more : {S X F : Type 0} (f : S → X → Result S F) (s : S) (xs : List X) (x : X) → steps f s (xs ++ x ∷ []) ≡ (steps f s xs >>= λ t. f t x)
steps_more f s [] x = go (f s x)
  where
    go : {S F : Type 0} (w : Result S F) → (w >>= λ t. Ok t) ≡ w
    go (Ok t) = refl
    go (Err e) = refl
steps_more f s (y ∷ ys) x = through f ys x (f s y) (λ t. steps_more f t ys x)

joined : {A : Type 0} (xs : List A) (y : A) (ys : List A) → xs ++ y ∷ ys ≡ (xs ++ y ∷ []) ++ ys
joined [] y ys = refl
joined (x ∷ xs) y ys = ap (λ zs. x ∷ zs) (joined xs y ys)

length_join : {A : Type 0} (xs ys : List A) → length (xs ++ ys) ≡ length xs + length ys
length_join [] ys = omega arith
length_join (x ∷ xs) ys = let e = length_join xs ys in omega (arith, e)

length_map : {A B : Type 0} (f : A → B) (xs : List A) → length (map f xs) ≡ length xs
length_map f [] = refl
length_map f (x ∷ xs) = ap suc (length_map f xs)

-- how many entries were replayed, by how many are left
pub replayed_count : {A B : Type 0} (f : A → B) (xs ys : List A) (zs : List B) → map f xs ≡ zs ++ map f ys → length zs ≡ length xs - length ys
replayed_count {A} {B} f xs ys zs e =
    let a = length_map f xs in
    let b = length_map f ys in
    let c = ap (λ (ws : List B). length ws) e ∙ length_join zs (map f ys) in
    omega (arith, a, b, c)

module _ (r : Ring) (inputs : List (List VTerm)) (log : List Entry) where
  pub begins : (rows : ℕ) → IsUnderWay r inputs log log (nothing_kept r rows)
  unfolding nothing_replayed
  begins rows = record { before = []; replay = nothing_replayed; is = refl; free = refl; kept = record { members = refl; taken = λ k. refl; treated = λ a b. refl } }

  module _ (e : Entry) (left : List Entry) (p : ReplayValue) (w : IsUnderWay r inputs log (e ∷ left) p) where
    -- one entry more
    pub goes_on : (q : ReplayValue) → (t : Replay) × (replay_entry r inputs w.replay e ≡ Ok t) × Keeps q t → IsUnderWay r inputs log left q
    goes_on q x = record {
      before = w.before ++ e ∷ [];
      replay = x.0;
      is = w.is ∙ joined w.before e left;
      free = steps_more (replay_entry r inputs) nothing_replayed w.before e ∙ ap (λ (z : Result Replay Reason). z >>= λ t. replay_entry r inputs t e) w.free ∙ x.1;
      kept = x.2;
    }

    pub is_bad : (n : ℕ) (why : Reason) (exponents : Bool) → length w.before ≡ n → replay_entry r inputs w.replay e ≡ Err why → exponents ≡ is_exponents why → IsFirstBad r inputs log n exponents
    is_bad n why exponents count refused reason = record {
      before = w.before;
      entry = e;
      after = left;
      replay = w.replay;
      why = why;
      is = w.is;
      count = count;
      free = w.free;
      refused = refused;
      reason = reason;
    }

  empty_end : {A : Type 0} (xs : List A) → xs ++ [] ≡ xs
  empty_end [] = refl
  empty_end (x ∷ xs) = ap (λ zs. x ∷ zs) (empty_end xs)

  -- no entry is left
  pub ends : (p : ReplayValue) → IsUnderWay r inputs log [] p → (x : Replayed) → EndsFrom p inputs x → Ends r inputs log x
  ends p w (Members vs) h = (w.replay, ap (replayed r inputs) (w.is ∙ empty_end w.before) ∙ w.free, h.0 w.replay w.kept, ap terms_of h.1 ∙ w.kept.members)
  ends p w Unfinished h = (w.replay, ap (replayed r inputs) (w.is ∙ empty_end w.before) ∙ w.free, h w.replay w.kept)
  ends p w (Bad k exponents) h = absurd h
