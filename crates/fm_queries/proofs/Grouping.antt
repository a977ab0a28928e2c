-- Runs in a row, grouped otherwise.
use Rattle.std.proofs.Common.{ℕ, ◌≡◌, Result, Ok, Err, refl}
use Rattle.fm_run.specs.Runs.{Run, next_of, ◌>>=◌}

module _ {E A B C : Type 0} where
  pub grouped : (run : Run E A) (f : A → Run E B) (g : B → Run E C) (units : ℕ) → ((run >>= f) >>= g) units ≡ (run >>= (λ x. f x >>= g)) units
  grouped run f g units = go (run units).end (run units).left
    where
      go : (d : Result A E) (l : ℕ) → next_of g (next_of f d l).end (next_of f d l).left ≡ next_of (λ x. f x >>= g) d l
      go (Ok x) l = refl
      go (Err e) l = refl
