-- Falling lists by their first term.
use Rattle.std.proofs.Common.{ℕ, ◌≤◌, ◌≡◌, List, [], ◌∷◌}
use Rattle.std.specs.declared.cmp.Ordering.TheVariants.{Less}
use Rattle.fm_gfp.specs.declared.prime.Prime.{Prime}
use Rattle.fm_mono.specs.declared.order.Order.{Order}
use Rattle.fm_term.specs.declared.vterm.VTerm.{VTerm}
use Rattle.fm_term.specs.Places.{term_cmp, AllBelow}
use Rattle.fm_term.specs.Falling.{IsTerm, IsFalling}
use Rattle.fm_term.proofs.Places.{place_trans}

pub below_trans : (o : Order) (t u : VTerm) (us : List VTerm) → term_cmp o u t ≡ Less → AllBelow o u us → AllBelow o t us
below_trans o t u [] h w = tt
below_trans o t u (v ∷ us) h w = (place_trans o v u t w.0 h, below_trans o t u us h w.1)

module _ {p : Prime} {n m : ℕ} {o : Order} where
  pub nothing_falls : IsFalling p n m o []
  nothing_falls = record { falls = tt; proper = tt; within = tt }

  -- the terms after the first
  pub later : {t : VTerm} {ts : List VTerm} → IsFalling p n m o (t ∷ ts) → IsFalling p n m o ts
  later f = record { falls = f.falls.1; proper = f.proper.1; within = f.within.2 }

  -- a falling list with a greater term before it
  pub with_greater : {t : VTerm} {ts : List VTerm} → 1 ≤ t.component → t.component ≤ m → IsTerm p n t → AllBelow o t ts → IsFalling p n m o ts → IsFalling p n m o (t ∷ ts)
  with_greater from to i b f = record { falls = (b, f.falls); proper = (i, f.proper); within = (from, to, f.within) }

  -- a term greater than the first is greater than all
  pub all_below : (t s : VTerm) (ss : List VTerm) → term_cmp o s t ≡ Less → IsFalling p n m o (s ∷ ss) → AllBelow o t (s ∷ ss)
  all_below t s ss h f = (h, below_trans o t s ss h f.falls.0)
