-- What the table says of the lines of a resolution and of the lift after the first.
use Rattle.std.proofs.Common.{◌≡◌, ℕ, suc, List, [], ◌∷◌, Option, option_map, refl, sym, subst}
use Rattle.fm_words.specs.Options.{◌>>=◌}
use Rattle.fm_poly.specs.declared.ring.Ring.{Ring}
use Rattle.fm_report.specs.Parts.{Part, times, twist}
use Rattle.fm_report.specs.Sheets.{Block, numbered}
use Rattle.fm_parts.specs.Conditions.{Log, Condition, equal, follows}
use Rattle.fm_parts.specs.Shapes.{columns_of}
use Rattle.fm_judge.specs.Claims.{agreeing, on_differential, on_lift}
use Rattle.fm_judge.specs.Goals.{Goal, told_rank}

module _ (r : Ring) (g : Goal) (b : Block) (parts : List Part) (logs : List Log) where
  abbrev pub differential_says : (i j : ℕ) → Option (List Condition)
  differential_says i j = numbered b.differentials (suc i) >>= λ d.
      option_map (λ next. follows d next ∷ agreeing (told_rank g.aim (suc j)) (columns_of next)) (numbered b.differentials (suc j))

  pub differential_after : (i j : ℕ) → j ≡ suc i → on_differential r g b parts logs j ≡ differential_says i j
  differential_after i j e = subst (λ k. on_differential r g b parts logs k ≡ differential_says i k) (sym e) refl

  abbrev pub lift_says : (i j : ℕ) → Option (List Condition)
  lift_says i j = numbered b.differentials (suc i) >>= λ d. numbered b.lift (suc i) >>= λ theta.
      option_map (λ next. equal (times d next) (times theta (twist d 1)) ∷ []) (numbered b.lift (suc j))

  pub lift_after : (i j : ℕ) → j ≡ suc i → on_lift r g b parts logs j ≡ lift_says i j
  lift_after i j e = subst (λ k. on_lift r g b parts logs k ≡ lift_says i k) (sym e) refl
