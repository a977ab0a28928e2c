-- What the table says of lifts of the identity and of links, by the number of those before.
use Rattle.std.proofs.Common.{◌≡◌, ℕ, suc, List, [], ◌∷◌, length, Option, Some, option_map, refl, ap, subst, arith}
use Rattle.fm_words.specs.Options.{◌>>=◌}
use Rattle.fm_poly.specs.declared.ring.Ring.{Ring}
use Rattle.fm_report.specs.Parts.{Part, times}
use Rattle.fm_report.specs.Sheets.{Block, numbered}
use Rattle.fm_parts.specs.Conditions.{Log, Condition, equal}
use Rattle.fm_judge.specs.Claims.{link_at, on_lambda, source_differential, unit_part}
use Rattle.fm_judge.specs.Goals.{Goal}

module _ (r : Ring) (g : Goal) (b : Block) (parts : List Part) (logs : List Log) where
  pub first_lambda : (identity : List Part) (P : Part) → length identity ≡ 0 → on_lambda r g b parts logs identity P ≡ Some (equal P (unit_part r 1) ∷ [])
  first_lambda [] P e = refl
  first_lambda (L ∷ identity) P e = absurd (omega (arith, e))

  -- lambda_j, where lambda_(j-1) is among these
  abbrev pub lambda_after : List Part → (P : Part) → (j : ℕ) → Option (List Condition)
  lambda_after identity P j = source_differential r g b parts logs j >>= λ d. numbered identity j >>= λ before.
      option_map (λ e. equal (times d P) (times before e) ∷ []) (numbered b.differentials j)

  pub later_lambda : (identity : List Part) (P : Part) (i : ℕ) → length identity ≡ suc i → on_lambda r g b parts logs identity P ≡ lambda_after identity P (suc i)
  later_lambda [] P i e = absurd (omega (arith, e))
  later_lambda (L ∷ identity) P i e = ap (lambda_after (L ∷ identity) P) e

  pub link_moved : (Phi : Part) (found : List Part) (i j : ℕ) (o : Option Part) → i ≡ j → link_at r g b parts logs Phi found i ≡ o → link_at r g b parts logs Phi found j ≡ o
  link_moved Phi found i j o e h = subst (λ k. link_at r g b parts logs Phi found k ≡ o) e h
