-- Columns outside of a kernel, before the repeat and from it on.
use Rattle.std.proofs.Common.{◌≡◌, ℕ, ◌<◌, ◌≤◌, List, [], ◌∷◌, Option, Some, None, option_map, refl, ap, ◌∙◌, subst}
use Rattle.std.proofs.lemmas.Bool.{lt-ltb, le-ltb}
use Rattle.fm_words.specs.Options.{◌>>=◌}
use Rattle.fm_poly.specs.declared.ring.Ring.{Ring}
use Rattle.fm_report.specs.Parts.{Part}
use Rattle.fm_report.specs.Sheets.{Block}
use Rattle.fm_parts.specs.Conditions.{Log, Condition, never}
use Rattle.fm_judge.specs.Claims.{excluded, kernel_at, lives_before, stage_of}
use Rattle.fm_judge.specs.Goals.{Goal}
use Rattle.fm_claims.specs.Kernels.{outside_kernel}

never_then : (x : Option Part) (f : Part → Option (List Condition)) → (x >>= λ K. option_map (λ (cs : List Condition). never ∷ []) (f K)) ≡ option_map (λ (cs : List Condition). never ∷ []) (x >>= f)
never_then None f = refl
never_then (Some K) f = refl

module _ (r : Ring) (g : Goal) (b : Block) (ps : List Part) (logs : List Log) (w : Part) where
  pub outside_in : (s n : ℕ) (xs ys : List ℕ) (o : Option (List Condition)) → xs ≡ ys → outside_kernel r g b ps logs w s n xs ≡ o → outside_kernel r g b ps logs w s n ys ≡ o
  outside_in s n xs ys o e h = subst (λ zs. outside_kernel r g b ps logs w s n zs ≡ o) e h

  module _ (t k n : ℕ) (by : List ℕ) where
    pub before_repeat : k < t → lives_before r g b ps logs w t k n by ≡ outside_kernel r g b ps logs w k n by
    before_repeat h = rw (lt-ltb k t h) refl

    from_repeat : t ≤ k → lives_before r g b ps logs w t k n by ≡ option_map (λ (cs : List Condition). never ∷ []) (outside_kernel r g b ps logs w t n by)
    from_repeat h = rw (le-ltb k t h) (never_then (kernel_at r g b ps logs t) (λ K. excluded r g b ps logs (stage_of g.aim) K w n 1 by))

    pub after_repeat : (cs : List Condition) → t ≤ k → outside_kernel r g b ps logs w t n by ≡ Some cs → lives_before r g b ps logs w t k n by ≡ Some (never ∷ [])
    after_repeat cs h e = from_repeat h ∙ ap (option_map (λ (cs : List Condition). never ∷ [])) e

    pub after_repeat_none : t ≤ k → outside_kernel r g b ps logs w t n by ≡ None → lives_before r g b ps logs w t k n by ≡ None
    after_repeat_none h e = from_repeat h ∙ ap (option_map (λ (cs : List Condition). never ∷ [])) e
