-- Whether a log is whole, by what is kept of it.
use Rattle.std.proofs.Common.{ℕ, suc, ◌≡◌, ◌&&◌, ◌||◌, not, nat_lt, Bool, List, [], ◌∷◌, refl, sym, ap, ap₂, ◌∙◌}
use Rattle.fm_term.specs.declared.vterm.VTerm.{VTerm}
use Rattle.fm_complete.specs.Divisions.{terms_of}
use Rattle.fm_parts.specs.Replays.{Replay, in_one_component, all_taken_from, is_done, is_paired, all_paired_from, is_whole}
use Rattle.fm_replay.specs.Kept.{ReplayValue, Keeps}

module _ (p : ReplayValue) (s : Replay) (kept : Keeps p s) where
  taken_same : (k : ℕ) (vs : List (List VTerm)) → all_taken_from k vs p.taken ≡ all_taken_from k vs s.taken
  taken_same k [] = refl
  taken_same k (v ∷ vs) = ap₂ (λ a b. a && b) (kept.taken k) (taken_same (suc k) vs)

  paired_same : (fs : List (List VTerm)) (g : List VTerm) (b a : ℕ) → is_paired fs p.treated g b a ≡ is_paired fs s.treated g b a
  paired_same [] g b a = refl
  paired_same (f ∷ fs) g b a = ap₂ (λ x y. (not (nat_lt a b && in_one_component f g) || x) && y) (kept.treated a b) (paired_same fs g b (suc a))

  all_paired_same : (b : ℕ) (fs gs : List (List VTerm)) → all_paired_from b fs gs p.treated ≡ all_paired_from b fs gs s.treated
  all_paired_same b fs [] = refl
  all_paired_same b fs (g ∷ gs) = ap₂ (λ x y. x && y) (paired_same fs g b 1) (all_paired_same (suc b) fs gs)

  pub whole_same : (inputs : List (List VTerm)) → (all_taken_from 1 inputs p.taken && all_paired_from 1 (terms_of p.members) (terms_of p.members) p.treated) ≡ is_whole inputs s
  unfolding is_whole
  whole_same inputs =
      ap₂ (λ x y. x && y) (taken_same 1 inputs) (all_paired_same 1 (terms_of p.members) (terms_of p.members) ∙ ap (λ ms. all_paired_from 1 ms ms s.treated) kept.members)
