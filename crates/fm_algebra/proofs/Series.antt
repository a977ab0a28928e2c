-- Power series are a commutative ring
use Rattle.std.proofs.Common.{◌≡◌, ℕ, List, [], ◌∷◌, sym, ◌∙◌}
use mathlib.Core.Path.{fun_ext}
use mathlib.Core.HLevel.{Π_set}
use Rattle.fm_algebra.specs.Ring.{Ring, IsRing}
use Rattle.fm_algebra.specs.Splits.{over_splits}
use Rattle.fm_algebra.specs.Series.{Series, series, times, unit}
use Rattle.fm_algebra.proofs.Algebra.{add_zero, zero_mul}
use Rattle.fm_algebra.proofs.Sums.{pairs_first, splits_same, splits_zero, splits_add, splits_mul, splits_turned, splits_assoc}

module _ {K : Ring} (L : IsRing K) where
  open K use {Carrier, zero as 𝟘, one as 𝟙, add as ◌⊕◌, mul as ◌⊗◌, neg}
  open L use {is_set, add_assoc, add_comm, zero_add, neg_add, mul_assoc, mul_comm, one_mul, mul_add}

  infixl 60 ◌⊕◌
  infixl 70 ◌⊗◌
  pub unit_times : (a : List ℕ) (g : Series K) → times K (unit K) g a ≡ g a
  unfolding over_splits unit
  unit_times [] g = one_mul (g [])
  unit_times (k ∷ a) g =
      pairs_first ◌⊕◌ 𝟘 zero_add (add_zero L) k _ (λ i j. splits_same ◌⊕◌ a (λ b c. zero_mul L (g (j ∷ c))) ∙ splits_zero L a)
      ∙ unit_times a (λ c. g (k ∷ c))

  times_assoc : (f g h : Series K) (a : List ℕ) → times K (times K f g) h a ≡ times K f (times K g h) a
  times_assoc f g h a =
      splits_same ◌⊕◌ a (λ n m. mul_comm _ _ ∙ splits_mul L n (h m) _ ∙ splits_same ◌⊕◌ n (λ b c. mul_comm _ _ ∙ mul_assoc (f b) (g c) (h m)))
      ∙ splits_assoc L a (λ b c m. f b ⊗ (g c ⊗ h m))
      ∙ splits_same ◌⊕◌ a (λ b n. sym (splits_mul L n (f b) _))

  pub series_laws : IsRing (series K)
  series_laws = record {
    is_set = Π_set (λ a. is_set);
    add_assoc = λ f g h. fun_ext (λ a. add_assoc (f a) (g a) (h a));
    add_comm = λ f g. fun_ext (λ a. add_comm (f a) (g a));
    zero_add = λ f. fun_ext (λ a. zero_add (f a));
    neg_add = λ f. fun_ext (λ a. neg_add (f a));
    mul_assoc = λ f g h. fun_ext (times_assoc f g h);
    mul_comm = λ f g. fun_ext (λ a. splits_turned L a (λ b c. f b ⊗ g c) ∙ splits_same ◌⊕◌ a (λ b c. mul_comm (f c) (g b)));
    one_mul = λ f. fun_ext (λ a. unit_times a f);
    mul_add = λ f g h. fun_ext (λ a. splits_same ◌⊕◌ a (λ b c. mul_add (f b) (g c) (h c)) ∙ splits_add L a (λ b c. f b ⊗ g c) (λ b c. f b ⊗ h c));
  }
