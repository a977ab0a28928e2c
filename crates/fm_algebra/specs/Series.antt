-- Formal power series over a ring K (Lang, Algebra, chapter IV, section 9), in every number of variables at once: a coefficient for each exponent tuple.
use Rattle.std.specs.Prelude.{ℕ, zero, suc, List, [], ◌∷◌}
use Rattle.fm_algebra.specs.Ring.{Ring}
use Rattle.fm_algebra.specs.Splits.{over_splits}

module _ (K : Ring) where
  abbrev pub Series : Type 0
  Series = List ℕ → K.Carrier

  -- the sum, by coefficients
  abbrev pub plus : Series → Series → Series
  plus f g a = K.add (f a) (g a)

  -- the product: its coefficient at a is the sum of f b * g c over all b and c with b + c = a
  abbrev pub times : Series → Series → Series
  times f g a = over_splits K.add a (λ b c. K.mul (f b) (g c))

  -- the series 1: it has 1 at the tuples of zeros
  unfoldable pub unit : Series
  unit [] = K.one
  unit (zero ∷ a) = unit a
  unit (suc k ∷ a) = K.zero

  -- the ring of power series
  abbrev pub series : Ring
  series = record {
    Carrier = Series;
    zero = λ a. K.zero;
    one = unit;
    add = plus;
    mul = times;
    neg = λ f a. K.neg (f a);
  }
