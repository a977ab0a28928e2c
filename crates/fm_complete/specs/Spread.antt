-- A long vector as buckets, one for each component, and the members without their heads as columns.
use Rattle.std.specs.Prelude.{ℕ, suc, ◌≡◌, true, List, [], ◌∷◌, ◌++◌}
use Rattle.fm_poly.specs.declared.ring.Ring.{Ring}
use Rattle.fm_poly.specs.declared.term.Term.{Term}
use Rattle.fm_poly.specs.Polys.{PolyValue}
use Rattle.fm_poly.specs.Steps.{row_fits}
use Rattle.fm_bucket.specs.Levels.{levels_sum}
use Rattle.fm_bucket.specs.Values.{BucketValue}
use Rattle.fm_term.specs.declared.vterm.VTerm.{VTerm}
use Rattle.fm_vec.specs.Components.{component_meaning, column_from}

-- the buckets hold the components k, k + 1, .. of v
abbrev pub AreParts : Ring → ℕ → List BucketValue → List VTerm → Type 0
AreParts r k [] v = Unit {0}
AreParts r k (b ∷ bs) v = (b.ring ≡ r) × (levels_sum r b.lists ≡ component_meaning r k v) × AreParts r (suc k) bs v

-- each bucket is of the ring r
abbrev pub AreOf : Ring → List BucketValue → Type 0
AreOf r [] = Unit {0}
AreOf r (b ∷ bs) = (b.ring ≡ r) × AreOf r bs

-- t times no term of the polynomials passes the bound
abbrev pub AllFit : Term → List PolyValue → Type 0
AllFit t [] = Unit {0}
AllFit t (f ∷ fs) = (row_fits t f.terms ≡ true) × AllFit t fs

-- the components of a vector with n components without its head
abbrev pub tail_column : Ring → ℕ → List VTerm → List PolyValue
tail_column r n [] = []
tail_column r n (t ∷ ts) = column_from r n 1 ts

abbrev pub tail_columns : Ring → ℕ → List (List VTerm) → List (List PolyValue)
tail_columns r n [] = []
tail_columns r n (g ∷ gs) = tail_column r n g ∷ tail_columns r n gs

-- xs is a front of ys
abbrev pub IsFront : List (List PolyValue) → List (List PolyValue) → Type 0
IsFront xs ys = (later : List (List PolyValue)) × (ys ≡ xs ++ later)
