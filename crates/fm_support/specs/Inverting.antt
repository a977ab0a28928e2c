-- Inverting a polynomial: the program's answers, and the part of the plan that begins with a graph of the stable kernel.
use Rattle.std.specs.Prelude.{ℕ, suc, ◌<◌, ◌≡◌, List, [], ◌∷◌, map, option_map}
use Rattle.fm_algebra.specs.Polynomials.{Polynomial, polynomial_power}
use Rattle.fm_algebra.specs.PolynomialMatrices.{matrix_scalar}
use Rattle.fm_graphs.specs.Graphs.{Graph, MatrixOf, inside_run, whole_run}
use Rattle.fm_graphs.specs.Graphs as runs
use Rattle.fm_graphs.specs.Trims.{Preimage, preimage_run}
use Rattle.fm_limit.specs.Facts.{ColumnsInImage}
use Rattle.fm_mat.specs.Matrices.{matrix_meaning}
use Rattle.fm_poly.specs.declared.ring.Ring.{Ring}
use Rattle.fm_run.specs.Runs.{Work, ready, ◌>>=◌}
use Rattle.fm_run.specs.Turns.{Turn, last, again}
use Rattle.fm_run.specs.declared.task.Name.TheVariants as names
use Rattle.fm_run.specs.declared.task.Side.TheVariants.{Alone}
use Rattle.fm_plan.specs.Queries as plans
use Rattle.fm_plan.specs.Queries.{colon_next, colon_settled, coloned, inverted_of}
use Rattle.fm_plan.specs.Tasks.{Plan, task}
use Rattle.fm_syz.specs.GeneratorValues.{PreimageValue, preimage_meaning}
use Rattle.fm_syz.specs.GraphValues.{GraphValue, graph_meaning}
use Rattle.fm_syz.specs.declared.inside.Outside.{Outside}
use Rattle.fm_support.specs.declared.inverting.Inverted.{Inverted}
use Rattle.fm_support.specs.declared.inverting.Inverted.TheVariants.{Power, Never}
use Rattle.fm_support.specs.declared.colons.Colons.{Colons}
use Rattle.fm_support.specs.declared.colons.Coloned.{Coloned}
use Rattle.fm_support.specs.declared.colons.Coloned.TheVariants.{Whole, Stable}
use Rattle.fm_support.specs.declared.colons.ColonTurn.{ColonTurn}
use Rattle.fm_support.specs.declared.colons.ColonTurn.TheVariants.{Last, Again}

abbrev pub outside_value : Outside → runs.Outside
outside_value o = record { column = o.column; by = o.by.items; rest = o.rest.terms }

-- the graph of the last colon, or that of the stable kernel where there is none
abbrev pub newest : GraphValue → List PreimageValue → GraphValue
newest k [] = k
newest k (x ∷ xs) = newest x.generators.graph xs

module _ (r : Ring) where
  abbrev pub preimages_meaning : List PreimageValue → List (Preimage r)
  preimages_meaning xs = map (preimage_meaning r) xs

  abbrev pub inverted_value : Inverted → plans.Inverted r
  inverted_value (Power k w before) = plans.by_power k (matrix_meaning r w) (option_map outside_value before)
  inverted_value (Never colons w proper) = plans.never_inverted (preimages_meaning colons.items) (matrix_meaning r w) (outside_value proper)

  -- f^j annihilates the cokernel of K: the columns of f^j times the unit matrix are in the image of K
  abbrev pub Annihilates : MatrixOf r → Polynomial r.prime r.vars → ℕ → Type 0
  Annihilates K f j = ColumnsInImage r.prime r.vars K (matrix_scalar r.prime r.vars (polynomial_power r.prime r.vars j f) K.rows)

  -- f^k does, and f^(k-1) does not; or no power of f does
  abbrev pub IsLeastPower : MatrixOf r → Polynomial r.prime r.vars → Inverted → Type 0
  IsLeastPower K f (Power k w before) = Annihilates K f k × ((j : ℕ) → suc j ≡ k → ¬ (Annihilates K f j))
  IsLeastPower K f (Never colons w proper) = (j : ℕ) → ¬ (Annihilates K f j)

  -- `colon 0`, `colon 1`, .. and `power`, for a graph of the stable kernel
  unfoldable pub invert_plan : Polynomial r.prime r.vars → Graph r → Plan (plans.Inverted r)
  invert_plan f g = task Alone names.Colon 0 (whole_run r g) >>= λ y. coloned r f g y >>= inverted_of r f g

  -- ---- the colons on the way
  -- `colon k`, after the colons before it
  abbrev pub colon_work : Polynomial r.prime r.vars → plans.Colons r → Work (Turn (plans.Colons r) (plans.Coloned r))
  colon_work f c = preimage_run r (matrix_scalar r.prime r.vars f c.graph.matrix.rows) c.graph.matrix >>= λ x. whole_run r x.graph >>= colon_next r c x

  abbrev pub colons_value : GraphValue → Colons → plans.Colons r
  colons_value k c = record { colons = preimages_meaning c.colons.items; graph = graph_meaning r (newest k c.colons.items); proper = outside_value c.proper }

  -- what comes after the colon x that is not everything
  abbrev pub settle_work : plans.Colons r → Preimage r → runs.Outside → Work (Turn (plans.Colons r) (plans.Coloned r))
  settle_work c x o = inside_run r x.found c.graph >>= λ y. ready (colon_settled r c x o y)

  abbrev pub coloned_value : Coloned → plans.Coloned r
  coloned_value (Whole k) = plans.whole_at k
  coloned_value (Stable colons w proper) = plans.stable_at (preimages_meaning colons.items) (matrix_meaning r w) (outside_value proper)

  abbrev pub turn_value : GraphValue → ColonTurn → Turn (plans.Colons r) (plans.Coloned r)
  turn_value k (Last x) = last (coloned_value x)
  turn_value k (Again c) = again (colons_value k c)

-- each colon is over the ring of the matrix of k, and has as many rows
abbrev pub AreColons : GraphValue → List PreimageValue → Type 0
AreColons k [] = Unit {0}
AreColons k (x ∷ xs) = (x.generators.graph.matrix.ring ≡ k.matrix.ring) × (x.generators.graph.matrix.rows ≡ k.matrix.rows) × AreColons k xs

-- the matrices are of the ring of k, and the colons have as many rows
abbrev pub IsInvertedOver : GraphValue → Inverted → Type 0
IsInvertedOver k (Power e w before) = w.ring ≡ k.matrix.ring
IsInvertedOver k (Never colons w proper) = AreColons k colons.items × (w.ring ≡ k.matrix.ring)

abbrev pub IsColonedOver : GraphValue → Coloned → Type 0
IsColonedOver k (Whole e) = Unit {0}
IsColonedOver k (Stable colons w proper) = AreColons k colons.items × (w.ring ≡ k.matrix.ring)

-- a turn that is not the last has spent a unit, and the colons of each are of one shape
abbrev pub GoesOn : GraphValue → (old new : ℕ) → ColonTurn → Type 0
GoesOn k old new (Last x) = IsColonedOver k x
GoesOn k old new (Again c) = (new < old) × AreColons k c.colons.items
