-- Sizes of what a plan finds: numbers of rows and columns, ranks, numbers of members of chains, and stages.
use Rattle.std.specs.Prelude.{ℕ, ◌+◌, ◌≤◌, ◌≡◌, List, [], ◌∷◌, length}
use Rattle.fm_limit.specs.ResolvedIdeal.{rank}
use Rattle.fm_poly.specs.declared.ring.Ring.{Ring}
use Rattle.fm_graphs.specs.Graphs.{MatrixOf}
use Rattle.fm_graphs.specs.Trims.{Preimage}
use Rattle.fm_graphs.specs.Sizes.{IsMatrixAtMost, IsGraphAtMost, IsInsideAtMost, IsPreimageAtMost}
use Rattle.fm_plan.specs.Tasks.{Refusal, wrong_length, not_a_cocycle, not_contained}
use Rattle.fm_plan.specs.Results.{Resolution, Ext, Chain, Killed, killed_at, never_killed, differentials_of, stable_index}
use Rattle.fm_plan.specs.Queries.{BaseOf, Inverted, by_power, never_inverted, Onto, onto_at, never_onto, Found, found_zero, found_class, found_root, found_invert, found_support, found_map, found_member, found_resolution, found_ext, Query, ask_zero, ask_class, ask_root, ask_invert, ask_support, ask_map, ask_member, ask_resolution, ask_ext}

module _ (r : Ring) (most : ℕ) where
  abbrev pub AreMatricesAtMost : List (MatrixOf r) → Type 0
  AreMatricesAtMost [] = Unit {0}
  AreMatricesAtMost (A ∷ As) = IsMatrixAtMost r most A × AreMatricesAtMost As

  abbrev pub ArePreimagesAtMost : List (Preimage r) → Type 0
  ArePreimagesAtMost [] = Unit {0}
  ArePreimagesAtMost (x ∷ xs) = IsPreimageAtMost r most x × ArePreimagesAtMost xs

  -- d_1 and the later differentials, with their graphs, and the ranks
  pub record IsResolutionAtMost (x : Resolution r) : Type 0 where
    pub first : IsGraphAtMost r most x.first
    pub next : ArePreimagesAtMost x.next
    pub count : length (differentials_of r x) ≤ most
    pub ranks : (j : ℕ) → rank r.prime r.vars (differentials_of r x) j ≤ most

  -- the differentials, the lift, Z, N and U
  pub record IsExtAtMost (y : Ext r) : Type 0 where
    pub resolution : IsResolutionAtMost y.resolution
    pub lift : AreMatricesAtMost y.lift
    pub cocycles : IsPreimageAtMost r most y.cocycles
    pub relations : IsPreimageAtMost r most y.relations
    pub u : IsMatrixAtMost r most y.u

  -- K_1, K_2, .. and their number, the stable index, and the last as the stable one times w
  pub record IsChainAtMost (c : Chain r) : Type 0 where
    pub links : ArePreimagesAtMost c.links
    pub count : length c.links ≤ most
    pub index : stable_index r c ≤ most
    pub stable : IsMatrixAtMost r most c.stable.matrix
    pub w : IsMatrixAtMost r most c.w

  pub record IsBaseAtMost (b : BaseOf r) : Type 0 where
    pub ext : IsExtAtMost b.ext
    pub chain : IsChainAtMost b.chain

  -- the number of moves, and how long the solution is
  abbrev pub IsKilledAtMost : Killed r → Type 0
  IsKilledAtMost (killed_at s w before) = (s ≤ most) × (length w ≤ most)
  IsKilledAtMost (never_killed before) = Unit {0}

  -- the power, or the number of colons
  abbrev pub IsInvertedAtMost : Inverted r → Type 0
  IsInvertedAtMost (by_power k w before) = (k ≤ most) × IsMatrixAtMost r most w
  IsInvertedAtMost (never_inverted colons w proper) = ArePreimagesAtMost colons × (length colons ≤ most) × IsMatrixAtMost r most w

  -- the members of the chain and their number; and [N | Phi] and w, which may have twice as many
  abbrev pub IsOntoAtMost : Onto r → Type 0
  IsOntoAtMost (onto_at first links w before) =
      ArePreimagesAtMost links × (length links ≤ most) × IsMatrixAtMost r (most + most) first.matrix × IsMatrixAtMost r (most + most) w
  IsOntoAtMost (never_onto first links w proper) =
      ArePreimagesAtMost links × (length links ≤ most) × IsMatrixAtMost r (most + most) first.matrix × IsMatrixAtMost r (most + most) w

  -- what a report prints of an answer: the numbers of rows and columns of its matrices, how long its chains are, and its stages
  abbrev pub HasSizes : Found r → Type 0
  HasSizes (found_zero i fs b whole) = IsBaseAtMost b × IsInsideAtMost r most whole
  HasSizes (found_class i fs b e z w killed) = IsBaseAtMost b × (length w ≤ most) × IsKilledAtMost killed
  HasSizes (found_root i fs b) = IsBaseAtMost b
  HasSizes (found_invert i fs b f inverted) = IsBaseAtMost b × IsInvertedAtMost inverted
  HasSizes (found_support i fs b a) = IsBaseAtMost b × IsPreimageAtMost r most a
  HasSizes (found_map i fs gs b c lambda phi null fibre one onto) =
      IsBaseAtMost b × IsBaseAtMost c × AreMatricesAtMost lambda × IsMatrixAtMost r most phi × IsInsideAtMost r most null
      × IsPreimageAtMost r most fibre × IsInsideAtMost r most one × IsOntoAtMost onto
  HasSizes (found_member fs f first inside) = IsGraphAtMost r most first × IsInsideAtMost r most inside
  HasSizes (found_resolution i fs x) = IsResolutionAtMost x
  HasSizes (found_ext i fs x) = IsExtAtMost x

module _ (r : Ring) where
  -- what is asked with: the degree through which an ideal is resolved, and its generators
  abbrev pub size_of : Query r → ℕ
  size_of (ask_zero i fs) = i + 2 + length fs
  size_of (ask_class i fs e z) = i + 2 + length fs
  size_of (ask_root i fs) = i + 2 + length fs
  size_of (ask_invert i fs f) = i + 2 + length fs
  size_of (ask_support i fs) = i + 2 + length fs
  size_of (ask_map i fs gs) = i + 2 + (length fs + length gs)
  size_of (ask_member fs f) = 2 + length fs
  size_of (ask_resolution i fs) = i + 2 + length fs
  size_of (ask_ext i fs) = i + 2 + length fs

  -- the refusals of a query, with their numbers: how long the class is that is asked with, and which rank is needed; the first component of
  -- its image that isn't zero; a generator of the target. No other query is refused.
  abbrev pub IsRefusalOf : (most : ℕ) → Query r → Refusal → Type 0
  IsRefusalOf most (ask_class i fs e z) (wrong_length found needed) = (found ≡ length z) × (needed ≤ most)
  IsRefusalOf most (ask_class i fs e z) (not_a_cocycle component) = component ≤ most
  IsRefusalOf most (ask_map i fs gs) (not_contained k) = k ≤ length gs
  IsRefusalOf most q refusal = ⊥
