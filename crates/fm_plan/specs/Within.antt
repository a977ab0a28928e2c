-- What a plan finds, within the bound on exponents.
use Rattle.std.specs.Prelude.{◌≡◌, true, List, [], ◌∷◌}
use Rattle.fm_limit.specs.Facts.{first_entries}
use Rattle.fm_poly.specs.declared.ring.Ring.{Ring}
use Rattle.fm_graphs.specs.Graphs.{MatrixOf}
use Rattle.fm_graphs.specs.Trims.{Preimage}
use Rattle.fm_graphs.specs.Within.{is_within, are_within, IsMatrixWithin, IsGraphWithin, IsInsideWithin, IsPreimageWithin}
use Rattle.fm_plan.specs.Results.{Resolution, Ext, Chain, Killed, killed_at, never_killed}
use Rattle.fm_plan.specs.Queries.{BaseOf, Inverted, by_power, never_inverted, Onto, onto_at, never_onto, Found, found_zero, found_class, found_root, found_invert, found_support, found_map, found_member, found_resolution, found_ext, Query, ask_zero, ask_class, ask_root, ask_invert, ask_support, ask_map, ask_member, ask_resolution, ask_ext}

module _ (r : Ring) where
  abbrev pub AreMatricesWithin : List (MatrixOf r) → Type 0
  AreMatricesWithin [] = Unit {0}
  AreMatricesWithin (A ∷ As) = IsMatrixWithin r A × AreMatricesWithin As

  abbrev pub ArePreimagesWithin : List (Preimage r) → Type 0
  ArePreimagesWithin [] = Unit {0}
  ArePreimagesWithin (x ∷ xs) = IsPreimageWithin r x × ArePreimagesWithin xs

  -- the differentials, with their graphs
  pub record IsResolutionWithin (x : Resolution r) : Type 0 where
    pub first : IsGraphWithin r x.first
    pub next : ArePreimagesWithin x.next

  -- the differentials, the lift, Z, N and U
  pub record IsExtWithin (y : Ext r) : Type 0 where
    pub resolution : IsResolutionWithin y.resolution
    pub lift : AreMatricesWithin y.lift
    pub cocycles : IsPreimageWithin r y.cocycles
    pub relations : IsPreimageWithin r y.relations
    pub u : IsMatrixWithin r y.u

  -- K_1, K_2, .. and the last as the stable one times w
  pub record IsChainWithin (c : Chain r) : Type 0 where
    pub links : ArePreimagesWithin c.links
    pub stable : IsGraphWithin r c.stable
    pub w : IsMatrixWithin r c.w

  pub record IsBaseWithin (b : BaseOf r) : Type 0 where
    pub ext : IsExtWithin b.ext
    pub chain : IsChainWithin b.chain

  abbrev pub IsKilledWithin : Killed r → Type 0
  IsKilledWithin (killed_at s w before) = are_within r.prime r.vars w ≡ true
  IsKilledWithin (never_killed before) = Unit {0}

  abbrev pub IsInvertedWithin : Inverted r → Type 0
  IsInvertedWithin (by_power k w before) = IsMatrixWithin r w
  IsInvertedWithin (never_inverted colons w proper) = ArePreimagesWithin colons × IsMatrixWithin r w

  abbrev pub IsOntoWithin : Onto r → Type 0
  IsOntoWithin (onto_at first links w before) = IsGraphWithin r first × ArePreimagesWithin links × IsMatrixWithin r w
  IsOntoWithin (never_onto first links w proper) = IsGraphWithin r first × ArePreimagesWithin links × IsMatrixWithin r w

  -- every matrix of an answer, every vector of solutions, and the entries of an annihilator
  abbrev pub IsFoundWithin : Found r → Type 0
  IsFoundWithin (found_zero i fs b whole) = IsBaseWithin b × IsInsideWithin r whole
  IsFoundWithin (found_class i fs b e z w killed) = IsBaseWithin b × (are_within r.prime r.vars w ≡ true) × IsKilledWithin killed
  IsFoundWithin (found_root i fs b) = IsBaseWithin b
  IsFoundWithin (found_invert i fs b f inverted) = IsBaseWithin b × IsInvertedWithin inverted
  IsFoundWithin (found_support i fs b a) =
      IsBaseWithin b × IsPreimageWithin r a × (are_within r.prime r.vars (first_entries r.prime r.vars a.found) ≡ true)
  IsFoundWithin (found_map i fs gs b c lambda phi null fibre one onto) =
      IsBaseWithin b × IsBaseWithin c × AreMatricesWithin lambda × IsMatrixWithin r phi × IsInsideWithin r null
      × IsPreimageWithin r fibre × IsInsideWithin r one × IsOntoWithin onto
  IsFoundWithin (found_member fs f first inside) = IsGraphWithin r first × IsInsideWithin r inside
  IsFoundWithin (found_resolution i fs x) = IsResolutionWithin x
  IsFoundWithin (found_ext i fs x) = IsExtWithin x

  -- what is asked with: the generators, and the class or the polynomial
  abbrev pub IsQueryWithin : Query r → Type 0
  IsQueryWithin (ask_zero i fs) = are_within r.prime r.vars fs ≡ true
  IsQueryWithin (ask_class i fs e z) = (are_within r.prime r.vars fs ≡ true) × (are_within r.prime r.vars z ≡ true)
  IsQueryWithin (ask_root i fs) = are_within r.prime r.vars fs ≡ true
  IsQueryWithin (ask_invert i fs f) = (are_within r.prime r.vars fs ≡ true) × (is_within r.prime r.vars f ≡ true)
  IsQueryWithin (ask_support i fs) = are_within r.prime r.vars fs ≡ true
  IsQueryWithin (ask_map i fs gs) = (are_within r.prime r.vars fs ≡ true) × (are_within r.prime r.vars gs ≡ true)
  IsQueryWithin (ask_member fs f) = (are_within r.prime r.vars fs ≡ true) × (is_within r.prime r.vars f ≡ true)
  IsQueryWithin (ask_resolution i fs) = are_within r.prime r.vars fs ≡ true
  IsQueryWithin (ask_ext i fs) = are_within r.prime r.vars fs ≡ true
