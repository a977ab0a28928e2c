-- What holds of a completion under way: monic members, and pending pairs of them.
use Rattle.std.specs.Prelude.{ℕ, ◌≡◌, ◌<◌, ◌≤◌, ◌^◌, List, [], ◌∷◌, Option, Some, None, length}
use Rattle.std.specs.Borrow.{Bor}
use Rattle.fm_poly.specs.declared.ring.Ring.{Ring}
use Rattle.fm_poly.specs.Polys.{PolyValue}
use Rattle.fm_term.specs.declared.vterm.VTerm.{VTerm}
use Rattle.fm_term.specs.Falling.{IsMonic}
use Rattle.fm_vec.specs.Vectors.{VectorValue, HaveSVector}
use Rattle.fm_complete.specs.declared.critical_pair.CriticalPair.{CriticalPair}
use Rattle.fm_complete.specs.declared.head_index.Head.{Head}
use Rattle.fm_complete.specs.Divisions.{AreMembers, terms_of}
use Rattle.fm_complete.specs.Indexed.{IsIndexOf}
use Rattle.fm_complete.specs.Pairs.{EachPair, ArePairsOver}
use Rattle.fm_complete.specs.Pending.{PendingValue}
use Rattle.fm_complete.specs.Spread.{IsFront, tail_columns}
use Rattle.fm_complete.specs.Trails.{member_at}

-- a pair of two of the members, which have an S-vector
pub record IsPairOf (members : List (List VTerm)) (q : CriticalPair) : Type 0 where
  pub earlier_low : 1 ≤ q.earlier
  pub earlier_high : q.earlier ≤ length members
  pub later_low : 1 ≤ q.later
  pub later_high : q.later ≤ length members
  pub heads : HaveSVector (member_at members q.earlier) (member_at members q.later)

abbrev pub ArePairsOf : Ring → List VectorValue → List CriticalPair → Type 0
ArePairsOf r members pending = EachPair (IsPairOf (terms_of members)) pending × ArePairsOver r.vars pending

-- pending pairs of the members, compared in the order of the ring
pub record ArePending (r : Ring) (members : List VectorValue) (pending : PendingValue) : Type 0 where
  pub pairs : ArePairsOf r members pending.pairs
  pub compared : pending.order ≡ r.order

abbrev pub AreMonicMembers : List (List VTerm) → Type 0
AreMonicMembers [] = Unit {0}
AreMonicMembers (g ∷ gs) = IsMonic g × AreMonicMembers gs

pub record AreStanding (r : Ring) (rows : ℕ) (members : List VectorValue) : Type 0 where
  pub vectors : AreMembers r rows members
  pub few : length members < 2 ^ 32
  pub monic : AreMonicMembers (terms_of members)

-- the heads of all members by their components, and the tails of the first ones
pub record AreReady (r : Ring) (rows : ℕ) (members : List VectorValue) (index : List (List Head)) (columns : List (List PolyValue)) : Type 0 where
  pub heads : IsIndexOf r rows (terms_of members) index
  pub tails : IsFront columns (tail_columns r rows (terms_of members))

-- the vectors that are borrowed
abbrev pub values : List (Bor VectorValue) → List VectorValue
values [] = []
values (v ∷ vs) = v.now ∷ values vs

-- vectors of one ring and length
abbrev pub AreOfShape : Ring → ℕ → List VectorValue → Type 0
AreOfShape r rows [] = Unit {0}
AreOfShape r rows (v ∷ vs) = (v.ring ≡ r) × (v.rows ≡ rows) × AreOfShape r rows vs

-- the pairs, where a first one may have been taken out
abbrev pub with_first : Option CriticalPair → List CriticalPair → List CriticalPair
with_first None ps = ps
with_first (Some p) ps = p ∷ ps

-- the pending pairs with p before them
abbrev pub with_pair_first : CriticalPair → PendingValue → PendingValue
with_pair_first p pending = record { order = pending.order; pairs = p ∷ pending.pairs }
