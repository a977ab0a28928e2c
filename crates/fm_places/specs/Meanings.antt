-- What the program's aims, goals and places mean.
use Rattle.std.specs.Prelude.{ℕ, ◌≡◌, ◌<◌, true, List, [], ◌∷◌, length, get_or}
use Rattle.fm_poly.specs.Polys.{PolyValue}
use Rattle.fm_poly.specs.declared.ring.Ring.{Ring}
use Rattle.fm_vec.specs.Components.{AreOver}
use Rattle.fm_problem.specs.declared.ideal.Ideal.{Ideal}
use Rattle.fm_problem.specs.declared.problem.Problem.{Problem}
use Rattle.fm_report.specs.Parts.{Part}
use Rattle.fm_parts.specs.Replays.{is_number, are_numbers}
use Rattle.fm_judge.specs.Goals as goals
use Rattle.fm_judge.specs.Places as places
use Rattle.fm_pres.specs.Tables.{part_at}
use Rattle.fm_pres.specs.Blocks.{parts_at, block_of, AreBlockParts}
use Rattle.fm_places.specs.declared.aim.Aim.{Aim}
use Rattle.fm_places.specs.declared.aim.Aim.TheVariants as aims
use Rattle.fm_places.specs.declared.goal.Goal.{Goal}
use Rattle.fm_places.specs.declared.goal.MapSource.{MapSource}
use Rattle.fm_places.specs.declared.place.Place.{Place}
use Rattle.fm_places.specs.declared.place.Place.TheVariants as program

abbrev pub ideal_at : Problem → ℕ → Ideal
ideal_at q k = get_or q.ideals k (record { name = []; generators = [] })

module _ (q : Problem) (ps : List Part) where
  abbrev pub source_of : MapSource → goals.MapSource
  source_of s = record { generators = (ideal_at q s.ideal).generators; block = block_of ps s.block; repeat = s.repeat }

  abbrev pub aim_of : Aim → goals.Aim
  aim_of (aims.Membership f inside) = goals.membership f inside
  aim_of (aims.Resolution ranks) = goals.resolution ranks.items
  aim_of (aims.Ext generators relations) = goals.ext generators relations
  aim_of (aims.Root rank moves) = goals.root rank moves
  aim_of (aims.Vanishing is_zero moves) = goals.vanishing is_zero moves
  aim_of (aims.Dying e z moves) = goals.dying e z.items moves
  aim_of (aims.Living e z) = goals.living e z.items
  aim_of (aims.Inverting f power) = goals.inverting f power
  aim_of (aims.Support ideal) = goals.support ideal.items
  aim_of (aims.Outgoing target is_zero is_one onto) = goals.outgoing (ideal_at q target) is_zero is_one onto
  aim_of (aims.Incoming source is_zero is_one onto) = goals.incoming (source_of source) is_zero is_one onto

  abbrev pub goal_of : Goal → goals.Goal
  goal_of g = record { name = (ideal_at q g.ideal).name; generators = (ideal_at q g.ideal).generators; degree = g.degree; aim = aim_of g.aim }

-- the polynomial that is inverted, and the generators of the support
abbrev pub inverted : Ring → Aim → PolyValue
inverted r (aims.Inverting f power) = f
inverted r aim = record { ring = r; terms = [] }

abbrev pub support_of : Aim → List PolyValue
support_of (aims.Support ideal) = ideal.items
support_of aim = []

-- a place in the certificate for an aim
abbrev pub place_of : Ring → List Part → Aim → Place → places.Place
place_of r ps aim program.Datum = places.datum
place_of r ps aim (program.Differential j) = places.differential j
place_of r ps aim (program.Exactness j) = places.exactness j
place_of r ps aim (program.Lift j) = places.lift j
place_of r ps aim program.Cocycles = places.cocycles
place_of r ps aim program.Relations = places.relations
place_of r ps aim program.Morphism = places.morphism
place_of r ps aim (program.Chain s) = places.chain s
place_of r ps aim (program.Turn s) = places.turn s
place_of r ps aim (program.Whole t) = places.whole t
place_of r ps aim (program.Proper t) = places.proper t
place_of r ps aim (program.Coordinates t) = places.coordinates t
place_of r ps aim (program.Lives w t k) = places.lives (part_at ps w) t k
place_of r ps aim (program.Dies w t m) = places.dies (part_at ps w) t m
place_of r ps aim (program.LivesOn w t) = places.lives_on (part_at ps w) t
place_of r ps aim (program.Power t k) = places.power (inverted r aim) t k
place_of r ps aim (program.Least t k) = places.least (inverted r aim) t k
place_of r ps aim (program.Colon t found) = places.colon (inverted r aim) t (parts_at ps found.items)
place_of r ps aim (program.ProperColon t found) = places.proper_colon t (parts_at ps found.items)
place_of r ps aim (program.Annihilator t) = places.annihilator (support_of aim) t
place_of r ps aim (program.DatumBeyond t) = places.datum_beyond t
place_of r ps aim (program.Lambda t identity) = places.lambda t (parts_at ps identity.items)
place_of r ps aim (program.Phi t identity) = places.phi t (parts_at ps identity.items)
place_of r ps aim (program.Null t phi) = places.null t (part_at ps phi)
place_of r ps aim (program.NonNull t phi) = places.nonnull t (part_at ps phi)
place_of r ps aim (program.Fibre t phi) = places.fibre t (part_at ps phi)
place_of r ps aim (program.One t phi c) = places.one t (part_at ps phi) (part_at ps c)
place_of r ps aim (program.NotOne t phi c) = places.notone t (part_at ps phi) (part_at ps c)
place_of r ps aim (program.Link t phi found) = places.link t (part_at ps phi) (parts_at ps found.items)
place_of r ps aim (program.OpenLink t phi found) = places.open_link t (part_at ps phi) (parts_at ps found.items)
place_of r ps aim (program.Short t phi found) = places.short t (part_at ps phi) (parts_at ps found.items)
place_of r ps aim (program.Onto t phi found) = places.onto t (part_at ps phi) (parts_at ps found.items)
place_of r ps aim (program.NeverOnto t phi found) = places.never_onto t (part_at ps phi) (parts_at ps found.items)
place_of r ps aim program.IdealRow = places.ideal_row
place_of r ps aim (program.Cofactors d) = places.cofactors (part_at ps d)
place_of r ps aim (program.Foreign d) = places.foreign (part_at ps d)
place_of r ps aim program.End = places.end

-- the generators of ideals are of the ring
abbrev pub AreIdealsOver : Ring → List Ideal → Type 0
AreIdealsOver r [] = Unit {0}
AreIdealsOver r (i ∷ is) = AreOver r i.generators × AreIdealsOver r is

-- ---- what is asked of them: the parts and ideals that they name are there, and their polynomials are of the ring

module _ (q : Problem) (ps : List Part) where
  abbrev pub IsAim : Aim → Type 0
  IsAim (aims.Membership f inside) = f.ring ≡ q.ring
  IsAim (aims.Dying e z moves) = AreOver q.ring z.items
  IsAim (aims.Living e z) = AreOver q.ring z.items
  IsAim (aims.Inverting f power) = f.ring ≡ q.ring
  IsAim (aims.Support ideal) = AreOver q.ring ideal.items
  IsAim (aims.Outgoing target is_zero is_one onto) = target < length q.ideals
  IsAim (aims.Incoming source is_zero is_one onto) = (source.ideal < length q.ideals) × AreBlockParts ps source.block
  IsAim aim = Unit {0}

  abbrev pub IsGoal : Goal → Type 0
  IsGoal g = (g.ideal < length q.ideals) × IsAim g.aim × AreOver q.ring (ideal_at q g.ideal).generators

abbrev pub IsPlace : List Part → Place → Type 0
IsPlace ps (program.Lives w t k) = is_number ps w ≡ true
IsPlace ps (program.Dies w t m) = is_number ps w ≡ true
IsPlace ps (program.LivesOn w t) = is_number ps w ≡ true
IsPlace ps (program.Colon t found) = are_numbers ps found.items ≡ true
IsPlace ps (program.ProperColon t found) = are_numbers ps found.items ≡ true
IsPlace ps (program.Lambda t identity) = are_numbers ps identity.items ≡ true
IsPlace ps (program.Phi t identity) = are_numbers ps identity.items ≡ true
IsPlace ps (program.Null t phi) = is_number ps phi ≡ true
IsPlace ps (program.NonNull t phi) = is_number ps phi ≡ true
IsPlace ps (program.Fibre t phi) = is_number ps phi ≡ true
IsPlace ps (program.One t phi c) = (is_number ps phi ≡ true) × (is_number ps c ≡ true)
IsPlace ps (program.NotOne t phi c) = (is_number ps phi ≡ true) × (is_number ps c ≡ true)
IsPlace ps (program.Link t phi found) = (is_number ps phi ≡ true) × (are_numbers ps found.items ≡ true)
IsPlace ps (program.OpenLink t phi found) = (is_number ps phi ≡ true) × (are_numbers ps found.items ≡ true)
IsPlace ps (program.Short t phi found) = (is_number ps phi ≡ true) × (are_numbers ps found.items ≡ true)
IsPlace ps (program.Onto t phi found) = (is_number ps phi ≡ true) × (are_numbers ps found.items ≡ true)
IsPlace ps (program.NeverOnto t phi found) = (is_number ps phi ≡ true) × (are_numbers ps found.items ≡ true)
IsPlace ps (program.Cofactors d) = is_number ps d ≡ true
IsPlace ps (program.Foreign d) = is_number ps d ≡ true
IsPlace ps place = Unit {0}

-- the conditions can be tested, each where those before it hold, and the place after them is one
