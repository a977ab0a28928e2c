-- The pending pairs of a completion under way, in the order in which they are taken up.
use Rattle.std.specs.Prelude.{ℕ, ◌==◌, ◌&&◌, ◌≡◌, Bool, false, List, [], ◌∷◌, map, length}
use Rattle.std.specs.List.{list_any}
use Rattle.std.specs.Ordering.{nat_cmp, ordering_then, eq_by_cmp}
use Rattle.std.specs.BTreeMap.{is_at}
use Rattle.std.specs.declared.cmp.Ordering.{Ordering}
use Rattle.fm_mono.specs.declared.order.Order.{Order}
use Rattle.fm_mono.specs.declared.order.Order.TheVariants.{Grevlex, Deglex, Lex}
use Rattle.fm_complete.specs.declared.critical_pair.CriticalPair.{CriticalPair}
use Rattle.fm_complete.specs.declared.pending_pair.PendingPair.{PendingPair}
use Rattle.fm_complete.specs.declared.pending.Pending.TheInside.{Inside}
use Rattle.fm_complete.specs.Completions.{pair_cmp}

-- the pairs, the least first, and the monomial order that compares them
pub record PendingValue : Type 0 where
  pub order : Order
  pub pairs : List CriticalPair

-- a pair of the members with these numbers is there
abbrev pub has_numbers : List CriticalPair → ℕ → ℕ → Bool
has_numbers pairs i j = list_any (λ (p : CriticalPair). p.earlier == i && p.later == j) pairs

-- no two pairs are of the same members
abbrev pub AreDistinct : List CriticalPair → Type 0
AreDistinct [] = Unit {0}
AreDistinct (p ∷ ps) = (has_numbers ps p.earlier p.later ≡ false) × AreDistinct ps

-- ---- the keys
abbrev pub order_number : Order → ℕ
order_number Grevlex = 0
order_number Deglex = 1
order_number Lex = 2

abbrev pub number_of : PendingPair → ℕ
number_of p = order_number p.order

-- by the order and the number of variables, and where these are the same, as pairs are taken up
abbrev pub pending_cmp : PendingPair → PendingPair → Ordering
pending_cmp p q = ordering_then (nat_cmp (number_of p) (number_of q)) (ordering_then (nat_cmp (length p.pair.lcm) (length q.pair.lcm)) (pair_cmp p.order p.pair q.pair))

abbrev pub pending_eq : PendingPair → PendingPair → Bool
pending_eq = eq_by_cmp pending_cmp

abbrev pub pairs_of : List PendingPair → List CriticalPair
pairs_of keys = map (λ (p : PendingPair). p.pair) keys

abbrev pub EachIn : Order → List PendingPair → Type 0
EachIn o [] = Unit {0}
EachIn o (p ∷ ps) = (p.order ≡ o) × EachIn o ps

abbrev pub numbers_cmp : ℕ × ℕ → ℕ × ℕ → Ordering
numbers_cmp x y = ordering_then (nat_cmp x.0 y.0) (nat_cmp x.1 y.1)

-- All pairs are compared in the one order, no two are of the same members, and the numbers of these are kept beside them.
pub record IsKept (p : Inside) : Type 0 where
  pub ordered : EachIn p.order p.pairs.keys
  pub distinct : AreDistinct (pairs_of p.pairs.keys)
  pub numbered : (i j : ℕ) → list_any (is_at (numbers_cmp (i, j))) p.numbers.keys ≡ has_numbers (pairs_of p.pairs.keys) i j
