-- The heads of members by their components.
use Rattle.std.specs.Prelude.{ℕ, zero, suc, ◌==◌, ◌≡◌, if◌then◌else◌, List, [], ◌∷◌, Option, Some, None}
use Rattle.fm_poly.specs.declared.ring.Ring.{Ring}
use Rattle.fm_term.specs.declared.vterm.VTerm.{VTerm}
use Rattle.fm_complete.specs.declared.head_index.Head.{Head}
use Rattle.fm_complete.specs.declared.critical_pair.CriticalPair.{CriticalPair}
use Rattle.fm_complete.specs.Combinations.{AreVectors}
use Rattle.fm_complete.specs.Completions.{lets_skip}
use Rattle.fm_complete.specs.Divisors.{term_divides}

abbrev pub head_in : ℕ → ℕ → List VTerm → List Head → List Head
head_in k number [] later = later
head_in k number (b ∷ bs) later = if b.component == k then record { number = number; term = b } ∷ later else later

-- the heads in component k of the members, which are numbered from the given number
abbrev pub heads_in : ℕ → ℕ → List (List VTerm) → List Head
heads_in k number [] = []
heads_in k number (g ∷ gs) = head_in k number g (heads_in k (suc number) gs)

-- the heads in each of so many components, from component k on
abbrev pub heads_from : ℕ → ℕ → List (List VTerm) → List (List Head)
heads_from zero k members = []
heads_from (suc count) k members = heads_in k 1 members ∷ heads_from count (suc k) members

-- the first head that divides t
abbrev pub first_head : List Head → VTerm → Option Head
first_head [] t = None
first_head (h ∷ hs) t = if term_divides h.term t then Some h else first_head hs t

-- the index of vectors with n components
pub record IsIndexOf (r : Ring) (n : ℕ) (members : List (List VTerm)) (index : List (List Head)) : Type 0 where
  pub vectors : AreVectors r n members
  pub heads : index ≡ heads_from n 1 members

abbrev pub EachHead : (Head → Type 0) → List Head → Type 0
EachHead P [] = Unit {0}
EachHead P (h ∷ hs) = P h × EachHead P hs

-- the number of the first head whose member lets the pair be skipped
abbrev pub first_skipper : List CriticalPair → CriticalPair → List Head → Option ℕ
first_skipper pending p [] = None
first_skipper pending p (h ∷ hs) = if lets_skip pending p h.number (h.term ∷ []) then Some h.number else first_skipper pending p hs
