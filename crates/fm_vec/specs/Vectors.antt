-- The program's vectors: falling lists of terms, each in a component.
use Rattle.std.specs.Prelude.{ℕ, ◌≡◌, List, [], ◌∷◌}
use Rattle.fm_poly.specs.declared.ring.Ring.{Ring}
use Rattle.fm_term.specs.declared.vterm.VTerm.{VTerm}
use Rattle.fm_term.specs.Falling.{IsFalling}

-- what contracts see of a vector: its ring, its number of components, and its terms
pub record VectorValue : Type 0 where
  pub ring : Ring
  pub rows : ℕ
  pub terms : List VTerm

-- the terms of a vector with m components over the ring
abbrev pub IsVector : Ring → ℕ → List VTerm → Type 0
IsVector r m ts = IsFalling r.prime r.vars m r.order ts

-- both are monic, with heads in one component
abbrev pub HaveSVector : List VTerm → List VTerm → Type 0
HaveSVector [] g = ⊥
HaveSVector (t ∷ ts) [] = ⊥
HaveSVector (t ∷ ts) (u ∷ us) = (t.coeff ≡ 1) × (u.coeff ≡ 1) × (t.component ≡ u.component)
