-- Vectors within the bound on exponents.
use Rattle.std.specs.Prelude.{◌≡◌, true, List, [], ◌∷◌}
use Rattle.fm_mono.specs.Bounded.{is_bounded}
use Rattle.fm_term.specs.declared.vterm.VTerm.{VTerm}

-- every exponent of a vector is within the bound
abbrev pub AllBounded : List VTerm → Type 0
AllBounded [] = Unit {0}
AllBounded (t ∷ ts) = (is_bounded t.mono ≡ true) × AllBounded ts

-- so is every exponent of each vector
abbrev pub AreBounded : List (List VTerm) → Type 0
AreBounded [] = Unit {0}
AreBounded (v ∷ vs) = AllBounded v × AreBounded vs
