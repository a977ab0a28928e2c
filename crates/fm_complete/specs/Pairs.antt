-- Lists of critical pairs.
use Rattle.std.specs.Prelude.{ℕ, ◌≡◌, List, [], ◌∷◌, length}
use Rattle.fm_complete.specs.declared.critical_pair.CriticalPair.{CriticalPair}

abbrev pub EachPair : (CriticalPair → Type 0) → List CriticalPair → Type 0
EachPair P [] = Unit {0}
EachPair P (q ∷ qs) = P q × EachPair P qs

-- each least common multiple has n exponents
abbrev pub ArePairsOver : ℕ → List CriticalPair → Type 0
ArePairsOver n pending = EachPair (λ p. length p.lcm ≡ n) pending
