-- Parts of what a source has left and of what is to be written.
use Rattle.std.specs.Prelude.{◌≡◌, ◌≤◌, ℕ, List, ◌++◌, Option, length}
use Rattle.std.specs.Io.KnownBytes.{Appends, Consumes}

-- known bytes grow by a prefix of bytes
abbrev pub AppendsPrefix : Option (List ℕ) → Option (List ℕ) → List ℕ → Type 0
AppendsPrefix old new bytes = (front : List ℕ) × (back : List ℕ) × (bytes ≡ front ++ back) × Appends old new front

-- known bytes lose some of their front
abbrev pub ConsumesPart : Option (List ℕ) → Option (List ℕ) → Type 0
ConsumesPart old new = (front : List ℕ) × Consumes old new front

-- known bytes lose their first n
abbrev pub ConsumesCount : Option (List ℕ) → Option (List ℕ) → ℕ → Type 0
ConsumesCount old new n = (front : List ℕ) × (length front ≡ n) × Consumes old new front

-- known bytes lose at most n of their front
abbrev pub ConsumesAtMost : Option (List ℕ) → Option (List ℕ) → ℕ → Type 0
ConsumesAtMost old new n = (front : List ℕ) × (length front ≤ n) × Consumes old new front
