-- Readings that may have a fault: the first fault counts.
use Rattle.std.specs.Prelude.{◌≡◌, ℕ, ◌+◌, if◌then◌else◌, List, [], ◌∷◌, Option, Some, None, Result, Ok, Err}
use Rattle.fm_words.specs.Words.{same_bytes}
use Rattle.fm_words.specs.declared.read_error.ReadError.{ReadError}
use Rattle.fm_words.specs.declared.read_error.ReadError.TheVariants.{Fault, Memory}

infixl 10 ◌>>=◌
-- f of what was read
abbrev pub ◌>>=◌ : {A B F : Type 0} → Result A F → (A → Result B F) → Result B F
(Ok x) >>= f = f x
(Err e) >>= f = Err e

-- a list is gone through from the left, each entry in the light of those before it, up to the first fault
abbrev pub steps : {S X F : Type 0} → (S → X → Result S F) → S → List X → Result S F
steps f s [] = Ok s
steps f s (x ∷ xs) = f s x >>= λ t. steps f t xs

-- what is read, or a fault where it is missing
abbrev pub or_fault : {A F : Type 0} → F → Option A → Result A F
or_fault e None = Err e
or_fault e (Some x) = Ok x

-- the place of a name in a list, which counts from k
abbrev pub place : ℕ → List ℕ → List (List ℕ) → Option ℕ
place k name [] = None
place k name (m ∷ ms) = if same_bytes m name then Some k else place (k + 1) name ms

-- exactly what is said, or exactly the fault
abbrev pub Is : {A B F : Type 0} → (A → B) → Result A F → Result B F → Type 0
Is view (Ok x) said = said ≡ Ok (view x)
Is view (Err k) said = said ≡ Err k

-- the same, unless memory runs out
abbrev pub Gives : {A B F : Type 0} → (A → B) → Result A (ReadError F) → Result B F → Type 0
Gives view (Ok x) said = said ≡ Ok (view x)
Gives view (Err (Fault k)) said = said ≡ Err k
Gives view (Err Memory) said = Unit {0}
