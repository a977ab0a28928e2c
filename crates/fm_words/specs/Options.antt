-- Readings that may give nothing.
use Rattle.std.specs.Prelude.{Bool, if◌then◌else◌, List, [], ◌∷◌, Option, Some, None, option_map}

infixl 10 ◌>>=◌
-- f of what there is
abbrev pub ◌>>=◌ : {A B : Type 0} → Option A → (A → Option B) → Option B
None >>= f = None
(Some x) >>= f = f x

-- x, where the test holds
abbrev pub where_so : {A : Type 0} → Bool → Option A → Option A
where_so b x = if b then x else None

-- all of them, or none
abbrev pub all_of : {A : Type 0} → List (Option A) → Option (List A)
all_of [] = Some []
all_of (x ∷ xs) = x >>= λ a. option_map (λ rest. a ∷ rest) (all_of xs)
