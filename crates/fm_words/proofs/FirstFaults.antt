-- What follows from a reading without fault.
use Rattle.std.proofs.Common.{◌≡◌, Bool, true, false, if◌then◌else◌, List, [], ◌∷◌, Result, Ok, Err, refl, subst}
use Rattle.fm_words.specs.Steps.{◌>>=◌, steps}

pub no_fault : {A F : Type 0} (k : F) (x : A) → Err k ≡ Ok x → ⊥
no_fault k x e = cc

pub same_ok : {A F : Type 0} {x y : A} → ◌≡◌ {A = Result A F} (Ok x) (Ok y) → x ≡ y
same_ok e = cc

-- where f of what is read is read without fault, so is the first
pub first_read : {A B F : Type 0} (r : Result A F) (f : A → Result B F) (y : B) → r >>= f ≡ Ok y → (x : A) × (r ≡ Ok x) × (f x ≡ Ok y)
first_read (Ok x) f y e = (x, refl, e)
first_read (Err k) f y e = absurd (no_fault k y e)

-- what each step keeps is kept by all of them
pub steps_keep : {S X F : Type 0} (f : S → X → Result S F) (P : S → Type 0) → ((s : S) (x : X) (t : S) → P s → f s x ≡ Ok t → P t)
    → (s : S) (xs : List X) (t : S) → P s → steps f s xs ≡ Ok t → P t
steps_keep f P h s [] t p e = subst P (same_ok e) p
steps_keep f P h s (x ∷ xs) t p e = let r = first_read (f s x) (λ u. steps f u xs) t e in steps_keep f P h r.0 xs t (h s x r.0 p r.1) r.2

-- a test that was passed, or a fault
pub passed : {A F : Type 0} (b : Bool) (k : F) (r : Result A F) (x : A) → (if b then r else Err k) ≡ Ok x → (b ≡ true) × (r ≡ Ok x)
passed true k r x e = (refl, e)
passed false k r x e = absurd (no_fault k x e)

pub not_failed : {A F : Type 0} (b : Bool) (k : F) (r : Result A F) (x : A) → (if b then Err k else r) ≡ Ok x → (b ≡ false) × (r ≡ Ok x)
not_failed true k r x e = absurd (no_fault k x e)
not_failed false k r x e = (refl, e)
