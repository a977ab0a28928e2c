-- What follows where something is there.
use Rattle.std.proofs.Common.{◌≡◌, ℕ, suc, ◌-◌, ◌<◌, Bool, true, false, nat_eq, if◌then◌else◌, List, [], ◌∷◌, ◌++◌, length, Option, Some, None, option_map, refl, sym, subst, arith}
use Rattle.std.proofs.lemmas.Bool.{eqb-true}
use Rattle.fm_words.specs.Options.{◌>>=◌, where_so}
use Rattle.fm_report.specs.Sheets.{numbered}

pub none_some : {A : Type 0} {x : A} → None ≡ Some x → ⊥
none_some e = cc

pub same_some : {A : Type 0} {x y : A} → ◌≡◌ {A = Option A} (Some x) (Some y) → x ≡ y
same_some e = cc

pub followed : {A B : Type 0} (x : Option A) (f : A → Option B) (y : B) → (x >>= f) ≡ Some y → (a : A) × (x ≡ Some a) × (f a ≡ Some y)
followed None f y e = absurd (none_some e)
followed (Some a) f y e = (a, refl, e)

pub mapped : {A B : Type 0} (f : A → B) (x : Option A) (y : B) → option_map f x ≡ Some y → (a : A) × (x ≡ Some a) × (f a ≡ y)
mapped f None y e = absurd (none_some e)
mapped f (Some a) y e = (a, refl, same_some e)

pub where_true : {A : Type 0} (b : Bool) (x : Option A) (y : A) → where_so b x ≡ Some y → (b ≡ true) × (x ≡ Some y)
where_true true x y e = (refl, e)
where_true false x y e = absurd (none_some e)

-- what has a number in a list with one element more
pub last_number : {A : Type 0} (xs : List A) (y x : A) (k : ℕ) → k ≡ suc (length xs) → numbered (xs ++ y ∷ []) k ≡ Some x → y ≡ x
last_number [] y x k n e = subst (λ j. (if nat_eq j 1 then Some y else None) ≡ Some x → y ≡ x) (sym n) (λ h. same_some h) e
last_number {A} (z ∷ xs) y x k n e = go (nat_eq k 1) refl e (last_number xs y x (k - 1) (omega (arith, n)))
  where
    go : (b : Bool) → nat_eq k 1 ≡ b → (if b then Some z else numbered (xs ++ y ∷ []) (k - 1)) ≡ Some x → (numbered (xs ++ y ∷ []) (k - 1) ≡ Some x → y ≡ x) → y ≡ x
    go true t h later = let o = eqb-true k 1 t in absurd (omega (arith, o, n))
    go false t h later = later h

pub later_number : {A : Type 0} (xs : List A) (y x : A) (j : ℕ) → numbered (y ∷ xs) (suc (suc j)) ≡ Some x → numbered xs (suc j) ≡ Some x
later_number xs y x j e = go (nat_eq (suc (suc j)) 1) refl e
  where
    go : (b : Bool) → nat_eq (suc (suc j)) 1 ≡ b → (if b then Some y else numbered xs (suc (suc j) - 1)) ≡ Some x → numbered xs (suc j) ≡ Some x
    go true t h = let o = eqb-true (suc (suc j)) 1 t in absurd (omega (arith, o))
    go false t h = let one : suc (suc j) - 1 ≡ suc j = omega arith in subst (λ k. numbered xs k ≡ Some x) one h

-- and what had a number before has it still
pub earlier_number : {A : Type 0} (xs : List A) (y x : A) (k : ℕ) → k < suc (length xs) → numbered (xs ++ y ∷ []) k ≡ Some x → numbered xs k ≡ Some x
earlier_number [] y x k l e = go (nat_eq k 1) refl e
  where
    go : (b : Bool) → nat_eq k 1 ≡ b → (if b then Some y else None) ≡ Some x → None ≡ Some x
    go true t h = let o = eqb-true k 1 t in absurd (omega (arith, o, l))
    go false t h = h
earlier_number {A} (z ∷ xs) y x k l e = go (nat_eq k 1) refl e (λ t. earlier_number xs y x (k - 1) t)
  where
    go : (b : Bool) → nat_eq k 1 ≡ b → (if b then Some z else numbered (xs ++ y ∷ []) (k - 1)) ≡ Some x → (k - 1 < suc (length xs) → numbered (xs ++ y ∷ []) (k - 1) ≡ Some x → numbered xs (k - 1) ≡ Some x)
        → (if b then Some z else numbered xs (k - 1)) ≡ Some x
    go true t h later = h
    go false t h later = later (omega (arith, l)) h
