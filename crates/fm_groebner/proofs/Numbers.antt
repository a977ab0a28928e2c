-- Elements of lists by their numbers, counted from 1, and membership.
use Rattle.std.proofs.Common.{◌≡◌, ◌⊎◌, inl, inr, ℕ, zero, suc, ◌<◌, ◌≤◌, List, [], ◌∷◌, ◌++◌, map, length, get_or, Contains, refl, ap, subst, arith}
use Rattle.fm_groebner.specs.Logs.{IsNumber, first, next}
use Rattle.fm_groebner.proofs.Setting.{In, here, there}

pub number_positive : {A : Type 0} {xs : List A} {k : ℕ} {x : A} → IsNumber xs k x → 0 < k
number_positive first = omega arith
number_positive (next i) = omega arith

pub number_within : {A : Type 0} {xs : List A} {k : ℕ} {x : A} → IsNumber xs k x → k ≤ length xs
number_within first = omega arith
number_within (next i) = let h = number_within i in omega (arith, h)

no_zero : {A : Type 0} {xs : List A} {x : A} {C : Type 0} → IsNumber xs 0 x → C
no_zero i = let h = number_positive i in absurd (omega (arith, h))

pub number_same : {A : Type 0} {xs : List A} {k : ℕ} {x y : A} → IsNumber xs k x → IsNumber xs k y → x ≡ y
number_same first first = refl
number_same first (next i) = no_zero i
number_same (next i) first = no_zero i
number_same (next i) (next j) = number_same i j

pub number_left : {A : Type 0} {xs : List A} (ys : List A) {k : ℕ} {x : A} → IsNumber xs k x → IsNumber (xs ++ ys) k x
number_left ys first = first
number_left ys (next i) = next (number_left ys i)

pub number_last : {A : Type 0} (xs : List A) (y : A) → IsNumber (xs ++ y ∷ []) (suc (length xs)) y
number_last [] y = first
number_last (x ∷ xs) y = next (number_last xs y)

-- the element of a number among the first ones, or the last element
pub number_cases : {A : Type 0} (xs : List A) (y : A) {k : ℕ} {x : A} → IsNumber (xs ++ y ∷ []) k x → IsNumber xs k x ⊎ ((k ≡ suc (length xs)) × (x ≡ y))
number_cases [] y first = inr (refl, refl)
number_cases [] y (next i) = elim i [ ]
number_cases (z ∷ xs) y first = inl first
number_cases (z ∷ xs) y (next i) = elim (number_cases xs y i) [
  | inl j ↦ inl (next j)
  | inr e ↦ inr (ap suc e.0, e.1)
]

pub in_of_number : {A : Type 0} {xs : List A} {k : ℕ} {x : A} → IsNumber xs k x → In xs x
in_of_number first = here
in_of_number (next i) = there (in_of_number i)

pub number_of_in : {A : Type 0} {xs : List A} {x : A} → In xs x → (k : ℕ) × IsNumber xs k x
number_of_in here = (1, first)
number_of_in (there i) = let r = number_of_in i in (suc r.0, next r.1)

pub in_of_map : {A B : Type 0} (f : A → B) (xs : List A) {y : B} → In (map f xs) y → (x : A) × In xs x × (f x ≡ y)
in_of_map f [] i = elim i [ ]
in_of_map f (x ∷ xs) here = (x, here, refl)
in_of_map f (x ∷ xs) (there i) = let r = in_of_map f xs i in (r.0, there r.1, r.2)

-- ---- std's membership
pub contains_cases : {A : Type 0} (x : A) (xs : List A) (y : A) → Contains (x ∷ xs) y → (x ≡ y) ⊎ Contains xs y
contains_cases x xs y (zero, h, e) = inl e
contains_cases x xs y (suc k, h, e) = let l : k < length xs = omega (arith, h) in inr (k, l, e)

pub contains_here : {A : Type 0} (x : A) (xs : List A) → Contains (x ∷ xs) x
contains_here x xs = (0, omega arith, refl)

pub contains_there : {A : Type 0} (x : A) (xs : List A) (y : A) → Contains xs y → Contains (x ∷ xs) y
contains_there x xs y c = (suc c.0, omega (arith, c.1), c.2)

pub in_of_contains : {A : Type 0} (xs : List A) (x : A) → Contains xs x → In xs x
in_of_contains [] x c = absurd (omega (arith, c.1))
in_of_contains (y ∷ xs) x c = elim (contains_cases y xs x c) [
  | inl e ↦ subst (In (y ∷ xs)) e here
  | inr d ↦ there (in_of_contains xs x d)
]

pub contains_of_in : {A : Type 0} {xs : List A} {x : A} → In xs x → Contains xs x
contains_of_in (here {x = x} {xs = xs}) = contains_here x xs
contains_of_in (there {x = y} {y = x} {xs = xs} i) = contains_there y xs x (contains_of_in i)

-- ---- numbers and places, for programs that hold a list by its places from 0 on
pub number_at : {A : Type 0} (xs : List A) (i : ℕ) (d : A) → i < length xs → IsNumber xs (suc i) (get_or xs i d)
number_at [] i d h = absurd (omega arith)
number_at (x ∷ xs) zero d h = first
number_at (x ∷ xs) (suc i) d h = next (number_at xs i d (omega arith))

pub number_place : {A : Type 0} {xs : List A} {k : ℕ} {x : A} (d : A) → IsNumber xs k x → (i : ℕ) × (k ≡ suc i) × (i < length xs) × (get_or xs i d ≡ x)
number_place d first = (0, refl, omega arith, refl)
number_place d (next i) = let r = number_place d i in (suc r.0, ap suc r.1, omega (arith, r.2), r.3)
