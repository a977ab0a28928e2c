-- The setting of the proofs: a ring of coefficients, and places (module monomials) on which monomials act.
-- Vectors are functions from places to coefficients.
use Rattle.std.proofs.Common.{◌≡◌, ◌⊎◌, List, [], ◌∷◌, ◌++◌, map, Option, Some, None}
use mathlib.Core.WellFounded.{Acc}
use Rattle.fm_algebra.specs.Ring.{Ring, IsRing}

-- a is below b, equal to it, or above it
pub data Trichotomy {A : Type 0} (Less : A → A → Type 0) (a b : A) : Type 0 where
  below : Less a b → Trichotomy Less a b
  same : a ≡ b → Trichotomy Less a b
  above : Less b a → Trichotomy Less a b

-- an action of monomials on places that is free, with a well-founded total order that it respects
pub record Setting : Type 1 where
  pub ring : Ring
  pub laws : IsRing ring
  pub is_zero : (c : ring.Carrier) → Dec (c ≡ ring.zero)
  pub Place : Type 0
  pub Monomial : Type 0
  pub one : Monomial
  pub ◌·◌ : Monomial → Monomial → Monomial
  pub ◌•◌ : Monomial → Place → Place
  pub quotient : Monomial → Place → Option Place
  pub Less : Place → Place → Type 0
  infixl 70 ◌·◌
  infixr 65 ◌•◌
  pub one_at : (x : Place) → one • x ≡ x
  pub at_at : (m n : Monomial) (x : Place) → (m · n) • x ≡ m • (n • x)
  pub free : (m n : Monomial) (x : Place) → m • x ≡ n • x → m ≡ n
  pub quotient_at : (m : Monomial) (x : Place) → quotient m (m • x) ≡ Some x
  pub quotient_is : (m : Monomial) (b x : Place) → quotient m b ≡ Some x → m • x ≡ b
  pub compared : (a b : Place) → Trichotomy Less a b
  pub less_trans : {a b c : Place} → Less a b → Less b c → Less a c
  pub less_at : (m : Monomial) {a b : Place} → Less a b → Less (m • a) (m • b)
  pub founded : (a : Place) → Acc Less a

-- an element of a list
pub data In {A : Type 0} : List A → A → Type 0 where
  here : {x : A} {xs : List A} → In (x ∷ xs) x
  there : {x y : A} {xs : List A} → In xs y → In (x ∷ xs) y

pub in_left : {A : Type 0} (xs ys : List A) {x : A} → In xs x → In (xs ++ ys) x
in_left [] ys i = elim i [ ]
in_left (x ∷ xs) ys here = here
in_left (x ∷ xs) ys (there i) = there (in_left xs ys i)

pub in_right : {A : Type 0} (xs ys : List A) {y : A} → In ys y → In (xs ++ ys) y
in_right [] ys i = i
in_right (x ∷ xs) ys i = there (in_right xs ys i)

pub in_map : {A B : Type 0} (f : A → B) {xs : List A} {x : A} → In xs x → In (map f xs) (f x)
in_map f here = here
in_map f (there i) = there (in_map f i)

module _ (S : Setting) where
  open S use {Place, Monomial, ◌·◌, ◌•◌, Less, quotient}
  open S.ring use {Carrier, zero as 𝟘, one as 𝟙, add as ◌⊕◌, mul as ◌⊗◌, neg}

  infixl 60 ◌⊕◌
  infixl 70 ◌⊗◌
  infixl 70 ◌·◌
  infixr 65 ◌•◌
  abbrev pub Vect : Type 0
  Vect = Place → Carrier

  -- the linear span of a set of vectors
  pub data Lin (A : Vect → Type 0) : Vect → Type 0 where
    lin_zero : {v : Vect} → ((b : Place) → v b ≡ 𝟘) → Lin A v
    lin_gen : {v : Vect} → A v → Lin A v
    lin_comb : {u w v : Vect} (c : Carrier) → Lin A u → Lin A w → ((b : Place) → v b ≡ c ⊗ u b ⊕ w b) → Lin A v

  -- the value at a quotient, zero where there is none
  abbrev pub at_quotient : Vect → Option Place → Carrier
  at_quotient v (Some x) = v x
  at_quotient v None = 𝟘

  -- the multiple of a vector by a monomial
  unfoldable pub shift : Monomial → Vect → Vect
  shift m v b = at_quotient v (quotient m b)

  -- a set of vectors with their heads
  abbrev pub Family : Type 1
  Family = Vect → Place → Type 0

  -- the multiples of members whose heads are in P
  pub record Multiple (G : Family) (P : Place → Type 0) (v : Vect) : Type 0 where
    pub by : Monomial
    pub member : Vect
    pub at : Place
    pub in_G : G member at
    pub in_P : P (by • at)
    pub is : (b : Place) → v b ≡ shift by member b

  -- the sums of multiples of members whose heads are in P
  abbrev pub Representation : Family → (Place → Type 0) → Vect → Type 0
  Representation G P v = Lin (Multiple G P) v

  -- a standard representation with heads below a
  abbrev pub Low : Family → Place → Vect → Type 0
  Low G a v = Representation G (λ b. Less b a) v

  abbrev pub Anywhere : Place → Type 0
  Anywhere b = Unit {0}

  -- the multiples of the vectors of a set, and the submodule that the set spans
  pub record MultipleOf (A : Vect → Type 0) (v : Vect) : Type 0 where
    pub by : Monomial
    pub member : Vect
    pub in_A : A member
    pub is : (b : Place) → v b ≡ shift by member b

  abbrev pub Span : (Vect → Type 0) → Vect → Type 0
  Span A v = Lin (MultipleOf A) v

  -- a is the head of v
  abbrev pub IsHead : Vect → Place → Type 0
  IsHead v a = ¬ (v a ≡ 𝟘) × ((b : Place) → Less a b → v b ≡ 𝟘)

  abbrev pub IsNil : Vect → Type 0
  IsNil v = (b : Place) → v b ≡ 𝟘

  -- each member is monic at its head
  abbrev pub IsMonic : Family → Type 0
  IsMonic G = (g : Vect) (h : Place) → G g h → (g h ≡ 𝟙) × ((b : Place) → Less h b → g b ≡ 𝟘)

  -- some member's head divides a
  pub record Divides (G : Family) (a : Place) : Type 0 where
    pub by : Monomial
    pub member : Vect
    pub at : Place
    pub in_G : G member at
    pub is : by • at ≡ a

  -- the family is a Gröbner basis of the submodule that A spans
  pub record IsGroebner (G : Family) (A : Vect → Type 0) : Type 0 where
    pub members : (g : Vect) (h : Place) → G g h → Span A g
    pub heads : (v : Vect) (a : Place) → Span A v → IsHead v a → Divides G a

  -- a vector is reduced by members, each at a place where it isn't zero
  pub data Reduces (G : Family) : Vect → Vect → Type 0 where
    done : {v r : Vect} → ((b : Place) → v b ≡ r b) → Reduces G v r
    step : {v v' r : Vect} (c : Carrier) (m : Monomial) (g : Vect) (h : Place) → G g h → ¬ (v (m • h) ≡ 𝟘)
        → ((b : Place) → v' b ≡ neg c ⊗ shift m g b ⊕ v b) → Reduces G v' r → Reduces G v r

  -- s and t are what the heads x and y are multiplied by in their least common multiple
  pub record IsLcm (x y : Place) (s t : Monomial) : Type 0 where
    pub meets : s • x ≡ t • y
    pub least : (m n : Monomial) → m • x ≡ n • y → (u : Monomial) × (m ≡ u · s) × (n ≡ u · t)

  -- the difference of two multiples of members, with one head, is a sum of multiples with smaller heads
  abbrev pub Good : Family → Vect → Place → Vect → Place → Type 0
  Good G g h g' h' = (m n : Monomial) → m • h ≡ n • h' → Low G (m • h) (λ b. neg 𝟙 ⊗ shift n g' b ⊕ shift m g b)

  -- v is zero outside a list of places
  abbrev pub IsFinite : Vect → Type 0
  IsFinite v = (ps : List Place) × ((b : Place) → (v b ≡ 𝟘) ⊎ In ps b)
