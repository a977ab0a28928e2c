-- Logs of completions. A log lists free steps: inputs and pairs are taken up in any order, reduced by any members whose heads divide,
-- and kept or found zero;
-- a pair may be skipped by the chain criterion (Buchberger 1979; Gebauer and Möller, On an installation of Buchberger's algorithm, 1988).
use Rattle.std.specs.Prelude.{◌≡◌, ◌⊎◌, ℕ, suc, ◌*◌, ◌%◌, ◌<◌, ◌≢◌, List, [], ◌∷◌, ◌++◌, Bool, true, false, Contains}
use Rattle.fm_gfp.specs.Primes.{prime_value}
use Rattle.fm_gfp.specs.declared.prime.Prime.{Prime}
use Rattle.fm_tuple.specs.Tuple.{tuple_difference, tuple_maximum, TupleDivides}
use Rattle.fm_mono.specs.declared.order.Order.{Order}
use Rattle.fm_term.specs.declared.vterm.VTerm.{VTerm}
use Rattle.fm_term.specs.Places.{TermDivides}
use Rattle.fm_term.specs.Falling.{IsFalling}
use Rattle.fm_term.specs.Multiples.{multiple, is_multiple_within, scaled}
use Rattle.fm_term.specs.Meanings.{vector_of}

-- x is number k of a list; numbers count from 1
pub data IsNumber {A : Type 0} : List A → ℕ → A → Type 0 where
  first : {x : A} {xs : List A} → IsNumber (x ∷ xs) 1 x
  next : {x y : A} {xs : List A} {k : ℕ} → IsNumber xs k x → IsNumber (y ∷ xs) (suc k) x

-- what an entry of a log takes up: input k; the S-vector of the members a and b; or nothing, where the pair of a and b is skipped by
-- the member k
pub data Start : Type 0 where
  Input : (k : ℕ) → Start
  Pair : (a b : ℕ) → Start
  Skip : (a b k : ℕ) → Start

-- an entry: what is taken up, the numbers of the members by which it is reduced, and whether the rest is kept
pub record Entry : Type 0 where
  pub start : Start
  pub by : List ℕ
  pub keep : Bool

-- the head of r, if it has one, is divisible by no member's head
abbrev pub IsIrreducible : List (List VTerm) → List VTerm → Type 0
IsIrreducible members [] = Unit {0}
IsIrreducible members (s ∷ r) = (t : VTerm) (ts : List VTerm) → Contains members (t ∷ ts) → ¬ (TermDivides t s)

-- the pair of a and b, in either order, is among those treated
abbrev pub IsTreated : List (ℕ × ℕ) → ℕ → ℕ → Type 0
IsTreated treated a b = Contains treated (a, b) ⊎ Contains treated (b, a)

-- the head f has the component of t and u and divides their least common multiple
abbrev pub DividesLcm : VTerm → VTerm → VTerm → Type 0
DividesLcm f t u = (t.component ≡ u.component) × (f.component ≡ t.component) × TupleDivides f.mono (tuple_maximum t.mono u.mono)

-- all inputs were taken, and all pairs of members with heads in one component were treated
pub record IsComplete (inputs members : List (List VTerm)) (taken : List ℕ) (treated : List (ℕ × ℕ)) : Type 0 where
  pub all_taken : (k : ℕ) (v : List VTerm) → IsNumber inputs k v → Contains taken k
  pub all_treated : (a b : ℕ) (t u : VTerm) (ts us : List VTerm) → a < b → IsNumber members a (t ∷ ts) → IsNumber members b (u ∷ us)
      → t.component ≡ u.component → Contains treated (a, b)

module _ (p : Prime) where
  -- what becomes of a rest: one that is zero is dropped; another, made monic, is the next member
  pub data IsKept (members : List (List VTerm)) : Bool → List VTerm → List (List VTerm) → Type 0 where
    dropped : IsKept members false [] members
    kept : {s : VTerm} {r : List VTerm} (c : ℕ) → (c * s.coeff) % prime_value p ≡ 1
        → IsKept members true (s ∷ r) (members ++ scaled p c (s ∷ r) ∷ [])

-- no bound
abbrev pub anything : List ℕ → Bool
anything a = true

-- Each step of a log may be refused by a bound on exponents: `bound` tells which exponents the terms of a product may have.
module _ (p : Prime) (n m : ℕ) (o : Order) (bound : List ℕ → Bool) where
  -- Reduction of heads: each number in turn is that of a member whose head divides the head of the current vector;
  -- the multiple of the member that cancels this head is taken away
  pub data ReducesBy (members : List (List VTerm)) : List ℕ → List VTerm → List VTerm → Type 0 where
    no_more : {v : List VTerm} → ReducesBy members [] v v
    one_more : {k : ℕ} {by : List ℕ} {s t : VTerm} {vs ts v r : List VTerm} (c : ℕ)
        → IsNumber members k (t ∷ ts) → TermDivides t s → (c * t.coeff) % prime_value p ≡ s.coeff → IsFalling p n m o v
        → is_multiple_within bound (tuple_difference s.mono t.mono) (t ∷ ts) ≡ true
        → vector_of p n m (v ++ multiple p c (tuple_difference s.mono t.mono) (t ∷ ts)) ≡ vector_of p n m (s ∷ vs)
        → ReducesBy members by v r → ReducesBy members (k ∷ by) (s ∷ vs) r

  -- v is the S-vector of two monic vectors with heads t and u in one component: the difference of their multiples
  -- whose heads are the least common multiple of t and u
  pub record IsSVector (t u : VTerm) (ts us v : List VTerm) : Type 0 where
    pub one_component : t.component ≡ u.component
    pub falls : IsFalling p n m o v
    pub first_fits : is_multiple_within bound (tuple_difference (tuple_maximum t.mono u.mono) t.mono) (t ∷ ts) ≡ true
    pub second_fits : is_multiple_within bound (tuple_difference (tuple_maximum t.mono u.mono) u.mono) (u ∷ us) ≡ true
    pub is : vector_of p n m (v ++ multiple p 1 (tuple_difference (tuple_maximum t.mono u.mono) u.mono) (u ∷ us))
        ≡ vector_of p n m (multiple p 1 (tuple_difference (tuple_maximum t.mono u.mono) t.mono) (t ∷ ts))

  -- a log of free steps, with its members, the numbers of the inputs taken and the pairs treated
  pub data FreeRun (inputs : List (List VTerm)) : List Entry → List (List VTerm) → List ℕ → List (ℕ × ℕ) → Type 0 where
    begin : FreeRun inputs [] [] [] []
    take_input : {log : List Entry} {members more : List (List VTerm)} {taken : List ℕ} {treated : List (ℕ × ℕ)} {v r : List VTerm}
        {keep : Bool}
        → FreeRun inputs log members taken treated → (k : ℕ) (by : List ℕ) → ¬ (Contains taken k) → IsNumber inputs k v
        → IsFalling p n m o v
        → ReducesBy members by v r → IsKept p members keep r more
        → FreeRun inputs (log ++ record { start = Input k; by = by; keep = keep } ∷ []) more (k ∷ taken) treated
    take_pair : {log : List Entry} {members more : List (List VTerm)} {taken : List ℕ} {treated : List (ℕ × ℕ)} {t u : VTerm}
        {ts us v r : List VTerm} {keep : Bool}
        → FreeRun inputs log members taken treated → (a b : ℕ) (by : List ℕ) → a < b → ¬ (Contains treated (a, b))
        → IsNumber members a (t ∷ ts) → IsNumber members b (u ∷ us) → IsSVector t u ts us v → ReducesBy members by v r
        → IsKept p members keep r more
        → FreeRun inputs (log ++ record { start = Pair a b; by = by; keep = keep } ∷ []) more taken ((a, b) ∷ treated)
    skip_pair : {log : List Entry} {members : List (List VTerm)} {taken : List ℕ} {treated : List (ℕ × ℕ)} {t u f : VTerm}
        {ts us fs : List VTerm}
        → FreeRun inputs log members taken treated → (a b k : ℕ) → a < b → k ≢ a → k ≢ b → ¬ (Contains treated (a, b))
        → IsNumber members a (t ∷ ts) → IsNumber members b (u ∷ us) → IsNumber members k (f ∷ fs) → DividesLcm f t u
        → IsTreated treated a k → IsTreated treated k b
        → FreeRun inputs (log ++ record { start = Skip a b k; by = []; keep = false } ∷ []) members taken ((a, b) ∷ treated)
