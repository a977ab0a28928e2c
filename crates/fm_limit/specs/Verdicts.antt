-- Verdicts, and when they hold.
use Rattle.std.specs.Prelude.{ℕ, ◌+◌, ◌≤◌, ◌≡◌, ◌↔◌, Bool, IsTrue, List, length, Option, Some, None}
use Rattle.fm_algebra.specs.Matrix.{listed}
use Rattle.fm_gfp.specs.declared.prime.Prime.{Prime}
use Rattle.fm_algebra.specs.Polynomials.{Polynomial, polynomial_power}
use Rattle.fm_algebra.specs.PolynomialMatrices.{PolynomialMatrix}
use Rattle.fm_limit.specs.ResolvedIdeal.{ResolvedIdeal, rank, InIdeal, IsResolutionOf, IsResolved, IsLiftOfIdentityOf}
use Rattle.fm_limit.specs.Classes.{IsClass, IsCoboundaryAfter, IsZeroClass, IsZeroLimit, VanishesAfterInverting, AnnihilatesClasses, IsEnoughMoves, IsRootOf, IsSupportIdealOf, IsMapOfClasses, IsZeroMap, IsOneToOneMap, IsOntoMap, IsOntoAfter}
use Rattle.fm_limit.specs.Facts.{PresentsExt}

-- m is the least number for which P holds
abbrev pub IsLeast : (ℕ → Type 0) → ℕ → Type 0
IsLeast P m = P m × ((k : ℕ) → P k → m ≤ k)

-- An answer, with what it speaks of. The first six speak of the limit, the last three are plain.
pub data Verdict (p : Prime) (n : ℕ) : Type 0 where
  -- in degree i the limit of I is zero, yes or no, and t moves are what it takes
  zero_limit : (i : ℕ) (I : ResolvedIdeal p n) (answer : Bool) (t : ℕ) → Verdict p n
  -- the class (e, z): a coboundary from some stage on, or never
  zero_class : (i : ℕ) (I : ResolvedIdeal p n) (e : ℕ) (z : List (Polynomial p n)) (stage : Option ℕ) → Verdict p n
  -- inverting f: f^k annihilates, or no power does
  inverting : (i : ℕ) (I : ResolvedIdeal p n) (f : Polynomial p n) (power : Option ℕ) → Verdict p n
  -- the support ideal
  support : (i : ℕ) (I : ResolvedIdeal p n) (ideal : List (Polynomial p n)) → Verdict p n
  -- a root of the given rank, and t moves are what it takes
  root : (i : ℕ) (I : ResolvedIdeal p n) (Z K U : PolynomialMatrix p n) (g t : ℕ) → Verdict p n
  -- the map from the limit of the source to that of the target: zero, one to one, onto (with the number of moves that it takes)
  induced_map : (i : ℕ) (source target : ResolvedIdeal p n) (ls : List (PolynomialMatrix p n)) (is_zero is_one : Bool)
      (onto : Option ℕ) → Verdict p n
  -- f lies in the ideal, yes or no
  member : (fs : List (Polynomial p n)) (f : Polynomial p n) (answer : Bool) → Verdict p n
  -- a resolution with its ranks
  resolution : (fs : List (Polynomial p n)) (i : ℕ) (ds : List (PolynomialMatrix p n)) (ranks : List ℕ) → Verdict p n
  -- Ext^i(R/I, R) by g generators and r relations, with the generating morphism
  ext : (i : ℕ) (I : ResolvedIdeal p n) (Z N U : PolynomialMatrix p n) (g r : ℕ) → Verdict p n

module _ (p : Prime) (n : ℕ) where
  -- from stage e on, (e, z) is a coboundary first at the given stage; or it never is
  abbrev pub HoldsOfClass : (i : ℕ) (I : ResolvedIdeal p n) (e : ℕ) (z : List (Polynomial p n)) → Option ℕ → Type 0
  HoldsOfClass i I e z (Some stage) = (s : ℕ) × (e + s ≡ stage) × IsLeast (λ s. IsCoboundaryAfter p n i I s e z) s
  HoldsOfClass i I e z None = IsZeroClass p n i I e z → ⊥

  -- the limit vanishes after inverting f, and k is the least power that annihilates every class of stage 0; or it does not vanish
  abbrev pub HoldsOfInverting : (i : ℕ) (I : ResolvedIdeal p n) (f : Polynomial p n) → Option ℕ → Type 0
  HoldsOfInverting i I f (Some k) = VanishesAfterInverting p n i I f × IsLeast
      (λ k. AnnihilatesClasses p n i I (polynomial_power p n k f)) k
  HoldsOfInverting i I f None = VanishesAfterInverting p n i I f → ⊥

  -- the map is onto, and s is the least number of moves that shows it on stage 0; or it is not onto
  abbrev pub HoldsOfOnto : (i : ℕ) (source target : ResolvedIdeal p n) (ls : List (PolynomialMatrix p n)) → Option ℕ → Type 0
  HoldsOfOnto i source target ls (Some s) = IsOntoMap p n i source target ls × IsLeast (IsOntoAfter p n i source target ls) s
  HoldsOfOnto i source target ls None = IsOntoMap p n i source target ls → ⊥

  -- The verdict holds.
  abbrev pub Holds : Verdict p n → Type 0
  Holds (zero_limit i I answer t) = (IsTrue answer ↔ IsZeroLimit p n i I) × IsLeast (IsEnoughMoves p n i I) t
  Holds (zero_class i I e z stage) = IsClass p n i I e z × HoldsOfClass i I e z stage
  Holds (inverting i I f power) = HoldsOfInverting i I f power
  Holds (support i I ideal) = IsSupportIdealOf p n i I ideal × ((a : Polynomial p n) → InIdeal p n ideal a ↔ AnnihilatesClasses p n i I a)
  Holds (root i I Z K U g t) = (length Z.columns ≡ g) × IsRootOf p n i I Z K U × IsLeast (IsEnoughMoves p n i I) t
  Holds (induced_map i source target ls is_zero is_one onto) =
      IsMapOfClasses p n i source target ls
      × (IsTrue is_zero ↔ IsZeroMap p n i source target ls)
      × (IsTrue is_one ↔ IsOneToOneMap p n i source target ls)
      × HoldsOfOnto i source target ls onto
  Holds (member fs f answer) = IsTrue answer ↔ InIdeal p n fs f
  Holds (resolution fs i ds ranks) = IsResolutionOf p n fs i ds × (ranks ≡ listed (i + 2) (rank p n ds))
  Holds (ext i I Z N U g r) = (length Z.columns ≡ g) × (length N.columns ≡ r) × PresentsExt p n i I Z N U

  -- What a verdict rests on: that the ideals that it speaks of are resolved through degree i with a Frobenius lift; for a map also the
  -- lift of the identity from the target's resolution to the source's. A resolution rests on itself, and membership on nothing.
  abbrev pub RestsOn : Verdict p n → Type 0
  RestsOn (zero_limit i I answer t) = IsResolved p n i I
  RestsOn (zero_class i I e z stage) = IsResolved p n i I
  RestsOn (inverting i I f power) = IsResolved p n i I
  RestsOn (support i I ideal) = IsResolved p n i I
  RestsOn (root i I Z K U g t) = IsResolved p n i I
  RestsOn (induced_map i source target ls is_zero is_one onto) =
      IsResolved p n i source × IsResolved p n i target × IsLiftOfIdentityOf p n i target.differentials source.differentials ls
  RestsOn (member fs f answer) = Unit {0}
  RestsOn (resolution fs i ds ranks) = IsResolutionOf p n fs i ds
  RestsOn (ext i I Z N U g r) = IsResolved p n i I
