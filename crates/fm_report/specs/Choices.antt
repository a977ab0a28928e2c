-- That what a report states does not depend on the choice of resolutions and lifts.
use Rattle.std.specs.Prelude.{ℕ, ◌≡◌, ◌++◌, List, [], ◌∷◌, Option, Some, None}
use Rattle.fm_gfp.specs.declared.prime.Prime.{Prime}
use Rattle.fm_algebra.specs.PolynomialMatrices.{PolynomialMatrix}
use Rattle.fm_limit.specs.ResolvedIdeal.{ResolvedIdeal, IsLiftOfIdentityOf, AreOneIdeal}
use Rattle.fm_limit.specs.Classes.{image_of}
use Rattle.fm_limit.specs.Verdicts.{Verdict, zero_limit, zero_class, inverting, support, root, induced_map, member, resolution, ext, Holds}
use Rattle.fm_words.specs.Parts.{Bytes}
use Rattle.fm_report.specs.Verdicts.{Stated, verdict, unreadable}
use Rattle.fm_report.specs.Reading.{statements}

-- The verdict holds along all resolutions through the degree of the same ideals, all their Frobenius lifts and all lifts of the identity; that on
-- a class for what a lift of the identity carries the class to. The others speak of the matrices that are printed.
unfoldable pub HoldsForEveryChoice : (p : Prime) (n : ℕ) → Verdict p n → Type 0
HoldsForEveryChoice p n (zero_limit i I answer t) = (J : ResolvedIdeal p n) → AreOneIdeal p n i I J → Holds p n (zero_limit i J answer t)
HoldsForEveryChoice p n (zero_class i I e z stage) =
    (J : ResolvedIdeal p n) → AreOneIdeal p n i J I → (ls : List (PolynomialMatrix p n)) → IsLiftOfIdentityOf p n i J.differentials I.differentials ls
    → Holds p n (zero_class i J e (image_of p n i ls e z) stage)
HoldsForEveryChoice p n (inverting i I f power) = (J : ResolvedIdeal p n) → AreOneIdeal p n i I J → Holds p n (inverting i J f power)
HoldsForEveryChoice p n (support i I ideal) = (J : ResolvedIdeal p n) → AreOneIdeal p n i I J → Holds p n (support i J ideal)
HoldsForEveryChoice p n (induced_map i source target ls is_zero is_one onto) =
    (other : ResolvedIdeal p n) → AreOneIdeal p n i source other → (goal : ResolvedIdeal p n) → AreOneIdeal p n i target goal
    → (ms : List (PolynomialMatrix p n)) → IsLiftOfIdentityOf p n i goal.differentials other.differentials ms
    → Holds p n (induced_map i other goal ms is_zero is_one onto)
HoldsForEveryChoice p n (root i I Z K U g t) = Unit {0}
HoldsForEveryChoice p n (member fs f answer) = Unit {0}
HoldsForEveryChoice p n (resolution fs i ds ranks) = Unit {0}
HoldsForEveryChoice p n (ext i I Z N U g r) = Unit {0}

unfoldable pub IsHeldForEveryChoice : Stated → Type 0
IsHeldForEveryChoice (verdict p n v) = HoldsForEveryChoice p n v
IsHeldForEveryChoice unreadable = ⊥

abbrev pub AllHoldForEveryChoice : List Stated → Type 0
AllHoldForEveryChoice [] = Unit {0}
AllHoldForEveryChoice (s ∷ ss) = IsHeldForEveryChoice s × AllHoldForEveryChoice ss

-- each verdict that the bytes state
unfoldable pub VerdictsHoldForEveryChoice : Bytes → Type 0
VerdictsHoldForEveryChoice bytes = AllHoldForEveryChoice (statements bytes)

-- each verdict that is stated by the bytes by which a text grew, where it is told
unfoldable pub VerdictsHoldForEveryChoiceSince : Option Bytes → Option Bytes → Type 0
VerdictsHoldForEveryChoiceSince None new = Unit {0}
VerdictsHoldForEveryChoiceSince (Some before) None = Unit {0}
VerdictsHoldForEveryChoiceSince (Some before) (Some after) = (bytes : Bytes) → after ≡ before ++ bytes → VerdictsHoldForEveryChoice bytes
