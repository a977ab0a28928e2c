-- Judgements that end well, taken apart.
use Rattle.std.proofs.Common.{◌≡◌, Bool, true, false, Option, Some, None, Result, Ok, refl}
use Rattle.fm_words.specs.Steps.{◌>>=◌, or_fault}
use Rattle.fm_words.proofs.FirstFaults.{no_fault}
use Rattle.fm_parts.specs.Replays.{Reason, needs}

pub needed : {B : Type 0} (b : Bool) (why : Reason) (f : Unit {0} → Result B Reason) (y : B) → (needs b why >>= f) ≡ Ok y → (b ≡ true) × (f tt ≡ Ok y)
needed true why f y e = (refl, e)
needed false why f y e = absurd (no_fault why y e)

pub need_holds : (b : Bool) (why : Reason) (u : Unit {0}) → needs b why ≡ Ok u → b ≡ true
need_holds true why u e = refl
need_holds false why u e = absurd (no_fault why u e)

pub there_is : {A B : Type 0} (why : Reason) (x : Option A) (f : A → Result B Reason) (y : B) → (or_fault why x >>= f) ≡ Ok y → (a : A) × (x ≡ Some a) × (f a ≡ Ok y)
there_is why None f y e = absurd (no_fault why y e)
there_is why (Some a) f y e = (a, refl, e)
