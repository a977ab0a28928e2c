-- What a beginning of bytes states holds, if what they state holds.
use Rattle.std.proofs.Common.{◌≡◌, ℕ, List, [], ◌∷◌, ◌++◌, Option, Some, None, refl, sym, ap, subst, ◌∙◌, append-nil}
use Rattle.fm_words.specs.Parts.{Bytes}
use Rattle.fm_report.specs.Verdicts.{Stated}
use Rattle.fm_report.specs.Reading.{statements}
use Rattle.fm_report.specs.Holding.{IsHeld, AllHold, VerdictsHold, VerdictsHoldSince}
use Rattle.fm_report.proofs.Lines.{statements_begin}

pub front_holds_all : (ss more : List Stated) → AllHold (ss ++ more) → AllHold ss
front_holds_all [] more h = tt
front_holds_all (s ∷ ss) more h = (h.0, front_holds_all ss more h.1)

pub all_hold_append : (ss more : List Stated) → AllHold ss → AllHold more → AllHold (ss ++ more)
all_hold_append [] more h k = k
all_hold_append (s ∷ ss) more h k = (h.0, all_hold_append ss more h.1 k)

pub front_holds : (front back : Bytes) → VerdictsHold (front ++ back) → VerdictsHold front
unfolding VerdictsHold
front_holds front back h = let b = statements_begin front back in front_holds_all (statements front) b.more (subst AllHold b.is h)

-- bytes that state nothing hold
pub silent_holds : (bytes : Bytes) → statements bytes ≡ [] → VerdictsHold bytes
unfolding VerdictsHold
silent_holds bytes e = subst AllHold (sym e) tt

pub nothing_stated : statements [] ≡ []
unfolding statements
nothing_stated = refl

-- what is added to a list is determined
same_added : (before xs ys : Bytes) → before ++ xs ≡ before ++ ys → xs ≡ ys
same_added [] xs ys e = e
same_added (b ∷ before) xs ys e = same_added before xs ys (tails e) where
  tails : {x y : ℕ} {u v : Bytes} → x ∷ u ≡ y ∷ v → u ≡ v
  tails z = cc

nothing_added : (before bytes : Bytes) → before ≡ before ++ bytes → bytes ≡ []
nothing_added before bytes e = sym (same_added before [] bytes (append-nil before ∙ e))

-- nothing was written
pub kept_holds : (old : Option Bytes) → VerdictsHoldSince old old
unfolding VerdictsHoldSince
kept_holds None = tt
kept_holds (Some before) = λ bytes e. silent_holds bytes (ap statements (nothing_added before bytes e) ∙ nothing_stated)

-- a beginning of bytes whose verdicts hold was written
pub added_holds : (before front back : Bytes) → VerdictsHold (front ++ back) → VerdictsHoldSince (Some before) (Some (before ++ front))
unfolding VerdictsHoldSince
added_holds before front back h = λ bytes e. subst VerdictsHold (same_added before front bytes e) (front_holds front back h)

among_held : (front back : List Stated) (s : Stated) → AllHold (front ++ s ∷ back) → IsHeld s
among_held [] back s h = h.0
among_held (x ∷ front) back s h = among_held front back s h.1

pub each_holds : (bytes : Bytes) → VerdictsHold bytes → (front back : List Stated) (s : Stated) → statements bytes ≡ front ++ s ∷ back → IsHeld s
unfolding VerdictsHold
each_holds bytes h front back s e = among_held front back s (subst AllHold e h)
