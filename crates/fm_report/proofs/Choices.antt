-- What holds along one choice of resolutions and lifts holds along each.
use Rattle.std.proofs.Common.{ℕ, List, [], ◌∷◌, ◌++◌, ◌≡◌, Option, Some, None, ◌↔◌}
use Rattle.fm_gfp.specs.declared.prime.Prime.{Prime}
use Rattle.fm_limit.specs.ResolvedIdeal.{AreOneIdeal}
use Rattle.fm_limit.specs.Verdicts.{Verdict, zero_limit, zero_class, inverting, support, root, induced_map, member, resolution, ext, RestsOn, Holds}
use Rattle.fm_words.specs.Parts.{Bytes}
use Rattle.fm_report.specs.Verdicts.{Stated, verdict, unreadable}
use Rattle.fm_report.specs.Reading.{statements}
use Rattle.fm_report.specs.Holding.{IsHeld, AllHold, VerdictsHold, VerdictsHoldSince}
use Rattle.fm_report.specs.Choices.{HoldsForEveryChoice, IsHeldForEveryChoice, AllHoldForEveryChoice, VerdictsHoldForEveryChoice, VerdictsHoldForEveryChoiceSince}
use Rattle.fm_limit.proofs.IndependenceWords.{inverting_verdict_words, support_verdict_words, zero_verdict_words, carried_verdict_words, map_verdict_words}

pub every_choice : (p : Prime) (n : ℕ) (v : Verdict p n) → RestsOn p n v → Holds p n v → HoldsForEveryChoice p n v
unfolding HoldsForEveryChoice
every_choice p n (zero_limit i I answer t) rests h = λ J o. zero_verdict_words p n o.first o.second o.there o.back answer t h
every_choice p n (zero_class i I e z stage) rests h = λ J o ls k. (carried_verdict_words p n o.first o.second o.there o.back k e z h.0 stage).0 h
every_choice p n (inverting i I f power) rests h = λ J o. inverting_verdict_words p n o.first o.second o.there o.back f power h
every_choice p n (support i I ideal) rests h = λ J o. support_verdict_words p n o.first o.second o.there o.back ideal h
every_choice p n (induced_map i source target ls is_zero is_one onto) rests h =
    λ other o goal g ms k. map_verdict_words p n g.first o.first g.second o.second g.there g.back o.there o.back rests.2 k h.0 is_zero is_one onto h
every_choice p n (root i I Z K U g t) rests h = tt
every_choice p n (member fs f answer) rests h = tt
every_choice p n (resolution fs i ds ranks) rests h = tt
every_choice p n (ext i I Z N U g r) rests h = tt

held_for_every_choice : (s : Stated) → IsHeld s → IsHeldForEveryChoice s
unfolding IsHeld IsHeldForEveryChoice
held_for_every_choice (verdict p n v) h = every_choice p n v h.0 h.1
held_for_every_choice unreadable h = h

all_for_every_choice : (ss : List Stated) → AllHold ss → AllHoldForEveryChoice ss
all_for_every_choice [] h = tt
all_for_every_choice (s ∷ ss) h = (held_for_every_choice s h.0, all_for_every_choice ss h.1)

pub hold_for_every_choice : (bytes : Bytes) → VerdictsHold bytes → VerdictsHoldForEveryChoice bytes
unfolding VerdictsHold VerdictsHoldForEveryChoice
hold_for_every_choice bytes h = all_for_every_choice (statements bytes) h

pub since_for_every_choice : (old new : Option Bytes) → VerdictsHoldSince old new → VerdictsHoldForEveryChoiceSince old new
unfolding VerdictsHoldSince VerdictsHoldForEveryChoiceSince
since_for_every_choice None new h = tt
since_for_every_choice (Some before) None h = tt
since_for_every_choice (Some before) (Some after) h = λ bytes e. hold_for_every_choice bytes (h bytes e)
