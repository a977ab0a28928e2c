-- What a refusal says, and when a call follows a definition that may refuse.
use Rattle.std.specs.Prelude.{◌≡◌, Result, Ok, Err}
use Rattle.fm_parts.specs.Replays as reasons
use Rattle.fm_parts.specs.Replays.{Reason}
use Rattle.fm_replay.specs.declared.refusal.Fault.{Fault}
use Rattle.fm_replay.specs.declared.refusal.Fault.TheVariants.{Reference, Step, Exponents}
use Rattle.fm_replay.specs.declared.refusal.Refusal.{Refusal}
use Rattle.fm_replay.specs.declared.refusal.Refusal.TheVariants.{Memory, Bad}

-- the reason that a fault means, where `why` is the reason for what is no free step
abbrev pub reason_of : Reason → Fault → Reason
reason_of why Reference = reasons.Reference
reason_of why Step = why
reason_of why Exponents = reasons.Exponents

-- exactly what is said, or exactly the reason, unless memory runs out
abbrev pub Gives : {A B : Type 0} → Reason → (A → B) → Result A Refusal → Result B Reason → Type 0
Gives why view (Ok x) said = said ≡ Ok (view x)
Gives why view (Err (Bad f)) said = said ≡ Err (reason_of why f)
Gives why view (Err Memory) said = Unit {0}
