-- The reasons that a program tells, and when it follows a judgement.
use Rattle.std.specs.Prelude.{◌≡◌, Result, Ok, Err}
use Rattle.fm_parts.specs.Replays as reasons
use Rattle.fm_parts.specs.Replays.{Reason}
use Rattle.fm_conditions.specs.declared.why.Why.{Why}
use Rattle.fm_conditions.specs.declared.why.Why.TheVariants as whys
use Rattle.fm_conditions.specs.declared.why.Refused.{Refused}
use Rattle.fm_conditions.specs.declared.why.Refused.TheVariants.{Memory, Bad}

abbrev pub reason_of : Why → Reason
reason_of whys.Truncated = reasons.Truncated
reason_of whys.Form = reasons.Form
reason_of whys.Exponents = reasons.Exponents
reason_of whys.Reference = reasons.Reference
reason_of whys.Shape = reasons.Shape
reason_of whys.Depth = reasons.Depth
reason_of whys.Value = reasons.Value
reason_of whys.BadEntry = reasons.BadEntry
reason_of whys.BadLog = reasons.BadLog
reason_of whys.Reduction = reasons.Reduction

-- exactly what is judged, or exactly the reason, unless memory runs out
abbrev pub Judges : {A B : Type 0} → (A → B) → Result A Refused → Result B Reason → Type 0
Judges view (Ok x) judged = judged ≡ Ok (view x)
Judges view (Err (Bad why)) judged = judged ≡ Err (reason_of why)
Judges view (Err Memory) judged = Unit {0}
