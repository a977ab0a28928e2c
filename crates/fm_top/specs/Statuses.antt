-- Kinds of statuses.
use Rattle.fm_base.specs.declared.status.Status.{Status}
use Rattle.fm_base.specs.declared.status.Status.TheVariants.{Done, Refused, Usage, Unanswered, Problem, ReadFault, WriteFault, Memory, TooLong}
use Rattle.fm_top.specs.declared.call.Call.{Call}
use Rattle.fm_top.specs.declared.call.Call.TheVariants.{Decide, Check, Sample}

-- no fault of the source or the sink, and no want of memory
abbrev pub IsPlain : Status → Type 0
IsPlain ReadFault = ⊥
IsPlain WriteFault = ⊥
IsPlain Memory = ⊥
IsPlain Done = Unit {0}
IsPlain Refused = Unit {0}
IsPlain Usage = Unit {0}
IsPlain Unanswered = Unit {0}
IsPlain Problem = Unit {0}
IsPlain TooLong = Unit {0}

-- nothing is written
abbrev pub IsQuiet : Status → Type 0
IsQuiet ReadFault = Unit {0}
IsQuiet Memory = Unit {0}
IsQuiet TooLong = Unit {0}
IsQuiet Done = ⊥
IsQuiet Refused = ⊥
IsQuiet Usage = ⊥
IsQuiet Unanswered = ⊥
IsQuiet Problem = ⊥
IsQuiet WriteFault = ⊥

-- the whole of an answer is written
abbrev pub IsWritten : Status → Type 0
IsWritten Done = Unit {0}
IsWritten Refused = Unit {0}
IsWritten Usage = Unit {0}
IsWritten Unanswered = Unit {0}
IsWritten Problem = Unit {0}
IsWritten ReadFault = ⊥
IsWritten WriteFault = ⊥
IsWritten Memory = ⊥
IsWritten TooLong = ⊥

-- how a run ends that read a problem text and wrote what it gives
abbrev pub IsOfText : Status → Type 0
IsOfText Done = Unit {0}
IsOfText Unanswered = Unit {0}
IsOfText Problem = Unit {0}
IsOfText Refused = ⊥
IsOfText Usage = ⊥
IsOfText ReadFault = ⊥
IsOfText WriteFault = ⊥
IsOfText Memory = ⊥
IsOfText TooLong = ⊥

-- how a run ends that checked a text and wrote what it found
abbrev pub IsOfCertificate : Status → Type 0
IsOfCertificate Done = Unit {0}
IsOfCertificate Refused = Unit {0}
IsOfCertificate Usage = ⊥
IsOfCertificate Unanswered = ⊥
IsOfCertificate Problem = ⊥
IsOfCertificate ReadFault = ⊥
IsOfCertificate WriteFault = ⊥
IsOfCertificate Memory = ⊥
IsOfCertificate TooLong = ⊥

-- how a run ends that wrote the whole answer of a call
abbrev pub IsOfCall : Call → Status → Type 0
IsOfCall (Decide units) status = IsOfText status
IsOfCall Check status = IsOfCertificate status
IsOfCall (Sample number) status = IsOfText status
