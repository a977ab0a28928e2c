-- What a line `part` does.
use Rattle.std.specs.Prelude.{◌≡◌, List, [], ◌∷◌, ◌++◌, Some, None, Result, Ok, Err}
use Rattle.fm_report.specs.Parts.{Part}
use Rattle.fm_judge.specs.Judging.{State, Stage, moved_to}
use Rattle.fm_pres.specs.Tables.{tree_of, fault_of}
use Rattle.fm_pres.specs.declared.form.Form.{Form}
use Rattle.fm_pres.specs.declared.part_fault.PartFault.{PartFault}
use Rattle.fm_pres.specs.declared.part_fault.PartFault.TheVariants as faults
use Rattle.fm_conditions.specs.declared.why.Refused.{Refused}
use Rattle.fm_conditions.specs.declared.why.Refused.TheVariants.{Memory, Bad}
use Rattle.fm_conditions.specs.declared.why.Why.{Why}
use Rattle.fm_conditions.specs.declared.why.Why.TheVariants as whys

-- the state with these parts, where the next line stands there
abbrev pub with_parts : State → List Part → Stage → State
with_parts s ps stage = moved_to s (record s.sheet { parts = ps }) stage

abbrev pub why_of : PartFault → Why
why_of faults.Reference = whys.Reference
why_of faults.Shape = whys.Shape
why_of faults.Depth = whys.Depth

-- one part is added
abbrev pub IsGrown : List Part → List Part → Type 0
IsGrown ps qs = (a : Part) × (qs ≡ ps ++ a ∷ [])

-- the part of a form is added, or its fault is told and nothing is added
abbrev pub Enters : {X : Type 0} → List Part → List Part → Form → Result X Refused → Type 0
Enters old new f (Ok _) = (fault_of old f ≡ None) × (new ≡ old ++ tree_of old f ∷ [])
Enters old new f (Err (Bad why)) = (fault : PartFault) × (fault_of old f ≡ Some fault) × (why ≡ why_of fault) × (new ≡ old)
Enters old new f (Err Memory) = new ≡ old
