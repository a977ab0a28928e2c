-- Faults of a problem text.
use Rattle.std.specs.Prelude.{ℕ, List, codes, Result, Ok, Err}
use Rattle.fm_text.specs.declared.text_fault.TextFault.{TextFault}
use Rattle.fm_text.specs.declared.text_fault.TextFault as text_faults
use Rattle.fm_problem.specs.declared.fault_kind.FaultKind.{FaultKind}
use Rattle.fm_problem.specs.declared.fault_kind.FaultKind.TheVariants.{Syntax, UnknownName, Repeated, Range, NotPrime, Limit}

-- a fault with the number of its line
pub record Fault : Type 0 where
  pub line : ℕ
  pub kind : FaultKind

-- the words that name a fault
abbrev pub fault_text : FaultKind → List ℕ
fault_text Syntax = codes "syntax"
fault_text UnknownName = codes "unknown name"
fault_text Repeated = codes "repeated name"
fault_text Range = codes "degree out of range"
fault_text NotPrime = codes "not a listed prime"
fault_text Limit = codes "above a limit"

-- the fault of a line, for that of a polynomial on it
abbrev pub kind_of : TextFault → FaultKind
kind_of text_faults.TheVariants.Syntax = Syntax
kind_of text_faults.TheVariants.UnknownName = UnknownName
kind_of text_faults.TheVariants.Limit = Limit

abbrev pub on_line : {A : Type 0} → Result A TextFault → Result A FaultKind
on_line (Ok x) = Ok x
on_line (Err f) = Err (kind_of f)
