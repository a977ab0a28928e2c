use Rattle.std.proofs.Common.{◌≡◌, ◌∙◌, Bool, true, false, not, ap, sym}
use Rattle.fm_cert.specs.declared.end.End.{End}
use Rattle.fm_cert.specs.Ends.{end_kind, end_values}
use Rattle.fm_decide.specs.Counts.{says_no as answers_no}
use Rattle.fm_decide.proofs.counting.says_no.Goals as goal

abbrev said : End → Bool
said e = answers_no (end_kind e) (end_values e)

not_of : (a b : Bool) → a ≡ not b → b ≡ not a
not_of a true e = ap not (sym e)
not_of a false e = ap not (sym e)

pub returns-in-Class : goal.returns-in-Class
returns-in-Class c = not_of _ _ c.is_none.ensures ∙ sym (ap said c.in-Class.is)

pub returns-in-Invert : goal.returns-in-Invert
returns-in-Invert c = not_of _ _ c.is_none-in-Invert.ensures ∙ sym (ap said c.in-Invert.is)

pub returns-in-Zero : goal.returns-in-Zero
returns-in-Zero c = sym (ap said c.in-Zero.is)

pub returns-in-Member : goal.returns-in-Member
returns-in-Member c = sym (ap said c.in-Member.is)
