use Rattle.std.proofs.Common.{◌∙◌, Bool, ap, sym}
use Rattle.fm_cert.specs.declared.end.End.{End}
use Rattle.fm_cert.specs.Ends.{end_kind, end_values}
use Rattle.fm_decide.specs.Counts.{says_yes as answers_yes}
use Rattle.fm_decide.proofs.counting.says_yes.Goals as goal

abbrev said : End → Bool
said e = answers_yes (end_kind e) (end_values e)

pub returns-in-Class : goal.returns-in-Class
returns-in-Class c = c.is_some.ensures ∙ sym (ap said c.in-Class.is)

pub returns-in-Invert : goal.returns-in-Invert
returns-in-Invert c = c.is_some-in-Invert.ensures ∙ sym (ap said c.in-Invert.is)

pub returns-in-Zero : goal.returns-in-Zero
returns-in-Zero c = sym (ap said c.in-Zero.is)

pub returns-in-Member : goal.returns-in-Member
returns-in-Member c = sym (ap said c.in-Member.is)
