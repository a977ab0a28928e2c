use Rattle.std.proofs.Common.{◌∙◌}
use Rattle.fm_top.proofs.CommandLine.{called, not_called}
use Rattle.fm_top.proofs.words.call_of_words.Goals as goal

pub returns-in-Some : goal.returns-in-Some
returns-in-Some c =
    c.named_call.ensures
    ∙ called _ _ c.in_ok-matches.ensures _ _ _ _ c.in-Some.is c.get_str.ensures c.get_str-in-Some.ensures c.get_str-in-Some-2.ensures

pub returns-in-None : goal.returns-in-None
returns-in-None c = not_called _ _ c.in_ok-matches.ensures c.in-None.is
