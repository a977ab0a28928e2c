use Rattle.std.proofs.Common.{[]}
use Rattle.fm_cert.specs.Ends.{is_numbered}
use Rattle.fm_asked.proofs.TaskWords.{named_by, named_end}
use Rattle.fm_asked.proofs.tasks.is_named.Goals as goal

pub returns-in_default-after_word : goal.returns-in_default-after_word
returns-in_default-after_word c =
    named_by c.args.side c.args.name _ _ c.task_word.result.now _ c.task_word.ensures (c.in-Some.ensures c.task_word.result.now (is_numbered c.args.name))
    (c.in_default-after_word.ensures [] (is_numbered c.args.name))

pub returns : goal.returns
returns c =
    named_end c.args.side c.args.name _ _ _ c.task_word.result.now c.is_numbered.result _ c.task_word.ensures
    (c.in-Some.ensures c.task_word.result.now (is_numbered c.args.name)) (c.in-Some-after_word.ensures [] (is_numbered c.args.name))
    c.is_numbered.ensures c.ends_so.ensures
