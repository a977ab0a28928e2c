use Rattle.std.proofs.Common.{refl}
use Rattle.fm_cert.proofs.LinesWritten.{class_written, question_written}
use Rattle.fm_cert.proofs.heads.push_question.Goals as goal

pub returns-in_ok-push_module-in-Resolution : goal.returns-in_ok-push_module-in-Resolution
returns-in_ok-push_module-in-Resolution c =
    question_written c.args.problem.now c.args.number _ _ _ _ _ c.in-Resolution.is refl c.in_ok-push_module-in-Resolution.ensures

pub returns-in_ok-push_row-in-Class : goal.returns-in_ok-push_row-in-Class
returns-in_ok-push_row-in-Class c =
    class_written c.args.problem.now c.args.number _ _ _ _ _ _ _ _ _ _ _ _ c.in-Class.is c.as_slice-in-Class.ensures c.from.ensures c.ideal_name.ensures
    c.from-in-Class.ensures c.as_slice.ensures c.in_ok-push_row-in-Class.ensures
