use Rattle.std.proofs.Common.{◌∙◌, ◌++◌, ap}
use Rattle.fm_decide.proofs.Whole.{answer_written}
use Rattle.fm_decide.proofs.answering.push_block.Goals as goal

pub returns : goal.returns
returns c = λ b h.
    answer_written c.args.problem.now c.args.number c.args.query.now c.args.answer.now b _ _ _ _ _ h c.in_ok-push_query.ensures c.in_ok-push.ensures
    (c.in_ok-extend_from_slice.ensures.items ∙ ap (λ bs. c.push.new.out.items ++ bs) c.deref.ensures.value) c.in_ok-push-2.ensures
