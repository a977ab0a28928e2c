use Rattle.std.proofs.Common.{Ok, List, [], map, sym, ap, subst, refl, ◌∙◌, arith}
use Rattle.fm_poly.specs.Polys.{PolyValue}
use Rattle.fm_vec.specs.Vectors.{VectorValue}
use Rattle.fm_run.specs.Runs.{halt_of}
use Rattle.fm_run.proofs.Calls.{wanted}
use Rattle.fm_complete.specs.Bases.{basis_value, completion_value, entry_value}
use Rattle.fm_complete.specs.Completions.{completed}
use Rattle.fm_complete.specs.Divisions.{terms_of}
use Rattle.fm_complete.specs.Pending.{PendingValue}
use Rattle.fm_complete.specs.Standing.{AreReady, values}
use Rattle.fm_complete.proofs.CompletionSpending.{completed_spends}
use Rattle.fm_complete.proofs.TakingInputs.{inputs_halt, pairs_halt, completion_ends}
use Rattle.fm_complete.proofs.completing.complete.Goals as goal

pub returns-in-Err-clause-follows : goal.returns-in-Err-clause-follows
returns-in-Err-clause-follows c =
    inputs_halt c.args.ring (terms_of (values c.args.inputs.now)) (completion_value (record { members = c.new-2.result; heads = c.in_ok-heads.heads; tails = c.new-3.result; pending = c.new-4.result; log = c.new-5.result }))
    (λ i. record { members = terms_of (c.new-2.ensures.items i); pending = (ap (λ (p : PendingValue). p.pairs) c.new-4.ensures) i; log = map entry_value (c.new-5.ensures.items i) }) c.args.work.now c.take_inputs.new.work
    (halt_of c.in-Err.stop) c.in-Err.ensures.follows

pub returns-in-Err-finish-clause-follows : goal.returns-in-Err-finish-clause-follows
returns-in-Err-finish-clause-follows c =
    pairs_halt c.args.ring (terms_of (values c.args.inputs.now)) (completion_value (record { members = c.new-2.result; heads = c.in_ok-heads.heads; tails = c.new-3.result; pending = c.new-4.result; log = c.new-5.result }))
    (λ i. record { members = terms_of (c.new-2.ensures.items i); pending = (ap (λ (p : PendingValue). p.pairs) c.new-4.ensures) i; log = map entry_value (c.new-5.ensures.items i) }) c.args.work.now
    (completion_value c.take_inputs.new.c) c.take_inputs.new.work c.finish.new.work c.in-Ok.ensures.follows (halt_of c.in-Err-finish.stop) c.in-Err-finish.ensures.follows

pub returns-clause-follows : goal.returns-clause-follows
returns-clause-follows c =
    completion_ends c.args.ring (terms_of (values c.args.inputs.now)) (completion_value (record { members = c.new-2.result; heads = c.in_ok-heads.heads; tails = c.new-3.result; pending = c.new-4.result; log = c.new-5.result }))
    (λ i. record { members = terms_of (c.new-2.ensures.items i); pending = (ap (λ (p : PendingValue). p.pairs) c.new-4.ensures) i; log = map entry_value (c.new-5.ensures.items i) }) c.args.work.now
    (completion_value c.take_inputs.new.c) _ c.take_inputs.new.work c.finish.new.work c.in-Ok.ensures.follows
    (c.in-Ok-finish.ensures.follows ∙ (λ i. record { end = Ok (record { members = terms_of c.finish.new.c.members.items; pending = c.in-Ok-finish.ensures.done i; log = map entry_value c.finish.new.c.log.items }); left = c.finish.new.work }))

pub returns-in_err-heads-clause-follows : goal.returns-in_err-heads-clause-follows
returns-in_err-heads-clause-follows c =
    let inputs = terms_of (values c.args.inputs.now) in
    let units = c.args.work.now in
    wanted basis_value c.from_residual.result units units (completed c.args.ring inputs units) c.from_residual.ensures (omega arith) (completed_spends c.args.ring inputs units)

pub take_inputs-requires-clause-ready : goal.take_inputs-requires-clause-ready
take_inputs-requires-clause-ready c =
    let r = c.args.ring in
    let n = c.args.rows in
    subst (λ (ms : List VectorValue). AreReady r n ms c.in_ok-heads.heads c.new-3.result.items) (sym c.new-2.ensures.items)
    (subst (λ (xs : List (List PolyValue)). AreReady r n [] c.in_ok-heads.heads xs) (sym c.new-3.ensures.items)
    (record { heads = record { vectors = tt; heads = c.in_ok-heads.ensures }; tails = ([], refl) }))
