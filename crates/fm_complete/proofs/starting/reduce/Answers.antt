use Rattle.std.proofs.Common.{◌≡◌, ◌++◌, ◌∷◌, List, [], None, Some, Err, refl, sym, ap, ◌∙◌, subst, arith}
use Rattle.fm_poly.specs.declared.ring.Ring.{Ring}
use Rattle.fm_vec.specs.Vectors.{VectorValue}
use Rattle.fm_vec.proofs.Proper.{moved_vector}
use Rattle.fm_complete.specs.declared.step.Step.{Step}
use Rattle.fm_complete.specs.Divisions.{terms_of}
use Rattle.fm_complete.specs.Reductions.{Reduced, reduced}
use Rattle.fm_complete.specs.Reduced.{reduction_value}
use Rattle.fm_run.specs.Runs.{Ended, Follows, halt_of}
use Rattle.fm_run.proofs.Calls.{stopped, follows_later, given, wanted, spent_now}
use Rattle.fm_complete.specs.Trails.{IsTrail, ahead}
use Rattle.fm_complete.proofs.Trails.{trail_start}
use Rattle.fm_complete.proofs.Running.{ahead_none, done, exceeded, step_leaves, turn_run, turn_trail}
use Rattle.fm_complete.proofs.Heads.{no_head, next_is}
use Rattle.fm_complete.specs.Divisors.{first_step}
use Rattle.fm_complete.proofs.starting.reduce.Goals as goal

pub reduce_on-requires-clause-trail : goal.reduce_on-requires-clause-trail
reduce_on-requires-clause-trail c =
    let members = terms_of c.args.basis.now in
    let s : Step = c.in-Some-find_step.step in
    subst (λ (r : Ring). IsTrail r members c.push.new.self.items c.in-Ok.rest.terms) (sym (ap (λ (x : VectorValue). x.ring) c.in-Ok.ensures.value ∙ sym c.ring.ensures))
    (turn_trail c.ring.result members [] c.args.v.now.terms (sym c.ring.ensures) c.in-Some.ensures.head c.in-Some-find_step.ensures.found
    (c.in_ok-push.ensures.items ∙ ap (λ (x : List Step). x ++ s ∷ []) c.new-steps.ensures.items) (ap (λ (x : VectorValue). x.terms) c.in-Ok.ensures.value)
    c.length.result (moved_vector refl (sym c.length.ensures) refl c.head.ensures.proper) c.in-Some-find_step.ensures.proper (trail_start c.ring.result members c.args.v.now.terms))

pub returns-clause-follows : goal.returns-clause-follows
returns-clause-follows c =
    let members = terms_of c.args.basis.now in
    let s : Step = c.in-Some-find_step.step in
    follows_later c.args.work.now c.spend.new.self c.reduce_on.new.work (reduced c.args.v.now.ring members c.args.work.now c.args.v.now.terms)
    (spent_now c.args.work.now c.spend.new.self c.args.work.now c.if-not-spend.ensures (omega arith)) reduction_value halt_of c.reduce_on.result
    (subst (λ (d : Ended Reduced). Follows reduction_value c.reduce_on.result c.spend.new.self c.reduce_on.new.work d)
    (ap (λ (r : Ring). ahead c.push.new.self.items (reduced r members c.spend.new.self c.in-Ok.rest.terms)) (ap (λ (x : VectorValue). x.ring) c.in-Ok.ensures.value ∙ sym c.ring.ensures)
    ∙ turn_run c.ring.result members [] c.args.v.now.terms (sym c.ring.ensures) c.in-Some.ensures.head c.in-Some-find_step.ensures.found
    (c.in_ok-push.ensures.items ∙ ap (λ (x : List Step). x ++ s ∷ []) c.new-steps.ensures.items) (ap (λ (x : VectorValue). x.terms) c.in-Ok.ensures.value)
    c.args.work.now c.spend.new.self (reduced c.ring.result members c.args.work.now c.args.v.now.terms) c.if-not-spend.ensures c.in-Ok.ensures.fits (ahead_none _)
    ∙ ap (λ (r : Ring). reduced r members c.args.work.now c.args.v.now.terms) c.ring.ensures)
    c.reduce_on.ensures.follows)

pub returns-in_default-clause-follows : goal.returns-in_default-clause-follows
returns-in_default-clause-follows c =
    let v = c.args.v.now in
    let ms = terms_of c.args.basis.now in
    let d = reduced v.ring ms c.args.work.now v.terms in
    given reduction_value c.unchanged.result c.args.work.now d (record { steps = []; rest = v.terms })
    (done v.ring ms [] c.args.work.now v.terms d (no_head v.ring ms v.terms c.in_default.ensures.head) (ahead_none d)) c.unchanged.ensures.value c.unchanged.ensures.memory

pub returns-in_default-find_step-clause-follows : goal.returns-in_default-find_step-clause-follows
returns-in_default-find_step-clause-follows c =
    let v = c.args.v.now in
    let ms = terms_of c.args.basis.now in
    let ring = c.ring.result in
    let d = reduced v.ring ms c.args.work.now v.terms in
    let none = next_is v.ring ms v.terms c.in-Some.head c.in-Some.ensures.head ∙ subst (λ (q : Ring). first_step q 1 ms c.in-Some.head ≡ None) c.ring.ensures c.in_default-find_step.ensures.found in
    given reduction_value c.unchanged-in_default-find_step.result c.args.work.now d (record { steps = []; rest = v.terms })
    (done v.ring ms [] c.args.work.now v.terms d none (ahead_none d)) c.unchanged-in_default-find_step.ensures.value c.unchanged-in_default-find_step.ensures.memory

pub returns-in_err-buffer-clause-follows : goal.returns-in_err-buffer-clause-follows
returns-in_err-buffer-clause-follows c =
    let v = c.args.v.now in
    let ms = terms_of c.args.basis.now in
    let d = reduced v.ring ms c.args.work.now v.terms in
    let step = next_is v.ring ms v.terms c.in-Some.head c.in-Some.ensures.head ∙ subst (λ (q : Ring). first_step q 1 ms c.in-Some.head ≡ Some (c.in-Some-find_step.step, c.in-Some-find_step.b.now.terms)) c.ring.ensures c.in-Some-find_step.ensures.found in
    wanted reduction_value c.from_residual.result c.args.work.now c.spend.new.self d c.from_residual.ensures (spent_now c.args.work.now c.spend.new.self c.args.work.now c.if-not-spend.ensures (omega arith))
    (step_leaves v.ring ms [] c.args.work.now c.spend.new.self v.terms d (c.in-Some-find_step.step, c.in-Some-find_step.b.now.terms) step c.if-not-spend.ensures (ahead_none d))

pub returns-in-Err-clause-follows : goal.returns-in-Err-clause-follows
returns-in-Err-clause-follows c =
    let v = c.args.v.now in
    let ms = terms_of c.args.basis.now in
    let d = reduced v.ring ms c.args.work.now v.terms in
    let step = next_is v.ring ms v.terms c.in-Some.head c.in-Some.ensures.head ∙ subst (λ (q : Ring). first_step q 1 ms c.in-Some.head ≡ Some (c.in-Some-find_step.step, c.in-Some-find_step.b.now.terms)) c.ring.ensures c.in-Some-find_step.ensures.found in
    stopped reduction_value c.in-Err.stop c.args.work.now c.spend.new.self d (λ e. c.in-Err.ensures.paid (ap Err e))
    (λ e. exceeded v.ring ms [] c.args.work.now c.spend.new.self v.terms d (c.in-Some-find_step.step, c.in-Some-find_step.b.now.terms) step c.if-not-spend.ensures (c.in-Err.ensures.exponent (ap Err e)) (ahead_none d))
    (spent_now c.args.work.now c.spend.new.self c.args.work.now c.if-not-spend.ensures (omega arith))
    (step_leaves v.ring ms [] c.args.work.now c.spend.new.self v.terms d (c.in-Some-find_step.step, c.in-Some-find_step.b.now.terms) step c.if-not-spend.ensures (ahead_none d))

pub returns-in_err-push-clause-follows : goal.returns-in_err-push-clause-follows
returns-in_err-push-clause-follows c =
    let v = c.args.v.now in
    let ms = terms_of c.args.basis.now in
    let d = reduced v.ring ms c.args.work.now v.terms in
    let step = next_is v.ring ms v.terms c.in-Some.head c.in-Some.ensures.head ∙ subst (λ (q : Ring). first_step q 1 ms c.in-Some.head ≡ Some (c.in-Some-find_step.step, c.in-Some-find_step.b.now.terms)) c.ring.ensures c.in-Some-find_step.ensures.found in
    wanted reduction_value c.from_residual-in_err-push.result c.args.work.now c.spend.new.self d c.from_residual-in_err-push.ensures (spent_now c.args.work.now c.spend.new.self c.args.work.now c.if-not-spend.ensures (omega arith))
    (step_leaves v.ring ms [] c.args.work.now c.spend.new.self v.terms d (c.in-Some-find_step.step, c.in-Some-find_step.b.now.terms) step c.if-not-spend.ensures (ahead_none d))
