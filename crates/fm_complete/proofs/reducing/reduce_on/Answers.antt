use Rattle.std.proofs.Common.{Err, refl, sym, ap, ◌∙◌, subst, arith}
use Rattle.std.proofs.lemmas.Result.{on_ok_weaker}
use Rattle.fm_poly.specs.declared.ring.Ring.{Ring}
use Rattle.fm_vec.specs.Vectors.{VectorValue}
use Rattle.fm_vec.proofs.Proper.{moved_vector}
use Rattle.fm_complete.specs.Divisions.{terms_of}
use Rattle.fm_complete.specs.Reductions.{Reduced, reduced}
use Rattle.fm_complete.specs.Trails.{ahead}
use Rattle.fm_complete.proofs.Heads.{no_head, next_is}
use Rattle.fm_complete.proofs.Indexed.{front_for}
use Rattle.fm_run.specs.Runs.{Ended, Follows, halt_of}
use Rattle.fm_run.proofs.Calls.{stopped, follows_later, wanted}
use Rattle.fm_complete.specs.Reduced.{reduction_value}
use Rattle.fm_complete.proofs.Running.{done, exceeded, step_leaves, turn_run, turn_trail}
use Rattle.fm_complete.proofs.reducing.reduce_on.Goals as goal

pub returns-in_default-clause-follows : goal.returns-in_default-clause-follows
returns-in_default-clause-follows c =
    ap (λ (r : Ring). ahead c.args.steps.items (reduced r (terms_of c.args.basis.now) c.args.work.now c.args.rest.terms)) (sym c.ring-ring.ensures)
    ∙ done c.ring-ring.result (terms_of c.args.basis.now) c.steps.steps.items c.steps.work c.steps.rest.terms _
    (no_head c.ring-ring.result (terms_of c.args.basis.now) c.steps.rest.terms c.in_default.ensures.head) c.steps.invariant.run

pub returns-in_default-find_step-clause-follows : goal.returns-in_default-find_step-clause-follows
returns-in_default-find_step-clause-follows c =
    ap (λ (r : Ring). ahead c.args.steps.items (reduced r (terms_of c.args.basis.now) c.args.work.now c.args.rest.terms)) (sym c.ring-ring.ensures)
    ∙ done c.ring-ring.result (terms_of c.args.basis.now) c.steps.steps.items c.steps.work c.steps.rest.terms _
    (next_is c.ring-ring.result (terms_of c.args.basis.now) c.steps.rest.terms c.in-Some.head c.in-Some.ensures.head ∙ c.in_default-find_step.ensures.found) c.steps.invariant.run

pub steps-preserved : goal.steps-preserved
steps-preserved c =
    let ring = c.ring-ring.result in
    let members = terms_of c.args.basis.now in
    let left = ap (λ (x : VectorValue). x.terms) c.in-Ok.ensures.value in
    record {
      ring_is = ap (λ (x : VectorValue). x.ring) c.in-Ok.ensures.value ∙ c.steps.invariant.ring_is;
      rows_is = ap (λ (x : VectorValue). x.rows) c.in-Ok.ensures.value ∙ c.steps.invariant.rows_is;
      run = turn_run ring members c.steps.steps.items c.steps.rest.terms c.steps.invariant.ring_is c.in-Some.ensures.head c.in-Some-find_step.ensures.found
          c.in_ok-push.ensures.items left c.steps.work c.spend.new.self _ c.if-not-spend.ensures c.in-Ok.ensures.fits c.steps.invariant.run;
      spent = let h = c.if-not-spend.ensures in let k = c.steps.invariant.spent in omega (arith, h, k);
      tails = c.steps.invariant.tails;
      trail = turn_trail ring members c.steps.steps.items c.steps.rest.terms c.steps.invariant.ring_is c.in-Some.ensures.head c.in-Some-find_step.ensures.found
          c.in_ok-push.ensures.items left c.length-rows.result (moved_vector refl c.steps.invariant.rows_is refl c.head.ensures.proper) c.in-Some-find_step.ensures.proper c.steps.invariant.trail;
    }

pub returns-then-terms-gt-LONG-clause-follows : goal.returns-then-terms-gt-LONG-clause-follows
returns-then-terms-gt-LONG-clause-follows c =
    let ms = terms_of c.args.basis.now in
    let all = ahead c.args.steps.items (reduced c.args.rest.ring ms c.args.work.now c.args.rest.terms) in
    follows_later c.args.work.now c.steps.work c.reduce_long.new.work all c.steps.invariant.spent reduction_value halt_of c.reduce_long.result
    (subst (λ (d : Ended Reduced). Follows reduction_value c.reduce_long.result c.steps.work c.reduce_long.new.work d)
    (ap (λ (r : Ring). ahead c.steps.steps.items (reduced r ms c.steps.work c.steps.rest.terms)) c.steps.invariant.ring_is ∙ c.steps.invariant.run
    ∙ ap (λ (r : Ring). ahead c.args.steps.items (reduced r ms c.args.work.now c.args.rest.terms)) c.ring-ring.ensures)
    c.reduce_long.ensures.follows)

pub returns-in-Err-clause-follows : goal.returns-in-Err-clause-follows
returns-in-Err-clause-follows c =
    let ms = terms_of c.args.basis.now in
    let ring = c.ring-ring.result in
    let all = ahead c.args.steps.items (reduced c.args.rest.ring ms c.args.work.now c.args.rest.terms) in
    let step = next_is ring ms c.steps.rest.terms c.in-Some.head c.in-Some.ensures.head ∙ c.in-Some-find_step.ensures.found in
    let whole = c.steps.invariant.run ∙ ap (λ (r : Ring). ahead c.args.steps.items (reduced r ms c.args.work.now c.args.rest.terms)) c.ring-ring.ensures in
    let h = c.if-not-spend.ensures in let k = c.steps.invariant.spent in
    stopped reduction_value c.in-Err.stop c.args.work.now c.spend.new.self all (λ e. c.in-Err.ensures.paid (ap Err e))
    (λ e. exceeded ring ms c.steps.steps.items c.steps.work c.spend.new.self c.steps.rest.terms all (c.in-Some-find_step.step, c.in-Some-find_step.b.now.terms) step c.if-not-spend.ensures (c.in-Err.ensures.exponent (ap Err e)) whole)
    (omega (arith, h, k))
    (step_leaves ring ms c.steps.steps.items c.steps.work c.spend.new.self c.steps.rest.terms all (c.in-Some-find_step.step, c.in-Some-find_step.b.now.terms) step c.if-not-spend.ensures whole)

pub returns-in_err-push-clause-follows : goal.returns-in_err-push-clause-follows
returns-in_err-push-clause-follows c =
    let ms = terms_of c.args.basis.now in
    let ring = c.ring-ring.result in
    let all = ahead c.args.steps.items (reduced c.args.rest.ring ms c.args.work.now c.args.rest.terms) in
    let step = next_is ring ms c.steps.rest.terms c.in-Some.head c.in-Some.ensures.head ∙ c.in-Some-find_step.ensures.found in
    let whole = c.steps.invariant.run ∙ ap (λ (r : Ring). ahead c.args.steps.items (reduced r ms c.args.work.now c.args.rest.terms)) c.ring-ring.ensures in
    let h = c.if-not-spend.ensures in let k = c.steps.invariant.spent in
    wanted reduction_value c.from_residual.result c.args.work.now c.spend.new.self all c.from_residual.ensures (omega (arith, h, k))
    (step_leaves ring ms c.steps.steps.items c.steps.work c.spend.new.self c.steps.rest.terms all (c.in-Some-find_step.step, c.in-Some-find_step.b.now.terms) step c.if-not-spend.ensures whole)

pub reduce_long-requires-clause-tails : goal.reduce_long-requires-clause-tails
reduce_long-requires-clause-tails c =
    front_for c.steps.rest.ring c.args.rest.ring c.steps.rest.rows c.args.rest.rows (terms_of c.args.basis.now) c.steps.tails.items (c.steps.invariant.ring_is ∙ c.ring-ring.ensures) (c.steps.invariant.rows_is ∙ c.length-rows.ensures)
    c.steps.invariant.tails

pub returns-then-terms-gt-LONG-clause-tails : goal.returns-then-terms-gt-LONG-clause-tails
returns-then-terms-gt-LONG-clause-tails c =
    on_ok_weaker c.reduce_long.result
    (front_for c.args.rest.ring c.steps.rest.ring c.args.rest.rows c.steps.rest.rows (terms_of c.args.basis.now) c.reduce_long.new.tails.items (sym (c.steps.invariant.ring_is ∙ c.ring-ring.ensures)) (sym (c.steps.invariant.rows_is ∙ c.length-rows.ensures)))
    c.reduce_long.ensures.tails
