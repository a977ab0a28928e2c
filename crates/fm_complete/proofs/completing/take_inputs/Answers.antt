use Rattle.std.proofs.Common.{suc, ◌≡◌, ◌∷◌, ◌∙◌, ◌+◌, ap, sym, subst, arith, drop, List}
use Rattle.fm_vec.specs.Vectors.{VectorValue}
use Rattle.fm_run.specs.Runs.{halt_of}
use Rattle.fm_complete.specs.Bases.{completion_value}
use Rattle.fm_complete.specs.Completions.{with_inputs}
use Rattle.fm_complete.specs.Divisions.{terms_of}
use Rattle.fm_complete.specs.Standing.{AreOfShape, values}
use Rattle.fm_complete.proofs.Standing.{values_at}
use Rattle.fm_complete.proofs.TakingInputs.{input_next, input_halts, input_left}
use Rattle.fm_complete.proofs.completing.take_inputs.Goals as goal

pub take_input-requires-clause-ring : goal.take_input-requires-clause-ring
take_input-requires-clause-ring c =
    let v = c.index-inputs-k.result in
    (subst (AreOfShape c.args.ring c.args.rows) (values_at c.args.inputs.now c.loop-k.k v (omega arith) c.index-inputs-k.is) c.loop-k.invariant.inputs).0

pub take_input-requires-clause-rows : goal.take_input-requires-clause-rows
take_input-requires-clause-rows c =
    let v = c.index-inputs-k.result in
    (subst (AreOfShape c.args.ring c.args.rows) (values_at c.args.inputs.now c.loop-k.k v (omega arith) c.index-inputs-k.is) c.loop-k.invariant.inputs).1

pub loop-k-preserved : goal.loop-k-preserved
loop-k-preserved c =
    let r = c.args.ring in
    let k = c.loop-k.k in
    let v = c.index-inputs-k.result in
    let later = values (drop (k + 1) c.args.inputs.now) in
    let whole : values (drop k c.args.inputs.now) ≡ v.now ∷ later = values_at c.args.inputs.now k v (omega arith) c.index-inputs-k.is in
    let state = completion_value c.loop-k.c in
    let state' = completion_value c.take_input.new.c in
    record {
      inputs = (subst (AreOfShape r c.args.rows) whole c.loop-k.invariant.inputs).2;
      run = input_next r k v.now.terms (terms_of later) state c.loop-k.work c.take_input.new.work state' c.in-Ok.ensures.follows
          ∙ ap (λ (vs : List VectorValue). with_inputs r (suc k) (terms_of vs) state c.loop-k.work) (sym whole) ∙ c.loop-k.invariant.run;
      spent = (let h = input_left r k v.now.terms (terms_of later) state c.loop-k.work c.take_input.new.work state' c.in-Ok.ensures.follows in
          let s = c.loop-k.invariant.spent in omega (arith, h, s));
      standing = c.in-Ok.ensures.standing;
      ready = c.in-Ok.ensures.ready;
      pairs = c.in-Ok.ensures.pairs;
    }

pub returns-in-Err-clause-follows : goal.returns-in-Err-clause-follows
returns-in-Err-clause-follows c =
    let r = c.args.ring in
    let k = c.loop-k.k in
    let v = c.index-inputs-k.result in
    let later = values (drop (k + 1) c.args.inputs.now) in
    let whole : values (drop k c.args.inputs.now) ≡ v.now ∷ later = values_at c.args.inputs.now k v (omega arith) c.index-inputs-k.is in
    let state = completion_value c.loop-k.c in
    input_halts r k v.now.terms (terms_of later) state c.args.work.now c.loop-k.work c.take_input.new.work
    (with_inputs r 1 (terms_of (values c.args.inputs.now)) (completion_value c.args.c.now) c.args.work.now) c.loop-k.invariant.spent
    (ap (λ (vs : List VectorValue). with_inputs r (suc k) (terms_of vs) state c.loop-k.work) (sym whole) ∙ c.loop-k.invariant.run) (halt_of c.in-Err.stop) c.in-Err.ensures.follows
