use Rattle.std.proofs.Common.{◌∙◌, sym, ap, ap₂, List}
use Rattle.fm_poly.specs.declared.ring.Ring.{Ring}
use Rattle.fm_vec.specs.Vectors.{VectorValue}
use Rattle.fm_run.specs.Runs.{Ended, ready}
use Rattle.fm_run.proofs.Spending.{ready_spends}
use Rattle.fm_run.proofs.Calls.{row_wants}
use Rattle.fm_groebner.specs.Logs.{Input}
use Rattle.fm_complete.specs.Bases.{completion_value}
use Rattle.fm_complete.specs.Completions.{Completion, numbers, kept}
use Rattle.fm_complete.specs.Divisions.{terms_of}
use Rattle.fm_complete.specs.Reductions.{divided}
use Rattle.fm_complete.specs.Remainders.{RemainderValue}
use Rattle.fm_complete.proofs.Spending.{divided_run_spends}
use Rattle.fm_complete.proofs.completing.take_input.Goals as goal

pub returns-in-Err-keep-clause-follows : goal.returns-in-Err-keep-clause-follows
returns-in-Err-keep-clause-follows c =
    let r = c.args.ring in
    let v = c.args.v.now.terms in
    let ms = terms_of c.args.c.now.members.items in
    let now : Completion = completion_value c.args.c.now in
    row_wants (λ units. divided r ms units v) (λ x. ready (kept r (Input c.args.number) (numbers x.steps) x.rest now)) c.args.work.now c.divided_rest.new.work
    (divided_run_spends r ms v) (λ x. ready_spends (kept r (Input c.args.number) (numbers x.steps) x.rest now))
    (ap₂ (λ (q : Ring) (vs : List VectorValue). (divided q (terms_of vs) c.args.work.now v).left) (sym c.requires.ring) (sym c.deref.ensures.value)
    ∙ ap (λ (d : Ended RemainderValue). d.left) c.in-Ok.ensures.follows)
