use Rattle.std.proofs.Common.{◌∙◌, length, sym, ap, arith, List}
use Rattle.fm_vec.specs.Vectors.{VectorValue}
use Rattle.fm_run.specs.Runs.{Ended, ready}
use Rattle.fm_run.proofs.Spending.{ready_spends}
use Rattle.fm_run.proofs.Calls.{row_wants}
use Rattle.fm_groebner.specs.Logs.{Pair}
use Rattle.fm_complete.specs.Bases.{completion_value}
use Rattle.fm_complete.specs.Completions.{Completion, numbers, kept, s_divided}
use Rattle.fm_complete.specs.Divisions.{terms_of}
use Rattle.fm_complete.specs.Remainders.{RemainderValue}
use Rattle.fm_complete.specs.Trails.{member_at}
use Rattle.fm_complete.proofs.CompletionSpending.{s_divided_spends, s_paid}
use Rattle.fm_complete.proofs.Standing.{length_terms}
use Rattle.fm_complete.proofs.completing.form.Goals as goal

pub s_rest-requires-clause-earlier_high : goal.s_rest-requires-clause-earlier_high
s_rest-requires-clause-earlier_high c =
    let h = c.requires.pairs.pairs.0.0.earlier_high in
    let e = length_terms c.args.c.now.members.items in
    let d = ap (λ (vs : List VectorValue). length vs) c.deref.ensures.value in
    omega (arith, h, e, d)

pub s_rest-requires-clause-later_high : goal.s_rest-requires-clause-later_high
s_rest-requires-clause-later_high c =
    let h = c.requires.pairs.pairs.0.0.later_high in
    let e = length_terms c.args.c.now.members.items in
    let d = ap (λ (vs : List VectorValue). length vs) c.deref.ensures.value in
    omega (arith, h, e, d)

pub keep-requires-clause-pairs : goal.keep-requires-clause-pairs
keep-requires-clause-pairs c = record { pairs = (c.requires.pairs.pairs.0.1, c.requires.pairs.pairs.1.1); compared = c.requires.pairs.compared }

pub returns-in-Err-keep-clause-follows : goal.returns-in-Err-keep-clause-follows
returns-in-Err-keep-clause-follows c =
    let r = c.args.ring in
    let p = c.args.p in
    let ms = terms_of c.args.c.now.members.items in
    let now : Completion = completion_value c.args.c.now in
    row_wants (s_divided r ms (member_at ms p.earlier) (member_at ms p.later)) (λ x. ready (kept r (Pair p.earlier p.later) (numbers x.steps) x.rest now)) c.args.work.now c.s_rest.new.work
    (s_divided_spends r ms (member_at ms p.earlier) (member_at ms p.later)) (λ x. ready_spends (kept r (Pair p.earlier p.later) (numbers x.steps) x.rest now))
    (ap (λ (vs : List VectorValue). (s_divided r (terms_of vs) (member_at (terms_of vs) p.earlier) (member_at (terms_of vs) p.later) c.args.work.now).left) (sym c.deref.ensures.value)
    ∙ ap (λ (d : Ended RemainderValue). d.left) c.in-Ok.ensures.follows)

pub returns-in-Ok-keep-clause-spent : goal.returns-in-Ok-keep-clause-spent
returns-in-Ok-keep-clause-spent c =
    let ms = terms_of c.deref.result.now in
    s_paid c.args.ring ms (member_at ms c.args.p.earlier) (member_at ms c.args.p.later) c.args.work.now c.s_rest.new.work _ c.in-Ok.ensures.follows
