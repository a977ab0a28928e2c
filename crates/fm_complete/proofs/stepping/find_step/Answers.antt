use Rattle.std.proofs.Common.{◌∙◌, List, sym, ap, ap₂, arith, Some}
use Rattle.fm_term.specs.declared.vterm.VTerm.{VTerm}
use Rattle.fm_complete.specs.declared.step.Step.{Step}
use Rattle.fm_complete.specs.Divisions.{terms_of}
use Rattle.fm_complete.specs.Indexed.{first_head}
use Rattle.fm_complete.proofs.Indexed.{none_step, picked, each_term}
use Rattle.fm_complete.proofs.Standing.{length_terms}
use Rattle.fm_complete.proofs.stepping.find_step.Goals as goal

pub first_dividing-requires-clause-heads : goal.first_dividing-requires-clause-heads
first_dividing-requires-clause-heads c =
    let ms = terms_of c.args.basis.now in
    each_term c.args.ring c.args.rows ms c.args.t.now.component c.row.result.now c.requires.heads.vectors (c.row.ensures c.args.ring c.args.rows ms c.requires.heads)

pub returns-in_default-clause-found : goal.returns-in_default-clause-found
returns-in_default-clause-found c =
    let t = c.args.t.now in
    let ms = terms_of c.args.basis.now in
    none_step c.args.ring t 1 ms (ap (λ hs. first_head hs t) (sym (c.row.ensures c.args.ring c.args.rows ms c.requires.heads)) ∙ sym c.first_dividing.ensures ∙ c.in_default.is)

pub member-b-requires-clause-low : goal.member-b-requires-clause-low
member-b-requires-clause-low c =
    let ms = terms_of c.args.basis.now in
    (picked c.args.ring c.args.rows ms c.args.t.now c.in-Some.head c.row.result.now c.requires.heads.vectors (c.row.ensures c.args.ring c.args.rows ms c.requires.heads) (sym c.first_dividing.ensures ∙ c.in-Some.is)).low

pub member-b-requires-clause-high : goal.member-b-requires-clause-high
member-b-requires-clause-high c =
    let ms = terms_of c.args.basis.now in
    let h = (picked c.args.ring c.args.rows ms c.args.t.now c.in-Some.head c.row.result.now c.requires.heads.vectors (c.row.ensures c.args.ring c.args.rows ms c.requires.heads) (sym c.first_dividing.ensures ∙ c.in-Some.is)).high in
    let l = length_terms c.args.basis.now in
    omega (arith, h, l)

pub step_to-step-requires-clause-b_term : goal.step_to-step-requires-clause-b_term
step_to-step-requires-clause-b_term c =
    let ms = terms_of c.args.basis.now in
    (picked c.args.ring c.args.rows ms c.args.t.now c.in-Some.head c.row.result.now c.requires.heads.vectors (c.row.ensures c.args.ring c.args.rows ms c.requires.heads) (sym c.first_dividing.ensures ∙ c.in-Some.is)).term

pub step_to-step-requires-clause-divides : goal.step_to-step-requires-clause-divides
step_to-step-requires-clause-divides c =
    let ms = terms_of c.args.basis.now in
    (picked c.args.ring c.args.rows ms c.args.t.now c.in-Some.head c.row.result.now c.requires.heads.vectors (c.row.ensures c.args.ring c.args.rows ms c.requires.heads) (sym c.first_dividing.ensures ∙ c.in-Some.is)).divides

pub returns-clause-found : goal.returns-clause-found
returns-clause-found c =
    let ms = terms_of c.args.basis.now in
    (picked c.args.ring c.args.rows ms c.args.t.now c.in-Some.head c.row.result.now c.requires.heads.vectors (c.row.ensures c.args.ring c.args.rows ms c.requires.heads) (sym c.first_dividing.ensures ∙ c.in-Some.is)).step
    ∙ ap₂ (λ (s : Step) (g : List VTerm). Some (s, g)) (sym c.step_to-step.ensures.value) (sym c.member-b.ensures.terms)
