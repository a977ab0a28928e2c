use Rattle.std.proofs.Common.{◌≡◌, List, length, suc, subst, sym, ap, ◌∙◌}
use Rattle.fm_groebner.specs.Graphs.{vector_negative}
use Rattle.fm_poly.specs.Polys.{PolyValue}
use Rattle.fm_vec.specs.Components.{AreOver}
use Rattle.fm_mat.specs.Matrices.{column_meaning}
use Rattle.fm_syz.proofs.Inputs.{if_ok}
use Rattle.fm_syz.proofs.Lower.{over_column, length_column, components_are}
use Rattle.fm_syz.proofs.solving.solution.Goals as goal

pub lower_part-requires : goal.lower_part-requires
lower_part-requires c = let h = c.requires.rows in omega (Rattle.std.proofs.Common.arith, h)

pub negated-requires : goal.negated-requires
negated-requires c = record {
  over = subst (AreOver c.args.ring) (sym (c.entries.ensures ∙ c.in_ok-lower.ensures c.args.ring c.args.c c.requires.ring c.requires.rows)) (over_column c.args.ring c.args.c (suc c.args.m) c.args.rest.now.terms);
}

pub returns-clause-rows : goal.returns-clause-rows
returns-clause-rows c =
    if_ok c.negated.result (λ w h. h ∙ ap length (c.entries.ensures ∙ c.in_ok-lower.ensures c.args.ring c.args.c c.requires.ring c.requires.rows) ∙ length_column c.args.ring c.args.c (suc c.args.m) c.args.rest.now.terms)
    c.negated.ensures.rows

pub returns-clause-value : goal.returns-clause-value
returns-clause-value c =
    if_ok c.negated.result (λ w h. h
    ∙ ap (λ (fs : List PolyValue). vector_negative c.args.ring.prime c.args.ring.vars (column_meaning c.args.ring fs)) (c.entries.ensures ∙ c.in_ok-lower.ensures c.args.ring c.args.c c.requires.ring c.requires.rows)
    ∙ ap (vector_negative c.args.ring.prime c.args.ring.vars) (components_are c.args.ring c.args.c (suc c.args.m) c.args.rest.now.terms))
    c.negated.ensures.value
