use Rattle.std.proofs.Common.{◌≡◌, ◌∷◌, ◌+◌, [], length, refl, sym, ap, ap₂, ◌∙◌, subst, subst₂, arith}
use Rattle.std.proofs.lemmas.Result.{on_ok_weaker}
use Rattle.fm_certificates.specs.Certificates.{chain_line, matrix_part}
use Rattle.fm_certify.specs.Claims.{HasClaims}
use Rattle.fm_chain.specs.Chains.{AreMembersOf}
use Rattle.fm_mat.specs.Matrices.{AreColumns, matrix_meaning}
use Rattle.fm_report.specs.Parts as parts
use Rattle.fm_report.specs.Parts.{Part}
use Rattle.fm_syz.specs.GeneratorValues.{GeneratorsValue}
use Rattle.fm_syz.specs.GraphValues.{GraphValue}
use Rattle.fm_writer.specs.Claims.{whole_part}
use Rattle.fm_writer.specs.Kinds.{excluding_line}
use Rattle.fm_writer.specs.declared.kinds.Excluding.TheVariants as excluding
use Rattle.fm_certify.proofs.ChainedLinks.{link_claim, link_grows, link_last, outside_over, part_of_u, part_over, preimage_over}
use Rattle.fm_certify.proofs.chains.push_chain.Goals as goal

pub returns-in_default-split_first : goal.returns-in_default-split_first
returns-in_default-split_first c =
    let u = c.args.u.now in
    let rel = c.args.relations.now in
    let chain = c.args.chain.now in
    let r = rel.matrix.ring in
    let g = c.links.graph.now in
    let x = c.in-Some.link.now in
    let fit = subst (AreMembersOf r rel.matrix.rows) c.in-Some.ensures.cases.0 c.links.invariant.fit in
    let part : whole_part c.beside-both.result ≡ parts.beside (part_of_u u rel chain) (parts.twist (matrix_part r (matrix_meaning r g.matrix)) 1) =
    c.beside-both.ensures.value ∙ ap₂ parts.beside (part_over r u u refl c.requires.ring) (c.twist.ensures.value ∙ ap (λ (a : Part). parts.twist a 1) (part_over r g.matrix c.matrix.result.now c.matrix.ensures.same c.links.invariant.ring)) in
    let one : HasClaims r.vars c.links.claims.items (link_claim u rel chain (c.links.number + 1) g x ∷ []) c.push_preimage.new.claims.items =
    preimage_over r x.generators.graph.matrix.ring _ _ x _ _ (chain_line (c.links.number + 1)) fit.0 part c.in_ok-push_preimage.ensures in
    let wide = c.width-width.ensures ∙ ap (λ (h : GraphValue). length h.matrix.columns) c.stable_kernel.ensures in
    on_ok_weaker c.push_columns.result
    (λ two. link_last u rel chain _ _ _ _ c.links.number _ c.width-width.result g x _ c.in-Some.later.now _ _ c.in-Some.ensures.cases.0 c.in_default-split_first.ensures.cases refl wide c.w.ensures one two c.links.invariant.left)
    (c.push_columns.ensures r (subst₂ (AreColumns r) (sym wide) (sym c.w.ensures) c.requires.factor))

pub links-preserved : goal.links-preserved
links-preserved c =
    let u = c.args.u.now in
    let rel = c.args.relations.now in
    let chain = c.args.chain.now in
    let r = rel.matrix.ring in
    let g = c.links.graph.now in
    let x = c.in-Some.link.now in
    let o = c.in-Some-split_first.outside.now in
    let here = c.in-Some.ensures.cases.0 in
    let there = c.in-Some-split_first.ensures.cases.0 in
    let fit = subst (AreMembersOf r rel.matrix.rows) here c.links.invariant.fit in
    let part : whole_part c.beside-both.result ≡ parts.beside (part_of_u u rel chain) (parts.twist (matrix_part r (matrix_meaning r g.matrix)) 1) =
    c.beside-both.ensures.value ∙ ap₂ parts.beside (part_over r u u refl c.requires.ring) (c.twist.ensures.value ∙ ap (λ (a : Part). parts.twist a 1) (part_over r g.matrix c.matrix.result.now c.matrix.ensures.same c.links.invariant.ring)) in
    let one : HasClaims r.vars c.links.claims.items (link_claim u rel chain (c.links.number + 1) g x ∷ []) c.push_preimage.new.claims.items =
    preimage_over r x.generators.graph.matrix.ring _ _ x _ _ (chain_line (c.links.number + 1)) fit.0 part c.in_ok-push_preimage.ensures in
    let two = outside_over r g.matrix.ring _ _ g o (excluding_line (excluding.Grows c.links.number)) c.links.invariant.ring c.in_ok-push_outside.ensures in
    let graph : c.graph-graph.result.now ≡ x.generators.graph = c.graph-graph.ensures ∙ ap (λ (y : GeneratorsValue). y.graph) c.generators.ensures.same in
    let long = ap length here in
    let grown = ap length there in
    let count = c.links.invariant.count in
    let number = c.links.invariant.number in
    record {
      left = link_grows u rel chain _ _ _ _ c.links.number _ g _ x o _ c.in-Some.later.now _ c.in-Some-split_first.more.now here there refl graph one two c.links.invariant.left;
      ring = ap (λ (h : GraphValue). h.matrix.ring) graph ∙ fit.0;
      fit = fit.2;
      count = omega (arith, long, grown, count);
      number = omega (arith, grown, number);
    }
