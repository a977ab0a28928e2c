use Rattle.std.proofs.Common.{◌≡◌, ◌-◌, List, length, OnOk, Option, Some, option_map, option_copied, refl, sym, ap, ◌∙◌, subst}
use Rattle.fm_certificates.specs.Certificates.{link_claims, matrix_part, onto_claims, short_claims}
use Rattle.fm_certify.specs.Claims.{HasClaims}
use Rattle.fm_certify.proofs.JoinedInverted.{ok_then}
use Rattle.fm_certify.proofs.JoinedLines.{named_over}
use Rattle.fm_certify.proofs.JoinedShort.{join_part, never_onto_lines, onto_lines, short_moved}
use Rattle.fm_chain.specs.Chains.{outside_value}
use Rattle.fm_induced.specs.Joins.{IsOntoOver, onto_value}
use Rattle.fm_induced.specs.declared.onto_maps.Onto.{Onto}
use Rattle.fm_mat.specs.Matrices.{matrix_meaning}
use Rattle.fm_support.specs.Inverting.{AreColons, preimages_meaning}
use Rattle.fm_syz.specs.GeneratorValues.{PreimageValue}
use Rattle.fm_syz.specs.GraphValues.{graph_meaning}
use Rattle.fm_writer.specs.Kinds.{named_line}
use Rattle.fm_writer.specs.declared.kinds.Named.TheVariants as named
use Rattle.fm_plan.specs.Queries as plans
use Rattle.fm_certify.proofs.joins.push_onto.Goals as goal

pub returns-in_ok-push_short-in-At : goal.returns-in_ok-push_short-in-At
returns-in_ok-push_short-in-At c =
    let r = c.args.u.now.ring in
    let U = matrix_part r (matrix_meaning r c.args.u.now) in
    let L = join_part r c.args.n.now c.args.phi.now in
    let first = c.in-At.first in
    let w = c.in-At.w in
    let xs = c.as_slice-links.result.now in
    let o = option_map outside_value c.in-At.before in
    let old = c.args.claims.now.items in
    let new = c.push_matrix.new.claims.items in
    let over : (first.matrix.ring ≡ r) × (AreColons first c.in-At.links.items × (w.ring ≡ r)) = subst (IsOntoOver r) c.in-At.is c.requires.over in
    subst (λ (v : Onto). OnOk c.push_matrix.result (HasClaims r.vars old (onto_claims r U L (onto_value r v)) new)) (sym c.in-At.is)
    (subst (λ (ys : List PreimageValue). OnOk c.push_matrix.result (HasClaims r.vars old
    (onto_claims r U L (plans.onto_at (graph_meaning r first) (preimages_meaning r ys) (matrix_meaning r w) o)) new)) c.as_slice-links.ensures.value
    (ok_then c.push_matrix.result _ (HasClaims r.vars old (onto_claims r U L (plans.onto_at (graph_meaning r first) (preimages_meaning r xs) (matrix_meaning r w) o)) new)
    (λ line. onto_lines r U L first xs w old c.push_links.new.claims.items c.push_short.new.claims.items new o (length xs) refl c.in_ok-push_links-in-At.ensures
    (short_moved r first.matrix.ring c.args.n.now c.args.phi.now first xs (option_map outside_value (option_copied c.as_ref.result)) o c.push_links.new.claims.items c.push_short.new.claims.items over.0
    (ap (λ x. option_map outside_value x) c.as_ref.ensures.value) c.in_ok-push_short-in-At.ensures)
    (named_over r w (named_line (named.Onto (length xs))) c.push_short.new.claims.items new over.1.1 line))
    c.push_matrix.ensures))

pub returns-in_ok-push_matrix-in-Never : goal.returns-in_ok-push_matrix-in-Never
returns-in_ok-push_matrix-in-Never c =
    let r = c.args.u.now.ring in
    let U = matrix_part r (matrix_meaning r c.args.u.now) in
    let L = join_part r c.args.n.now c.args.phi.now in
    let first = c.in-Never.first in
    let w = c.in-Never.w in
    let xs = c.as_slice-links-in-Never.result.now in
    let o = outside_value c.in-Never.proper in
    let old = c.args.claims.now.items in
    let new = c.push_short-in-Never.new.claims.items in
    let over : (first.matrix.ring ≡ r) × (AreColons first c.in-Never.links.items × (w.ring ≡ r)) = subst (IsOntoOver r) c.in-Never.is c.requires.over in
    subst (λ (v : Onto). OnOk c.push_short-in-Never.result (HasClaims r.vars old (onto_claims r U L (onto_value r v)) new)) (sym c.in-Never.is)
    (subst (λ (ys : List PreimageValue). OnOk c.push_short-in-Never.result (HasClaims r.vars old
    (onto_claims r U L (plans.never_onto (graph_meaning r first) (preimages_meaning r ys) (matrix_meaning r w) o)) new)) c.as_slice-links-in-Never.ensures.value
    (ok_then c.push_short-in-Never.result _ (HasClaims r.vars old (onto_claims r U L (plans.never_onto (graph_meaning r first) (preimages_meaning r xs) (matrix_meaning r w) o)) new)
    (λ lack. never_onto_lines r U L first xs w old c.push_links-in-Never.new.claims.items c.push_matrix-in-Never.new.claims.items new o c.saturating_sub-last.result c.saturating_sub-last.ensures
    c.in_ok-push_links-in-Never.ensures
    (named_over r w (named_line (named.Closes c.saturating_sub-last.result)) c.push_links-in-Never.new.claims.items c.push_matrix-in-Never.new.claims.items over.1.1 c.in_ok-push_matrix-in-Never.ensures)
    (short_moved r first.matrix.ring c.args.n.now c.args.phi.now first xs (Some o) (Some o) c.push_matrix-in-Never.new.claims.items new over.0 refl lack))
    c.push_short-in-Never.ensures))
