use Rattle.std.proofs.Common.{◌++◌, ◌∷◌, [], ◌∙◌, sym, ap, subst}
use Rattle.fm_poly.specs.Polys.{PolyValue}
use Rattle.fm_vec.specs.Components.{AreOver}
use Rattle.fm_mat.specs.Matrices.{column_meaning}
use Rattle.fm_mat.proofs.Steps.{over_more}
use Rattle.fm_conditions.specs.Listings.{nonzeros}
use Rattle.fm_conditions.proofs.NonzeroEntries.{seen, pushed, passed, passed_none}
use Rattle.fm_conditions.proofs.listing.push_nonzero.Goals as goal

pub returns-in_default-clause-value : goal.returns-in_default-clause-value
returns-in_default-clause-value c = passed_none c.args.ring c.args.entries.now c.args.out.now.items c.in_default.ensures.cases

pub returns-in_ok-push-clause-over : goal.returns-in_ok-push-clause-over
returns-in_ok-push-clause-over c =
    let r = c.args.ring in
    let over = subst (AreOver r) c.in-Some.ensures.cases.0 c.requires.over in
    subst (AreOver r) (sym c.in_ok-push.ensures.items)
    (over_more r c.args.out.now.items c.in_ok-copy.field-0 c.requires.out (ap (λ (x : PolyValue). x.ring) c.in_ok-copy.ensures ∙ over.0))

pub returns-in_ok-push-clause-value : goal.returns-in_ok-push-clause-value
returns-in_ok-push-clause-value c =
    let r = c.args.ring in
    let here = c.in-Some.ensures.cases.0 in
    let test = seen r c.args.entries.now c.in-Some._later.now c.split_at.result.0.now c.in-Some.f.now c.in_ok-vector_of.field-0.terms c.head-2.result c.is_some.result here c.split_at.ensures.front
    c.in_ok-vector_of.ensures.terms c.head-2.ensures.head c.is_some.ensures in
    pushed r c.in-Some.f.now c.in_ok-copy.field-0 c.in-Some._later.now c.args.out.now.items c.push.new.self.items (sym c.if-is_some.true ∙ test) c.in_ok-copy.ensures c.in_ok-push.ensures.items
    ∙ ap (λ fs. column_meaning r c.args.out.now.items ++ nonzeros r (column_meaning r fs ∷ [])) (sym here)

pub returns-else-is_some-clause-value : goal.returns-else-is_some-clause-value
returns-else-is_some-clause-value c =
    let r = c.args.ring in
    let here = c.in-Some.ensures.cases.0 in
    let test = seen r c.args.entries.now c.in-Some._later.now c.split_at.result.0.now c.in-Some.f.now c.in_ok-vector_of.field-0.terms c.head-2.result c.is_some.result here c.split_at.ensures.front
    c.in_ok-vector_of.ensures.terms c.head-2.ensures.head c.is_some.ensures in
    passed r c.in-Some.f.now c.in-Some._later.now c.args.out.now.items (sym c.if-is_some.false ∙ test)
    ∙ ap (λ fs. column_meaning r c.args.out.now.items ++ nonzeros r (column_meaning r fs ∷ [])) (sym here)
