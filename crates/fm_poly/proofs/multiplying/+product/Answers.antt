use Rattle.std.proofs.Common.{sym, ◌∙◌, rules}
use Rattle.std.proofs.lemmas.Bool.{eqb-true}
use Rattle.fm_poly.proofs.CollectSteps.{merged}
use Rattle.fm_poly.proofs.ProductSteps.{canonical_terms, front_of, back_of, no_row, one_row, two_halves}
use Rattle.fm_poly.proofs.multiplying.+product.Goals as goal

pub returns-in_default-clause-product : goal.returns-in_default-clause-product
returns-in_default-clause-product t c = no_row c.args.ring _ _ _ c.in_default.ensures.cases c.new.ensures.items

pub row-requires-clause-terms : goal.row-requires-clause-terms
row-requires-clause-terms t c = canonical_terms c.args.ring _ c.requires.g_canonical

pub returns-then-is_empty-clause-canonical : goal.returns-then-is_empty-clause-canonical
returns-then-is_empty-clause-canonical t c =
    (one_row c.args.ring _ _ _ _ _ c.in-Some.ensures.cases.0 (eqb-true _ _ (sym c.is_empty.ensures ∙ c.if-is_empty.true)) c.requires.f_canonical c.requires.g_canonical c.in_ok-terms.ensures.terms).canonical

pub returns-then-is_empty-clause-product : goal.returns-then-is_empty-clause-product
returns-then-is_empty-clause-product t c =
    (one_row c.args.ring _ _ _ _ _ c.in-Some.ensures.cases.0 (eqb-true _ _ (sym c.is_empty.ensures ∙ c.if-is_empty.true)) c.requires.f_canonical c.requires.g_canonical c.in_ok-terms.ensures.terms).product

pub product-requires : goal.product-requires
product-requires t c = (search rules, (front_of c.args.ring _ _ _ c.split_at.ensures.by_index.0 c.requires.f_canonical, c.requires.g_canonical))

pub product-requires-2 : goal.product-requires-2
product-requires-2 t c = (search rules, (back_of c.args.ring _ _ _ c.split_at.ensures.by_index.0 c.requires.f_canonical, c.requires.g_canonical))

pub returns-clause-product : goal.returns-clause-product
returns-clause-product t c =
    two_halves c.args.ring _ _ _ _ _ _ _ c.split_at.ensures.by_index.0 c.in_ok-first.ensures.product c.in_ok-second.ensures.product
    (merged c.args.ring _ _ _ _ _ c.deref.ensures.value c.deref-2.ensures.value c.in_ok-sum.ensures.sum)
