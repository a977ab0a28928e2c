use Rattle.std.proofs.Common.{◌∷◌, ◌++◌, ◌<◌, length, ap, sym, ◌∙◌, subst, arith}
use Rattle.fm_gfp.specs.Primes.{prime_value}
use Rattle.fm_groebner.specs.Graphs.{vector_negative}
use Rattle.fm_poly.specs.Polys.{PolyValue, meaning}
use Rattle.fm_poly.specs.declared.ring.Ring.{Ring}
use Rattle.fm_vec.specs.Components.{AreOver}
use Rattle.fm_mat.specs.Matrices.{column_meaning}
use Rattle.fm_mat.proofs.Steps.{mapped_more, over_more}
use Rattle.fm_syz.proofs.Negating.{negative_at}
use Rattle.fm_syz.proofs.solving.negated.Goals as goal

pub scale-requires : goal.scale-requires
scale-requires c =
    let over : AreOver c.args.ring (c.in-Some.f.now ∷ c.in-Some.later.now) = subst (AreOver c.args.ring) c.in-Some.ensures.cases.0 c.entries.invariant.over in
    subst (λ (s : Ring). c.neg-minus_one.result < prime_value s.prime) (sym over.0) c.neg-minus_one.ensures.below

pub entries-preserved : goal.entries-preserved
entries-preserved c =
    let r = c.args.ring in
    let here = c.in-Some.ensures.cases.0 in
    let over : AreOver r (c.in-Some.f.now ∷ c.in-Some.later.now) = subst (AreOver r) here c.entries.invariant.over in
    let pushed = c.in_ok-push.ensures.items in
    record {
      over = over.1;
      out_over = subst (AreOver r) (sym pushed) (over_more r c.entries.out.items c.in_ok-scale.field-0 c.entries.invariant.out_over (c.in_ok-scale.ensures.ring ∙ over.0));
      count = omega (arith, c.entries.invariant.count, ap length here, c.in_ok-push.ensures.len);
      whole = mapped_more (λ (h : PolyValue). meaning r h.terms) c.entries.out.items c.in_ok-scale.field-0 _ _ _ c.push.new.self.items pushed
          (negative_at r c.in-Some.f.now.ring c.element.result c.neg-minus_one.result c.in-Some.f.now.terms c.in_ok-scale.field-0.terms over.0 c.element.ensures.exact c.neg-minus_one.ensures.exact c.in_ok-scale.ensures.multiple)
          (ap (λ b. column_meaning r c.entries.out.items ++ vector_negative r.prime r.vars (column_meaning r b)) (sym here) ∙ c.entries.invariant.whole);
    }
