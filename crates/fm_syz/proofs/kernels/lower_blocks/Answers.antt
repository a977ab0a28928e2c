use Rattle.std.proofs.Common.{◌≡◌, ◌+◌, ◌∷◌, ◌++◌, length, suc, map, sym, ap, ◌∙◌, subst, arith, List}
use Rattle.std.specs.List.{filter}
use Rattle.fm_poly.specs.Polys.{PolyValue}
use Rattle.fm_vec.specs.Vectors.{VectorValue}
use Rattle.fm_vec.specs.Components.{AreOver}
use Rattle.fm_complete.specs.Divisions.{AreMembers, terms_of}
use Rattle.fm_graphs.specs.Graphs.{is_below, lower_block}
use Rattle.fm_mat.specs.Matrices.{AreColumns, columns_meaning}
use Rattle.fm_mat.proofs.Steps.{columns_more}
use Rattle.fm_syz.proofs.Lower.{block_taken, over_column, length_column}
use Rattle.fm_syz.proofs.kernels.lower_blocks.Goals as goal

pub members-preserved-in_ok-push : goal.members-preserved-in_ok-push
members-preserved-in_ok-push c =
    let r = c.args.ring in
    let m = c.args.m in
    let n = c.args.c in
    let v : VectorValue = c.in-Some.v.now in
    let here : c.members.members.now ≡ v ∷ c.in-Some.later.now = c.in-Some.ensures.cases.0 in
    let members : AreMembers r (m + n) (v ∷ c.in-Some.later.now) = subst (AreMembers r (m + n)) here c.members.invariant.members in
    let lower = c.in_ok-lower_part.field-0 in
    let is = c.in_ok-lower_part.ensures r n members.0 members.1 in
    let pushed = c.in_ok-push.ensures.items in
    record {
      members = members.3;
      shape = subst (AreColumns r n) (sym {A = List (List PolyValue)} pushed) (columns_more r n c.members.out.items lower c.members.invariant.shape
          (subst (AreOver r) (sym is) (over_column r n (suc m) v.terms)) (ap length is ∙ length_column r n (suc m) v.terms));
      few = (let k = c.members.invariant.few in let h = ap (λ (vs : List VectorValue). length vs) here in let l = c.in_ok-push.ensures.len in omega (arith, k, h, l));
      whole = block_taken r m n v.terms (terms_of c.in-Some.later.now) _ c.is_below.result c.members.out.items c.push.new.self.items lower c.if-is_below.true c.is_below.ensures is pushed
          (ap (λ (vs : List VectorValue). columns_meaning r c.members.out.items ++ map (lower_block r m n) (filter (is_below m) (terms_of vs))) (sym here) ∙ c.members.invariant.whole);
    }
