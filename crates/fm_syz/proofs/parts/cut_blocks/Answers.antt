use Rattle.std.proofs.Common.{◌≡◌, ◌+◌, ◌∷◌, ◌++◌, length, take, drop, sym, ap, ◌∙◌, subst, arith, List}
use Rattle.fm_poly.specs.Polys.{PolyValue}
use Rattle.fm_vec.specs.Vectors.{VectorValue}
use Rattle.fm_complete.specs.Divisions.{AreMembers, terms_of}
use Rattle.fm_mat.specs.Matrices.{AreColumns, columns_meaning}
use Rattle.fm_mat.proofs.Steps.{columns_more}
use Rattle.fm_syz.proofs.CutBlocks.{Cuts, block_room, upper_over, lower_over, upper_long, lower_long, upper_means, lower_means, cut_taken}
use Rattle.fm_syz.proofs.parts.cut_blocks.Goals as goal

pub members-preserved-in_ok-push-2 : goal.members-preserved-in_ok-push-2
members-preserved-in_ok-push-2 c =
    let r = c.args.ring in
    let m = c.args.m in
    let a = c.args.a in
    let b = c.args.b in
    let v : VectorValue = c.in-Some.v.now in
    let here : c.members.members.now ≡ v ∷ c.in-Some.later.now = c.in-Some.ensures.cases.0 in
    let members : AreMembers r (m + (a + b)) (v ∷ c.in-Some.later.now) = subst (AreMembers r (m + (a + b))) here c.members.invariant.members in
    let block = c.in_ok-block.block.items in
    let is = c.in_ok-block.ensures r (a + b) members.0 members.1 in
    let upper = c.new-then-is_below.result in
    let lower = c.new-then-is_below-2.result in
    let first = c.new-then-is_below.ensures ∙ c.in_ok-rest.ensures.items in
    let second = c.new-then-is_below-2.ensures ∙ c.in_ok-rest.ensures.tail in
    let pushed = c.in_ok-push.ensures.items in
    let pushed' = c.in_ok-push-2.ensures.items in
    record {
      members = members.3;
      upper_shape = subst (AreColumns r a) (sym {A = List (List PolyValue)} pushed) (columns_more r a c.members.upper.items upper c.members.invariant.upper_shape
          (upper_over r m a b v.terms block upper lower is first) (upper_long r m a b v.terms block upper lower is first));
      lower_shape = subst (AreColumns r b) (sym {A = List (List PolyValue)} pushed') (columns_more r b c.members.lower.items lower c.members.invariant.lower_shape
          (lower_over r m a b v.terms block upper lower is second) (lower_long r m a b v.terms block upper lower is second));
      few = (let k = c.members.invariant.few in let h = ap (λ (vs : List VectorValue). length vs) here in let l = c.in_ok-push.ensures.len in omega (arith, k, h, l));
      count = (let k = c.members.invariant.count in let h = c.in_ok-push.ensures.len in let l = c.in_ok-push-2.ensures.len in omega (arith, k, h, l));
      upper = cut_taken r m (a + b) (take a) v.terms (terms_of c.in-Some.later.now) _ c.is_below.result c.members.upper.items c.push.new.self.items upper c.if-is_below.true c.is_below.ensures
          (upper_means r m a b v.terms block upper lower is first) pushed (ap (λ (vs : List VectorValue). columns_meaning r c.members.upper.items ++ Cuts r m (a + b) (take a) (terms_of vs)) (sym here) ∙ c.members.invariant.upper);
      lower = cut_taken r m (a + b) (drop a) v.terms (terms_of c.in-Some.later.now) _ c.is_below.result c.members.lower.items c.push-then-is_below.new.self.items lower c.if-is_below.true c.is_below.ensures
          (lower_means r m a b v.terms block upper lower is second) pushed' (ap (λ (vs : List VectorValue). columns_meaning r c.members.lower.items ++ Cuts r m (a + b) (drop a) (terms_of vs)) (sym here) ∙ c.members.invariant.lower);
    }

pub split_off-requires : goal.split_off-requires
split_off-requires c =
    let r = c.args.ring in
    let n = c.args.a + c.args.b in
    let v : VectorValue = c.in-Some.v.now in
    let members : AreMembers r (c.args.m + n) (v ∷ c.in-Some.later.now) = subst (AreMembers r (c.args.m + n)) c.in-Some.ensures.cases.0 c.members.invariant.members in
    let h = block_room r c.args.m c.args.a c.args.b v.terms c.in_ok-block.block.items (c.in_ok-block.ensures r n members.0 members.1) in
    omega (arith, h)
