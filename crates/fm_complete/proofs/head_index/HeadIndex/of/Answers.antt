use Rattle.std.proofs.Common.{◌++◌, ◌∷◌, [], length, take, sym, ap, ◌∙◌, subst, arith}
use Rattle.fm_complete.specs.Divisions.{terms_of}
use Rattle.fm_complete.specs.Indexed.{IsIndexOf}
use Rattle.fm_complete.proofs.Indexed.{heads_length, members_at, taken_more, taken_count, all_taken}
use Rattle.fm_complete.proofs.head_index.HeadIndex.of.Goals as goal

pub loop-k-init : goal.loop-k-init
loop-k-init c = record {
  index = record { vectors = tt; heads = c.in_ok-out.ensures };
  count = ap length c.in_ok-out.ensures ∙ heads_length c.args.rows 1 [];
}

pub add-requires-clause-ring : goal.add-requires-clause-ring
add-requires-clause-ring c = (members_at c.args.ring c.args.rows c.args.members.now c.loop-k.k c.index-members-k.result c.requires.members (omega arith) c.index-members-k.is).0

pub add-requires-clause-count : goal.add-requires-clause-count
add-requires-clause-count c = c.loop-k.invariant.count ∙ sym (members_at c.args.ring c.args.rows c.args.members.now c.loop-k.k c.index-members-k.result c.requires.members (omega arith) c.index-members-k.is).1

pub add-requires-clause-some : goal.add-requires-clause-some
add-requires-clause-some c = (members_at c.args.ring c.args.rows c.args.members.now c.loop-k.k c.index-members-k.result c.requires.members (omega arith) c.index-members-k.is).2

pub loop-k-preserved : goal.loop-k-preserved
loop-k-preserved c =
    let r = c.args.ring in
    let vs = c.args.members.now in
    let k = c.loop-k.k in
    let v = c.index-members-k.result in
    let m = members_at r c.args.rows vs k v c.requires.members (omega arith) c.index-members-k.is in
    let ms = terms_of (take k vs) in
    record {
      index = subst (λ x. IsIndexOf r c.args.rows x c.add.new.self) (taken_more vs k v (omega arith) c.index-members-k.is)
          (subst (λ n. IsIndexOf r n (ms ++ v.terms ∷ []) c.add.new.self) m.1
          (c.in_ok-add.ensures.index ms (subst (λ n. IsIndexOf r n ms c.loop-k.out) (sym m.1) c.loop-k.invariant.index) (taken_count vs k (omega arith))));
      count = c.in_ok-add.ensures.count ∙ c.loop-k.invariant.count;
    }

pub returns : goal.returns
returns c = subst (λ x. IsIndexOf c.args.ring c.args.rows x c.loop-k.out) (all_taken c.args.members.now c.loop-k.k (omega arith)) c.loop-k.invariant.index
