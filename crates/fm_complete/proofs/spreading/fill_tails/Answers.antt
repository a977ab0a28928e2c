use Rattle.std.proofs.Common.{◌++◌, ◌∷◌, ◌∙◌, ◌≡◌, [], List, length, get_or, sym, ap, subst, arith}
use Rattle.fm_poly.specs.Polys.{PolyValue}
use Rattle.fm_complete.specs.Divisions.{terms_of}
use Rattle.fm_complete.specs.Spread.{IsFront, tail_columns}
use Rattle.fm_complete.proofs.Indexed.{members_at, front_next, front_all}
use Rattle.fm_complete.proofs.spreading.fill_tails.Goals as goal

pub returns-then-k-basis : goal.returns-then-k-basis
returns-then-k-basis c =
    front_all c.args.ring c.args.rows c.args.basis.now c.members.tails.items c.members.invariant (let a = c.len-k.ensures in let b = c.if-k-basis.true in omega (arith, a, b))

pub without_head-requires-clause-ring : goal.without_head-requires-clause-ring
without_head-requires-clause-ring c =
    (members_at c.args.ring c.args.rows c.args.basis.now c.len-k.result c.index-basis-k.result c.requires.members (let b = c.if-k-basis.false in omega (arith, b)) c.index-basis-k.is).0

pub without_head-requires-clause-rows : goal.without_head-requires-clause-rows
without_head-requires-clause-rows c =
    (members_at c.args.ring c.args.rows c.args.basis.now c.len-k.result c.index-basis-k.result c.requires.members (let b = c.if-k-basis.false in omega (arith, b)) c.index-basis-k.is).1

pub members-preserved : goal.members-preserved
members-preserved c =
    let old = c.members.tails.items in
    let v = c.index-basis-k.result in
    let k : c.len-k.result ≡ length old = (let a = c.len-k.ensures in omega (arith, a)) in
    subst (λ xs. IsFront xs (tail_columns c.args.ring c.args.rows (terms_of c.args.basis.now)))
    (sym (c.in_ok-push.ensures.items ∙ ap (λ (x : List PolyValue). old ++ x ∷ []) c.in_ok-without_head.ensures))
    (front_next c.args.ring c.args.rows c.args.basis.now old v c.members.invariant (let b = c.if-k-basis.false in omega (arith, b, k)) (c.index-basis-k.is ∙ ap (λ n. get_or c.args.basis.now n v) k))
