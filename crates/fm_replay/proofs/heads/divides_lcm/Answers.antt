use Rattle.std.proofs.Common.{sym, ap, ◌∙◌, length, List, ℕ}
use Rattle.fm_replay.proofs.PairHeads.{head_vars, maximum_vars, lcm_is}
use Rattle.fm_replay.proofs.heads.divides_lcm.Goals as goal

pub divides-requires : goal.divides-requires
divides-requires c =
    let r = c.args.ring in
    let s = head_vars r c.args.h.now.ring c.args.h.now.rows c.args.h.now.terms c.in-Some.s c.requires.h_ring c.head.ensures.proper c.in-Some.ensures.head in
    let t = head_vars r c.args.f.now.ring c.args.f.now.rows c.args.f.now.terms c.in-Some-head.t c.requires.f_ring c.head-2.ensures.proper c.in-Some-head.ensures.head in
    let u = head_vars r c.args.g.now.ring c.args.g.now.rows c.args.g.now.terms c.in-Some-head-2.u c.requires.g_ring c.head-3.ensures.proper c.in-Some-head-2.ensures.head in
    s ∙ sym (ap (λ (m : List ℕ). length m) c.lcm.ensures ∙ maximum_vars c.in-Some-head.t c.in-Some-head-2.u r.vars t u)

pub returns : goal.returns
returns c =
    lcm_is c.args.h.now.terms c.args.f.now.terms c.args.g.now.terms c.in-Some.s c.in-Some-head.t c.in-Some-head-2.u c.in-Some.ensures.head c.in-Some-head.ensures.head c.in-Some-head-2.ensures.head
    c.divides.result c.lcm.result c.lcm.ensures c.if-s-t.false c.divides.ensures
