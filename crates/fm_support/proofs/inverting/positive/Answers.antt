use Rattle.std.proofs.Common.{◌≡◌, ◌-◌, suc, Ok, Err, sym, ◌∙◌, subst, arith}
use Rattle.fm_mat.specs.Matrices.{matrix_meaning}
use Rattle.fm_plan.specs.Queries.{by_power}
use Rattle.fm_poly.specs.Polys.{meaning}
use Rattle.fm_run.specs.Runs.{Follows, halt_of}
use Rattle.fm_run.proofs.Parts.{failed}
use Rattle.fm_support.specs.Inverting.{inverted_value}
use Rattle.fm_support.specs.Powers.{power_work}
use Rattle.fm_support.specs.declared.inverting.Inverted.{Inverted}
use Rattle.fm_support.specs.declared.inverting.Inverted.TheVariants.{Power}
use Rattle.fm_support.proofs.PowerRuns.{power_halts, power_on, lift_halts, lift_on, before_halts, power_next_is, inside_halts, inside_ends}
use Rattle.fm_syz.specs.GraphValues.{graph_meaning}
use Rattle.fm_support.proofs.inverting.positive.Goals as goal

pub returns-in_err-before-clause-follows : goal.returns-in_err-before-clause-follows
returns-in_err-before-clause-follows c =
    let r = c.args.g.now.matrix.ring in
    let F = meaning r c.args.f.now.terms in
    let G = graph_meaning r c.args.g.now in
    let old = c.args.work.now in
    let j = c.args.k - 1 in
    let next : suc j ≡ c.args.k = omega (arith, c.requires.positive) in
    let z = c.in_err-before.field-0.0 in
    failed (inverted_value r) halt_of c.from_residual.result z old old (power_work r c.args.k F G old) c.from_residual.ensures
    (subst (λ k. Follows {X = Inverted} (inverted_value r) (Err z) old old (power_work r k F G old)) next (before_halts r j F G (inverted_value r) old old z (c.in_err-before.ensures.follows r old c.requires.ring)))

pub returns-in_err-top-clause-follows : goal.returns-in_err-top-clause-follows
returns-in_err-top-clause-follows c =
    let r = c.args.g.now.matrix.ring in
    let F = meaning r c.args.f.now.terms in
    let G = graph_meaning r c.args.g.now in
    let old = c.args.work.now in
    let j = c.args.k - 1 in
    let next : suc j ≡ c.args.k = omega (arith, c.requires.positive) in
    let z = c.in_err-top.field-0.0 in
    let b = meaning r c.in_ok-before.before.terms in
    failed (inverted_value r) halt_of c.from_residual-in_err-top.result z old old (power_work r c.args.k F G old) c.from_residual-in_err-top.ensures
    (subst (λ k. Follows {X = Inverted} (inverted_value r) (Err z) old old (power_work r k F G old)) next (power_halts r (suc j) F G (inverted_value r) old old z
    (power_next_is r j F G (inverted_value r) old b (c.in_ok-before.ensures.follows r old c.requires.ring) old (Err z) (c.in_err-top.ensures.follows r old j c.requires.ring (c.in_ok-before.ensures.value r c.requires.ring)))))

pub returns-in_err-w-clause-follows : goal.returns-in_err-w-clause-follows
returns-in_err-w-clause-follows c =
    let r = c.args.g.now.matrix.ring in
    let F = meaning r c.args.f.now.terms in
    let G = graph_meaning r c.args.g.now in
    let old = c.args.work.now in
    let mid = c.lift_scalar.new.work in
    let j = c.args.k - 1 in
    let next : suc j ≡ c.args.k = omega (arith, c.requires.positive) in
    let z = c.in_err-w.field-0.0 in
    let b = meaning r c.in_ok-before.before.terms in
    let h = meaning r c.in_ok-top.top.terms in
    let whole = power_next_is r j F G (inverted_value r) old b (c.in_ok-before.ensures.follows r old c.requires.ring) old (Ok c.in_ok-top.top) (c.in_ok-top.ensures.follows r old j c.requires.ring (c.in_ok-before.ensures.value r c.requires.ring)) in
    failed (inverted_value r) halt_of c.from_residual-in_err-w.result z old mid (power_work r c.args.k F G old) c.from_residual-in_err-w.ensures
    (subst (λ k. Follows {X = Inverted} (inverted_value r) (Err z) old mid (power_work r k F G old)) next
    (power_on r (suc j) F G (inverted_value r) old old h whole mid (Err z) (lift_halts r (suc j) F G (inverted_value r) h old mid z c.in_err-w.ensures.follows)))

pub returns-in_err-inside-clause-follows : goal.returns-in_err-inside-clause-follows
returns-in_err-inside-clause-follows c =
    let r = c.args.g.now.matrix.ring in
    let F = meaning r c.args.f.now.terms in
    let G = graph_meaning r c.args.g.now in
    let old = c.args.work.now in
    let mid = c.lift_scalar.new.work in
    let new = c.inside_scalar.new.work in
    let j = c.args.k - 1 in
    let next : suc j ≡ c.args.k = omega (arith, c.requires.positive) in
    let z = c.in_err-inside.field-0.0 in
    let b = meaning r c.in_ok-before.before.terms in
    let h = meaning r c.in_ok-top.top.terms in
    let m = matrix_meaning r c.in_ok-w.w in
    let whole = power_next_is r j F G (inverted_value r) old b (c.in_ok-before.ensures.follows r old c.requires.ring) old (Ok c.in_ok-top.top) (c.in_ok-top.ensures.follows r old j c.requires.ring (c.in_ok-before.ensures.value r c.requires.ring)) in
    failed (inverted_value r) halt_of c.from_residual-in_err-inside.result z old new (power_work r c.args.k F G old) c.from_residual-in_err-inside.ensures
    (subst (λ k. Follows {X = Inverted} (inverted_value r) (Err z) old new (power_work r k F G old)) next
    (power_on r (suc j) F G (inverted_value r) old old h whole new (Err z) (lift_on r (suc j) F G (inverted_value r) h old mid m c.in_ok-w.ensures.follows new (Err z)
    (inside_halts r j F G (inverted_value r) b (c.in_ok-before.ensures.value r c.requires.ring) m mid new z c.in_err-inside.ensures.follows))))

pub returns-clause-follows : goal.returns-clause-follows
returns-clause-follows c =
    let r = c.args.g.now.matrix.ring in
    let F = meaning r c.args.f.now.terms in
    let G = graph_meaning r c.args.g.now in
    let old = c.args.work.now in
    let mid = c.lift_scalar.new.work in
    let new = c.inside_scalar.new.work in
    let j = c.args.k - 1 in
    let next : suc j ≡ c.args.k = omega (arith, c.requires.positive) in
    let b = meaning r c.in_ok-before.before.terms in
    let h = meaning r c.in_ok-top.top.terms in
    let m = matrix_meaning r c.in_ok-w.w in
    let whole = power_next_is r j F G (inverted_value r) old b (c.in_ok-before.ensures.follows r old c.requires.ring) old (Ok c.in_ok-top.top) (c.in_ok-top.ensures.follows r old j c.requires.ring (c.in_ok-before.ensures.value r c.requires.ring)) in
    let answer : Inverted = Power c.args.k c.in_ok-w.w c.outside_part.result in
    subst (λ k. Follows (inverted_value r) (Ok answer) old new (power_work r k F G old)) next
    (power_on r (suc j) F G (inverted_value r) old old h whole new (Ok answer) (lift_on r (suc j) F G (inverted_value r) h old mid m c.in_ok-w.ensures.follows new (Ok answer)
    (inside_ends r j F G (inverted_value r) b (c.in_ok-before.ensures.value r c.requires.ring) m mid new c.in_ok-inside.inside c.in_ok-inside.ensures.follows
    ∙ (λ t. record { end = Ok (by_power (next t) m (sym (c.outside_part.ensures r) t)); left = new }))))
