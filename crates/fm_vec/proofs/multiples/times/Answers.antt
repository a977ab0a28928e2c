use Rattle.std.proofs.Common.{◌<◌, length, ap, sym, ◌∙◌, subst}
use Rattle.fm_tuple.proofs.Tuples.{length_tuple_sum}
use Rattle.fm_vec.proofs.Proper.{bounded_is, product_positive}
use Rattle.fm_vec.proofs.multiples.times.Goals as goal

pub returns-clause-proper : goal.returns-clause-proper
returns-clause-proper c =
    let term = c.requires.term in
    record {
      fits = ap length (bounded_is _ _ (sym c.times.ensures ∙ c.in_ok-mono.was)) ∙ length_tuple_sum c.args.m c.args.t.now.mono (c.requires.vars ∙ sym term.fits) ∙ c.requires.vars;
      positive = subst (λ k. 0 < k) (sym c.mul-coeff.ensures.exact) (product_positive c.args.ring.prime c.args.d c.args.t.now.coeff c.requires.some c.requires.below term.positive term.below);
      below = c.mul-coeff.ensures.below;
    }
