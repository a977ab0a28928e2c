use Rattle.std.proofs.Common.{length, ap, sym, subst, ◌∙◌}
use Rattle.fm_complete.specs.Pairs.{ArePairsOver}
use Rattle.fm_complete.proofs.Lengths.{length_maximum, over_inserted}
use Rattle.fm_complete.proofs.pairing.push_pair.Goals as goal

pub insert-requires-clause-over : goal.insert-requires-clause-over
insert-requires-clause-over c =
    subst (λ n. ArePairsOver n c.args.pending.now.pairs)
    (sym (ap length c.lcm.ensures ∙ length_maximum c.args.u.now.mono c.args.t.now.mono c.args.ring.vars c.requires.u_term.fits c.requires.t_term.fits)) c.requires.pending

pub returns-clause-over : goal.returns-clause-over
returns-clause-over c =
    over_inserted c.args.ring.vars c.args.pending.now.order _ c.args.pending.now.pairs c.insert.new.self.pairs c.insert.result
    (ap length c.lcm.ensures ∙ length_maximum c.args.u.now.mono c.args.t.now.mono c.args.ring.vars c.requires.u_term.fits c.requires.t_term.fits) c.requires.pending c.insert.ensures.pairs
