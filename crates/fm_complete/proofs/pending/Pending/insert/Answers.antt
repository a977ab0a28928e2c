use Rattle.std.proofs.Common.{ap, sym, subst, length, ◌≡◌, ◌∙◌, false}
use Rattle.fm_complete.specs.Completions.{inserted}
use Rattle.fm_complete.specs.Pairs.{ArePairsOver}
use Rattle.fm_complete.specs.Pending.{PendingValue, has_numbers, pairs_of}
use Rattle.fm_complete.proofs.KeptPairs.{inserted_pairs, kept_inserted, kept_refused}
use Rattle.fm_complete.proofs.pending.Pending.insert.Goals as goal

pub invariant_of-self-in-Ok : goal.invariant_of-self-in-Ok
invariant_of-self-in-Ok c =
    kept_inserted c.self.inside c.self.invariant c.args.p
    (subst (λ (v : PendingValue). ArePairsOver (length c.args.p.lcm) v.pairs) (sym c.self.view_is) c.requires.over)
    (subst (λ (v : PendingValue). has_numbers v.pairs c.args.p.earlier c.args.p.later ≡ false) (sym c.self.view_is) c.requires.new)
    c.insert-2.new.self c.insert.new.self c.in-Ok.ensures.keys c.in_ok-insert.ensures.updates.0

pub invariant_of-self-in-Err : goal.invariant_of-self-in-Err
invariant_of-self-in-Err c =
    kept_refused c.self.inside c.self.invariant c.args.p
    (subst (λ (v : PendingValue). has_numbers v.pairs c.args.p.earlier c.args.p.later ≡ false) (sym c.self.view_is) c.requires.new)
    c.insert-2.new.self c.insert.new.self c.remove.new.self c.in-Err.ensures.err c.in_ok-insert.ensures.updates.0 c.remove.ensures.updates.0

pub returns-in-Ok-clause-pairs : goal.returns-in-Ok-clause-pairs
returns-in-Ok-clause-pairs c =
    ap (pairs_of) c.in-Ok.ensures.keys
    ∙ inserted_pairs c.self.inside.order c.args.p c.self.inside.pairs.keys c.self.invariant.ordered
    (subst (λ (v : PendingValue). ArePairsOver (length c.args.p.lcm) v.pairs) (sym c.self.view_is) c.requires.over)
    (subst (λ (v : PendingValue). has_numbers v.pairs c.args.p.earlier c.args.p.later ≡ false) (sym c.self.view_is) c.requires.new)
    ∙ ap (λ (v : PendingValue). inserted v.order c.args.p v.pairs) c.self.view_is
