use Rattle.std.proofs.Common.{ap, ◌∙◌}
use Rattle.fm_complete.specs.Completions.{is_pending}
use Rattle.fm_complete.specs.Pending.{PendingValue, pairs_of}
use Rattle.fm_complete.proofs.KeptPairs.{first_found, second_found}
use Rattle.fm_complete.proofs.pending.Pending.contains.Goals as goal

pub returns-then-contains : goal.returns-then-contains
returns-then-contains c =
    first_found c.contains.result c.args.i c.args.j (pairs_of c.self.inside.pairs.keys) c.if-contains.true (c.contains.ensures ∙ c.self.invariant.numbered c.args.i c.args.j)
    ∙ ap (λ (v : PendingValue). is_pending v.pairs c.args.i c.args.j) c.self.view_is

pub returns-else-contains : goal.returns-else-contains
returns-else-contains c =
    second_found c.contains.result c.contains-else-contains.result c.args.i c.args.j (pairs_of c.self.inside.pairs.keys) c.if-contains.false (c.contains.ensures ∙ c.self.invariant.numbered c.args.i c.args.j)
    (c.contains-else-contains.ensures ∙ c.self.invariant.numbered c.args.j c.args.i)
    ∙ ap (λ (v : PendingValue). is_pending v.pairs c.args.i c.args.j) c.self.view_is
