use Rattle.std.proofs.Common.{◌∷◌, ◌∙◌, List, subst, arith}
use Rattle.fm_vec.specs.Vectors.{VectorValue}
use Rattle.fm_complete.specs.Bases.{completion_value}
use Rattle.fm_complete.specs.Standing.{ArePairsOf, with_first}
use Rattle.fm_complete.proofs.CompletionSpending.{next_spends}
use Rattle.fm_complete.proofs.completing.next_pair.Goals as goal

pub form-requires-clause-pairs : goal.form-requires-clause-pairs
form-requires-clause-pairs c = record {
  pairs = subst (λ (vs : List VectorValue). ArePairsOf c.args.ring vs (c.in-Some.p ∷ c.take_pair-taken.new.pending.pairs)) c.deref.ensures.value
      (subst (λ o. ArePairsOf c.args.ring c.deref.result.now (with_first o c.take_pair-taken.new.pending.pairs)) c.in-Some.is c.in-Ok.ensures.pairs);
  compared = c.in-Ok.ensures.order ∙ c.requires.pairs.compared;
}

pub returns-in_default-clause-follows : goal.returns-in_default-clause-follows
returns-in_default-clause-follows c = (omega arith, next_spends c.args.ring (completion_value c.args.c.now) c.args.work.now)
