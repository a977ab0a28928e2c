use Rattle.std.proofs.Common.{ap, sym, ◌∙◌}
use Rattle.fm_syz.specs.GeneratorValues.{GeneratorsValue}
use Rattle.fm_support.proofs.ColonRuns.{newest_last}
use Rattle.fm_support.proofs.colons.newest.Goals as goal

pub returns-in-Some : goal.returns-in-Some
returns-in-Some c = c.graph.ensures ∙ ap (λ (x : GeneratorsValue). x.graph) c.generators.ensures.same ∙ newest_last c.args.k.now c.args.colons.now c.in-Some.x.now (sym c.in-Some.ensures.value)
