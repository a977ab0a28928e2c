use Rattle.std.proofs.Common.{◌≡◌, List, [], ◌∷◌, length, refl, sym, ap, ◌∙◌, subst, arith}
use Rattle.std.proofs.lemmas.List.{nil_from_length}
use Rattle.fm_certificates.specs.Certificates.{graphs_found, last_but_one}
use Rattle.fm_certify.proofs.JoinedColons.{colons_left, last_none, last_on, last_single}
use Rattle.fm_support.specs.Inverting.{AreColons, preimages_meaning}
use Rattle.fm_syz.specs.GeneratorValues.{GeneratorsValue, PreimageValue}
use Rattle.fm_syz.specs.GraphValues.{GraphValue, graph_meaning}
use Rattle.fm_certify.proofs.colons.before_the_last.Goals as goal

pub colons-init : goal.colons-init
colons-init c = record { graph = refl; ring = λ h. (refl, h) }

pub returns-in_default-clause-graph : goal.returns-in_default-clause-graph
returns-in_default-clause-graph c =
    let r = c.args.first.now.matrix.ring in
    last_none r c.colons.before.now c.colons.left.now (nil_from_length c.colons.left.now c.in_default.ensures.cases) ∙ c.colons.invariant.graph

pub returns-in_default-clause-ring : goal.returns-in_default-clause-ring
returns-in_default-clause-ring c = λ h. (c.colons.invariant.ring h).0
