use Rattle.std.proofs.Common.{◌≡◌, true, subst, ap₂}
use Rattle.fm_parts.specs.Replays.{is_number}
use Rattle.fm_pres.proofs.Nodes.{seen}
use Rattle.fm_pres.proofs.table.Table.shape.Goals as goal

pub node-requires-clause-number : goal.node-requires-clause-number
node-requires-clause-number c =
    subst (λ ps. is_number ps c.args.k ≡ true) (seen c.args.self.now c.self.inside.ring c.self.inside.nodes.items c.deref.result.now c.self.view_is c.deref.ensures.value) c.requires

pub returns-clause-shape : goal.returns-clause-shape
returns-clause-shape c =
    rw (seen c.args.self.now c.self.inside.ring c.self.inside.nodes.items c.deref.result.now c.self.view_is c.deref.ensures.value)
    (ap₂ (λ x y. (x, y)) c.node.ensures.part.measured.rows c.node.ensures.part.measured.columns)

pub returns-clause-fits : goal.returns-clause-fits
returns-clause-fits c =
    rw (seen c.args.self.now c.self.inside.ring c.self.inside.nodes.items c.deref.result.now c.self.view_is c.deref.ensures.value) c.node.ensures.part.fitting
