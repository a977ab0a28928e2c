use Rattle.std.proofs.Common.{◌∙◌, sym, ap}
use Rattle.fm_parts.specs.Replays.{is_number}
use Rattle.fm_pres.proofs.Nodes.{seen}
use Rattle.fm_pres.proofs.table.Table.is_part.Goals as goal

pub returns : goal.returns
returns c =
    c.is_part.ensures ∙ ap (λ ps. is_number ps c.args.k) (sym (seen c.args.self.now c.self.inside.ring c.self.inside.nodes.items c.deref.result.now c.self.view_is c.deref.ensures.value))
