use Rattle.std.proofs.Common.{sym, ◌∙◌}
use Rattle.fm_pres.specs.Tables.{parts_in}
use Rattle.fm_claims.proofs.Numbering.{part_numbered, no_part_numbered}
use Rattle.fm_claims.proofs.numbers.part.Goals as goal

pub returns-then-is_part-clause-part : goal.returns-then-is_part-clause-part
returns-then-is_part-clause-part c =
    part_numbered (parts_in c.args.table.now) c.args.n c.small-k.result c.requires.few c.small-k.ensures.same c.small-k.ensures.none (sym c.is_part.ensures ∙ c.if-is_part.true)

pub returns-else-is_part-clause-part : goal.returns-else-is_part-clause-part
returns-else-is_part-clause-part c =
    no_part_numbered (parts_in c.args.table.now) c.args.n c.small-k.result c.requires.few c.small-k.ensures.same c.small-k.ensures.none (sym c.is_part.ensures ∙ c.if-is_part.false)
