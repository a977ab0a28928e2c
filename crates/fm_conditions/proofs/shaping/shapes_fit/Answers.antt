use Rattle.std.proofs.Common.{◌≡◌, sym, subst}
use Rattle.fm_parts.specs.Conditions as conditions
use Rattle.fm_pres.specs.Tables.{parts_in}
use Rattle.fm_conditions.specs.Meanings.{operand_part, log_of}
use Rattle.fm_conditions.proofs.Measures.{powers_fit}
use Rattle.fm_conditions.proofs.shaping.shapes_fit.Goals as goal

pub kernel_fits-requires-clause-log : goal.kernel_fits-requires-clause-log
kernel_fits-requires-clause-log c = (c.numbered.ensures.kept c.args.table.now.ring (parts_in c.args.table.now) c.requires.logs).part

pub preimage_fits-requires-clause-log : goal.preimage_fits-requires-clause-log
preimage_fits-requires-clause-log c = (c.numbered-in-Preimage.ensures.kept c.args.table.now.ring (parts_in c.args.table.now) c.requires.logs).part

pub part_shape-logged-requires : goal.part_shape-logged-requires
part_shape-logged-requires c = (c.numbered-in-Outside.ensures.kept c.args.table.now.ring (parts_in c.args.table.now) c.requires.logs).part

pub returns-in-Outside : goal.returns-in-Outside
returns-in-Outside c =
    let r = c.args.table.now.ring in
    let ps = parts_in c.args.table.now in
    let k = c.in-Outside in
    let A = operand_part r ps k.a in
    let V = operand_part r ps k.v in
    rw k.is (subst (λ l. c.outside_fits.result ≡ conditions.shapes_fit (conditions.outside l k.e A V k.column k.by.items)) (sym (c.numbered-in-Outside.ensures.is ps))
    (c.outside_fits.ensures (log_of ps c.numbered-in-Outside.result.now) k.e A V k.column k.by.items c.part_shape-logged.ensures.shape c.shape_of-in-Outside.ensures c.shape_of-in-Outside-2.ensures))

pub returns-in-Powers : goal.returns-in-Powers
returns-in-Powers c = rw c.in-Powers.is (powers_fit c.args.table.now.ring c.in-Powers.f c.in-Powers.k)
