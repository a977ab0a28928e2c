use Rattle.fm_term.specs.declared.vterm.VTerm.{VTerm}
use Rattle.fm_complete.proofs.Heads.{test_is}
use Rattle.fm_complete.proofs.skipping.divides.Goals as goal

pub returns : goal.returns
returns c =
    let t : VTerm = record { component = c.args.p.now.component; mono = c.args.p.now.lcm; coeff = c.args.f.now.coeff } in
    test_is c.divides.result c.args.f.now t c.if-f-p.false c.divides.ensures
