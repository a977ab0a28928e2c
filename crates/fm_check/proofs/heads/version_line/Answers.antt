use Rattle.std.proofs.Common.{Bool, true, false, ◌||◌, nat_eq, ap, ap₂}
use Rattle.std.proofs.lemmas.Bool.{eq-eqb, ne_eqb}
use Rattle.fm_check.proofs.FirstSteps.{no_version, version_told}
use Rattle.fm_check.proofs.heads.version_line.Goals as goal
use Rattle.fm_check.proofs.heads.version_line.Goals.{else-version-ne1-via-then-version-ne1+else-version-ne2, else-version-ne1-via-else-version-ne1}

pub returns-in_default : goal.returns-in_default
returns-in_default c = no_version c.args.line.now c.read_report.result c.read_report.ensures c.in_default.is

pub returns-then-version-ne2 : goal.returns-then-version-ne2
returns-then-version-ne2 c =
    version_told c.args.line.now c.read_report.result c.in-Some.version false c.read_report.ensures c.in-Some.is
    (ap₂ (λ (s t : Bool). s || t) (ne_eqb c.in-Some.version 1 c.if-version-ne1.true) (ne_eqb c.in-Some.version 2 c.if-version-ne2.true))

pub returns : goal.returns
returns c = version_told c.args.line.now c.read_report.result c.in-Some.version true c.read_report.ensures c.in-Some.is (elim c.else-version-ne1.branch [
  | else-version-ne1-via-then-version-ne1+else-version-ne2 w ↦
      ap₂ (λ (s t : Bool). s || t) (ne_eqb c.in-Some.version 1 w.if-version-ne1.true) (eq-eqb c.in-Some.version 2 w.if-version-ne2.false)
  | else-version-ne1-via-else-version-ne1 w ↦ ap (λ (t : Bool). t || nat_eq c.in-Some.version 2) (eq-eqb c.in-Some.version 1 w.if-version-ne1.false)
])
