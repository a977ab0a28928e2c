use Rattle.std.proofs.Common.{rules, ◌≡◌, true, false, ◌∷◌, ap, ◌∙◌}
use Rattle.std.specs.Prelude.{codes}
use Rattle.fm_words.specs.Words.{same_bytes}
use Rattle.fm_text.proofs.PolynomialsRead.{same_name}
use Rattle.fm_lines.specs.Left.{left}
use Rattle.fm_lines.proofs.VersionsSaid.{report_line, other_line}
use Rattle.fm_lines.proofs.report.read_report.Goals as goal

pub returns-then-eq : goal.returns-then-eq
returns-then-eq c = λ r names asked.
    let t : same_bytes c.cut.result.0.now (codes "report") ≡ true = search rules in
    let w : c.cut.result.0.now ≡ codes "report" = same_name _ _ t in
    report_line r names asked c.args.text.now (left c.cut.result.1) c.one_number.result (c.cut.ensures.parts ∙ ap (λ v. v ∷ left c.cut.result.1) w) (c.cut.ensures.before ∙ w) c.one_number.ensures

pub returns : goal.returns
returns c = λ r names asked.
    let t : same_bytes c.cut.result.0.now (codes "report") ≡ false = search rules in
    other_line r names asked c.args.text.now c.cut.result.0.now (left c.cut.result.1) c.cut.ensures.parts t
