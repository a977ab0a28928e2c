use Rattle.std.proofs.Common.{refl}
use Rattle.fm_cert.specs.declared.end.End.TheVariants as ends
use Rattle.fm_run.specs.Runs.{Budget, Exponent}
use Rattle.fm_run.specs.declared.stop.Stop.TheVariants as stops
use Rattle.fm_decide.proofs.EndedReports.{halted_told}
use Rattle.fm_decide.proofs.ended.stopped_answer.Goals as goal

pub returns-in-Budget-clause-value : goal.returns-in-Budget-clause-value
returns-in-Budget-clause-value c =
    halted_told c.args.stopped stops.Budget Budget (record { end = ends.Budget c.args.stopped.task; certificate = c.new-certificate.result }) c.in-Budget.is refl
    c.new-certificate.ensures.items (λ z. refl)

pub returns-in-Exponent-clause-value : goal.returns-in-Exponent-clause-value
returns-in-Exponent-clause-value c =
    halted_told c.args.stopped stops.Exponent Exponent (record { end = ends.Exponents c.args.stopped.task; certificate = c.new-certificate.result }) c.in-Exponent.is refl
    c.new-certificate.ensures.items (λ z. refl)
