use Rattle.fm_standard.proofs.CertificatesSaid.{certified_good}
use Rattle.fm_standard.proofs.laws.certificates_are_said.Goals as goal

pub returns-clause-written : goal.returns-clause-written
returns-clause-written c = λ q k z a cs d v i. (certified_good q k z a cs d v i).writable

pub returns-clause-holds : goal.returns-clause-holds
returns-clause-holds c = λ q k z a cs d v i. (certified_good q k z a cs d v i).holds
