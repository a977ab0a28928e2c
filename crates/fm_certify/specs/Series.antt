-- Matrices in a row, each in a line of its own.
use Rattle.std.specs.Prelude.{ℕ, List}
use Rattle.fm_certificates.specs.Certificates.{identity_claims, lift_claims}
use Rattle.fm_certify.specs.declared.series.Series.{Series}
use Rattle.fm_certify.specs.declared.series.Series.TheVariants as series
use Rattle.fm_graphs.specs.Graphs.{MatrixOf}
use Rattle.fm_poly.specs.declared.ring.Ring.{Ring}
use Rattle.fm_standard.specs.Writing.{Claim}
use Rattle.fm_writer.specs.declared.kinds.Named.{Named}
use Rattle.fm_writer.specs.declared.kinds.Named.TheVariants as named

abbrev pub series_kind : Series → ℕ → Named
series_kind (series.Frobenius) j = named.Theta j
series_kind (series.Identity) j = named.Lambda j

abbrev pub series_claims : (r : Ring) → Series → ℕ → List (MatrixOf r) → List Claim
series_claims r (series.Frobenius) j As = lift_claims r j As
series_claims r (series.Identity) j As = identity_claims r j As
