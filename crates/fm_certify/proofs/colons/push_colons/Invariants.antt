use Rattle.std.proofs.Common.{◌≡◌, ◌+◌, List, length}
use Rattle.fm_algebra.specs.Polynomials.{Polynomial}
use Rattle.fm_algebra.specs.PolynomialMatrices.{matrix_scalar}
use Rattle.fm_certificates.specs.Certificates.{colon_claims}
use Rattle.fm_certify.specs.Claims.{HasClaims}
use Rattle.fm_mat.specs.Matrices.{matrix_meaning}
use Rattle.fm_support.specs.Inverting.{AreColons, preimages_meaning}
use Rattle.fm_writer.specs.declared.claim.Claim.{Claim}
use Rattle.fm_certify.proofs.colons.push_colons.Given as goal

abbrev pub invariant-colons : goal.invariant-colons
invariant-colons l = let r = l.first.matrix.ring in record {
  over : AreColons l.first l.left;
  ring : l.before.ring ≡ r;
  rows : l.before.rows ≡ l.first.matrix.rows;
  count : l.number + length l.left ≡ length l.fn.colons + 1;
  claims : (f : Polynomial r.prime r.vars) → matrix_meaning r l.scalar ≡ matrix_scalar r.prime r.vars f l.first.matrix.rows → (final : List Claim)
      → HasClaims r.vars l.claims.items (colon_claims r f l.number (matrix_meaning r l.before) (preimages_meaning r l.left)) final
      → HasClaims r.vars l.fn.claims.items (colon_claims r f 1 (matrix_meaning r l.first.matrix) (preimages_meaning r l.fn.colons)) final;
}

abbrev pub decreases-colons : goal.decreases-colons
decreases-colons l = length l.left
