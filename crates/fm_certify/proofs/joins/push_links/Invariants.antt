use Rattle.std.proofs.Common.{◌≡◌, ◌+◌, List, length}
use Rattle.fm_certificates.specs.Certificates.{link_claims, matrix_part}
use Rattle.fm_certify.specs.Claims.{HasClaims}
use Rattle.fm_mat.specs.Matrices.{matrix_meaning}
use Rattle.fm_report.specs.Parts.{Part, beside, twist}
use Rattle.fm_support.specs.Inverting.{AreColons, preimages_meaning}
use Rattle.fm_writer.specs.Claims.{IsOperandOver, operand_part}
use Rattle.fm_writer.specs.declared.claim.Claim.{Claim}
use Rattle.fm_certify.proofs.joins.push_links.Given as goal

abbrev pub invariant-links : goal.invariant-links
invariant-links l = let r = l.u.ring in record {
  over : AreColons l.first l.left;
  twisted : IsOperandOver r.vars l.twisted;
  count : l.number + length l.left ≡ length l.fn.links + 1;
  claims : (L : Part) × (operand_part l.twisted ≡ twist L 1) × ((final : List Claim)
      → HasClaims r.vars l.claims.items (link_claims r (matrix_part r (matrix_meaning r l.u)) l.number L (preimages_meaning r l.left)) final
      → HasClaims r.vars l.fn.claims.items (link_claims r (matrix_part r (matrix_meaning r l.u)) 1
      (beside (matrix_part r (matrix_meaning r l.n)) (matrix_part r (matrix_meaning r l.phi))) (preimages_meaning r l.fn.links)) final);
}

abbrev pub decreases-links : goal.decreases-links
decreases-links l = length l.left
