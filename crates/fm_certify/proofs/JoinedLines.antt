-- Lines on matrices of equal rings, and lines one after another in a loop.
use Rattle.std.proofs.Common.{ℕ, ◌≡◌, List, [], ◌∷◌, ◌++◌, refl, sym, ap, ap₂, ◌∙◌, subst}
use Rattle.fm_cert.specs.Lines.{Line}
use Rattle.fm_certificates.specs.Certificates.{matrix_part, outside_claim, preimage_claim}
use Rattle.fm_certify.specs.Claims.{HasClaims}
use Rattle.fm_certify.proofs.Appended.{claims_then}
use Rattle.fm_graphs.specs.Graphs as runs
use Rattle.fm_mat.specs.Matrices.{MatrixValue, matrix_meaning}
use Rattle.fm_poly.specs.declared.ring.Ring.{Ring}
use Rattle.fm_report.specs.Parts.{Part, beside}
use Rattle.fm_standard.specs.Writing as writing
use Rattle.fm_syz.specs.GeneratorValues.{PreimageValue, preimage_meaning}
use Rattle.fm_syz.specs.GraphValues.{GraphValue, graph_meaning}
use Rattle.fm_writer.specs.Claims.{operand_part, whole_part}
use Rattle.fm_writer.specs.declared.claim.Claim.{Claim}
use Rattle.fm_writer.specs.declared.operand.Operand.{Operand}
use Rattle.fm_writer.specs.declared.operand.Whole.{Whole}

-- ---- parts
pub matrix_over : (r : Ring) (m : MatrixValue) (A : Part) → m.ring ≡ r → A ≡ matrix_part m.ring (matrix_meaning m.ring m) → A ≡ matrix_part r (matrix_meaning r m)
matrix_over r m A e h = subst (λ (s : Ring). A ≡ matrix_part s (matrix_meaning s m)) e h

pub beside_over : (r : Ring) (m : MatrixValue) (o : Operand) (A : Whole) (B : Part) → m.ring ≡ r → operand_part o ≡ B
    → whole_part A ≡ beside (matrix_part m.ring (matrix_meaning m.ring m)) (operand_part o) → whole_part A ≡ beside (matrix_part r (matrix_meaning r m)) B
beside_over r m o A B e b h =
    subst (λ (s : Ring). whole_part A ≡ beside (matrix_part s (matrix_meaning s m)) B) e
    (subst (λ (x : Part). whole_part A ≡ beside (matrix_part m.ring (matrix_meaning m.ring m)) x) b h)

-- ---- lines
pub named_over : (r : Ring) (m : MatrixValue) (line : ℕ → Line) (a b : List Claim) → m.ring ≡ r
    → HasClaims m.ring.vars a (writing.part_claim (matrix_part m.ring (matrix_meaning m.ring m)) line ∷ []) b
    → HasClaims r.vars a (writing.part_claim (matrix_part r (matrix_meaning r m)) line ∷ []) b
named_over r m line a b e h = subst (λ (s : Ring). HasClaims s.vars a (writing.part_claim (matrix_part s (matrix_meaning s m)) line ∷ []) b) e h

pub outside_over : (r : Ring) (g : GraphValue) (o : runs.Outside) (line : (n c : ℕ) → List ℕ → Line) (a b : List Claim) → g.matrix.ring ≡ r
    → HasClaims g.matrix.ring.vars a (outside_claim g.matrix.ring (graph_meaning g.matrix.ring g) o line ∷ []) b
    → HasClaims r.vars a (outside_claim r (graph_meaning r g) o line ∷ []) b
outside_over r g o line a b e h = subst (λ (s : Ring). HasClaims s.vars a (outside_claim s (graph_meaning s g) o line ∷ []) b) e h

pub preimage_over : (r s : Ring) (P : PreimageValue) (A B : Part) (line : (p n x w : ℕ) → Line) (a b : List Claim) → s ≡ r → A ≡ B
    → HasClaims s.vars a (preimage_claim s A (preimage_meaning s P) line ∷ []) b
    → HasClaims r.vars a (preimage_claim r B (preimage_meaning r P) line ∷ []) b
preimage_over r s P A B line a b e d h =
    subst (λ (X : Part). HasClaims r.vars a (preimage_claim r X (preimage_meaning r P) line ∷ []) b) d
    (subst (λ (q : Ring). HasClaims q.vars a (preimage_claim q A (preimage_meaning q P) line ∷ []) b) e h)

-- ---- one line more, where it is known what the lines that are left make of it
pub line_then : (n : ℕ) (old now next final : List Claim) (all : List writing.Claim) (x : writing.Claim) (rest : List writing.Claim)
    → (HasClaims n now (x ∷ rest) final → HasClaims n old all final) → HasClaims n now (x ∷ []) next → HasClaims n next rest final → HasClaims n old all final
line_then n old now next final all x rest whole one more = whole (claims_then n now next final (x ∷ []) rest one more)
