-- The lines of the answers to queries on powers, supports and maps.
use Rattle.std.proofs.Common.{ℕ, ◌≡◌, ◌≤◌, List, [], ◌∷◌, ◌++◌, map, length, refl, sym, ap, ◌∙◌, subst}
use Rattle.std.proofs.lemmas.List.{length-map}
use Rattle.fm_algebra.specs.Polynomials.{Polynomial}
use Rattle.fm_algebra.specs.PolynomialMatrices.{matrix_scalar}
use Rattle.fm_cert.specs.Kinds as kinds
use Rattle.fm_cert.specs.Lines.{Row}
use Rattle.fm_certificates.specs.Certificates.{base_block, between_claims, inverted_claims, matrix_part, preimage_claim, support_claims}
use Rattle.fm_certify.specs.Claims.{HasClaims}
use Rattle.fm_certify.proofs.Appended.{claims_then}
use Rattle.fm_certify.proofs.JoinedLines.{beside_over, matrix_over, preimage_over}
use Rattle.fm_ext.specs.Exts.{ring_of}
use Rattle.fm_induced.specs.Fibres.{fibre_value}
use Rattle.fm_induced.specs.Joins.{onto_value}
use Rattle.fm_lift.specs.Lifts.{matrices_meaning}
use Rattle.fm_limit.specs.Facts.{unit_column, diagonal_blocks}
use Rattle.fm_mat.specs.Matrices.{MatrixValue, matrix_meaning}
use Rattle.fm_poly.specs.Polys.{PolyValue, meaning}
use Rattle.fm_poly.specs.declared.ring.Ring.{Ring}
use Rattle.fm_problem.specs.declared.problem.Problem.{Problem}
use Rattle.fm_queries.specs.Bases.{BaseValue, base_meaning, stable_graph}
use Rattle.fm_queries.specs.declared.map.Map.{Map}
use Rattle.fm_report.specs.Parts.{beside}
use Rattle.fm_standard.specs.Writing as writing
use Rattle.fm_support.specs.Inverting.{inverted_value}
use Rattle.fm_support.specs.declared.inverting.Inverted.{Inverted}
use Rattle.fm_syz.specs.GeneratorValues.{PreimageValue, preimage_meaning}
use Rattle.fm_syz.specs.Insides.{inside_value}
use Rattle.fm_words.specs.Parts.{Bytes}
use Rattle.fm_writer.specs.Claims.{operand_part, whole_part}
use Rattle.fm_writer.specs.Kinds.{generating_line}
use Rattle.fm_writer.specs.declared.claim.Claim.{Claim}
use Rattle.fm_writer.specs.declared.kinds.Generating.TheVariants as generating
use Rattle.fm_writer.specs.declared.operand.Operand.{Operand}
use Rattle.fm_writer.specs.declared.operand.Whole.{Whole}

-- ---- powers
abbrev InvertedOver : BaseValue → Inverted → MatrixValue → (m d : List Claim) → Ring → Type 0
InvertedOver b x scalar m d s = (f : Polynomial s.prime s.vars) → matrix_meaning s scalar ≡ matrix_scalar s.prime s.vars f (stable_graph b).matrix.rows
    → HasClaims s.vars m (inverted_claims s (base_meaning s b) f (inverted_value s x)) d

pub inverting_lines : (q : Problem) (k i : ℕ) (b : BaseValue) (x : Inverted) (scalar : MatrixValue) (f : Polynomial q.ring.prime q.ring.vars) (rows : ℕ) (a m d : List Claim)
    → ring_of b.ext ≡ q.ring → rows ≡ (stable_graph b).matrix.rows → matrix_meaning q.ring scalar ≡ matrix_scalar q.ring.prime q.ring.vars f rows
    → HasClaims q.ring.vars a (base_block q k i (base_meaning q.ring b)) m
    → InvertedOver b x scalar m d (ring_of b.ext)
    → HasClaims q.ring.vars a (base_block q k i (base_meaning q.ring b) ++ inverted_claims q.ring (base_meaning q.ring b) f (inverted_value q.ring x)) d
inverting_lines q k i b x scalar f rows a m d ring high value block more =
    claims_then q.ring.vars a m d (base_block q k i (base_meaning q.ring b)) (inverted_claims q.ring (base_meaning q.ring b) f (inverted_value q.ring x)) block
    (subst (InvertedOver b x scalar m d) ring more f (value ∙ ap (λ (n : ℕ). matrix_scalar q.ring.prime q.ring.vars f n) high))

pub scalar_over : (r s : Ring) (p : PolyValue) (m : MatrixValue) (n : ℕ) → s ≡ r
    → matrix_meaning s m ≡ matrix_scalar s.prime s.vars (meaning s p.terms) n
    → matrix_meaning r m ≡ matrix_scalar r.prime r.vars (meaning r p.terms) n
scalar_over r s p m n e h =
    subst (λ (q : Ring). matrix_meaning q m ≡ matrix_scalar q.prime q.vars (meaning q p.terms) n) e h

-- ---- supports
abbrev HasSupportPart : Whole → MatrixValue → Ring → Type 0
HasSupportPart w k q = whole_part w ≡ beside (matrix_part q (unit_column q.prime q.vars k.rows)) (matrix_part q (diagonal_blocks q.prime q.vars (matrix_meaning q k)))

pub support_part : (r q : Ring) (k m unit blocks : MatrixValue) (rows : ℕ) (o : Operand) (w : Whole) → k ≡ m → m.ring ≡ r → q ≡ k.ring → rows ≡ k.rows
    → unit.ring ≡ q → blocks.ring ≡ k.ring
    → matrix_meaning q unit ≡ unit_column q.prime q.vars rows
    → matrix_meaning k.ring blocks ≡ diagonal_blocks k.ring.prime k.ring.vars (matrix_meaning k.ring k)
    → operand_part o ≡ matrix_part blocks.ring (matrix_meaning blocks.ring blocks)
    → whole_part w ≡ beside (matrix_part unit.ring (matrix_meaning unit.ring unit)) (operand_part o)
    → HasSupportPart w m r
support_part r q k m unit blocks rows o w same ring q_is high unit_is blocks_is one many part both =
    let s = k.ring in
    let operand : operand_part o ≡ matrix_part s (diagonal_blocks s.prime s.vars (matrix_meaning s k)) =
    matrix_over s blocks (operand_part o) blocks_is part ∙ ap (λ A. matrix_part s A) many in
    let unit_value : matrix_meaning s unit ≡ unit_column s.prime s.vars k.rows =
    subst (λ (x : Ring). matrix_meaning x unit ≡ unit_column x.prime x.vars k.rows) q_is (one ∙ ap (λ (n : ℕ). unit_column q.prime q.vars n) high) in
    let here : HasSupportPart w k s =
    beside_over s unit o w (matrix_part s (diagonal_blocks s.prime s.vars (matrix_meaning s k))) (unit_is ∙ q_is) operand both
    ∙ ap (λ A. beside (matrix_part s A) (matrix_part s (diagonal_blocks s.prime s.vars (matrix_meaning s k)))) unit_value in
    subst (HasSupportPart w m) ring (subst (λ (x : MatrixValue). HasSupportPart w x x.ring) same here)

pub support_lines : (q : Problem) (k i : ℕ) (b : BaseValue) (x : PreimageValue) (w : Whole) (a m d : List Claim)
    → x.generators.graph.matrix.ring ≡ q.ring → HasSupportPart w (stable_graph b).matrix q.ring
    → HasClaims q.ring.vars a (base_block q k i (base_meaning q.ring b)) m
    → HasClaims x.generators.graph.matrix.ring.vars m (preimage_claim x.generators.graph.matrix.ring (whole_part w) (preimage_meaning x.generators.graph.matrix.ring x)
    (generating_line (generating.Annihilator)) ∷ []) d
    → HasClaims q.ring.vars a (base_block q k i (base_meaning q.ring b) ++ support_claims q.ring (base_meaning q.ring b) (preimage_meaning q.ring x)) d
support_lines q k i b x w a m d ring part block line =
    let r = q.ring in
    let K = (stable_graph b).matrix in
    claims_then r.vars a m d (base_block q k i (base_meaning r b)) (support_claims r (base_meaning r b) (preimage_meaning r x)) block
    (preimage_over r x.generators.graph.matrix.ring x (whole_part w)
    (beside (matrix_part r (unit_column r.prime r.vars K.rows)) (matrix_part r (diagonal_blocks r.prime r.vars (matrix_meaning r K))))
    (generating_line (generating.Annihilator)) m d ring part line)

-- ---- maps
abbrev between_of : (r : Ring) → Map → List writing.Claim
between_of r x =
    let one = fibre_value r x.fibre in
    between_claims r (base_meaning r x.source) (base_meaning r x.target) (matrices_meaning r x.lambda.items) (matrix_meaning r x.phi) (inside_value r x.null) one.0 one.1 (onto_value r x.onto)

pub map_lines : (q : Problem) (j k i : ℕ) (x : Map) (a l m d : List Claim) → ring_of x.source.ext ≡ q.ring
    → HasClaims q.ring.vars a (base_block q j i (base_meaning q.ring x.source)) l
    → HasClaims q.ring.vars l (base_block q k i (base_meaning q.ring x.target)) m
    → HasClaims (ring_of x.source.ext).vars m (between_of (ring_of x.source.ext) x) d
    → HasClaims q.ring.vars a (base_block q j i (base_meaning q.ring x.source) ++ (base_block q k i (base_meaning q.ring x.target) ++ between_of q.ring x)) d
map_lines q j k i x a l m d ring source target between =
    let r = q.ring in
    claims_then r.vars a l d (base_block q j i (base_meaning r x.source)) (base_block q k i (base_meaning r x.target) ++ between_of r x) source
    (claims_then r.vars l m d (base_block q k i (base_meaning r x.target)) (between_of r x) target
    (subst (λ (s : Ring). HasClaims s.vars m (between_of s x) d) ring between))
