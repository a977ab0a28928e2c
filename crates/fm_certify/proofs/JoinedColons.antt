-- Lines of colons and links: what is made of a line, of its parts, and of one line more.
use Rattle.std.proofs.Common.{ℕ, zero, suc, ◌≡◌, List, [], ◌∷◌, ◌++◌, refl, sym, ap, ap₂, ◌∙◌, subst}
use Rattle.fm_algebra.specs.Polynomials.{Polynomial}
use Rattle.fm_algebra.specs.PolynomialMatrices.{matrix_scalar}
use Rattle.fm_certificates.specs.Certificates.{colon_claims, graphs_found, last_but_one, link_claims, matrix_part, preimage_claim}
use Rattle.fm_certify.specs.Claims.{HasClaims}
use Rattle.fm_certify.proofs.JoinedLines.{beside_over, line_then, matrix_over, preimage_over}
use Rattle.fm_mat.specs.Matrices.{MatrixValue, matrix_meaning}
use Rattle.fm_poly.specs.declared.ring.Ring.{Ring}
use Rattle.fm_report.specs.Parts.{Part, beside, twist}
use Rattle.fm_standard.specs.Writing as writing
use Rattle.fm_support.specs.Inverting.{AreColons, preimages_meaning}
use Rattle.fm_syz.specs.GeneratorValues.{PreimageValue, preimage_meaning}
use Rattle.fm_syz.specs.GraphValues.{GraphValue, graph_meaning}
use Rattle.fm_writer.specs.Claims.{IsOperandOver, IsWholeOver, operand_part, whole_part}
use Rattle.fm_writer.specs.Kinds.{generating_line}
use Rattle.fm_writer.specs.declared.claim.Claim.{Claim}
use Rattle.fm_writer.specs.declared.kinds.Generating.TheVariants as generating
use Rattle.fm_writer.specs.declared.operand.Operand.{Operand}
use Rattle.fm_writer.specs.declared.operand.Whole.{Whole}

-- ---- what can be printed over as many variables
pub whole_over : (r s t q : Ring) (o : Operand) (w : Whole) → s ≡ r → t ≡ r → q ≡ r
    → IsOperandOver t.vars o → (IsOperandOver s.vars o → IsWholeOver s.vars w) → IsWholeOver q.vars w
whole_over r s t q o w s_is t_is q_is over make =
    subst (λ (x : Ring). IsWholeOver x.vars w) (s_is ∙ sym q_is) (make (subst (λ (x : Ring). IsOperandOver x.vars o) (t_is ∙ sym s_is) over))

-- ---- colons
module _ (r : Ring) (f : Polynomial r.prime r.vars) where
  -- the part of f times the unit matrix beside that of a matrix
  pub colon_part : (scalar before : MatrixValue) (o : Operand) (w : Whole) → scalar.ring ≡ r → before.ring ≡ r
      → matrix_meaning r scalar ≡ matrix_scalar r.prime r.vars f before.rows
      → operand_part o ≡ matrix_part before.ring (matrix_meaning before.ring before)
      → whole_part w ≡ beside (matrix_part scalar.ring (matrix_meaning scalar.ring scalar)) (operand_part o)
      → whole_part w ≡ beside (matrix_part r (matrix_scalar r.prime r.vars f before.rows)) (matrix_part r (matrix_meaning r before))
  colon_part scalar before o w s_is b_is value one both =
      beside_over r scalar o w (matrix_part r (matrix_meaning r before)) s_is (matrix_over r before (operand_part o) b_is one) both
      ∙ ap (λ A. beside (matrix_part r A) (matrix_part r (matrix_meaning r before))) value

  -- the colons from a line on, after it
  pub colon_then : (old now next final : List Claim) (all : List writing.Claim) (number : ℕ) (before : MatrixValue) (left : List PreimageValue) (x : PreimageValue)
      (later : List PreimageValue) (w : Whole) → left ≡ x ∷ later → x.generators.graph.matrix.ring ≡ r
      → whole_part w ≡ beside (matrix_part r (matrix_scalar r.prime r.vars f before.rows)) (matrix_part r (matrix_meaning r before))
      → (HasClaims r.vars now (colon_claims r f number (matrix_meaning r before) (preimages_meaning r left)) final → HasClaims r.vars old all final)
      → HasClaims x.generators.graph.matrix.ring.vars now (preimage_claim x.generators.graph.matrix.ring (whole_part w) (preimage_meaning x.generators.graph.matrix.ring x)
      (generating_line (generating.Colon number)) ∷ []) next
      → HasClaims r.vars next (colon_claims r f (suc number) (matrix_meaning r x.generators.graph.matrix) (preimages_meaning r later)) final
      → HasClaims r.vars old all final
  colon_then old now next final all number before left x later w is x_is part whole one more =
      line_then r.vars old now next final all (preimage_claim r (beside (matrix_part r (matrix_scalar r.prime r.vars f before.rows)) (matrix_part r (matrix_meaning r before))) (preimage_meaning r x)
      (generating_line (generating.Colon number))) (colon_claims r f (suc number) (matrix_meaning r x.generators.graph.matrix) (preimages_meaning r later))
      (subst (λ (xs : List PreimageValue). HasClaims r.vars now (colon_claims r f number (matrix_meaning r before) (preimages_meaning r xs)) final → HasClaims r.vars old all final) is whole)
      (preimage_over r x.generators.graph.matrix.ring x (whole_part w) (beside (matrix_part r (matrix_scalar r.prime r.vars f before.rows)) (matrix_part r (matrix_meaning r before)))
      (generating_line (generating.Colon number)) now next x_is part one)
      more

-- ---- links
module _ (r : Ring) (u : MatrixValue) where
  pub link_then : (old now next final : List Claim) (all : List writing.Claim) (number : ℕ) (L : Part) (left : List PreimageValue) (x : PreimageValue)
      (later : List PreimageValue) (o : Operand) (w : Whole) → left ≡ x ∷ later → u.ring ≡ r → x.generators.graph.matrix.ring ≡ r
      → operand_part o ≡ twist L 1
      → whole_part w ≡ beside (matrix_part u.ring (matrix_meaning u.ring u)) (operand_part o)
      → (HasClaims r.vars now (link_claims r (matrix_part r (matrix_meaning r u)) number L (preimages_meaning r left)) final → HasClaims r.vars old all final)
      → HasClaims x.generators.graph.matrix.ring.vars now (preimage_claim x.generators.graph.matrix.ring (whole_part w) (preimage_meaning x.generators.graph.matrix.ring x)
      (generating_line (generating.Link number)) ∷ []) next
      → HasClaims r.vars next (link_claims r (matrix_part r (matrix_meaning r u)) (suc number) (matrix_part r (matrix_meaning r x.generators.graph.matrix)) (preimages_meaning r later)) final
      → HasClaims r.vars old all final
  link_then old now next final all number L left x later o w is u_is x_is twisted both whole one more =
      line_then r.vars old now next final all (preimage_claim r (beside (matrix_part r (matrix_meaning r u)) (twist L 1)) (preimage_meaning r x) (generating_line (generating.Link number)))
      (link_claims r (matrix_part r (matrix_meaning r u)) (suc number) (matrix_part r (matrix_meaning r x.generators.graph.matrix)) (preimages_meaning r later))
      (subst (λ (xs : List PreimageValue). HasClaims r.vars now (link_claims r (matrix_part r (matrix_meaning r u)) number L (preimages_meaning r xs)) final → HasClaims r.vars old all final) is whole)
      (preimage_over r x.generators.graph.matrix.ring x (whole_part w) (beside (matrix_part r (matrix_meaning r u)) (twist L 1))
      (generating_line (generating.Link number)) now next x_is (beside_over r u o w (twist L 1) u_is twisted both) one)
      more

-- ---- colons that are left
pub colons_left : (k : GraphValue) (xs ys : List PreimageValue) (x : PreimageValue) → xs ≡ x ∷ ys → AreColons k xs
    → (x.generators.graph.matrix.ring ≡ k.matrix.ring) × (x.generators.graph.matrix.rows ≡ k.matrix.rows) × AreColons k ys
colons_left k xs ys x e h = subst (AreColons k) e h

-- the graph of the last but one, one colon on
pub last_on : (r : Ring) (g h : GraphValue) (xs : List PreimageValue) (x y : PreimageValue) (ys : List PreimageValue) → xs ≡ x ∷ y ∷ ys → h ≡ x.generators.graph
    → last_but_one r (graph_meaning r h) (graphs_found r (preimages_meaning r (y ∷ ys))) ≡ last_but_one r (graph_meaning r g) (graphs_found r (preimages_meaning r xs))
last_on r g h xs x y ys e here =
    ap (λ (k : GraphValue). last_but_one r (graph_meaning r k) (graphs_found r (preimages_meaning r (y ∷ ys)))) here
    ∙ ap (λ (zs : List PreimageValue). last_but_one r (graph_meaning r g) (graphs_found r (preimages_meaning r zs))) (sym e)

pub last_single : (r : Ring) (g : GraphValue) (xs : List PreimageValue) (x : PreimageValue) → xs ≡ x ∷ []
    → graph_meaning r g ≡ last_but_one r (graph_meaning r g) (graphs_found r (preimages_meaning r xs))
last_single r g xs x e = ap (λ (zs : List PreimageValue). last_but_one r (graph_meaning r g) (graphs_found r (preimages_meaning r zs))) (sym e)

pub last_none : (r : Ring) (g : GraphValue) (xs : List PreimageValue) → xs ≡ []
    → graph_meaning r g ≡ last_but_one r (graph_meaning r g) (graphs_found r (preimages_meaning r xs))
last_none r g xs e = ap (λ (zs : List PreimageValue). last_but_one r (graph_meaning r g) (graphs_found r (preimages_meaning r zs))) (sym e)
