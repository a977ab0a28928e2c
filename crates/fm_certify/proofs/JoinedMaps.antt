-- The lines of a map between two modules.
use Rattle.std.proofs.Common.{ℕ, ◌≡◌, List, [], ◌∷◌, ◌++◌, length, refl, sym, ap, ◌∙◌, subst}
use Rattle.fm_cert.specs.Kinds as kinds
use Rattle.fm_cert.specs.Lines.{Line, Row}
use Rattle.fm_certificates.specs.Certificates.{between_claims, identity_claims, inside_claims, matrix_part, onto_claims, preimage_claim}
use Rattle.fm_certify.specs.Claims.{HasClaims}
use Rattle.fm_certify.proofs.Appended.{claims_then}
use Rattle.fm_certify.proofs.JoinedShort.{join_part}
use Rattle.fm_graphs.specs.Graphs as runs
use Rattle.fm_graphs.specs.Graphs.{MatrixOf}
use Rattle.fm_graphs.specs.Trims.{Preimage}
use Rattle.fm_induced.specs.Joins.{onto_value}
use Rattle.fm_induced.specs.declared.onto_maps.Onto.{Onto}
use Rattle.fm_mat.specs.Matrices.{MatrixValue, matrix_meaning}
use Rattle.fm_plan.specs.Queries as plans
use Rattle.fm_poly.specs.declared.ring.Ring.{Ring}
use Rattle.fm_report.specs.Parts.{beside}
use Rattle.fm_standard.specs.Writing as writing
use Rattle.fm_syz.specs.GraphValues.{GraphValue, graph_meaning}
use Rattle.fm_syz.specs.Insides.{HasColumns, inside_value}
use Rattle.fm_syz.specs.declared.inside.Inside.{Inside}
use Rattle.fm_writer.specs.declared.claim.Claim.{Claim}

pub columns_at : (r : Ring) (g k : GraphValue) (x : Inside) → g ≡ k → k.matrix.ring ≡ r → HasColumns r (length k.matrix.columns) x
    → HasColumns g.matrix.ring (length g.matrix.columns) x
columns_at r g k x same ring h =
    subst (λ (m : GraphValue). HasColumns m.matrix.ring (length m.matrix.columns) x) (sym same)
    (subst (λ (q : Ring). HasColumns q (length k.matrix.columns) x) (sym ring) h)

pub inside_over : (r : Ring) (g k : GraphValue) (x : Inside) (all : ℕ → Line) (some : (n c : ℕ) → List ℕ → Line) (a b : List Claim) → g ≡ k → k.matrix.ring ≡ r
    → HasClaims g.matrix.ring.vars a (inside_claims g.matrix.ring (graph_meaning g.matrix.ring g) (inside_value g.matrix.ring x) all some) b
    → HasClaims r.vars a (inside_claims r (graph_meaning r k) (inside_value r x) all some) b
inside_over r g k x all some a b same ring h =
    subst (λ (q : Ring). HasClaims q.vars a (inside_claims q (graph_meaning q k) (inside_value q x) all some) b) ring
    (subst (λ (m : GraphValue). HasClaims m.matrix.ring.vars a (inside_claims m.matrix.ring (graph_meaning m.matrix.ring m) (inside_value m.matrix.ring x) all some) b) same h)

pub onto_over : (r s : Ring) (u v n m phi : MatrixValue) (x : Onto) (a b : List Claim) → s ≡ r → u ≡ v → n ≡ m
    → HasClaims s.vars a (onto_claims s (matrix_part s (matrix_meaning s u)) (join_part s n phi) (onto_value s x)) b
    → HasClaims r.vars a (onto_claims r (matrix_part r (matrix_meaning r v)) (join_part r m phi) (onto_value r x)) b
onto_over r s u v n m phi x a b ring us ns h =
    subst (λ (y : MatrixValue). HasClaims r.vars a (onto_claims r (matrix_part r (matrix_meaning r v)) (join_part r y phi) (onto_value r x)) b) ns
    (subst (λ (y : MatrixValue). HasClaims r.vars a (onto_claims r (matrix_part r (matrix_meaning r y)) (join_part r n phi) (onto_value r x)) b) us
    (subst (λ (q : Ring). HasClaims q.vars a (onto_claims q (matrix_part q (matrix_meaning q u)) (join_part q n phi) (onto_value q x)) b) ring h))

module _ (r : Ring) (b c : plans.BaseOf r) (lambda : List (MatrixOf r)) (phi : MatrixOf r) (null : runs.Inside r) (fibre : Preimage r) (one : runs.Inside r) (onto : plans.Onto r) where
  phi_line : writing.Claim
  phi_line = writing.part_claim (matrix_part r phi) (λ p. Row kinds.Phi (p, tt))

  null_lines : List writing.Claim
  null_lines = inside_claims r c.chain.stable null (λ p. Row kinds.Null (p, tt)) (λ n k by. Row kinds.NonNull (n, (k, (by, tt))))

  fibre_line : writing.Claim
  fibre_line = preimage_claim r (beside (matrix_part r phi) (matrix_part r c.chain.stable.matrix)) fibre (λ p n x w. Row kinds.Fibre (p, (n, (x, (w, tt)))))

  one_lines : List writing.Claim
  one_lines = inside_claims r b.chain.stable one (λ p. Row kinds.One (p, tt)) (λ n k by. Row kinds.NotOne (n, (k, (by, tt))))

  onto_part : List writing.Claim
  onto_part = onto_claims r (matrix_part r c.ext.u) (beside (matrix_part r c.ext.relations.found) (matrix_part r phi)) onto

  pub between_lines : (c0 c1 c2 c3 c4 c5 c6 : List Claim)
      → HasClaims r.vars c0 (identity_claims r 0 lambda) c1
      → HasClaims r.vars c1 (writing.part_claim (matrix_part r phi) (λ p. Row kinds.Phi (p, tt)) ∷ []) c2
      → HasClaims r.vars c2 (inside_claims r c.chain.stable null (λ p. Row kinds.Null (p, tt)) (λ n k by. Row kinds.NonNull (n, (k, (by, tt))))) c3
      → HasClaims r.vars c3 (preimage_claim r (beside (matrix_part r phi) (matrix_part r c.chain.stable.matrix)) fibre (λ p n x w. Row kinds.Fibre (p, (n, (x, (w, tt))))) ∷ []) c4
      → HasClaims r.vars c4 (inside_claims r b.chain.stable one (λ p. Row kinds.One (p, tt)) (λ n k by. Row kinds.NotOne (n, (k, (by, tt))))) c5
      → HasClaims r.vars c5 (onto_claims r (matrix_part r c.ext.u) (beside (matrix_part r c.ext.relations.found) (matrix_part r phi)) onto) c6
      → HasClaims r.vars c0 (between_claims r b c lambda phi null fibre one onto) c6
  unfolding phi_line null_lines fibre_line one_lines onto_part
  between_lines c0 c1 c2 c3 c4 c5 c6 i p n f o t =
      let I = identity_claims r 0 lambda in
      claims_then r.vars c0 c5 c6 ((I ++ phi_line ∷ null_lines) ++ fibre_line ∷ one_lines) onto_part
      (claims_then r.vars c0 c3 c5 (I ++ phi_line ∷ null_lines) (fibre_line ∷ one_lines)
      (claims_then r.vars c0 c1 c3 I (phi_line ∷ null_lines) i (claims_then r.vars c1 c2 c3 (phi_line ∷ []) null_lines p n))
      (claims_then r.vars c3 c4 c5 (fibre_line ∷ []) one_lines f o))
      t
