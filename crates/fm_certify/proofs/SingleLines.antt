-- Single lines of certificates, by what they point to.
use Rattle.std.proofs.Common.{◌≡◌, ℕ, List, ap, ◌∙◌}
use Rattle.fm_certificates.specs.Certificates.{outside_claim, preimage_claim, matrix_part}
use Rattle.fm_chain.specs.Chains.{outside_value}
use Rattle.fm_cert.specs.Lines.{Line}
use Rattle.fm_groebner.specs.Logs.{Entry}
use Rattle.fm_mat.specs.Matrices.{matrix_meaning}
use Rattle.fm_poly.specs.declared.ring.Ring.{Ring}
use Rattle.fm_report.specs.Parts.{Part}
use Rattle.fm_standard.specs.Writing.{generated_claim, log_claim, shown_claim}
use Rattle.fm_syz.specs.GeneratorValues.{GeneratorsValue, PreimageValue, generators_meaning, preimage_meaning}
use Rattle.fm_syz.specs.GraphValues.{GraphValue, graph_meaning}
use Rattle.fm_syz.specs.declared.inside.Outside.{Outside}

module _ (r : Ring) where
  pub outside_line : (g : GraphValue) (o : Outside) (line : (n c : ℕ) → List ℕ → Line) (a : Part) (es : List Entry) (by : List ℕ)
      → a ≡ matrix_part r (matrix_meaning r g.matrix) → es ≡ g.log → by ≡ o.by.items
      → log_claim a es (λ n. line n o.column by) ≡ outside_claim r (graph_meaning r g) (outside_value o) line
  outside_line g o line a es by part log taken =
      ap (λ (b : Part). log_claim b es (λ n. line n o.column by)) part
      ∙ ap (λ (fs : List Entry). log_claim (matrix_part r (matrix_meaning r g.matrix)) fs (λ n. line n o.column by)) log
      ∙ ap (λ (js : List ℕ). log_claim (matrix_part r (matrix_meaning r g.matrix)) g.log (λ n. line n o.column js)) taken

  pub preimage_line : (x : PreimageValue) (line : (p n x w : ℕ) → Line) (P G X W : Part) (es : List Entry)
      → P ≡ matrix_part r (matrix_meaning r x.generators.graph.matrix) → es ≡ x.whole.log → X ≡ matrix_part r (matrix_meaning r x.generators.x)
      → W ≡ matrix_part r (matrix_meaning r x.generators.w) → generated_claim P G es X W line ≡ preimage_claim r G (preimage_meaning r x) line
  preimage_line x line P G X W es p l a b =
      let P1 = matrix_part r (matrix_meaning r x.generators.graph.matrix) in
      let X1 = matrix_part r (matrix_meaning r x.generators.x) in
      ap (λ (Q : Part). generated_claim Q G es X W line) p
      ∙ ap (λ (fs : List Entry). generated_claim P1 G fs X W line) l
      ∙ ap (λ (Q : Part). generated_claim P1 G x.whole.log Q W line) a
      ∙ ap (λ (Q : Part). generated_claim P1 G x.whole.log X1 Q line) b

  pub exact_shown : (g : GraphValue) (x : GeneratorsValue) (line : (n x w : ℕ) → Line) (G X W : Part) (es : List Entry)
      → G ≡ matrix_part r (matrix_meaning r g.matrix) → es ≡ g.log → X ≡ matrix_part r (matrix_meaning r x.x) → W ≡ matrix_part r (matrix_meaning r x.w)
      → shown_claim G es X W line ≡ shown_claim (matrix_part r (matrix_meaning r g.matrix)) (generators_meaning r g x).whole.log
      (matrix_part r (generators_meaning r g x).x) (matrix_part r (generators_meaning r g x).w) line
  exact_shown g x line G X W es p l a b =
      let G1 = matrix_part r (matrix_meaning r g.matrix) in
      let X1 = matrix_part r (matrix_meaning r x.x) in
      ap (λ (Q : Part). shown_claim Q es X W line) p
      ∙ ap (λ (fs : List Entry). shown_claim G1 fs X W line) l
      ∙ ap (λ (Q : Part). shown_claim G1 g.log Q W line) a
      ∙ ap (λ (Q : Part). shown_claim G1 g.log X1 Q line) b
