-- Lines that are appended in a loop: some stand, and others are left.
use Rattle.std.proofs.Common.{◌≡◌, ℕ, suc, ◌+◌, List, [], ◌∷◌, map, length, refl, sym, ap, subst, ◌∙◌, arith}
use Rattle.std.proofs.lemmas.List.{nil_from_length}
use Rattle.fm_certificates.specs.Certificates.{differential_claims, exact_claims, exact_line, matrix_part, d_line}
use Rattle.fm_certify.specs.Claims.{HasClaims}
use Rattle.fm_certify.specs.Series.{series_claims, series_kind}
use Rattle.fm_certify.specs.declared.series.Series.{Series}
use Rattle.fm_certify.specs.declared.series.Series.TheVariants as series
use Rattle.fm_certify.proofs.Appended.{claims_then, none_appended}
use Rattle.fm_graphs.specs.Graphs.{MatrixOf}
use Rattle.fm_lift.specs.Lifts.{AreMatricesOver, matrices_meaning}
use Rattle.fm_mat.specs.Matrices.{MatrixValue, matrix_meaning}
use Rattle.fm_poly.specs.declared.ring.Ring.{Ring}
use Rattle.fm_resolve.specs.Resolutions.{AreExactFrom, AreKernelGenerators, generators_from}
use Rattle.fm_standard.specs.Writing as writing
use Rattle.fm_standard.specs.Writing.{part_claim, shown_claim}
use Rattle.fm_syz.specs.GeneratorValues.{GeneratorsValue, generators_meaning}
use Rattle.fm_syz.specs.GraphValues.{GraphValue}
use Rattle.fm_writer.specs.Kinds.{named_line}
use Rattle.fm_writer.specs.declared.claim.Claim.{Claim}
use Rattle.fm_writer.specs.declared.kinds.Named.{Named}

-- old, all and what stands now, when these are left
abbrev pub AreLinesLeft : (n : ℕ) (old : List Claim) (all : List writing.Claim) (now : List Claim) (left : List writing.Claim) → Type 0
AreLinesLeft n old all now left = (final : List Claim) → HasClaims n now left final → HasClaims n old all final

pub lines_done : (n : ℕ) (old : List Claim) (all : List writing.Claim) (now : List Claim) (left : List writing.Claim) → left ≡ []
    → AreLinesLeft n old all now left → HasClaims n old all now
lines_done n old all now left e h = h now (subst (λ (cs : List writing.Claim). HasClaims n now cs now) (sym e) (none_appended n now))

pub line_done : (n : ℕ) (old : List Claim) (all : List writing.Claim) (now next : List Claim) (x : writing.Claim) (left more : List writing.Claim) → left ≡ x ∷ more
    → HasClaims n now (x ∷ []) next → AreLinesLeft n old all now left → AreLinesLeft n old all next more
line_done n old all now next x left more e s h final k =
    h final (subst (λ (cs : List writing.Claim). HasClaims n now cs final) (sym e) (claims_then n now next final (x ∷ []) more s k))

-- ---- matrices in a row
module _ (r : Ring) (s : Series) where
  none_left : (number : ℕ) → series_claims r s number [] ≡ []
  none_left number = by s
    where
      by : (s : Series) → series_claims r s number [] ≡ []
      by (series.Frobenius) = refl
      by (series.Identity) = refl

  one_left : (number : ℕ) (A : MatrixOf r) (As : List (MatrixOf r))
      → series_claims r s number (A ∷ As) ≡ part_claim (matrix_part r A) (named_line (series_kind s number)) ∷ series_claims r s (suc number) As
  one_left number A As = by s
    where
      by : (s : Series) → series_claims r s number (A ∷ As) ≡ part_claim (matrix_part r A) (named_line (series_kind s number)) ∷ series_claims r s (suc number) As
      by (series.Frobenius) = refl
      by (series.Identity) = refl

-- these are left, the first with this number
abbrev pub IsSeriesLeft : Series → (old : List Claim) (all : List MatrixValue) (now : List Claim) → ℕ → (left : List MatrixValue) → Type 0
IsSeriesLeft s old all now number left = (r : Ring) → AreMatricesOver r all → AreMatricesOver r left
    × AreLinesLeft r.vars old (series_claims r s 0 (matrices_meaning r all)) now (series_claims r s number (matrices_meaning r left))

pub series_begun : (s : Series) (old : List Claim) (all : List MatrixValue) → IsSeriesLeft s old all old 0 all
series_begun s old all r over = (over, λ final h. h)

pub series_done : (s : Series) (old : List Claim) (all : List MatrixValue) (now : List Claim) (number : ℕ) (left : List MatrixValue) → length left ≡ 0
    → IsSeriesLeft s old all now number left → (r : Ring) → AreMatricesOver r all → HasClaims r.vars old (series_claims r s 0 (matrices_meaning r all)) now
series_done s old all now number left e h r over =
    lines_done r.vars old _ now _ (ap (λ ms. series_claims r s number (matrices_meaning r ms)) (nil_from_length left e) ∙ none_left r s number) (h r over).1

pub series_more : (s : Series) (old : List Claim) (all : List MatrixValue) (now next : List Claim) (number up : ℕ) (m : MatrixValue) (left later : List MatrixValue)
    (kind : Named) → left ≡ m ∷ later → up ≡ number + 1 → kind ≡ series_kind s number
    → HasClaims m.ring.vars now (part_claim (matrix_part m.ring (matrix_meaning m.ring m)) (named_line kind) ∷ []) next
    → IsSeriesLeft s old all now number left → IsSeriesLeft s old all next up later
series_more s old all now next number up m left later kind e u k one h r over =
    let here : AreMatricesOver r (m ∷ later) = subst (AreMatricesOver r) e (h r over).0 in
    let step : suc number ≡ up = omega (arith, u) in
    let line = part_claim (matrix_part r (matrix_meaning r m)) (named_line (series_kind s number)) in
    let first : HasClaims r.vars now (line ∷ []) next =
    subst (λ (j : Named). HasClaims r.vars now (part_claim (matrix_part r (matrix_meaning r m)) (named_line j) ∷ []) next) k
    (subst (λ (q : Ring). HasClaims q.vars now (part_claim (matrix_part q (matrix_meaning q m)) (named_line kind) ∷ []) next) here.0 one) in (
      here.1,
      line_done r.vars old _ now next line _ _
          (ap (λ ms. series_claims r s number (matrices_meaning r ms)) e ∙ one_left r s number (matrix_meaning r m) (matrices_meaning r later)
          ∙ ap (λ j. line ∷ series_claims r s j (matrices_meaning r later)) step) first (h r over).1,
    )

-- ---- differentials
abbrev pub matrices_of : List GeneratorsValue → List MatrixValue
matrices_of xs = map (λ (x : GeneratorsValue). x.graph.matrix) xs

abbrev pub AreDifferentialsLeft : (old : List Claim) (j : ℕ) (all : List GeneratorsValue) (now : List Claim) → ℕ → (left : List GeneratorsValue) → Type 0
AreDifferentialsLeft old j all now number left = (r : Ring) → AreMatricesOver r (matrices_of all) → AreMatricesOver r (matrices_of left)
    × AreLinesLeft r.vars old (differential_claims r j (map (matrix_meaning r) (matrices_of all))) now (differential_claims r number (map (matrix_meaning r) (matrices_of left)))

pub differentials_begun : (old : List Claim) (j : ℕ) (all : List GeneratorsValue) → AreDifferentialsLeft old j all old j all
differentials_begun old j all r over = (over, λ final h. h)

pub differentials_done : (old : List Claim) (j : ℕ) (all : List GeneratorsValue) (now : List Claim) (number : ℕ) (left : List GeneratorsValue) → length left ≡ 0
    → AreDifferentialsLeft old j all now number left
    → (r : Ring) → AreMatricesOver r (matrices_of all) → HasClaims r.vars old (differential_claims r j (map (matrix_meaning r) (matrices_of all))) now
differentials_done old j all now number left e h r over =
    lines_done r.vars old _ now _ (ap (λ xs. differential_claims r number (map (matrix_meaning r) (matrices_of xs))) (nil_from_length left e)) (h r over).1

pub differentials_more : (old : List Claim) (j : ℕ) (all : List GeneratorsValue) (now next : List Claim) (number up : ℕ) (x : GeneratorsValue) (m : MatrixValue)
    (left later : List GeneratorsValue) → left ≡ x ∷ later → up ≡ number + 1 → m ≡ x.graph.matrix
    → HasClaims m.ring.vars now (part_claim (matrix_part m.ring (matrix_meaning m.ring m)) (d_line number) ∷ []) next
    → AreDifferentialsLeft old j all now number left → AreDifferentialsLeft old j all next up later
differentials_more old j all now next number up x m left later e u k one h r over =
    let here : AreMatricesOver r (matrices_of (x ∷ later)) = subst (λ xs. AreMatricesOver r (matrices_of xs)) e (h r over).0 in
    let step : suc number ≡ up = omega (arith, u) in
    let line = part_claim (matrix_part r (matrix_meaning r x.graph.matrix)) (d_line number) in
    let first : HasClaims r.vars now (line ∷ []) next =
    subst (λ (q : Ring). HasClaims q.vars now (part_claim (matrix_part q (matrix_meaning q x.graph.matrix)) (d_line number) ∷ []) next) here.0
    (subst (λ (y : MatrixValue). HasClaims y.ring.vars now (part_claim (matrix_part y.ring (matrix_meaning y.ring y)) (d_line number) ∷ []) next) k one) in (
      here.1,
      line_done r.vars old _ now next line _ _
          (ap (λ xs. differential_claims r number (map (matrix_meaning r) (matrices_of xs))) e
          ∙ ap (λ i. line ∷ differential_claims r i (map (matrix_meaning r) (matrices_of later))) step) first (h r over).1,
    )

-- ---- generators of kernels
abbrev pub AreExactsLeft : (old : List Claim) (j : ℕ) (first : GraphValue) (all : List GeneratorsValue) (now : List Claim) → ℕ → (g : GraphValue) (left : List GeneratorsValue) → Type 0
AreExactsLeft old j first all now number g left = AreExactFrom first all → let r = first.matrix.ring in
    AreExactFrom g left × (g.matrix.ring ≡ r)
    × AreLinesLeft r.vars old (exact_claims r j (matrix_meaning r first.matrix) (generators_from r first all)) now
    (exact_claims r number (matrix_meaning r g.matrix) (generators_from r g left))

pub exacts_begun : (old : List Claim) (j : ℕ) (first : GraphValue) (all : List GeneratorsValue) → AreExactsLeft old j first all old j first all
exacts_begun old j first all exact = (exact, refl, λ final h. h)

pub exacts_done : (old : List Claim) (j : ℕ) (first : GraphValue) (all : List GeneratorsValue) (now : List Claim) (number : ℕ) (g : GraphValue)
    (left : List GeneratorsValue) → length left ≡ 0 → AreExactsLeft old j first all now number g left
    → AreExactFrom first all → let r = first.matrix.ring in HasClaims r.vars old (exact_claims r j (matrix_meaning r first.matrix) (generators_from r first all)) now
exacts_done old j first all now number g left e h exact =
    let r = first.matrix.ring in
    lines_done r.vars old _ now _ (ap (λ xs. exact_claims r number (matrix_meaning r g.matrix) (generators_from r g xs)) (nil_from_length left e)) (h exact).2

abbrev pub exact_one : (r : Ring) → ℕ → GraphValue → GeneratorsValue → writing.Claim
exact_one r number g x =
    let a = generators_meaning r g x in shown_claim (matrix_part r (matrix_meaning r g.matrix)) a.whole.log (matrix_part r a.x) (matrix_part r a.w) (exact_line number)

pub exacts_more : (old : List Claim) (j : ℕ) (first : GraphValue) (all : List GeneratorsValue) (now next : List Claim) (number up : ℕ) (g h : GraphValue)
    (x : GeneratorsValue) (left later : List GeneratorsValue) → left ≡ x ∷ later → up ≡ number + 1 → h ≡ x.graph
    → ((r : Ring) → g.matrix.ring ≡ r → AreKernelGenerators g x → HasClaims r.vars now (exact_one r number g x ∷ []) next)
    → AreExactsLeft old j first all now number g left → AreExactsLeft old j first all next up h later
exacts_more old j first all now next number up g h x left later e u k one inv exact =
    let r = first.matrix.ring in
    let here : AreExactFrom g (x ∷ later) = subst (AreExactFrom g) e (inv exact).0 in
    let ring : x.graph.matrix.ring ≡ r = here.0.generators.graph_ring ∙ (inv exact).1 in
    let step : suc number ≡ up = omega (arith, u) in
    let rest : AreLinesLeft r.vars old _ next (exact_claims r up (matrix_meaning r x.graph.matrix) (generators_from r x.graph later)) =
    line_done r.vars old _ now next (exact_one r number g x) _ _
    (ap (λ xs. exact_claims r number (matrix_meaning r g.matrix) (generators_from r g xs)) e
    ∙ ap (λ i. exact_one r number g x ∷ exact_claims r i (matrix_meaning r x.graph.matrix) (generators_from r x.graph later)) step)
    (one r (inv exact).1 here.0) (inv exact).2 in
    subst (λ (v : GraphValue). AreExactFrom v later × (v.matrix.ring ≡ r)
    × AreLinesLeft r.vars old (exact_claims r j (matrix_meaning r first.matrix) (generators_from r first all)) next
    (exact_claims r up (matrix_meaning r v.matrix) (generators_from r v later))) (sym k) (here.1, ring, rest)
