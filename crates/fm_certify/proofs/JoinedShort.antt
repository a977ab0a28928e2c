-- Lines on links: those of a map that is onto or not, and the line `short`.
use Rattle.std.proofs.lemmas.Option.{get_or_from_slice_get, slice_get-get_or, slice_get-map}
use Rattle.std.specs.List.{slice_get}
use Rattle.std.proofs.Common.{ℕ, zero, suc, ◌≡◌, ◌-◌, ◌<◌, List, [], ◌∷◌, ◌++◌, map, length, get_or, Option, Some, None, option_map, refl, sym, ap, ap₂, ◌∙◌, subst}
use Rattle.fm_cert.specs.Kinds as kinds
use Rattle.fm_cert.specs.Lines.{Row}
use Rattle.fm_certificates.specs.Certificates.{graphs_found, link_claims, link_log, link_part, matrix_part, onto_claims, short_claim, short_claims}
use Rattle.fm_certify.specs.Claims.{HasClaims}
use Rattle.fm_certify.proofs.Appended.{claims_then}
use Rattle.fm_groebner.specs.Logs.{Entry}
use Rattle.fm_graphs.specs.Graphs as runs
use Rattle.fm_graphs.specs.Graphs.{MatrixOf}
use Rattle.fm_graphs.specs.Trims.{Preimage}
use Rattle.fm_algebra.specs.PolynomialMatrices.{matrix_zero}
use Rattle.fm_mat.specs.Matrices.{MatrixValue, matrix_meaning}
use Rattle.fm_mat.proofs.Steps.{map_length}
use Rattle.fm_plan.specs.Queries as plans
use Rattle.fm_poly.specs.declared.ring.Ring.{Ring}
use Rattle.fm_report.specs.Parts.{Part, beside, twist}
use Rattle.fm_standard.specs.Writing as writing
use Rattle.fm_support.specs.Inverting.{AreColons, preimages_meaning}
use Rattle.fm_syz.specs.GeneratorValues.{PreimageValue, preimage_meaning}
use Rattle.fm_syz.specs.GraphValues.{GraphValue, graph_meaning}
use Rattle.fm_writer.specs.Claims.{operand_part}
use Rattle.fm_writer.specs.Kinds.{named_line}
use Rattle.fm_writer.specs.declared.kinds.Named.TheVariants as named
use Rattle.fm_writer.specs.declared.claim.Claim.{Claim}
use Rattle.fm_writer.specs.declared.operand.Operand.{Operand}

-- the ring of a preimage, where there is one
abbrev HasRing : GraphValue → Option PreimageValue → Type 0
HasRing g None = Unit {0}
HasRing g (Some x) = x.generators.graph.matrix.ring ≡ g.matrix.ring

-- the chain begins with n and phi beside one another
abbrev pub join_part : (r : Ring) (n phi : MatrixValue) → Part
join_part r n phi = beside (matrix_part r (matrix_meaning r n)) (matrix_part r (matrix_meaning r phi))

pub join_over : (r s : Ring) (n phi : MatrixValue) (A : Part) → s ≡ r → A ≡ join_part s n phi → A ≡ join_part r n phi
join_over r s n phi A e h = subst (λ (q : Ring). A ≡ join_part q n phi) e h

-- a line `short` by what it names
pub short_value : (A B : Part) (E F : List Entry) (s column : ℕ) (by by_too : List ℕ) → A ≡ B → E ≡ F → by ≡ by_too
    → writing.log_claim A E (λ n. Row kinds.Short (s, (n, (column, (by, tt))))) ≡ writing.log_claim B F (λ n. Row kinds.Short (s, (n, (column, (by_too, tt)))))
short_value A B E F s column by by_too a e b =
    ap (λ X. writing.log_claim X E (λ n. Row kinds.Short (s, (n, (column, (by, tt)))))) a
    ∙ ap (λ X. writing.log_claim B X (λ n. Row kinds.Short (s, (n, (column, (by, tt)))))) e
    ∙ ap (λ X. writing.log_claim B F (λ n. Row kinds.Short (s, (n, (column, (X, tt)))))) b

-- ---- link s, where there is one
module _ (r : Ring) (xs : List PreimageValue) (k : ℕ) (x : PreimageValue) (here : slice_get xs k ≡ Some x) where
  read : slice_get (preimages_meaning r xs) k ≡ Some (preimage_meaning r x)
  read = slice_get-map (preimage_meaning r) xs k ∙ ap (option_map (preimage_meaning r)) here

  found_at : (d : MatrixOf r) → get_or (map (λ (a : Preimage r). a.found) (preimages_meaning r xs)) k d ≡ matrix_meaning r x.generators.graph.matrix
  found_at d =
      get_or_from_slice_get (map (λ (a : Preimage r). a.found) (preimages_meaning r xs)) k (matrix_meaning r x.generators.graph.matrix) d
      (slice_get-map (λ (a : Preimage r). a.found) (preimages_meaning r xs) k ∙ ap (option_map (λ (a : Preimage r). a.found)) read)

  graph_at : (d : runs.Graph r) → get_or (graphs_found r (preimages_meaning r xs)) k d ≡ graph_meaning r x.generators.graph
  graph_at d =
      get_or_from_slice_get (graphs_found r (preimages_meaning r xs)) k (graph_meaning r x.generators.graph) d
      (slice_get-map (λ (a : Preimage r). a.graph) (preimages_meaning r xs) k ∙ ap (option_map (λ (a : Preimage r). a.graph)) read)

  pub link_part_at : (L : Part) (s : ℕ) → s ≡ suc k → link_part r L (preimages_meaning r xs) s ≡ matrix_part r (matrix_meaning r x.generators.graph.matrix)
  link_part_at L s e =
      ap (λ t. link_part r L (preimages_meaning r xs) t) e ∙ ap (λ (A : MatrixOf r). matrix_part r A) (found_at (matrix_zero r.prime r.vars 0 0))

  pub link_log_at : (first : GraphValue) (s : ℕ) → s ≡ suc k → link_log r (graph_meaning r first) (preimages_meaning r xs) s ≡ x.generators.graph.log
  link_log_at first s e =
      ap (λ t. link_log r (graph_meaning r first) (preimages_meaning r xs) t) e ∙ ap (λ (g : runs.Graph r). g.log) (graph_at (graph_meaning r first))

-- link 0
pub link_part_zero : (r : Ring) (L : Part) (xs : List PreimageValue) (s : ℕ) → s ≡ 0 → link_part r L (preimages_meaning r xs) s ≡ L
link_part_zero r L xs s e = ap (λ t. link_part r L (preimages_meaning r xs) t) e

pub link_log_zero : (r : Ring) (first : GraphValue) (xs : List PreimageValue) (s : ℕ) → s ≡ 0 → link_log r (graph_meaning r first) (preimages_meaning r xs) s ≡ first.log
link_log_zero r first xs s e = ap (λ t. link_log r (graph_meaning r first) (preimages_meaning r xs) t) e

-- the ring of link k
pub link_ring : (g : GraphValue) (xs : List PreimageValue) (k : ℕ) (x : PreimageValue) → slice_get xs k ≡ Some x → AreColons g xs → x.generators.graph.matrix.ring ≡ g.matrix.ring
link_ring g [] k x e h = subst (HasRing g) e tt
link_ring g (y ∷ xs) zero x e h = subst (HasRing g) e h.0
link_ring g (y ∷ xs) (suc k) x e h = link_ring g xs k x e h.2

-- ---- twists
pub twist_join_over : (r s : Ring) (n phi : MatrixValue) (o : Operand) → s ≡ r → operand_part o ≡ twist (join_part s n phi) 1 → operand_part o ≡ twist (join_part r n phi) 1
twist_join_over r s n phi o e h = subst (λ (q : Ring). operand_part o ≡ twist (join_part q n phi) 1) e h

pub twist_over : (r : Ring) (m k : MatrixValue) (o : Operand) → m ≡ k → m.ring ≡ r → operand_part o ≡ twist (matrix_part m.ring (matrix_meaning m.ring m)) 1
    → operand_part o ≡ twist (matrix_part r (matrix_meaning r k)) 1
twist_over r m k o is e h =
    subst (λ (x : MatrixValue). operand_part o ≡ twist (matrix_part r (matrix_meaning r x)) 1) is
    (subst (λ (q : Ring). operand_part o ≡ twist (matrix_part q (matrix_meaning q m)) 1) e h)

-- the line `short`, where a column lies outside
pub short_at : (r : Ring) (L : Part) (first : GraphValue) (xs : List PreimageValue) (s : ℕ) (o : Option runs.Outside) (out : runs.Outside) (a b : List Claim)
    → s ≡ length xs - 1 → o ≡ Some out
    → HasClaims r.vars a (short_claim r s (link_part r L (preimages_meaning r xs) s) (link_log r (graph_meaning r first) (preimages_meaning r xs) s) out ∷ []) b
    → HasClaims r.vars a (short_claims r L (graph_meaning r first) (preimages_meaning r xs) (length xs - 1) o) b
short_at r L first xs s o out a b count some h =
    subst (λ (p : Option runs.Outside). HasClaims r.vars a (short_claims r L (graph_meaning r first) (preimages_meaning r xs) (length xs - 1) p) b) (sym some)
    (subst (λ (k : ℕ). HasClaims r.vars a (short_claim r k (link_part r L (preimages_meaning r xs) k) (link_log r (graph_meaning r first) (preimages_meaning r xs) k) out ∷ []) b) count h)

-- number k of a list, where there is one
pub got : (xs : List PreimageValue) (k : ℕ) (x : PreimageValue) → k < length xs → x ≡ get_or xs k x → slice_get xs k ≡ Some x
got xs k x below is = slice_get-get_or xs k x below ∙ ap (λ (y : PreimageValue). Some y) (sym is)

-- ---- a map that is onto, or is not
module _ (r : Ring) (U L : Part) (first : GraphValue) (xs : List PreimageValue) (w : MatrixValue) (a b c d : List Claim) where
  pub onto_lines : (o : Option runs.Outside) (count : ℕ) → count ≡ length xs
      → HasClaims r.vars a (link_claims r U 1 L (preimages_meaning r xs)) b
      → HasClaims r.vars b (short_claims r L (graph_meaning r first) (preimages_meaning r xs) (length xs - 1) o) c
      → HasClaims r.vars c (writing.part_claim (matrix_part r (matrix_meaning r w)) (named_line (named.Onto count)) ∷ []) d
      → HasClaims r.vars a (onto_claims r U L (plans.onto_at (graph_meaning r first) (preimages_meaning r xs) (matrix_meaning r w) o)) d
  onto_lines o count e links short line =
      let many : length xs ≡ length (preimages_meaning r xs) = sym (map_length (preimage_meaning r) xs) in
      let last : HasClaims r.vars c (writing.part_claim (matrix_part r (matrix_meaning r w)) (λ p. Row kinds.Onto (length (preimages_meaning r xs), (p, tt))) ∷ []) d =
      subst (λ (k : ℕ). HasClaims r.vars c (writing.part_claim (matrix_part r (matrix_meaning r w)) (λ p. Row kinds.Onto (k, (p, tt))) ∷ []) d) (e ∙ many) line in
      let lack : HasClaims r.vars b (short_claims r L (graph_meaning r first) (preimages_meaning r xs) (length (preimages_meaning r xs) - 1) o) c =
      subst (λ (k : ℕ). HasClaims r.vars b (short_claims r L (graph_meaning r first) (preimages_meaning r xs) (k - 1) o) c) many short in
      claims_then r.vars a b d (link_claims r U 1 L (preimages_meaning r xs))
      (short_claims r L (graph_meaning r first) (preimages_meaning r xs) (length (preimages_meaning r xs) - 1) o
      ++ writing.part_claim (matrix_part r (matrix_meaning r w)) (λ p. Row kinds.Onto (length (preimages_meaning r xs), (p, tt))) ∷ [])
      links
      (claims_then r.vars b c d (short_claims r L (graph_meaning r first) (preimages_meaning r xs) (length (preimages_meaning r xs) - 1) o)
      (writing.part_claim (matrix_part r (matrix_meaning r w)) (λ p. Row kinds.Onto (length (preimages_meaning r xs), (p, tt))) ∷ []) lack last)

  pub never_onto_lines : (o : runs.Outside) (count : ℕ) → count ≡ length xs - 1
      → HasClaims r.vars a (link_claims r U 1 L (preimages_meaning r xs)) b
      → HasClaims r.vars b (writing.part_claim (matrix_part r (matrix_meaning r w)) (named_line (named.Closes count)) ∷ []) c
      → HasClaims r.vars c (short_claims r L (graph_meaning r first) (preimages_meaning r xs) (length xs - 1) (Some o)) d
      → HasClaims r.vars a (onto_claims r U L (plans.never_onto (graph_meaning r first) (preimages_meaning r xs) (matrix_meaning r w) o)) d
  never_onto_lines o count e links line short =
      let many : length xs ≡ length (preimages_meaning r xs) = sym (map_length (preimage_meaning r) xs) in
      let closes : HasClaims r.vars b (writing.part_claim (matrix_part r (matrix_meaning r w)) (λ p. Row kinds.Closes (length (preimages_meaning r xs) - 1, (p, tt))) ∷ []) c =
      subst (λ (k : ℕ). HasClaims r.vars b (writing.part_claim (matrix_part r (matrix_meaning r w)) (λ p. Row kinds.Closes (k, (p, tt))) ∷ []) c) (e ∙ ap (λ (k : ℕ). k - 1) many) line in
      let lack : HasClaims r.vars c (short_claims r L (graph_meaning r first) (preimages_meaning r xs) (length (preimages_meaning r xs) - 1) (Some o)) d =
      subst (λ (k : ℕ). HasClaims r.vars c (short_claims r L (graph_meaning r first) (preimages_meaning r xs) (k - 1) (Some o)) d) many short in
      claims_then r.vars a b d (link_claims r U 1 L (preimages_meaning r xs))
      (writing.part_claim (matrix_part r (matrix_meaning r w)) (λ p. Row kinds.Closes (length (preimages_meaning r xs) - 1, (p, tt)))
      ∷ short_claims r L (graph_meaning r first) (preimages_meaning r xs) (length (preimages_meaning r xs) - 1) (Some o))
      links
      (claims_then r.vars b c d (writing.part_claim (matrix_part r (matrix_meaning r w)) (λ p. Row kinds.Closes (length (preimages_meaning r xs) - 1, (p, tt))) ∷ [])
      (short_claims r L (graph_meaning r first) (preimages_meaning r xs) (length (preimages_meaning r xs) - 1) (Some o)) closes lack)

-- the lines `short` over an equal ring, for an equal column
pub short_moved : (r s : Ring) (n phi : MatrixValue) (first : GraphValue) (xs : List PreimageValue) (o p : Option runs.Outside) (a b : List Claim) → s ≡ r → o ≡ p
    → HasClaims s.vars a (short_claims s (join_part s n phi) (graph_meaning s first) (preimages_meaning s xs) (length xs - 1) o) b
    → HasClaims r.vars a (short_claims r (join_part r n phi) (graph_meaning r first) (preimages_meaning r xs) (length xs - 1) p) b
short_moved r s n phi first xs o p a b e out h =
    subst (λ (q : Option runs.Outside). HasClaims r.vars a (short_claims r (join_part r n phi) (graph_meaning r first) (preimages_meaning r xs) (length xs - 1) q) b) out
    (subst (λ (q : Ring). HasClaims q.vars a (short_claims q (join_part q n phi) (graph_meaning q first) (preimages_meaning q xs) (length xs - 1) o) b) e h)
