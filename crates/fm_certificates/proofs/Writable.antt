-- The parts that a certificate names can be written: all matrices of an answer are within the bound on exponents.
use Rattle.std.proofs.Common.{ℕ, zero, suc, ◌-◌, ◌≡◌, true, Option, Some, None, List, [], ◌∷◌, ◌++◌, map, length, get_or, arith}
use Rattle.fm_algebra.specs.Polynomials.{Polynomial}
use Rattle.fm_algebra.specs.PolynomialMatrices.{matrix_zero, matrix_scalar}
use Rattle.fm_limit.specs.ResolvedIdeal.{matrix_at}
use Rattle.fm_limit.specs.Facts.{unit_column, diagonal_blocks}
use Rattle.fm_poly.specs.declared.ring.Ring.{Ring}
use Rattle.fm_graphs.specs.Graphs.{MatrixOf, Graph, Outside, Inside, all_inside, first_outside, width}
use Rattle.fm_graphs.specs.Trims.{Preimage}
use Rattle.fm_graphs.specs.Within.{is_within, IsMatrixWithin, IsGraphWithin, IsInsideWithin, IsPreimageWithin}
use Rattle.fm_graphs.proofs.WithinMatrices.{zeros_within, scalar_within}
use Rattle.fm_problem.specs.declared.problem.Problem.{Problem}
use Rattle.fm_problem.specs.declared.query.Query.{Query}
use Rattle.fm_cert.specs.Lines.{Line, Row}
use Rattle.fm_cert.specs.Kinds as kinds
use Rattle.fm_report.specs.Parts.{Part, twist, flip, beside}
use Rattle.fm_plan.specs.Results.{Resolution, Ext, Killed, killed_at, never_killed, differentials_of}
use Rattle.fm_plan.specs.Queries.{BaseOf, Inverted, by_power, never_inverted, Onto, onto_at, never_onto, Found, found_zero, found_class, found_root, found_invert, found_support, found_map, found_member, found_resolution, found_ext, stable_of}
use Rattle.fm_plan.specs.Within.{AreMatricesWithin, ArePreimagesWithin, IsResolutionWithin, IsExtWithin, IsBaseWithin, IsKilledWithin, IsInvertedWithin, IsOntoWithin, IsFoundWithin}
use Rattle.fm_plan.proofs.WithinBases.{matrix_at_within}
use Rattle.fm_answers.specs.Answers.{ideal_of, target_of}
use Rattle.fm_standard.specs.Writing.{part, log, Claim, part_claim}
use Rattle.fm_certificates.specs.Certificates.{matrix_part, codifferential_part, preimage_claim, differential_claims, exact_claims, resolution_claims, lift_claims, ext_claims, chain_claims, base_claims, inside_claims, kernel_graph, lives_claims, killed_claims, least_claims, colon_claims, last_but_one, graphs_found, inverted_claims, support_claims, identity_claims, link_claims, link_part, short_claims, onto_claims, between_claims, base_block, found_claims}
use Rattle.fm_standard.specs.Said.{IsWritablePart, AreWritableReferences, AreWritableClaims}
use Rattle.fm_standard.proofs.ClaimsSaid.{claims_writable_append}
use Rattle.fm_certificates.proofs.Matrices.{matrix_writable, columns_part_writable, vector_writable, unit_column_within, blocks_within, differentials_within, codifferential_writable}

-- the polynomial that is inverted is within the bound
abbrev pub IsAskedWithin : (r : Ring) → Found r → Type 0
IsAskedWithin r (found_zero i fs b whole) = Unit {0}
IsAskedWithin r (found_class i fs b e z w killed) = Unit {0}
IsAskedWithin r (found_root i fs b) = Unit {0}
IsAskedWithin r (found_invert i fs b f inverted) = is_within r.prime r.vars f ≡ true
IsAskedWithin r (found_support i fs b a) = Unit {0}
IsAskedWithin r (found_map i fs gs b c lambda phi null fibre one onto) = Unit {0}
IsAskedWithin r (found_member fs f first inside) = Unit {0}
IsAskedWithin r (found_resolution i fs x) = Unit {0}
IsAskedWithin r (found_ext i fs x) = Unit {0}

module _ (r : Ring) where
  -- P, G, X and W
  preimage_writable : (G : Part) (a : Preimage r) → IsWritablePart r G → IsPreimageWithin r a
      → AreWritableReferences r (part (matrix_part r a.found) ∷ log G a.whole.log ∷ part (matrix_part r a.x) ∷ part (matrix_part r a.w) ∷ [])
  preimage_writable G a g w = (matrix_writable r a.found w.found, (g, (matrix_writable r a.x w.x, (matrix_writable r a.w w.w, tt))))

  outside_writable : (g : Graph r) → IsGraphWithin r g → AreWritableReferences r (log (matrix_part r g.matrix) g.log ∷ [])
  outside_writable g w = (matrix_writable r g.matrix w.matrix, tt)

  -- ---- resolutions and Ext
  differentials_writable : (j : ℕ) (ds : List (MatrixOf r)) → AreMatricesWithin r ds → AreWritableClaims r (differential_claims r j ds)
  differentials_writable j [] w = tt
  differentials_writable j (d ∷ ds) w = ((matrix_writable r d w.0, tt), differentials_writable (suc j) ds w.1)

  exact_writable : (j : ℕ) (d : MatrixOf r) (xs : List (Preimage r)) → IsMatrixWithin r d → ArePreimagesWithin r xs → AreWritableClaims r (exact_claims r j d xs)
  exact_writable j d [] v w = tt
  exact_writable j d (a ∷ later) v w =
      ((matrix_writable r d v, (matrix_writable r a.x w.0.x, (matrix_writable r a.w w.0.w, tt))), exact_writable (suc j) a.found later w.0.found w.1)

  pub resolution_writable : (x : Resolution r) → IsResolutionWithin r x → AreWritableClaims r (resolution_claims r x)
  resolution_writable x w =
      claims_writable_append r (differential_claims r 1 (differentials_of r x)) (exact_claims r 1 x.first.matrix x.next)
      (differentials_writable 1 (differentials_of r x) (differentials_within r x w)) (exact_writable 1 x.first.matrix x.next w.first.matrix w.next)

  lifts_writable : (j : ℕ) (As : List (MatrixOf r)) → AreMatricesWithin r As → AreWritableClaims r (lift_claims r j As)
  lifts_writable j [] w = tt
  lifts_writable j (A ∷ As) w = ((matrix_writable r A w.0, tt), lifts_writable (suc j) As w.1)

  pub ext_writable : (i : ℕ) (y : Ext r) → IsExtWithin r y → AreWritableClaims r (ext_claims r i y)
  ext_writable i y w =
      let ds = differentials_within r y.resolution w.resolution in
      let d = matrix_at r.prime r.vars (differentials_of r y.resolution) i in
      claims_writable_append r (resolution_claims r y.resolution) _ (resolution_writable y.resolution w.resolution)
      (claims_writable_append r (lift_claims r 0 y.lift) _ (lifts_writable 0 y.lift w.lift) (
        preimage_writable (flip (matrix_part r d)) y.cocycles (matrix_writable r d (matrix_at_within r (differentials_of r y.resolution) ds i)) w.cocycles,
        (
          preimage_writable (beside (matrix_part r y.cocycles.found) (codifferential_part r y.resolution i)) y.relations (matrix_writable r y.cocycles.found w.cocycles.found, codifferential_writable r y.resolution w.resolution i) w.relations,
          ((matrix_writable r y.u w.u, tt), tt),
        ),
      ))

  -- ---- chains
  chain_writable : (U : MatrixOf r) (s : ℕ) (g : Graph r) (w : MatrixOf r) (links : List (Preimage r)) (growth : List Outside)
      → IsMatrixWithin r U → IsGraphWithin r g → IsMatrixWithin r w → ArePreimagesWithin r links → AreWritableClaims r (chain_claims r (matrix_part r U) s g w links growth)
  chain_writable U s g w [] growth u v h k = tt
  chain_writable U s g w (a ∷ later) [] u v h k =
      (preimage_writable (beside (matrix_part r U) (twist (matrix_part r g.matrix) 1)) a (matrix_writable r U u, (matrix_writable r g.matrix v.matrix, omega arith)) k.0, ((matrix_writable r w h, tt), tt))
  chain_writable U s g w (a ∷ later) (o ∷ growth) u v h k = (
    preimage_writable (beside (matrix_part r U) (twist (matrix_part r g.matrix) 1)) a (matrix_writable r U u, (matrix_writable r g.matrix v.matrix, omega arith)) k.0,
    (outside_writable g v, chain_writable U (suc s) a.graph w later growth u k.0.graph h k.1),
  )

  pub base_writable : (i : ℕ) (b : BaseOf r) → IsBaseWithin r b → AreWritableClaims r (base_claims r i b)
  base_writable i b w =
      claims_writable_append r (ext_claims r i b.ext) _ (ext_writable i b.ext w.ext)
      (chain_writable b.ext.u 0 b.ext.relations.graph b.chain.w b.chain.links b.chain.growth w.ext.u w.ext.relations.graph w.chain.w w.chain.links)

  inside_writable : (g : Graph r) (y : Inside r) (all : ℕ → Line) (some : (n c : ℕ) → List ℕ → Line) → IsGraphWithin r g → IsInsideWithin r y → AreWritableClaims r (inside_claims r g y all some)
  inside_writable g (all_inside ws) all some v w = ((columns_part_writable r (width r g) ws w, tt), tt)
  inside_writable g (first_outside o) all some v w = (outside_writable g v, tt)

  -- ---- classes
  graph_found : (d : Graph r) (xs : List (Preimage r)) (s : ℕ) → IsGraphWithin r d → ArePreimagesWithin r xs → IsGraphWithin r (get_or (graphs_found r xs) s d)
  graph_found d [] s v w = v
  graph_found d (x ∷ xs) zero v w = w.0.graph
  graph_found d (x ∷ xs) (suc s) v w = graph_found d xs s v w.1

  kernel_within : (b : BaseOf r) → IsBaseWithin r b → (s : ℕ) → IsGraphWithin r (kernel_graph r b s)
  kernel_within b w zero = w.ext.relations.graph
  kernel_within b w (suc s) = graph_found b.ext.relations.graph b.chain.links s w.ext.relations.graph w.chain.links

  lives_writable : (k : ℕ) (g : Graph r) (o : Option Outside) → IsGraphWithin r g → AreWritableClaims r (lives_claims r k g o)
  lives_writable k g None w = tt
  lives_writable k g (Some o) w = (outside_writable g w, tt)

  killed_writable : (b : BaseOf r) (y : Killed r) → IsBaseWithin r b → IsKilledWithin r y → AreWritableClaims r (killed_claims r b y)
  killed_writable b (killed_at s v before) w h =
      claims_writable_append r (lives_claims r (s - 1) (kernel_graph r b (s - 1)) before) _ (lives_writable (s - 1) (kernel_graph r b (s - 1)) before (kernel_within b w (s - 1))) ((vector_writable r v h, tt), tt)
  killed_writable b (never_killed before) w h = lives_writable (stable_of r b) b.chain.stable before w.chain.stable

  -- ---- inverting
  least_writable : (g : Graph r) (o : Option Outside) → IsGraphWithin r g → AreWritableClaims r (least_claims r g o)
  least_writable g None w = tt
  least_writable g (Some o) w = (outside_writable g w, tt)

  colons_writable : (f : Polynomial r.prime r.vars) → is_within r.prime r.vars f ≡ true → (j : ℕ) (C : MatrixOf r) (xs : List (Preimage r)) → IsMatrixWithin r C → ArePreimagesWithin r xs
      → AreWritableClaims r (colon_claims r f j C xs)
  colons_writable f h j C [] v w = tt
  colons_writable f h j C (a ∷ later) v w = (
    preimage_writable (beside (matrix_part r (matrix_scalar r.prime r.vars f C.rows)) (matrix_part r C)) a (matrix_writable r (matrix_scalar r.prime r.vars f C.rows) (scalar_within r.prime r.vars f C.rows h), matrix_writable r C v) w.0,
    colons_writable f h (suc j) a.found later w.0.found w.1,
  )

  abbrev AreGraphsWithin : List (Graph r) → Type 0
  AreGraphsWithin [] = Unit {0}
  AreGraphsWithin (g ∷ gs) = IsGraphWithin r g × AreGraphsWithin gs

  found_within : (xs : List (Preimage r)) → ArePreimagesWithin r xs → AreGraphsWithin (graphs_found r xs)
  found_within [] w = tt
  found_within (x ∷ xs) w = (w.0.graph, found_within xs w.1)

  before_last_within : (g : Graph r) (gs : List (Graph r)) → IsGraphWithin r g → AreGraphsWithin gs → IsGraphWithin r (last_but_one r g gs)
  before_last_within g [] v w = v
  before_last_within g (h ∷ []) v w = v
  before_last_within g (h ∷ k ∷ more) v w = before_last_within h (k ∷ more) w.0 w.1

  inverted_writable : (b : BaseOf r) (f : Polynomial r.prime r.vars) (y : Inverted r) → IsBaseWithin r b → is_within r.prime r.vars f ≡ true → IsInvertedWithin r y
      → AreWritableClaims r (inverted_claims r b f y)
  inverted_writable b f (by_power k v before) w h i = ((matrix_writable r v i, tt), least_writable b.chain.stable before w.chain.stable)
  inverted_writable b f (never_inverted colons v proper) w h i =
      claims_writable_append r (colon_claims r f 1 b.chain.stable.matrix colons) _ (colons_writable f h 1 b.chain.stable.matrix colons w.chain.stable.matrix i.0)
      ((matrix_writable r v i.1, tt), (outside_writable (last_but_one r b.chain.stable (graphs_found r colons)) (before_last_within b.chain.stable (graphs_found r colons) w.chain.stable (found_within colons i.0)), tt))

  -- ---- the support
  support_writable : (b : BaseOf r) (a : Preimage r) → IsBaseWithin r b → IsPreimageWithin r a → AreWritableClaims r (support_claims r b a)
  support_writable b a w v =
      let K = b.chain.stable.matrix in
      let E = unit_column r.prime r.vars K.rows in
      let D = diagonal_blocks r.prime r.vars K in
      (preimage_writable (beside (matrix_part r E) (matrix_part r D)) a (matrix_writable r E (unit_column_within r K.rows), matrix_writable r D (blocks_within r K w.chain.stable.matrix)) v, tt)

  -- ---- maps
  identities_writable : (j : ℕ) (As : List (MatrixOf r)) → AreMatricesWithin r As → AreWritableClaims r (identity_claims r j As)
  identities_writable j [] w = tt
  identities_writable j (A ∷ As) w = ((matrix_writable r A w.0, tt), identities_writable (suc j) As w.1)

  links_writable : (U : MatrixOf r) (j : ℕ) (L : Part) (xs : List (Preimage r)) → IsMatrixWithin r U → IsWritablePart r L → ArePreimagesWithin r xs
      → AreWritableClaims r (link_claims r (matrix_part r U) j L xs)
  links_writable U j L [] u l w = tt
  links_writable U j L (a ∷ later) u l w =
      (preimage_writable (beside (matrix_part r U) (twist L 1)) a (matrix_writable r U u, (l, omega arith)) w.0, links_writable U (suc j) (matrix_part r a.found) later u (matrix_writable r a.found w.0.found) w.1)

  link_found : (d : MatrixOf r) (xs : List (Preimage r)) (s : ℕ) → IsMatrixWithin r d → ArePreimagesWithin r xs → IsMatrixWithin r (get_or (map (λ (a : Preimage r). a.found) xs) s d)
  link_found d [] s v w = v
  link_found d (x ∷ xs) zero v w = w.0.found
  link_found d (x ∷ xs) (suc s) v w = link_found d xs s v w.1

  link_writable : (L : Part) (xs : List (Preimage r)) (s : ℕ) → IsWritablePart r L → ArePreimagesWithin r xs → IsWritablePart r (link_part r L xs s)
  link_writable L xs zero l w = l
  link_writable L xs (suc s) l w =
      let O = matrix_zero r.prime r.vars 0 0 in
      matrix_writable r (get_or (map (λ (a : Preimage r). a.found) xs) s O) (link_found O xs s (zeros_within r.prime r.vars 0 0) w)

  shorts_writable : (L : Part) (first : Graph r) (xs : List (Preimage r)) (s : ℕ) (o : Option Outside) → IsWritablePart r L → ArePreimagesWithin r xs → AreWritableClaims r (short_claims r L first xs s o)
  shorts_writable L first xs s None l w = tt
  shorts_writable L first xs s (Some o) l w = ((link_writable L xs s l w, tt), tt)

  onto_writable : (U : MatrixOf r) (L : Part) (y : Onto r) → IsMatrixWithin r U → IsWritablePart r L → IsOntoWithin r y → AreWritableClaims r (onto_claims r (matrix_part r U) L y)
  onto_writable U L (onto_at first links v before) u l w =
      claims_writable_append r (link_claims r (matrix_part r U) 1 L links) _ (links_writable U 1 L links u l w.1)
      (claims_writable_append r (short_claims r L first links (length links - 1) before) _ (shorts_writable L first links (length links - 1) before l w.1) ((matrix_writable r v w.2, tt), tt))
  onto_writable U L (never_onto first links v proper) u l w =
      claims_writable_append r (link_claims r (matrix_part r U) 1 L links) _ (links_writable U 1 L links u l w.1)
      ((matrix_writable r v w.2, tt), shorts_writable L first links (length links - 1) (Some proper) l w.1)

  between_writable : (b c : BaseOf r) (lambda : List (MatrixOf r)) (phi : MatrixOf r) (null : Inside r) (fibre : Preimage r) (one : Inside r) (onto : Onto r)
      → IsBaseWithin r b → IsBaseWithin r c → AreMatricesWithin r lambda → IsMatrixWithin r phi → IsInsideWithin r null → IsPreimageWithin r fibre → IsInsideWithin r one → IsOntoWithin r onto
      → AreWritableClaims r (between_claims r b c lambda phi null fibre one onto)
  between_writable b c lambda phi null fibre one onto vb vc vl vp vn vf vo w =
      let Phi = matrix_writable r phi vp in
      let K = c.chain.stable.matrix in
      let G = beside (matrix_part r phi) (matrix_part r K) in
      let L = beside (matrix_part r c.ext.relations.found) (matrix_part r phi) in
      let nulls = inside_claims r c.chain.stable null (λ p. Row kinds.Null (p, tt)) (λ n k by. Row kinds.NonNull (n, (k, (by, tt)))) in
      let fibres = preimage_claim r G fibre (λ p n x w. Row kinds.Fibre (p, (n, (x, (w, tt))))) in
      let ones = inside_claims r b.chain.stable one (λ p. Row kinds.One (p, tt)) (λ n k by. Row kinds.NotOne (n, (k, (by, tt)))) in
      let ontos = onto_claims r (matrix_part r c.ext.u) L onto in
      let front = identity_claims r 0 lambda ++ part_claim (matrix_part r phi) (λ p. Row kinds.Phi (p, tt)) ∷ nulls in
      claims_writable_append r (front ++ fibres ∷ ones) ontos
      (claims_writable_append r front (fibres ∷ ones)
      (claims_writable_append r (identity_claims r 0 lambda) (part_claim (matrix_part r phi) (λ p. Row kinds.Phi (p, tt)) ∷ nulls)
      (identities_writable 0 lambda vl) ((Phi, tt), inside_writable c.chain.stable null _ _ vc.chain.stable vn))
      (preimage_writable G fibre (Phi, matrix_writable r K vc.chain.stable.matrix) vf, inside_writable b.chain.stable one _ _ vb.chain.stable vo))
      (onto_writable c.ext.u L onto vc.ext.u (matrix_writable r c.ext.relations.found vc.ext.relations.found, Phi) w)

-- ---- answers
module _ (q : Problem) where
  block_writable : (k i : ℕ) (b : BaseOf q.ring) (cs : List Claim) → IsBaseWithin q.ring b → AreWritableClaims q.ring cs → AreWritableClaims q.ring (base_block q k i b ++ cs)
  block_writable k i b cs w v = (tt, claims_writable_append q.ring (base_claims q.ring i b) cs (base_writable q.ring i b w) v)

  pub found_writable : (z : Query) (x : Found q.ring) → IsFoundWithin q.ring x → IsAskedWithin q.ring x → AreWritableClaims q.ring (found_claims q z x)
  found_writable z (found_zero i fs b whole) w a = block_writable (ideal_of z) i b _ w.0 (inside_writable q.ring b.chain.stable whole _ _ w.0.chain.stable w.1)
  found_writable z (found_class i fs b e c v killed) w a =
      block_writable (ideal_of z) i b _ w.0 ((vector_writable q.ring v w.1, tt), killed_writable q.ring b killed w.0 w.2)
  found_writable z (found_root i fs b) w a = (tt, base_writable q.ring i b w)
  found_writable z (found_invert i fs b f inverted) w a = block_writable (ideal_of z) i b _ w.0 (inverted_writable q.ring b f inverted w.0 a w.1)
  found_writable z (found_support i fs b x) w a = block_writable (ideal_of z) i b _ w.0 (support_writable q.ring b x w.0 w.1)
  found_writable z (found_map i fs gs b c lambda phi null fibre one onto) w a =
      block_writable (ideal_of z) i b _ w.0
      (block_writable (target_of z) i c _ w.1 (between_writable q.ring b c lambda phi null fibre one onto w.0 w.1 w.2 w.3 w.4 w.5 w.6 w.7))
  found_writable z (found_member fs f first inside) w a = ((matrix_writable q.ring first.matrix w.0.matrix, tt), inside_writable q.ring first inside _ _ w.0 w.1)
  found_writable z (found_resolution i fs x) w a = (tt, resolution_writable q.ring x w)
  found_writable z (found_ext i fs x) w a = (tt, ext_writable q.ring i x w)
