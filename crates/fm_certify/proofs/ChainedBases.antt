-- The lines of Ext with its chain of kernels, and the graphs of its kernels.
use Rattle.std.proofs.Common.{◌≡◌, ◌<◌, ◌-◌, ℕ, zero, suc, List, [], ◌∷◌, map, length, get_or, refl, ap, ◌∙◌, subst, arith}
use Rattle.fm_certificates.specs.Certificates.{base_block, base_claims, block_claims, chain_claims, ext_claims, kernel_graph, matrix_part}
use Rattle.fm_certify.specs.Claims.{HasClaims}
use Rattle.fm_certify.proofs.Appended.{claims_then}
use Rattle.fm_answers.specs.Answers.{datum_line}
use Rattle.fm_chain.specs.Chains.{ChainValue, chain_meaning, member_graph}
use Rattle.fm_ext.specs.Exts.{ExtValue, cocycles_matrix, ext_meaning, ring_of}
use Rattle.fm_graphs.specs.Graphs.{Graph}
use Rattle.fm_graphs.specs.Trims.{Preimage}
use Rattle.fm_mat.specs.Matrices.{MatrixValue, matrix_meaning}
use Rattle.fm_poly.specs.declared.ring.Ring.{Ring}
use Rattle.fm_problem.specs.declared.problem.Problem.{Problem}
use Rattle.fm_queries.specs.Bases.{BaseValue, IsBase, base_meaning, relations_graph}
use Rattle.fm_queries.proofs.StableGraphs.{member_ring}
use Rattle.fm_standard.specs.Writing.{plain_claim}
use Rattle.fm_syz.specs.GeneratorValues.{PreimageValue, preimage_meaning}
use Rattle.fm_syz.specs.GraphValues.{GraphValue, graph_meaning}
use Rattle.fm_writer.specs.declared.claim.Claim.{Claim}

-- ---- lines
module _ (b : BaseValue) (base : IsBase b) where
  -- the lines of the chain of a graph over its ring
  abbrev pub chain_lines : (g : GraphValue) (u : MatrixValue) (chain : ChainValue) → List Rattle.fm_standard.specs.Writing.Claim
  chain_lines g u chain = let r = g.matrix.ring in let c = chain_meaning r g chain in
      chain_claims r (matrix_part r (matrix_meaning r u)) 0 (graph_meaning r g) c.w c.links c.growth

  pub base_lines : (degree : ℕ) (old mid new : List Claim) (x : ExtValue) (g : GraphValue) (u : MatrixValue) (chain : ChainValue)
      → x ≡ b.ext → g ≡ relations_graph b → u ≡ b.ext.u → chain ≡ b.chain
      → HasClaims (ring_of x).vars old (ext_claims (ring_of x) degree (ext_meaning (ring_of x) x)) mid
      → HasClaims g.matrix.ring.vars mid (chain_lines g u chain) new
      → HasClaims (ring_of b.ext).vars old (base_claims (ring_of b.ext) degree (base_meaning (ring_of b.ext) b)) new
  base_lines degree old mid new x g u chain ext graph matrix links one two =
      let r = ring_of b.ext in
      let first = subst (λ (y : ExtValue). HasClaims (ring_of y).vars old (ext_claims (ring_of y) degree (ext_meaning (ring_of y) y)) mid) ext one in
      let rest = subst (λ (h : GraphValue). HasClaims h.matrix.ring.vars mid (chain_lines h b.ext.u b.chain) new) graph
      (subst (λ (v : MatrixValue). HasClaims g.matrix.ring.vars mid (chain_lines g v b.chain) new) matrix
      (subst (λ (d : ChainValue). HasClaims g.matrix.ring.vars mid (chain_lines g u d) new) links two)) in
      let last = subst
      (λ (s : Ring). let c = chain_meaning s (relations_graph b) b.chain in
      HasClaims s.vars mid (chain_claims s (matrix_part s (matrix_meaning s b.ext.u)) 0 (graph_meaning s (relations_graph b)) c.w c.links c.growth) new)
      base.ext.relations rest in
      claims_then r.vars old mid new _ _ first last

  -- ---- kernels
  abbrev pub kernel_value : ℕ → GraphValue
  kernel_value s = member_graph (relations_graph b) b.chain.links s

  pub kernel_ring : (s : ℕ) → (kernel_value s).matrix.ring ≡ ring_of b.ext
  kernel_ring s = member_ring (ring_of b.ext) (length (cocycles_matrix b.ext).columns) (relations_graph b) base.ext.relations base.ext.relations_rows b.chain.links base.members s

-- ---- the graphs of kernels
module _ (r : Ring) (g : GraphValue) where
  among : (links : List PreimageValue) (s : ℕ)
      → graph_meaning r (get_or (map (λ (x : PreimageValue). x.generators.graph) links) s g)
      ≡ get_or (map (λ (a : Preimage r). a.graph) (map (preimage_meaning r) links)) s (graph_meaning r g)
  among [] s = refl
  among (x ∷ links) zero = refl
  among (x ∷ links) (suc s) = among links s

  pub member_means : (links : List PreimageValue) (s : ℕ)
      → graph_meaning r (member_graph g links s)
      ≡ get_or (graph_meaning r g ∷ map (λ (a : Preimage r). a.graph) (map (preimage_meaning r) links)) s (graph_meaning r g)
  member_means links zero = refl
  member_means links (suc s) = among links s

pub kernel_means : (b : BaseValue) (s : ℕ) (h : GraphValue) → h ≡ member_graph (relations_graph b) b.chain.links s
    → let r = ring_of b.ext in graph_meaning r h ≡ kernel_graph r (base_meaning r b) s
kernel_means b s h is = let r = ring_of b.ext in ap (graph_meaning r) is ∙ member_means r (relations_graph b) b.chain.links s

-- the graph of a link, by the number of its kernel
link_at : (links : List PreimageValue) (k : ℕ) (x : PreimageValue) (d : GraphValue) → k < length links → x ≡ get_or links k x
    → x.generators.graph ≡ get_or (map (λ (y : PreimageValue). y.generators.graph) links) k d
link_at [] k x d less e = absurd (omega (arith, less))
link_at (y ∷ links) zero x d less e = ap (λ (z : PreimageValue). z.generators.graph) e
link_at (y ∷ links) (suc k) x d less e = link_at links k x d (omega (arith, less)) e

pub link_kernel : (b : BaseValue) (s : ℕ) (links : List PreimageValue) (x : PreimageValue) → links ≡ b.chain.links → (s ≡ 0 → ⊥) → s - 1 < length links
    → x ≡ get_or links (s - 1) x → x.generators.graph ≡ member_graph (relations_graph b) b.chain.links s
link_kernel b s links x same some less e =
    let number : suc (s - 1) ≡ s = omega (arith, some) in
    subst (λ (xs : List PreimageValue). x.generators.graph ≡ member_graph (relations_graph b) xs s) same
    (link_at links (s - 1) x (relations_graph b) less e ∙ ap (member_graph (relations_graph b) links) number)

-- ---- blocks
pub block_lines : (q : Problem) (k i : ℕ) (b : BaseValue) (old mid new : List Claim) → ring_of b.ext ≡ q.ring
    → HasClaims q.ring.vars old (plain_claim (datum_line q k i) ∷ []) mid
    → HasClaims (ring_of b.ext).vars mid (base_claims (ring_of b.ext) i (base_meaning (ring_of b.ext) b)) new
    → HasClaims q.ring.vars old (base_block q k i (base_meaning q.ring b)) new
block_lines q k i b old mid new ring one two =
    claims_then q.ring.vars old mid new _ _ one (subst (λ (r : Ring). HasClaims r.vars mid (base_claims r i (base_meaning r b)) new) ring two)
