-- The graph of the stable kernel has the ring and the rows of the relations.
use Rattle.std.proofs.Common.{◌≡◌, ℕ, zero, suc, List, [], ◌∷◌, map, length, get_or, ◌∙◌}
use Rattle.fm_poly.specs.declared.ring.Ring.{Ring}
use Rattle.fm_syz.specs.GraphValues.{GraphValue}
use Rattle.fm_syz.specs.GeneratorValues.{PreimageValue}
use Rattle.fm_ext.specs.Exts.{cocycles_matrix, ring_of}
use Rattle.fm_chain.specs.Chains.{AreMembersOf, member_graph}
use Rattle.fm_queries.specs.Bases.{BaseValue, IsBase, relations_graph, stable_graph}

module _ (r : Ring) (m : ℕ) (g : GraphValue) (ring : g.matrix.ring ≡ r) (rows : g.matrix.rows ≡ m) where
  record Fits (h : GraphValue) : Type 0 where
    over : h.matrix.ring ≡ r
    high : h.matrix.rows ≡ m

  among : (xs : List PreimageValue) → AreMembersOf r m xs → (s : ℕ) → Fits (get_or (map (λ (x : PreimageValue). x.generators.graph) xs) s g)
  among [] of s = record { over = ring; high = rows }
  among (x ∷ xs) of zero = record { over = of.0; high = of.1 }
  among (x ∷ xs) of (suc s) = among xs of.2 s

  member : (xs : List PreimageValue) → AreMembersOf r m xs → (s : ℕ) → Fits (member_graph g xs s)
  member xs of zero = record { over = ring; high = rows }
  member xs of (suc s) = among xs of s

  pub member_ring : (xs : List PreimageValue) → AreMembersOf r m xs → (s : ℕ) → (member_graph g xs s).matrix.ring ≡ r
  member_ring xs of s = (member xs of s).over

  pub member_rows : (xs : List PreimageValue) → AreMembersOf r m xs → (s : ℕ) → (member_graph g xs s).matrix.rows ≡ m
  member_rows xs of s = (member xs of s).high

pub stable_ring : (b : BaseValue) → IsBase b → (stable_graph b).matrix.ring ≡ ring_of b.ext
stable_ring b base = member_ring (ring_of b.ext) (length (cocycles_matrix b.ext).columns) (relations_graph b) base.ext.relations base.ext.relations_rows b.chain.links base.members (length b.chain.growth)

pub stable_rows : (b : BaseValue) → IsBase b → (stable_graph b).matrix.rows ≡ length (cocycles_matrix b.ext).columns
stable_rows b base = member_rows (ring_of b.ext) (length (cocycles_matrix b.ext).columns) (relations_graph b) base.ext.relations base.ext.relations_rows b.chain.links base.members (length b.chain.growth)
