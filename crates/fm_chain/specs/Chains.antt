-- Chains of kernels as the program holds them, and what they mean (Lyubeznik 1997, section 2).
use Rattle.std.specs.Prelude.{ℕ, suc, ◌≡◌, List, [], ◌∷◌, map, length, get_or, Option, Some, None, Vec}
use Rattle.std.specs.Global.{Global}
use Rattle.fm_poly.specs.declared.ring.Ring.{Ring}
use Rattle.fm_poly.specs.Polys.{PolyValue}
use Rattle.fm_mat.specs.declared.column.Column.{Column}
use Rattle.fm_mat.specs.Matrices.{AreColumns, columns_meaning, matrix_meaning}
use Rattle.fm_run.specs.Turns.{Turn, last, again}
use Rattle.fm_graphs.specs.Graphs as runs
use Rattle.fm_graphs.specs.Graphs.{MatrixOf}
use Rattle.fm_graphs.specs.Trims.{Preimage}
use Rattle.fm_limit.specs.Facts.{ColumnsInImage, IsChain, IsFirstRepeat}
use Rattle.fm_limit.specs.ResolvedIdeal.{matrix_at}
use Rattle.fm_plan.specs.Results as plans
use Rattle.fm_plan.specs.Base.{Links, linked}
use Rattle.fm_syz.specs.GraphValues.{GraphValue, graph_meaning}
use Rattle.fm_syz.specs.GeneratorValues.{PreimageValue, preimage_meaning}
use Rattle.fm_syz.specs.Insides.{inside_value}
use Rattle.fm_syz.specs.declared.inside.Outside.{Outside}
use Rattle.fm_chain.specs.declared.links.Link.{Link}

-- what contracts see of a chain: K_1, K_2, .., a column of each K_(s+1) outside K_s before the repeat, and the columns of w, where the last member is the one before it times w
pub record ChainValue : Type 0 where
  pub links : List PreimageValue
  pub growth : List Outside
  pub w : List (List PolyValue)

abbrev pub outside_value : Outside → runs.Outside
outside_value o = record { column = o.column; by = o.by.items; rest = o.rest.terms }

-- the graphs of K_0, K_1, ..
abbrev pub member_graphs : GraphValue → List PreimageValue → List GraphValue
member_graphs relations links = relations ∷ map (λ (x : PreimageValue). x.generators.graph) links

-- the graph of K_s
abbrev pub member_graph : GraphValue → List PreimageValue → ℕ → GraphValue
member_graph relations links s = get_or (member_graphs relations links) s relations

-- members over r with m rows
abbrev pub AreMembersOf : Ring → ℕ → List PreimageValue → Type 0
AreMembersOf r m [] = Unit {0}
AreMembersOf r m (x ∷ xs) = (x.generators.graph.matrix.ring ≡ r) × (x.generators.graph.matrix.rows ≡ m) × AreMembersOf r m xs

-- one more where there are columns
abbrev pub with_last : Option (Vec Column Global) → ℕ → ℕ
with_last (Some ws) t = suc t
with_last None t = t

module _ (r : Ring) (relations : GraphValue) where
  -- w is over r, with as many rows as K_t has columns
  abbrev pub HasFactor : ChainValue → Type 0
  HasFactor c = AreColumns r (length (member_graph relations c.links (length c.growth)).matrix.columns) c.w

  -- the same for a turn that ends with columns of w
  abbrev pub EndsWithFactor : List PreimageValue → List Outside → Option (Vec Column Global) → Type 0
  EndsWithFactor links growth (Some ws) = HasFactor (record { links = links; growth = growth; w = ws.items })
  EndsWithFactor links growth None = Unit {0}

  -- the graph of K_t is the stable one
  abbrev pub chain_meaning : ChainValue → plans.Chain r
  chain_meaning c = record {
    links = map (preimage_meaning r) c.links;
    growth = map outside_value c.growth;
    stable = graph_meaning r (member_graph relations c.links (length c.growth));
    w = record { rows = runs.width r (graph_meaning r (member_graph relations c.links (length c.growth))); columns = columns_meaning r c.w };
  }

  -- K_0, K_1, .., where K_0 are the relations
  abbrev pub kernels_of : ChainValue → List (MatrixOf r)
  kernels_of c = matrix_meaning r relations.matrix ∷ map (λ (x : Preimage r). x.found) (map (preimage_meaning r) c.links)

  -- Each K_(s+1) generates what U sends into the image of the twist of K_s, and t is the first place with K_(t+1) inside of K_t.
  pub record IsKernelChain (U : MatrixOf r) (c : ChainValue) : Type 0 where
    pub chain : IsChain r.prime r.vars U (kernels_of c) (suc (length c.growth))
    pub repeats : ColumnsInImage r.prime r.vars (matrix_at r.prime r.vars (kernels_of c) (length c.growth)) (matrix_at r.prime r.vars (kernels_of c) (suc (length c.growth)))
    pub first : IsFirstRepeat r.prime r.vars (kernels_of c) (length c.growth)

  -- members that have all grown
  abbrev pub links_meaning : List PreimageValue → List Outside → Links r
  links_meaning links growth = record {
    links = map (preimage_meaning r) links;
    growth = map outside_value growth;
    graph = graph_meaning r (member_graph relations links (length growth));
  }

  -- how a turn ends: with the chain, where there are columns of w, or with the members so far
  abbrev pub turn_value : List PreimageValue → List Outside → Option (Vec Column Global) → Turn (Links r) (plans.Chain r)
  turn_value links growth (Some ws) = last (chain_meaning (record { links = links; growth = growth; w = ws.items }))
  turn_value links growth None = again (links_meaning links growth)

-- the turn of a next member, and whether its columns lie in the one before it
abbrev pub link_value : (r : Ring) → Links r → Link → Turn (Links r) (plans.Chain r)
link_value r c x = linked r c (preimage_meaning r x.member) (inside_value r x.inside)
