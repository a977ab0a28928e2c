-- Ext with its chain of kernels, as the program holds them, and what they mean.
use Rattle.std.specs.Prelude.{◌≡◌, suc, length}
use Rattle.fm_poly.specs.declared.ring.Ring.{Ring}
use Rattle.fm_plan.specs.Queries as plans
use Rattle.fm_syz.specs.GraphValues.{GraphValue}
use Rattle.fm_ext.specs.Exts.{ExtValue, IsExt, cocycles_matrix, ext_meaning, ring_of}
use Rattle.fm_chain.specs.Chains.{ChainValue, AreMembersOf, HasFactor, chain_meaning, member_graph}

pub record BaseValue : Type 0 where
  pub ext : ExtValue
  pub chain : ChainValue

abbrev pub relations_graph : BaseValue → GraphValue
relations_graph b = b.ext.relations.generators.graph

-- the graph of the stable kernel K_t
abbrev pub stable_graph : BaseValue → GraphValue
stable_graph b = member_graph (relations_graph b) b.chain.links (length b.chain.growth)

-- the chain begins with the relations: its members are over the ring of Ext, and have as many rows as there are cocycles; so is w, with as many rows as
-- the stable kernel has columns
pub record IsBase (b : BaseValue) : Type 0 where
  pub ext : IsExt b.ext
  pub members : AreMembersOf (ring_of b.ext) (length (cocycles_matrix b.ext).columns) b.chain.links
  pub count : length b.chain.links ≡ suc (length b.chain.growth)
  pub factor : HasFactor (ring_of b.ext) (relations_graph b) b.chain

abbrev pub base_meaning : (r : Ring) → BaseValue → plans.BaseOf r
base_meaning r b = record { ext = ext_meaning r b.ext; chain = chain_meaning r (relations_graph b) b.chain }
