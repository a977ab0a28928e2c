-- The resolutions of the bases that plans find go through the degree that is asked.
use Rattle.std.proofs.Common.{◌≡◌, ℕ, length, Ok}
use Rattle.fm_algebra.specs.Polynomials.{Polynomial}
use Rattle.fm_graphs.specs.Listing.{VectorOf}
use Rattle.fm_poly.specs.declared.ring.Ring.{Ring}
use Rattle.fm_run.specs.declared.task.Side.TheVariants.{Alone}
use Rattle.fm_plan.specs.Queries.{ask_class, ask_invert, ask_map, ask_support, ask_zero, base_plan, plan}
use Rattle.fm_plan.specs.Results.{Ideal}
use Rattle.fm_plan.proofs.Bases.{base_is}
use Rattle.fm_queries.specs.Bases.{BaseValue, base_meaning}
use Rattle.fm_queries.specs.Founds.{class_value, invert_value, support_value, zero_value}
use Rattle.fm_queries.specs.Maps.{map_value}
use Rattle.fm_queries.specs.declared.class.Class.{Class}
use Rattle.fm_queries.specs.declared.invert.Inverting.{Inverting}
use Rattle.fm_queries.specs.declared.map.Map.{Map}
use Rattle.fm_queries.specs.declared.support.Support.{Support}
use Rattle.fm_queries.specs.declared.zero.Zero.{Zero}
use Rattle.fm_queries.proofs.MapShapes.{base_long}
use Rattle.fm_certificates.proofs.Roots.{plan_bases}

-- the resolution of this base goes through degree i
abbrev pub IsThrough : ℕ → BaseValue → Type 0
IsThrough i b = length b.ext.resolution.next ≡ i

module _ (r : Ring) (i : ℕ) (fs : Ideal r) (units left : ℕ) where
  pub zero_long : (x : Zero) → plan r (ask_zero i fs) units ≡ record { end = Ok (zero_value r i fs x); left = left } → IsThrough i x.base
  zero_long x h = base_long r i fs x.base (plan_bases r (ask_zero i fs) units left (zero_value r i fs x) h)

  pub root_long : (b : BaseValue) → base_plan r Alone i fs units ≡ record { end = Ok (base_meaning r b); left = left } → IsThrough i b
  root_long b h = base_long r i fs b (base_is r i fs Alone units left (base_meaning r b) h)

  pub support_long : (x : Support) → plan r (ask_support i fs) units ≡ record { end = Ok (support_value r i fs x); left = left } → IsThrough i x.base
  support_long x h = base_long r i fs x.base (plan_bases r (ask_support i fs) units left (support_value r i fs x) h)

  pub invert_long : (f : Polynomial r.prime r.vars) (x : Inverting) → plan r (ask_invert i fs f) units ≡ record { end = Ok (invert_value r i fs f x); left = left }
      → IsThrough i x.base
  invert_long f x h = base_long r i fs x.base (plan_bases r (ask_invert i fs f) units left (invert_value r i fs f x) h)

  pub class_long : (e : ℕ) (z : VectorOf r) (x : Class) → plan r (ask_class i fs e z) units ≡ record { end = Ok (class_value r i fs e z x); left = left }
      → IsThrough i x.base
  class_long e z x h = base_long r i fs x.base (plan_bases r (ask_class i fs e z) units left (class_value r i fs e z x) h)

  module _ (gs : Ideal r) (x : Map) (h : plan r (ask_map i fs gs) units ≡ record { end = Ok (map_value r i fs gs x); left = left }) where
    pub source_long : IsThrough i x.source
    source_long = base_long r i fs x.source (plan_bases r (ask_map i fs gs) units left (map_value r i fs gs x) h).0

    pub target_long : IsThrough i x.target
    target_long = base_long r i gs x.target (plan_bases r (ask_map i fs gs) units left (map_value r i fs gs x) h).1
