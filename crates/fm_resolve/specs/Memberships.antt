-- The program's answers on membership.
use Rattle.fm_algebra.specs.Polynomials.{Polynomial}
use Rattle.fm_limit.specs.ResolvedIdeal.{InIdeal}
use Rattle.fm_poly.specs.declared.ring.Ring.{Ring}
use Rattle.fm_plan.specs.Queries.{Found, found_member}
use Rattle.fm_plan.specs.Results.{Ideal}
use Rattle.fm_syz.specs.GraphValues.{graph_meaning}
use Rattle.fm_syz.specs.Insides.{inside_value}
use Rattle.fm_syz.specs.declared.inside.Inside.{Inside}
use Rattle.fm_syz.specs.declared.inside.Inside.TheVariants.{All, First}
use Rattle.fm_resolve.specs.declared.membership.Membership.{Membership}

-- what the plan of a query on membership finds
abbrev pub membership_value : (r : Ring) (fs : Ideal r) (f : Polynomial r.prime r.vars) → Membership → Found r
membership_value r fs f m = found_member fs f (graph_meaning r m.first) (inside_value r m.inside)

-- the answer tells whether f lies in the ideal of fs
abbrev pub Decides : (r : Ring) (fs : Ideal r) (f : Polynomial r.prime r.vars) → Inside → Type 0
Decides r fs f (All ws) = InIdeal r.prime r.vars fs f
Decides r fs f (First o) = InIdeal r.prime r.vars fs f → ⊥

abbrev pub IsMembership : (r : Ring) (fs : Ideal r) (f : Polynomial r.prime r.vars) → Membership → Type 0
IsMembership r fs f m = Decides r fs f m.inside
