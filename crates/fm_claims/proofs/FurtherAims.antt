-- What other aims tell of inverting, of the support and of maps.
use Rattle.std.proofs.Common.{◌≡◌, ℕ, Bool, List, [], Option, Vec, refl, sym, ap, ap₂, ◌∙◌}
use Rattle.std.specs.Global.{Global}
use Rattle.fm_poly.specs.Polys.{PolyValue}
use Rattle.fm_poly.specs.declared.ring.Ring.{Ring}
use Rattle.fm_poly.specs.declared.term.Term.{Term}
use Rattle.fm_vec.specs.Components.{AreOver}
use Rattle.fm_problem.specs.declared.problem.Problem.{Problem}
use Rattle.fm_report.specs.Parts.{Part}
use Rattle.fm_report.specs.Sheets.{new_block}
use Rattle.fm_judge.specs.Claims.{source_of}
use Rattle.fm_judge.specs.Goals as goals
use Rattle.fm_places.specs.declared.aim.Aim.{Aim}
use Rattle.fm_places.specs.declared.aim.Aim.TheVariants as aims
use Rattle.fm_places.specs.declared.goal.MapSource.{MapSource}
use Rattle.fm_places.specs.Meanings.{IsAim, aim_of, inverted, support_of}

-- other aims invert 0, and have no generators
inverted_other : (r : Ring) (aim : Aim) → ((f : PolyValue) (power : Option ℕ) → aim ≡ aims.Inverting f power → ⊥) → inverted r aim ≡ record { ring = r; terms = [] }
inverted_other r (aims.Inverting f power) n = absurd (n f power refl)
inverted_other r aim n = refl

pub none_inverted : (r : Ring) (aim : Aim) (f : PolyValue) → ((g : PolyValue) (power : Option ℕ) → aim ≡ aims.Inverting g power → ⊥) → f.ring ≡ r → f.terms ≡ []
    → f ≡ inverted r aim
none_inverted r aim f n e z =
    let zero : f ≡ record { ring = r; terms = [] } = ap₂ (λ (s : Ring) (ts : List Term). record { ring = s; terms = ts }) e z in zero ∙ sym (inverted_other r aim n)

pub support_other : (aim : Aim) → ((ideal : Vec PolyValue Global) → aim ≡ aims.Support ideal → ⊥) → support_of aim ≡ []
support_other (aims.Support ideal) n = absurd (n ideal refl)
support_other aim n = refl

module _ (q : Problem) (ps : List Part) where
  pub inverted_over : (aim : Aim) → IsAim q ps aim → (inverted q.ring aim).ring ≡ q.ring
  inverted_over (aims.Inverting f power) h = h
  inverted_over aim h = refl

  pub support_over : (aim : Aim) → IsAim q ps aim → AreOver q.ring (support_of aim)
  support_over (aims.Support ideal) h = h
  support_over aim h = tt

  abbrev pub NoIncoming : Aim → Type 0
  NoIncoming aim = (source : MapSource) (is_zero is_one : Bool) (onto : Option ℕ) → aim ≡ aims.Incoming source is_zero is_one onto → ⊥

  pub source_other : (aim : Aim) → NoIncoming aim → source_of (aim_of q ps aim) ≡ record { generators = []; block = new_block 0 0; repeat = 0 }
  source_other (aims.Incoming source is_zero is_one onto) n = absurd (n source is_zero is_one onto refl)
  source_other aim n = refl

  module _ (aim : Aim) (n : NoIncoming aim) where
    pub no_differentials : (source_of (aim_of q ps aim)).block.differentials ≡ []
    unfolding new_block
    no_differentials = ap (λ (s : goals.MapSource). s.block.differentials) (source_other aim n)

    pub no_cocycles : (source_of (aim_of q ps aim)).block.cocycles ≡ []
    unfolding new_block
    no_cocycles = ap (λ (s : goals.MapSource). s.block.cocycles) (source_other aim n)

    pub no_kernels : (source_of (aim_of q ps aim)).block.kernels ≡ []
    unfolding new_block
    no_kernels = ap (λ (s : goals.MapSource). s.block.kernels) (source_other aim n)
