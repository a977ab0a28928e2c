-- What other aims tell, and where their certificates go on.
use Rattle.std.proofs.Common.{◌≡◌, ℕ, Bool, List, [], None, Vec, refl}
use Rattle.std.specs.Global.{Global}
use Rattle.fm_poly.specs.Polys.{PolyValue}
use Rattle.fm_problem.specs.declared.problem.Problem.{Problem}
use Rattle.fm_report.specs.Parts.{Part}
use Rattle.fm_judge.specs.Claims.{stage_of, class_of, member_of}
use Rattle.fm_judge.specs.Goals as goals
use Rattle.fm_judge.specs.Places as places
use Rattle.fm_places.specs.declared.aim.Aim.{Aim}
use Rattle.fm_places.specs.declared.aim.Aim.TheVariants as aims
use Rattle.fm_places.specs.Meanings.{aim_of}

module _ (q : Problem) (ps : List Part) where
  -- ---- not on membership
  abbrev pub NoMembership : Aim → Type 0
  NoMembership aim = (f : PolyValue) (inside : Bool) → aim ≡ aims.Membership f inside → ⊥

  pub first_other : (aim : Aim) → NoMembership aim → places.first_place (aim_of q ps aim) ≡ places.datum
  first_other (aims.Membership f inside) n = absurd (n f inside refl)
  first_other aim n = refl

  pub row_other : (aim : Aim) (d : Part) → NoMembership aim → places.after_row (aim_of q ps aim) d ≡ places.foreign d
  row_other (aims.Membership f inside) d n = absurd (n f inside refl)
  row_other aim d n = refl

  pub member_other : (aim : Aim) → NoMembership aim → member_of (aim_of q ps aim) ≡ []
  member_other (aims.Membership f inside) n = absurd (n f inside refl)
  member_other aim n = refl

  -- ---- on no resolution
  abbrev pub NoResolution : Aim → Type 0
  NoResolution aim = (ranks : Vec ℕ Global) → aim ≡ aims.Resolution ranks → ⊥

  pub resolution_other : (aim : Aim) → NoResolution aim → places.after_resolution (aim_of q ps aim) ≡ places.lift 0
  resolution_other (aims.Resolution ranks) n = absurd (n ranks refl)
  resolution_other aim n = refl

  pub rank_other : (aim : Aim) (j : ℕ) → NoResolution aim → goals.told_rank (aim_of q ps aim) j ≡ None
  rank_other (aims.Resolution ranks) j n = absurd (n ranks refl)
  rank_other aim j n = refl

  -- ---- not on Ext, on no root
  abbrev pub NoExt : Aim → Type 0
  NoExt aim = (generators relations : ℕ) → aim ≡ aims.Ext generators relations → ⊥

  abbrev pub NoRoot : Aim → Type 0
  NoRoot aim = (rank moves : ℕ) → aim ≡ aims.Root rank moves → ⊥

  pub morphism_other : (aim : Aim) → NoExt aim → places.after_morphism (aim_of q ps aim) ≡ places.chain 0
  morphism_other (aims.Ext generators relations) n = absurd (n generators relations refl)
  morphism_other aim n = refl

  pub generators_other : (aim : Aim) → NoExt aim → NoRoot aim → goals.told_generators (aim_of q ps aim) ≡ None
  generators_other (aims.Ext generators relations) n m = absurd (n generators relations refl)
  generators_other (aims.Root rank moves) n m = absurd (m rank moves refl)
  generators_other aim n m = refl

  pub relations_other : (aim : Aim) → NoExt aim → goals.told_relations (aim_of q ps aim) ≡ None
  relations_other (aims.Ext generators relations) n = absurd (n generators relations refl)
  relations_other aim n = refl

  abbrev pub NoVanishing : Aim → Type 0
  NoVanishing aim = (is_zero : Bool) (moves : ℕ) → aim ≡ aims.Vanishing is_zero moves → ⊥

  pub moves_other : (aim : Aim) → NoRoot aim → NoVanishing aim → goals.told_moves (aim_of q ps aim) ≡ None
  moves_other (aims.Root rank moves) n m = absurd (n rank moves refl)
  moves_other (aims.Vanishing is_zero moves) n m = absurd (m is_zero moves refl)
  moves_other aim n m = refl

  -- ---- on no class
  abbrev pub NoDying : Aim → Type 0
  NoDying aim = (e : ℕ) (z : Vec PolyValue Global) (moves : ℕ) → aim ≡ aims.Dying e z moves → ⊥

  abbrev pub NoLiving : Aim → Type 0
  NoLiving aim = (e : ℕ) (z : Vec PolyValue Global) → aim ≡ aims.Living e z → ⊥

  pub coordinates_other : (aim : Aim) (w : Part) (t : ℕ) → NoDying aim → places.after_coordinates (aim_of q ps aim) w t ≡ places.lives_on w t
  coordinates_other (aims.Dying e z moves) w t n = absurd (n e z moves refl)
  coordinates_other aim w t n = refl

  pub stage_other : (aim : Aim) → NoDying aim → NoLiving aim → stage_of (aim_of q ps aim) ≡ 0
  stage_other (aims.Dying e z moves) n m = absurd (n e z moves refl)
  stage_other (aims.Living e z) n m = absurd (m e z refl)
  stage_other aim n m = refl

  pub class_other : (aim : Aim) → NoDying aim → NoLiving aim → class_of (aim_of q ps aim) ≡ []
  class_other (aims.Dying e z moves) n m = absurd (n e z moves refl)
  class_other (aims.Living e z) n m = absurd (m e z refl)
  class_other aim n m = refl
