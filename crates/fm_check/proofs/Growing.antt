-- What a certificate names means the same when a part is added.
use Rattle.std.proofs.Common.{◌≡◌, ℕ, true, List, None, refl, sym, ap, ap₂, subst}
use Rattle.fm_poly.specs.declared.ring.Ring.{Ring}
use Rattle.fm_problem.specs.declared.problem.Problem.{Problem}
use Rattle.fm_report.specs.Parts.{Part}
use Rattle.fm_parts.specs.Replays.{is_number, are_numbers}
use Rattle.fm_judge.specs.Goals as goals
use Rattle.fm_judge.specs.Places as places
use Rattle.fm_pres.specs.Tables.{part_at}
use Rattle.fm_pres.specs.Blocks.{parts_at}
use Rattle.fm_pres.proofs.Tables.{Extends, number_kept, part_kept}
use Rattle.fm_places.specs.declared.aim.Aim.{Aim}
use Rattle.fm_places.specs.declared.aim.Aim.TheVariants as aims
use Rattle.fm_places.specs.declared.goal.Goal.{Goal}
use Rattle.fm_places.specs.declared.place.Place.{Place}
use Rattle.fm_places.specs.declared.place.Place.TheVariants as program
use Rattle.fm_places.specs.Meanings.{IsAim, IsGoal, IsPlace, aim_of, goal_of, ideal_at, inverted, place_of}
use Rattle.fm_asked.proofs.Grown.{numbers_kept, parts_kept, block_parts, block_same}
use Rattle.fm_check.specs.Standings.{IsCertificate, IsOpenIf}
use Rattle.fm_check.specs.declared.certificate.Certificate.{Certificate}

module _ (ps qs : List Part) (e : Extends ps qs) where
  module _ (q : Problem) where
    aim_there : (a : Aim) → IsAim q ps a → IsAim q qs a
    aim_there (aims.Incoming source is_zero is_one onto) h = (h.0, block_parts ps qs e source.block h.1)
    aim_there a h = h

    aim_same : (a : Aim) → IsAim q ps a → aim_of q ps a ≡ aim_of q qs a
    aim_same (aims.Incoming source is_zero is_one onto) h =
        ap (λ b. goals.incoming (record { generators = (ideal_at q source.ideal).generators; block = b; repeat = source.repeat }) is_zero is_one onto) (block_same ps qs e source.block h.1)
    aim_same a h = refl

    goal_there : (g : Goal) → IsGoal q ps g → IsGoal q qs g
    goal_there g h = (h.0, aim_there g.aim h.1, h.2)

    pub goal_same : (g : Goal) → IsGoal q ps g → goal_of q ps g ≡ goal_of q qs g
    goal_same g h =
        ap (λ a. record { name = (ideal_at q g.ideal).name; generators = (ideal_at q g.ideal).generators; degree = g.degree; aim = a }) (aim_same g.aim h.1)

  -- a part that is there, and parts
  part : (k : ℕ) → is_number ps k ≡ true → part_at ps k ≡ part_at qs k
  part k h = sym (part_kept ps qs e k h)

  abbrev number : (k : ℕ) → is_number ps k ≡ true → is_number qs k ≡ true
  number k h = number_kept ps qs e k h

  abbrev numbers : (ks : List ℕ) → are_numbers ps ks ≡ true → are_numbers qs ks ≡ true
  numbers ks h = numbers_kept ps qs e ks h

  abbrev parts : (ks : List ℕ) → are_numbers ps ks ≡ true → parts_at ps ks ≡ parts_at qs ks
  parts ks h = parts_kept ps qs e ks h

  place_there : (p : Place) → IsPlace ps p → IsPlace qs p
  place_there (program.Lives w t k) h = number w h
  place_there (program.Dies w t m) h = number w h
  place_there (program.LivesOn w t) h = number w h
  place_there (program.Colon t found) h = numbers found.items h
  place_there (program.ProperColon t found) h = numbers found.items h
  place_there (program.Lambda t identity) h = numbers identity.items h
  place_there (program.Phi t identity) h = numbers identity.items h
  place_there (program.Null t phi) h = number phi h
  place_there (program.NonNull t phi) h = number phi h
  place_there (program.Fibre t phi) h = number phi h
  place_there (program.One t phi c) h = (number phi h.0, number c h.1)
  place_there (program.NotOne t phi c) h = (number phi h.0, number c h.1)
  place_there (program.Link t phi found) h = (number phi h.0, numbers found.items h.1)
  place_there (program.OpenLink t phi found) h = (number phi h.0, numbers found.items h.1)
  place_there (program.Short t phi found) h = (number phi h.0, numbers found.items h.1)
  place_there (program.Onto t phi found) h = (number phi h.0, numbers found.items h.1)
  place_there (program.NeverOnto t phi found) h = (number phi h.0, numbers found.items h.1)
  place_there (program.Cofactors d) h = number d h
  place_there (program.Foreign d) h = number d h
  place_there p h = h

  pub place_same : (r : Ring) (aim : Aim) (p : Place) → IsPlace ps p → place_of r ps aim p ≡ place_of r qs aim p
  place_same r aim (program.Lives w t k) h = ap (λ x. places.lives x t k) (part w h)
  place_same r aim (program.Dies w t m) h = ap (λ x. places.dies x t m) (part w h)
  place_same r aim (program.LivesOn w t) h = ap (λ x. places.lives_on x t) (part w h)
  place_same r aim (program.Colon t found) h = ap (λ xs. places.colon (inverted r aim) t xs) (parts found.items h)
  place_same r aim (program.ProperColon t found) h = ap (λ xs. places.proper_colon t xs) (parts found.items h)
  place_same r aim (program.Lambda t identity) h = ap (λ xs. places.lambda t xs) (parts identity.items h)
  place_same r aim (program.Phi t identity) h = ap (λ xs. places.phi t xs) (parts identity.items h)
  place_same r aim (program.Null t phi) h = ap (λ x. places.null t x) (part phi h)
  place_same r aim (program.NonNull t phi) h = ap (λ x. places.nonnull t x) (part phi h)
  place_same r aim (program.Fibre t phi) h = ap (λ x. places.fibre t x) (part phi h)
  place_same r aim (program.One t phi c) h = ap₂ (λ x y. places.one t x y) (part phi h.0) (part c h.1)
  place_same r aim (program.NotOne t phi c) h = ap₂ (λ x y. places.notone t x y) (part phi h.0) (part c h.1)
  place_same r aim (program.Link t phi found) h = ap₂ (λ x ys. places.link t x ys) (part phi h.0) (parts found.items h.1)
  place_same r aim (program.OpenLink t phi found) h = ap₂ (λ x ys. places.open_link t x ys) (part phi h.0) (parts found.items h.1)
  place_same r aim (program.Short t phi found) h = ap₂ (λ x ys. places.short t x ys) (part phi h.0) (parts found.items h.1)
  place_same r aim (program.Onto t phi found) h = ap₂ (λ x ys. places.onto t x ys) (part phi h.0) (parts found.items h.1)
  place_same r aim (program.NeverOnto t phi found) h = ap₂ (λ x ys. places.never_onto t x ys) (part phi h.0) (parts found.items h.1)
  place_same r aim (program.Cofactors d) h = ap (λ x. places.cofactors x) (part d h)
  place_same r aim (program.Foreign d) h = ap (λ x. places.foreign x) (part d h)
  place_same r aim p h = refl

  pub certificate_there : (q : Problem) (c : Certificate) → c.log ≡ None → IsCertificate q ps c → IsCertificate q qs c
  certificate_there q c none h = record {
    goal = goal_there q c.goal h.goal;
    place = place_there c.place h.place;
    log = subst (IsOpenIf q.ring qs) (sym none) tt;
    before = h.before;
  }
