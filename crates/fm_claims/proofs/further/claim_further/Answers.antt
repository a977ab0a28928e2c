use Rattle.std.proofs.Common.{refl, subst}
use Rattle.std.specs.Prelude.{IfOk, List, ℕ}
use Rattle.fm_judge.specs.Places as places
use Rattle.fm_pres.specs.Tables.{parts_in}
use Rattle.fm_pres.specs.Blocks.{parts_at}
use Rattle.fm_places.specs.declared.place.Place.{Place}
use Rattle.fm_places.specs.declared.place.Place.TheVariants as program
use Rattle.fm_places.specs.Meanings.{IsPlace}
use Rattle.fm_claims.specs.Following.{Follows, claim_in}
use Rattle.fm_claims.proofs.Followed.{follows_so, numbers_in}
use Rattle.fm_claims.proofs.FurtherPlaces.{of_map}
use Rattle.fm_claims.proofs.further.claim_further.Goals as goal

pub returns-in-Power : goal.returns-in-Power
returns-in-Power c =
    let q = c.args.problem.now in let ps = parts_in c.args.table.now in let ls = c.args.logs.now in let g = c.args.goal.now in let b = c.args.block.now in
    let row = c.args.row.now in
    follows_so q ps ls g b c.args.place (program.Power c.in-Power.t c.in-Power.k) row row c.power.result c.in-Power.is refl (c.power.ensures ls)

pub power-requires : goal.power-requires
power-requires c =
    let p = subst (λ (x : Place). IsPlace (parts_in c.args.table.now) x) c.in-Power.is c.requires.place in
    record { few = c.requires.few; aim = c.requires.goal.1; block = c.requires.block }

pub returns-in-Least : goal.returns-in-Least
returns-in-Least c =
    let q = c.args.problem.now in let ps = parts_in c.args.table.now in let ls = c.args.logs.now in let g = c.args.goal.now in let b = c.args.block.now in
    let row = c.args.row.now in
    follows_so q ps ls g b c.args.place (program.Least c.in-Least.t c.in-Least.k) row row c.least.result c.in-Least.is refl (c.least.ensures)

pub least-requires : goal.least-requires
least-requires c =
    let p = subst (λ (x : Place). IsPlace (parts_in c.args.table.now) x) c.in-Least.is c.requires.place in
    record { few_logs = c.requires.few_logs; aim = c.requires.goal.1; block = c.requires.block }

pub returns-in-Colon : goal.returns-in-Colon
returns-in-Colon c =
    let q = c.args.problem.now in let ps = parts_in c.args.table.now in let ls = c.args.logs.now in let g = c.args.goal.now in let b = c.args.block.now in
    let row = c.args.row.now in
    follows_so q ps ls g b c.args.place (program.Colon c.in-Colon.t c.in-Colon.found) row row c.colon.result c.in-Colon.is refl (c.colon.ensures)

pub colon-requires : goal.colon-requires
colon-requires c =
    let p = subst (λ (x : Place). IsPlace (parts_in c.args.table.now) x) c.in-Colon.is c.requires.place in
    record { few = c.requires.few; few_logs = c.requires.few_logs; aim = c.requires.goal.1; block = c.requires.block; found = p }

pub returns-in-ProperColon : goal.returns-in-ProperColon
returns-in-ProperColon c =
    let q = c.args.problem.now in let ps = parts_in c.args.table.now in let ls = c.args.logs.now in let g = c.args.goal.now in let b = c.args.block.now in
    let row = c.args.row.now in
    follows_so q ps ls g b c.args.place (program.ProperColon c.in-ProperColon.t c.in-ProperColon.found) row row c.proper_colon.result c.in-ProperColon.is refl (subst (λ (xs : List ℕ). IfOk c.proper_colon.result (Follows q.ring ps ls g.aim (claim_in q ps ls g b (places.proper_colon c.in-ProperColon.t (parts_at ps xs)) row))) c.deref.ensures.value (c.proper_colon.ensures q g))

pub proper_colon-requires : goal.proper_colon-requires
proper_colon-requires c =
    let p = subst (λ (x : Place). IsPlace (parts_in c.args.table.now) x) c.in-ProperColon.is c.requires.place in
    record { few_logs = c.requires.few_logs; block = c.requires.block; found = numbers_in _ _ _ c.deref.ensures.value p }

pub returns-in-Annihilator : goal.returns-in-Annihilator
returns-in-Annihilator c =
    let q = c.args.problem.now in let ps = parts_in c.args.table.now in let ls = c.args.logs.now in let g = c.args.goal.now in let b = c.args.block.now in
    let row = c.args.row.now in
    follows_so q ps ls g b c.args.place (program.Annihilator c.in-Annihilator.t) row row c.annihilator.result c.in-Annihilator.is refl (c.annihilator.ensures q c.requires.goal.1)

pub returns-in_default : goal.returns-in_default
returns-in_default c = c.claim_of_map.ensures c.args.problem.now c.requires.goal.1

pub claim_of_map-requires : goal.claim_of_map-requires
claim_of_map-requires c =
    let o = c.in_default in
    record {
      few = c.requires.few;
      few_logs = c.requires.few_logs;
      block = c.requires.block;
      place = c.requires.place;
      map = of_map c.args.place o.not-Power o.not-Least o.not-Colon o.not-ProperColon o.not-Annihilator c.requires.further;
    }
