use Rattle.std.proofs.Common.{refl, subst}
use Rattle.std.specs.Prelude.{IfOk, List, ℕ}
use Rattle.fm_judge.specs.Places as places
use Rattle.fm_pres.specs.Tables.{parts_in, part_at}
use Rattle.fm_pres.specs.Blocks.{parts_at}
use Rattle.fm_places.specs.declared.place.Place.{Place}
use Rattle.fm_places.specs.declared.place.Place.TheVariants as program
use Rattle.fm_places.specs.Meanings.{IsPlace}
use Rattle.fm_claims.specs.Following.{Follows, claim_in}
use Rattle.fm_claims.proofs.Followed.{follows_so, numbers_in}
use Rattle.fm_claims.proofs.FurtherPlaces.{no_other}
use Rattle.fm_claims.proofs.further.claim_of_map.Goals as goal

pub lambda-requires : goal.lambda-requires
lambda-requires c =
    let p = subst (λ (x : Place). IsPlace (parts_in c.args.table.now) x) c.in-Lambda.is c.requires.place in
    record { few = c.requires.few; block = c.requires.block; identity = p }

pub returns-in-Lambda : goal.returns-in-Lambda
returns-in-Lambda c = λ q a.
    let ps = parts_in c.args.table.now in let ls = c.args.logs.now in let g = c.args.goal.now in let b = c.args.block.now in
    let row = c.args.row.now in
    follows_so q ps ls g b c.args.place (program.Lambda c.in-Lambda.t c.in-Lambda.identity) row row c.lambda.result c.in-Lambda.is refl (c.lambda.ensures q ls a)

pub phi-requires : goal.phi-requires
phi-requires c =
    let p = subst (λ (x : Place). IsPlace (parts_in c.args.table.now) x) c.in-Phi.is c.requires.place in
    record { few = c.requires.few; block = c.requires.block; identity = numbers_in _ _ _ c.deref.ensures.value p }

pub returns-in-Phi : goal.returns-in-Phi
returns-in-Phi c = λ q a.
    let ps = parts_in c.args.table.now in let ls = c.args.logs.now in let g = c.args.goal.now in let b = c.args.block.now in
    let row = c.args.row.now in
    follows_so q ps ls g b c.args.place (program.Phi c.in-Phi.t c.in-Phi.identity) row row c.phi.result c.in-Phi.is refl (subst (λ (xs : List ℕ). IfOk c.phi.result (Follows q.ring ps ls g.aim (claim_in q ps ls g b (places.phi c.in-Phi.t (parts_at ps xs)) row))) c.deref.ensures.value (c.phi.ensures q ls a))

pub null-requires : goal.null-requires
null-requires c =
    let p = subst (λ (x : Place). IsPlace (parts_in c.args.table.now) x) c.in-Null.is c.requires.place in
    record { few = c.requires.few; block = c.requires.block; phi = p }

pub returns-in-Null : goal.returns-in-Null
returns-in-Null c = λ q a.
    let ps = parts_in c.args.table.now in let ls = c.args.logs.now in let g = c.args.goal.now in let b = c.args.block.now in
    let row = c.args.row.now in
    follows_so q ps ls g b c.args.place (program.Null c.in-Null.t c.in-Null.phi) row row c.null.result c.in-Null.is refl (c.null.ensures q ls g)

pub non_null-requires : goal.non_null-requires
non_null-requires c =
    let p = subst (λ (x : Place). IsPlace (parts_in c.args.table.now) x) c.in-NonNull.is c.requires.place in
    record { few_logs = c.requires.few_logs; block = c.requires.block; phi = p }

pub returns-in-NonNull : goal.returns-in-NonNull
returns-in-NonNull c = λ q a.
    let ps = parts_in c.args.table.now in let ls = c.args.logs.now in let g = c.args.goal.now in let b = c.args.block.now in
    let row = c.args.row.now in
    follows_so q ps ls g b c.args.place (program.NonNull c.in-NonNull.t c.in-NonNull.phi) row row c.non_null.result c.in-NonNull.is refl (c.non_null.ensures q g)

pub fibre-requires : goal.fibre-requires
fibre-requires c =
    let p = subst (λ (x : Place). IsPlace (parts_in c.args.table.now) x) c.in-Fibre.is c.requires.place in
    record { few = c.requires.few; few_logs = c.requires.few_logs; block = c.requires.block; phi = p }

pub returns-in-Fibre : goal.returns-in-Fibre
returns-in-Fibre c = λ q a.
    let ps = parts_in c.args.table.now in let ls = c.args.logs.now in let g = c.args.goal.now in let b = c.args.block.now in
    let row = c.args.row.now in
    follows_so q ps ls g b c.args.place (program.Fibre c.in-Fibre.t c.in-Fibre.phi) row row c.fibre.result c.in-Fibre.is refl (c.fibre.ensures q)

pub one-requires : goal.one-requires
one-requires c =
    let p = subst (λ (x : Place). IsPlace (parts_in c.args.table.now) x) c.in-One.is c.requires.place in
    record { few = c.requires.few; phi = p.0; c = p.1 }

pub returns-in-One : goal.returns-in-One
returns-in-One c = λ q a.
    let ps = parts_in c.args.table.now in let ls = c.args.logs.now in let g = c.args.goal.now in let b = c.args.block.now in
    let row = c.args.row.now in
    follows_so q ps ls g b c.args.place (program.One c.in-One.t c.in-One.phi c.in-One.c) row row c.one.result c.in-One.is refl (c.one.ensures q ls b a)

pub not_one-requires : goal.not_one-requires
not_one-requires c =
    let p = subst (λ (x : Place). IsPlace (parts_in c.args.table.now) x) c.in-NotOne.is c.requires.place in
    record { few_logs = c.requires.few_logs; phi = p.0; c = p.1 }

pub returns-in-NotOne : goal.returns-in-NotOne
returns-in-NotOne c = λ q a.
    let ps = parts_in c.args.table.now in let ls = c.args.logs.now in let g = c.args.goal.now in let b = c.args.block.now in
    let row = c.args.row.now in
    follows_so q ps ls g b c.args.place (program.NotOne c.in-NotOne.t c.in-NotOne.phi c.in-NotOne.c) row row c.not_one.result c.in-NotOne.is refl (c.not_one.ensures q b a)

pub link-requires : goal.link-requires
link-requires c =
    let p = subst (λ (x : Place). IsPlace (parts_in c.args.table.now) x) c.in-Link.is c.requires.place in
    record { few = c.requires.few; few_logs = c.requires.few_logs; block = c.requires.block; phi = p.0; found = p.1 }

pub returns-in-Link : goal.returns-in-Link
returns-in-Link c = λ q a.
    let ps = parts_in c.args.table.now in let ls = c.args.logs.now in let g = c.args.goal.now in let b = c.args.block.now in
    let row = c.args.row.now in
    follows_so q ps ls g b c.args.place (program.Link c.in-Link.t c.in-Link.phi c.in-Link.found) row row c.link.result c.in-Link.is refl (c.link.ensures q)

pub open_link-requires : goal.open_link-requires
open_link-requires c =
    let p = subst (λ (x : Place). IsPlace (parts_in c.args.table.now) x) c.in-OpenLink.is c.requires.place in
    record { few = c.requires.few; few_logs = c.requires.few_logs; block = c.requires.block; phi = p.0; found = p.1 }

pub returns-in-OpenLink : goal.returns-in-OpenLink
returns-in-OpenLink c = λ q a.
    let ps = parts_in c.args.table.now in let ls = c.args.logs.now in let g = c.args.goal.now in let b = c.args.block.now in
    let row = c.args.row.now in
    follows_so q ps ls g b c.args.place (program.OpenLink c.in-OpenLink.t c.in-OpenLink.phi c.in-OpenLink.found) row row c.open_link.result c.in-OpenLink.is refl (c.open_link.ensures q g)

pub short-requires : goal.short-requires
short-requires c =
    let p = subst (λ (x : Place). IsPlace (parts_in c.args.table.now) x) c.in-Short.is c.requires.place in
    record { few_logs = c.requires.few_logs; block = c.requires.block; phi = p.0; found = p.1 }

pub returns-in-Short : goal.returns-in-Short
returns-in-Short c = λ q a.
    let ps = parts_in c.args.table.now in let ls = c.args.logs.now in let g = c.args.goal.now in let b = c.args.block.now in
    let row = c.args.row.now in
    follows_so q ps ls g b c.args.place (program.Short c.in-Short.t c.in-Short.phi c.in-Short.found) row row c.short.result c.in-Short.is refl (c.short.ensures q g)

pub onto-requires : goal.onto-requires
onto-requires c =
    let p = subst (λ (x : Place). IsPlace (parts_in c.args.table.now) x) c.in-Onto.is c.requires.place in
    record { few = c.requires.few; block = c.requires.block; phi = p.0; found = numbers_in _ _ _ c.deref-in-Onto.ensures.value p.1 }

pub returns-in-Onto : goal.returns-in-Onto
returns-in-Onto c = λ q a.
    let ps = parts_in c.args.table.now in let ls = c.args.logs.now in let g = c.args.goal.now in let b = c.args.block.now in
    let row = c.args.row.now in
    follows_so q ps ls g b c.args.place (program.Onto c.in-Onto.t c.in-Onto.phi c.in-Onto.found) row row c.onto.result c.in-Onto.is refl (subst (λ (xs : List ℕ). IfOk c.onto.result (Follows q.ring ps ls g.aim (claim_in q ps ls g b (places.onto c.in-Onto.t (part_at ps c.in-Onto.phi) (parts_at ps xs)) row))) c.deref-in-Onto.ensures.value (c.onto.ensures q ls g c.in-Onto.t))

pub never_onto-requires : goal.never_onto-requires
never_onto-requires c =
    let p = subst (λ (x : Place). IsPlace (parts_in c.args.table.now) x) c.in-NeverOnto.is c.requires.place in
    record { few_logs = c.requires.few_logs; block = c.requires.block; phi = p.0; found = numbers_in _ _ _ c.deref-in-NeverOnto.ensures.value p.1 }

pub returns-in-NeverOnto : goal.returns-in-NeverOnto
returns-in-NeverOnto c = λ q a.
    let ps = parts_in c.args.table.now in let ls = c.args.logs.now in let g = c.args.goal.now in let b = c.args.block.now in
    let row = c.args.row.now in
    follows_so q ps ls g b c.args.place (program.NeverOnto c.in-NeverOnto.t c.in-NeverOnto.phi c.in-NeverOnto.found) row row c.never_onto.result c.in-NeverOnto.is refl (subst (λ (xs : List ℕ). IfOk c.never_onto.result (Follows q.ring ps ls g.aim (claim_in q ps ls g b (places.never_onto c.in-NeverOnto.t (part_at ps c.in-NeverOnto.phi) (parts_at ps xs)) row))) c.deref-in-NeverOnto.ensures.value (c.never_onto.ensures q g c.in-NeverOnto.t))

pub unreachable-requires : goal.unreachable-requires
unreachable-requires c = let o = c.in_default in
    no_other c.args.place o.not-Lambda o.not-Phi o.not-Null o.not-NonNull o.not-Fibre o.not-One o.not-NotOne o.not-Link o.not-OpenLink o.not-Short o.not-Onto o.not-NeverOnto c.requires.map
