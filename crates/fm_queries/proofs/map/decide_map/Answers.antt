use Rattle.std.proofs.Common.{◌≡◌, ◌≤◌, sym, ◌∙◌, subst}
use Rattle.fm_mat.specs.Matrices.{column_meaning}
use Rattle.fm_poly.specs.declared.ring.Ring.{Ring}
use Rattle.fm_queries.specs.Maps.{IsMapOver}
use Rattle.fm_queries.proofs.MapAsked.{test_fails, source_fails, target_fails, source_long, target_long, nested, between_fails, between_goes}
use Rattle.fm_queries.proofs.map.decide_map.Goals as goal

pub returns-in_err-test_contained-clause-follows : goal.returns-in_err-test_contained-clause-follows
returns-in_err-test_contained-clause-follows c =
    let r = c.args.ring in
    let i = c.args.degree in
    let fs = column_meaning r c.args.source.now in
    let gs = column_meaning r c.args.target.now in
    let old = c.args.work.now in
    let one = c.test_contained.new.work in
    test_fails r i fs gs old one c.in_err-test_contained.field-0.0 c.in_err-test_contained.ensures.follows c.from_residual.result c.from_residual.ensures

pub returns-in_err-source-clause-follows : goal.returns-in_err-source-clause-follows
returns-in_err-source-clause-follows c =
    let r = c.args.ring in
    let i = c.args.degree in
    let fs = column_meaning r c.args.source.now in
    let gs = column_meaning r c.args.target.now in
    let old = c.args.work.now in
    let one = c.test_contained.new.work in
    source_fails r i fs gs old one c.in_ok-test_contained.ensures.follows c.compute_base.new.work c.in_err-source.field-0.0 c.in_err-source.ensures.follows c.from_residual-in_err-source.result c.from_residual-in_err-source.ensures

pub returns-in_err-target-clause-follows : goal.returns-in_err-target-clause-follows
returns-in_err-target-clause-follows c =
    let r = c.args.ring in
    let i = c.args.degree in
    let fs = column_meaning r c.args.source.now in
    let gs = column_meaning r c.args.target.now in
    let old = c.args.work.now in
    let one = c.test_contained.new.work in
    let two = c.compute_base.new.work in
    let b = c.in_ok-source.source in
    target_fails r i fs gs old one c.in_ok-test_contained.ensures.follows two b c.in_ok-source.ensures.follows c.compute_base-2.new.work c.in_err-target.field-0.0 c.in_err-target.ensures.follows c.from_residual-in_err-target.result c.from_residual-in_err-target.ensures

pub map_between-requires-clause-some : goal.map_between-requires-clause-some
map_between-requires-clause-some c =
    subst (λ (q : Ring). 1 ≤ q.vars) (sym c.in_ok-source.ensures.ring) c.requires.some

pub map_between-requires-clause-few : goal.map_between-requires-clause-few
map_between-requires-clause-few c =
    subst (λ (q : Ring). q.vars ≤ 8) (sym c.in_ok-source.ensures.ring) c.requires.few

pub map_between-requires-clause-ring : goal.map_between-requires-clause-ring
map_between-requires-clause-ring c =
    c.in_ok-target.ensures.ring ∙ sym c.in_ok-source.ensures.ring

pub map_between-requires-clause-source : goal.map_between-requires-clause-source
map_between-requires-clause-source c =
    let r = c.args.ring in
    let i = c.args.degree in
    let fs = column_meaning r c.args.source.now in
    let gs = column_meaning r c.args.target.now in
    let old = c.args.work.now in
    let one = c.test_contained.new.work in
    let two = c.compute_base.new.work in
    let b = c.in_ok-source.source in
    let three = c.compute_base-2.new.work in
    let d = c.in_ok-target.target in
    source_long r i fs gs old one c.in_ok-test_contained.ensures.follows two b c.in_ok-source.ensures.follows three d c.in_ok-target.ensures.follows

pub map_between-requires-clause-target : goal.map_between-requires-clause-target
map_between-requires-clause-target c =
    let r = c.args.ring in
    let i = c.args.degree in
    let fs = column_meaning r c.args.source.now in
    let gs = column_meaning r c.args.target.now in
    let old = c.args.work.now in
    let one = c.test_contained.new.work in
    let two = c.compute_base.new.work in
    let b = c.in_ok-source.source in
    let three = c.compute_base-2.new.work in
    let d = c.in_ok-target.target in
    target_long r i fs gs old one c.in_ok-test_contained.ensures.follows two b c.in_ok-source.ensures.follows three d c.in_ok-target.ensures.follows

pub map_between-requires-clause-nested : goal.map_between-requires-clause-nested
map_between-requires-clause-nested c =
    let r = c.args.ring in
    let i = c.args.degree in
    let fs = column_meaning r c.args.source.now in
    let gs = column_meaning r c.args.target.now in
    let old = c.args.work.now in
    let one = c.test_contained.new.work in
    let two = c.compute_base.new.work in
    let b = c.in_ok-source.source in
    let three = c.compute_base-2.new.work in
    let d = c.in_ok-target.target in
    nested r i fs gs old one c.in_ok-test_contained.ensures.follows two b c.in_ok-source.ensures.follows three d c.in_ok-target.ensures.follows c.in_ok-source.ensures.ring

pub returns-in_err-map-clause-follows : goal.returns-in_err-map-clause-follows
returns-in_err-map-clause-follows c =
    let r = c.args.ring in
    let i = c.args.degree in
    let fs = column_meaning r c.args.source.now in
    let gs = column_meaning r c.args.target.now in
    let old = c.args.work.now in
    let one = c.test_contained.new.work in
    let two = c.compute_base.new.work in
    let b = c.in_ok-source.source in
    let three = c.compute_base-2.new.work in
    let d = c.in_ok-target.target in
    between_fails r i fs gs old one c.in_ok-test_contained.ensures.follows two b c.in_ok-source.ensures.follows three d c.in_ok-target.ensures.follows c.in_ok-source.ensures.ring c.map_between.new.work c.in_err-map.field-0.0 c.in_err-map.ensures.follows c.from_residual-in_err-map.result c.from_residual-in_err-map.ensures

pub returns-clause-follows : goal.returns-clause-follows
returns-clause-follows c =
    let r = c.args.ring in
    let i = c.args.degree in
    let fs = column_meaning r c.args.source.now in
    let gs = column_meaning r c.args.target.now in
    let old = c.args.work.now in
    let one = c.test_contained.new.work in
    let two = c.compute_base.new.work in
    let b = c.in_ok-source.source in
    let three = c.compute_base-2.new.work in
    let d = c.in_ok-target.target in
    between_goes r i fs gs old one c.in_ok-test_contained.ensures.follows two b c.in_ok-source.ensures.follows three d c.in_ok-target.ensures.follows c.in_ok-source.ensures.ring c.map_between.new.work c.in_ok-map.map c.in_ok-map.ensures.follows

pub returns-clause-over : goal.returns-clause-over
returns-clause-over c = subst (λ (q : Ring). IsMapOver q c.in_ok-map.map) c.in_ok-source.ensures.ring c.in_ok-map.ensures.over
