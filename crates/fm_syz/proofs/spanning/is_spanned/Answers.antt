use Rattle.std.proofs.Common.{sym, ap}
use Rattle.fm_complete.specs.Bases.{basis_value}
use Rattle.fm_complete.specs.Divisions.{terms_of}
use Rattle.fm_complete.specs.Remainders.{remainder_value}
use Rattle.fm_complete.specs.Standing.{values}
use Rattle.fm_syz.proofs.SpanTests.{none_is, completion_stops, division_stops, both_end}
use Rattle.fm_syz.proofs.spanning.is_spanned.Goals as goal

pub returns-in-Err : goal.returns-in-Err
returns-in-Err c columns w terms is =
    completion_stops c.args.ring (terms_of (values c.args.others.now)) columns w c.args.work.now terms c.in-Err.stop c.complete.new.work c.in-Err.ensures.follows

pub returns-in-Err-rest_of : goal.returns-in-Err-rest_of
returns-in-Err-rest_of c columns w terms is =
    division_stops c.args.ring (terms_of (values c.args.others.now)) columns w c.args.work.now terms (basis_value c.in-Ok.basis) c.complete.new.work c.in-Ok.ensures.follows c.deref.result.now
    c.args.v.now (ap terms_of c.deref.ensures.value) c.requires.ring is c.in-Err-rest_of.stop c.rest_of.new.work c.in-Err-rest_of.ensures.follows

pub returns : goal.returns
returns c columns w terms is =
    both_end c.args.ring (terms_of (values c.args.others.now)) columns w c.args.work.now terms (basis_value c.in-Ok.basis) c.complete.new.work c.in-Ok.ensures.follows c.deref.result.now
    c.args.v.now (ap terms_of c.deref.ensures.value) c.requires.ring is (remainder_value c.in-Ok-rest_of.x) c.rest_of.new.work c.is_none.result c.in-Ok-rest_of.ensures.follows (none_is c.is_none.result c.head.result c.in-Ok-rest_of.x.rest.terms (sym c.is_none.ensures) c.head.ensures.head)
