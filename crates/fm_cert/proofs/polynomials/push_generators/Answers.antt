use Rattle.std.proofs.Common.{map, string_bytes, ap}
use Rattle.fm_cert.specs.Fields.{polynomial_word}
use Rattle.fm_cert.proofs.PiecesWritten.{generators_written}
use Rattle.fm_cert.proofs.polynomials.push_generators.Goals as goal

pub returns : goal.returns
returns c =
    generators_written _ _ _ _ _ _ _ (ap (map (polynomial_word (map string_bytes c.args.names.now))) c.in-Some.ensures.cases.0)
    c.in_ok-push.ensures.items c.in_ok-push_poly.ensures.ok c.in_ok-push_more_generators.ensures
