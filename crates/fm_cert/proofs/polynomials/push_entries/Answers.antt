use Rattle.std.proofs.Common.{map, string_bytes, ap}
use Rattle.fm_cert.specs.Fields.{polynomial_word}
use Rattle.fm_cert.proofs.PiecesWritten.{first_written}
use Rattle.fm_cert.proofs.polynomials.push_entries.Goals as goal

pub returns : goal.returns
returns c =
    first_written _ _ _ _ _ _ (ap (map (polynomial_word (map string_bytes c.args.names.now))) c.in-Some.ensures.cases.0)
    c.in_ok-push_poly.ensures.ok c.in_ok-push_more_entries.ensures
