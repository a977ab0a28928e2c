use Rattle.std.proofs.Common.{◌≡◌, ◌++◌, map, length, string_bytes}
use Rattle.fm_cert.specs.Fields.{polynomial_word}
use Rattle.fm_cert.specs.Pieces.{AreOverVariables, after_commas}
use Rattle.fm_cert.proofs.polynomials.push_more_generators.Given as goal

abbrev pub invariant-generators : goal.invariant-generators
invariant-generators l = record {
  same : l.out.items ++ after_commas (map (polynomial_word (map string_bytes l.names)) l.left)
      ≡ l.initial.out.items ++ after_commas (map (polynomial_word (map string_bytes l.names)) l.fn.generators);
  over : AreOverVariables (length l.names) l.left;
}

abbrev pub decreases-generators : goal.decreases-generators
decreases-generators l = length l.left
