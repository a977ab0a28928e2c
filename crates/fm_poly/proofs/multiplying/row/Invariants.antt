use Rattle.std.proofs.Common.{◌≡◌, true, take}
use Rattle.fm_poly.specs.Steps.{row_fits, row_terms}
use Rattle.fm_poly.proofs.multiplying.row.Given as goal

abbrev pub invariant-loop-u : goal.invariant-loop-u
invariant-loop-u l = record {
  written : l.out.items ≡ row_terms l.ring l.t (take l.u-index l.g);
  fits : row_fits l.t (take l.u-index l.g) ≡ true;
}
