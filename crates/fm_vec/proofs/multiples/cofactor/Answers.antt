use Rattle.std.proofs.Common.{ℕ, List, ap, length, sym, subst, ◌∙◌}
use Rattle.fm_tuple.specs.Tuple.{TupleDivides, tuple_difference}
use Rattle.fm_vec.proofs.Proper.{divides_maximum, length_maximum, length_cofactor}
use Rattle.fm_vec.proofs.multiples.cofactor.Goals as goal

pub quotient-requires : goal.quotient-requires
quotient-requires c = record {
  same = sym (length_maximum c.args.t c.args.u c.requires) ∙ ap length (sym c.lcm.ensures);
  divisible = subst (TupleDivides c.args.t) (sym c.lcm.ensures) (divides_maximum c.args.t c.args.u c.requires);
}

pub returns : goal.returns
returns c =
    let value = c.quotient.ensures ∙ ap (λ (z : List ℕ). tuple_difference z c.args.t) c.lcm.ensures in
    record { value = value; vars = ap length value ∙ length_cofactor c.args.t c.args.u c.requires }
