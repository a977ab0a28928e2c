use Rattle.std.proofs.Common.{◌-◌, arith, sym, subst}
use Rattle.fm_mat.specs.Matrices.{MatrixValue}
use Rattle.fm_pres.specs.Tables.{part_at}
use Rattle.fm_pres.specs.Kept.{IsValue}
use Rattle.fm_pres.specs.Nodes.{parts_of}
use Rattle.fm_pres.proofs.Tables.{is_number_bounds}
use Rattle.fm_pres.proofs.Values.{values_set}
use Rattle.fm_pres.proofs.evaluating.keep.Goals as goal

pub returns-clause-values : goal.returns-clause-values
returns-clause-values c =
    let b = is_number_bounds (parts_of c.args.nodes.now) c.args.k c.requires.number in
    values_set c.args.ring (parts_of c.args.nodes.now) c.args.values.now.items (c.args.k - 1) c.in_ok-value-2.value c.requires.values
    (omega (arith, b.0, c.requires.room))
    (subst (λ (m : MatrixValue). IsValue c.args.ring (part_at (parts_of c.args.nodes.now) c.args.k) m) (sym c.in_ok-value-2.ensures.ok) c.in_ok-value.ensures.value)
