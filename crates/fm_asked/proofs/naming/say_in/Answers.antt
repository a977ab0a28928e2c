use Rattle.std.proofs.Common.{◌≡◌, nat_lt, length, refl, ap, arith}
use Rattle.fm_pres.specs.Tables.{parts_in}
use Rattle.fm_asked.proofs.Namings.{differential_said, lift_said, generators_said, z_said, relations_said, n_said, morphism_said, u_said, chain_said, k_said, stable_said, nothing_in, not_needing}
use Rattle.fm_asked.proofs.naming.say_in.Goals as goal

pub returns-in-D-clause-said : goal.returns-in-D-clause-said
returns-in-D-clause-said c = λ w.
    rw c.in-D.is (differential_said (parts_in c.args.table.now) c.args.block.now c.add_after.new.list c.in-D.part c.add_after.result c.in-D.j c.add_after.ensures.adds)

pub returns-in-Theta-clause-said : goal.returns-in-Theta-clause-said
returns-in-Theta-clause-said c = λ w.
    rw c.in-Theta.is (lift_said (parts_in c.args.table.now) c.args.block.now c.add_named.new.list c.in-Theta.part c.add_named.result c.in-Theta.j c.add_named.ensures.adds)

pub returns-in-Cocycles-clause-said : goal.returns-in-Cocycles-clause-said
returns-in-Cocycles-clause-said c = λ w.
    rw c.in-Cocycles.is (generators_said (parts_in c.args.table.now) c.args.block.now c.add_named-in-Cocycles.new.list c.in-Cocycles.part c.add_named-in-Cocycles.result (c.in-Cocycles.shown.log, c.in-Cocycles.shown.x, c.in-Cocycles.shown.w) c.add_named-in-Cocycles.ensures.adds)

pub returns-in-Z-clause-said : goal.returns-in-Z-clause-said
returns-in-Z-clause-said c = λ w.
    rw c.in-Z.is (z_said (parts_in c.args.table.now) c.args.block.now c.add_named-in-Z.new.list c.in-Z.part c.add_named-in-Z.result c.add_named-in-Z.ensures.adds)

pub returns-in-Relations-clause-said : goal.returns-in-Relations-clause-said
returns-in-Relations-clause-said c = λ w.
    rw c.in-Relations.is (relations_said (parts_in c.args.table.now) c.args.block.now c.add_named-in-Relations.new.list c.in-Relations.part c.add_named-in-Relations.result (c.in-Relations.shown.log, c.in-Relations.shown.x, c.in-Relations.shown.w) c.add_named-in-Relations.ensures.adds)

pub returns-in-N-clause-said : goal.returns-in-N-clause-said
returns-in-N-clause-said c = λ w.
    rw c.in-N.is (n_said (parts_in c.args.table.now) c.args.block.now c.add_named-in-N.new.list c.in-N.part c.add_named-in-N.result c.add_named-in-N.ensures.adds)

pub returns-in-Morphism-clause-said : goal.returns-in-Morphism-clause-said
returns-in-Morphism-clause-said c = λ w.
    rw c.in-Morphism.is (morphism_said (parts_in c.args.table.now) c.args.block.now c.add_named-in-Morphism.new.list c.in-Morphism.part c.add_named-in-Morphism.result c.add_named-in-Morphism.ensures.adds)

pub returns-in-U-clause-said : goal.returns-in-U-clause-said
returns-in-U-clause-said c = λ w.
    rw c.in-U.is (u_said (parts_in c.args.table.now) c.args.block.now c.add_named-in-U.new.list c.in-U.part c.add_named-in-U.result c.add_named-in-U.ensures.adds)

pub returns-in-Chain-clause-said : goal.returns-in-Chain-clause-said
returns-in-Chain-clause-said c = λ w.
    rw c.in-Chain.is (chain_said (parts_in c.args.table.now) c.args.block.now c.add_kernel.new.list c.in-Chain.part c.add_kernel.result c.in-Chain.s (c.in-Chain.shown.log, c.in-Chain.shown.x, c.in-Chain.shown.w) c.add_kernel.ensures.adds)

pub returns-in-K-clause-said : goal.returns-in-K-clause-said
returns-in-K-clause-said c = λ w.
    rw c.in-K.is (k_said (parts_in c.args.table.now) c.args.block.now c.add_kernel-in-K.new.list c.in-K.part c.add_kernel-in-K.result c.in-K.s c.add_kernel-in-K.ensures.adds)

pub returns-in-Stable-clause-said : goal.returns-in-Stable-clause-said
returns-in-Stable-clause-said c = λ w.
    rw c.in-Stable.is (stable_said (parts_in c.args.table.now) c.args.block.now c.in-Stable.t c.in-Stable.w _
    (let len = c.len.ensures in let same : c.len.result ≡ length c.args.block.now.kernels.items = omega (arith, len, c.args.block.now.kernels.ok) in ap (nat_lt c.in-Stable.t) same))

pub returns-in_default : goal.returns-in_default
returns-in_default c =
    let d = c.in_default in
    record {
      said = λ w. nothing_in (parts_in c.args.table.now) c.args.block.now c.args.row.now w d.not-D
          (not_needing c.args.row.now d.not-Theta d.not-Cocycles d.not-Z d.not-Relations d.not-N d.not-Morphism d.not-U d.not-Chain d.not-K d.not-Stable);
      unchanged = λ e. refl;
      known = λ h. h;
    }
