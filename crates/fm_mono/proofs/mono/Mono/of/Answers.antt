use Rattle.std.proofs.Common.{refl}
use Rattle.fm_mono.proofs.Packing.{packed}
use Rattle.fm_mono.proofs.mono.Mono.of.Goals as goal

pub invariant_of-result : goal.invariant_of-result
invariant_of-result c =
    packed _ _ _ _ c.args.exponents.now refl c.requires.some c.requires.few c.copy_from_slice.ensures.after refl c.requires.within c.total.ensures
