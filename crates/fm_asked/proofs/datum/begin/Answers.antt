use Rattle.std.proofs.Common.{◌∙◌, Some, option_map, refl, ap, sym, subst}
use Rattle.fm_parts.specs.Replays.{are_numbers}
use Rattle.fm_pres.specs.Blocks.{block_of}
use Rattle.fm_pres.specs.declared.block.Block.{Block}
use Rattle.fm_asked.specs.Beginnings.{AreBlocks, IsBlockIf}
use Rattle.fm_asked.proofs.Datums.{blocks_push, is_new}
use Rattle.fm_asked.proofs.datum.begin.Goals as goal

pub returns-in_default-clause-begun : goal.returns-in_default-clause-begun
returns-in_default-clause-begun c = λ ps.
    let b : Block = record { ideal = c.args.ideal; degree = c.args.degree; differentials = c.new.result; lift = c.new-2.result; cocycles = c.new-3.result; kernels = c.new-4.result; morphism = c.new-5.result } in
    ap (option_map (block_of ps)) c.replace.ensures.after
    ∙ ap (λ x. Some x) (is_new ps b c.args.ideal c.args.degree refl refl c.new.ensures.items c.new-2.ensures.items c.new-3.ensures.items c.new-4.ensures.items c.new-5.ensures.items)

pub returns-clause-begun : goal.returns-clause-begun
returns-clause-begun c = λ ps.
    let b : Block = record { ideal = c.args.ideal; degree = c.args.degree; differentials = c.new.result; lift = c.new-2.result; cocycles = c.new-3.result; kernels = c.new-4.result; morphism = c.new-5.result } in
    ap (option_map (block_of ps)) c.replace.ensures.after
    ∙ ap (λ x. Some x) (is_new ps b c.args.ideal c.args.degree refl refl c.new.ensures.items c.new-2.ensures.items c.new-3.ensures.items c.new-4.ensures.items c.new-5.ensures.items)

pub returns-clause-known : goal.returns-clause-known
returns-clause-known c = λ ps f o. (
  subst (AreBlocks ps) (sym c.in_ok-push.ensures.items) (blocks_push ps c.args.finished.now.items c.in-Some.last f (subst (IsBlockIf ps) (sym c.replace.ensures.value ∙ c.in-Some.is) o)),
  subst (IsBlockIf ps) (sym c.replace.ensures.after) (
    ap (are_numbers ps) c.new.ensures.items,
    ap (are_numbers ps) c.new-2.ensures.items,
    ap (are_numbers ps) c.new-3.ensures.items,
    ap (are_numbers ps) c.new-4.ensures.items,
    ap (are_numbers ps) c.new-5.ensures.items,
  ),
)
