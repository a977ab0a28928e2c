use Rattle.std.proofs.Common.{◌≡◌, suc, Some, None, option_map, sym, ap, ◌∙◌}
use Rattle.fm_report.specs.Sheets.{numbered}
use Rattle.fm_pres.specs.Tables.{part_at}
use Rattle.fm_pres.specs.Blocks.{block_of, parts_at}
use Rattle.fm_claims.proofs.Followed.{numbered_in, numbers_in}
use Rattle.fm_claims.proofs.FurtherShown.{no_colon_kernel, first_colon, later_colon}
use Rattle.fm_claims.proofs.colons.colon_at.Goals as goal

pub returns-in_err-kernel-clause-part : goal.returns-in_err-kernel-clause-part
returns-in_err-kernel-clause-part c = λ r g ps logs.
    let e : numbered (block_of ps c.args.block.now).kernels (suc c.args.t) ≡ None = numbered_in ps _ _ (suc c.args.t) None c.deref.ensures.value (c.in_err-kernel.ensures.part ps) in
    let n : c.from_residual.result ≡ None = c.from_residual.ensures in
    no_colon_kernel r g (block_of ps c.args.block.now) ps logs c.args.t (parts_at ps c.args.found.now) c.args.j e ∙ sym (ap (option_map (part_at ps)) n)

pub returns-then-j-eq0-clause-part : goal.returns-then-j-eq0-clause-part
returns-then-j-eq0-clause-part c = λ r g ps logs.
    let K = part_at ps c.in_ok-kernel.kernel in
    let e : numbered (block_of ps c.args.block.now).kernels (suc c.args.t) ≡ Some K = numbered_in ps _ _ (suc c.args.t) (Some K) c.deref.ensures.value (c.in_ok-kernel.ensures.part ps) in
    first_colon r g (block_of ps c.args.block.now) ps logs c.args.t (parts_at ps c.args.found.now) c.args.j K e c.if-j-eq0.true

pub returns-then-j-eq0-clause-there : goal.returns-then-j-eq0-clause-there
returns-then-j-eq0-clause-there c = λ ps b f. c.in_ok-kernel.ensures.there ps (numbers_in ps _ _ c.deref.ensures.value b.3)

pub returns-clause-part : goal.returns-clause-part
returns-clause-part c = λ r g ps logs.
    let K = part_at ps c.in_ok-kernel.kernel in
    let e : numbered (block_of ps c.args.block.now).kernels (suc c.args.t) ≡ Some K = numbered_in ps _ _ (suc c.args.t) (Some K) c.deref.ensures.value (c.in_ok-kernel.ensures.part ps) in
    later_colon r g (block_of ps c.args.block.now) ps logs c.args.t (parts_at ps c.args.found.now) c.args.j K e c.if-j-eq0.false ∙ c.nth-2.ensures.part ps

pub returns-clause-there : goal.returns-clause-there
returns-clause-there c = λ ps b f. c.nth-2.ensures.there ps f
