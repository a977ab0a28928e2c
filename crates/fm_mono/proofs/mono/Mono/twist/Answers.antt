use Rattle.std.proofs.Common.{◌^◌, ◌∙◌, arith}
use Rattle.fm_mono.proofs.Twists.{refused, twisted, twisted_packed, twisted_small}
use Rattle.fm_mono.proofs.mono.Mono.twist.Goals as goal

pub returns-in_err-exponents : goal.returns-in_err-exponents
returns-in_err-exponents c =
    c.from_residual.ensures ∙ refused _ _ _ (c.args.p ^ c.args.e) c.self.invariant c.self.view_is c.capped_power-q.ensures c.in_err-exponents.ensures

pub overflow_mul-result : goal.overflow_mul-result
overflow_mul-result c =
    omega (arith, twisted_small _ _ _ (c.args.p ^ c.args.e) c.self.invariant c.self.view_is c.capped_power-q.ensures _ c.in_ok-exponents.ensures)

pub invariant_of-result : goal.invariant_of-result
invariant_of-result c = twisted_packed _ _ _ (c.args.p ^ c.args.e) c.self.invariant c.self.view_is c.capped_power-q.ensures _ c.in_ok-exponents.ensures

pub returns : goal.returns
returns c = twisted _ _ _ (c.args.p ^ c.args.e) c.self.invariant c.self.view_is c.capped_power-q.ensures _ c.in_ok-exponents.ensures
