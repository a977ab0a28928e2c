use Rattle.std.proofs.Common.{◌≡◌, [], ◌∷◌, subst}
use Rattle.std.specs.Prelude.{IfOk}
use Rattle.fm_poly.specs.Polys.{PolyValue}
use Rattle.fm_conditions.specs.declared.condition.Condition.TheVariants as kinds
use Rattle.fm_claims.proofs.colons.after_powers.Goals as goal

pub returns : goal.returns
returns c =
    subst (λ (f : PolyValue). IfOk c.pair.result (λ cs. cs.items ≡ kinds.Powers f c.args.k ∷ c.args.condition ∷ [])) c.in_ok-f.ensures c.pair.ensures
