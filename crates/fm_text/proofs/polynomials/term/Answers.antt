use Rattle.fm_mono.specs.Bounded.{exponent_bound}
use Rattle.fm_text.specs.Views.{rules_view}
use Rattle.fm_text.proofs.WrittenExponents.{unsigned_within}
use Rattle.fm_text.proofs.polynomials.term.Goals as goal

pub of-requires-clause-within : goal.of-requires-clause-within
of-requires-clause-within c = unsigned_within exponent_bound (rules_view c.args.rules.now) c.requires.bounded c.args.text.now _ c.in_ok-product.ensures.gives
