-- What the reader's values mean.
use Rattle.std.specs.Prelude.{◌≡◌, ◌≤◌, length, map, string_bytes}
use Rattle.fm_words.specs.Words.{value}
use Rattle.fm_mono.specs.Bounded.{exponent_bound}
use Rattle.fm_text.specs.declared.factors.FactorText.{FactorText}
use Rattle.fm_text.specs.declared.factors.FactorText.TheVariants.{Number, Variable, Power}
use Rattle.fm_text.specs.declared.rules.Rules.{Rules}
use Rattle.fm_text.specs.Factors as factors
use Rattle.fm_text.specs.Polynomials as polynomials

abbrev pub factor_view : FactorText → factors.Factor
factor_view (Number digits) = factors.Number (value digits.now)
factor_view (Variable name) = factors.Power name.now 1
factor_view (Power name digits) = factors.Power name.now (value digits.now)

abbrev pub rules_view : Rules → polynomials.Rules
rules_view r = record { ring = r.ring; names = map string_bytes r.names.now; bound = r.bound }

-- the names are those of the variables, and the bound is one that monomials have
pub record FitsRules (r : Rules) : Type 0 where
  pub named : length r.names.now ≡ r.ring.vars
  pub some : 1 ≤ r.ring.vars
  pub few : r.ring.vars ≤ 8
  pub bounded : r.bound ≤ exponent_bound
