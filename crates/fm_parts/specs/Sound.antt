-- Which logs are what they seem.
use Rattle.std.specs.Prelude.{◌≡◌, true}
use Rattle.fm_groebner.specs.Syzygies.{IsBasisOfGraph}
use Rattle.fm_poly.specs.declared.ring.Ring.{Ring}
use Rattle.fm_report.specs.Parts.{part_value}
use Rattle.fm_parts.specs.Shapes.{fits}
use Rattle.fm_parts.specs.Values.{is_within_bound}
use Rattle.fm_parts.specs.Conditions.{Log}

module _ (r : Ring) where
  -- The part of a log has a value, and the members are a Gröbner basis of the graph of this value.
  pub record IsSoundLog (log : Log) : Type 0 where
    pub fits : fits log.part ≡ true
    pub within : is_within_bound r log.part ≡ true
    pub basis : IsBasisOfGraph r.prime r.vars r.order (part_value r log.part) log.members
