-- What a division leaves, without its quotients.
use Rattle.std.specs.Prelude.{ℕ, List, map}
use Rattle.fm_term.specs.declared.vterm.VTerm.{VTerm}
use Rattle.fm_vec.specs.Vectors.{VectorValue}
use Rattle.fm_complete.specs.declared.step.Step.{Step}
use Rattle.fm_complete.specs.declared.remainder.Remainder.{Remainder}
use Rattle.fm_run.specs.Runs.{Ended, ended_with}
use Rattle.fm_complete.specs.Reductions.{Reduced, divided}
use Rattle.fm_complete.specs.Divisions.{terms_of}

pub record RemainderValue : Type 0 where
  pub by : List ℕ
  pub rest : List VTerm

abbrev pub remainder_value : Remainder → RemainderValue
remainder_value x = record { by = x.by.items; rest = x.rest.terms }

abbrev pub remainder_of : Reduced → RemainderValue
remainder_of x = record { by = map (λ (s : Step). s.number) x.steps; rest = x.rest }

abbrev pub remainder_run : List VectorValue → VectorValue → ℕ → Ended RemainderValue
remainder_run members v units = ended_with remainder_of (divided v.ring (terms_of members) units v.terms)
