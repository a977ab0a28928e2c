use Rattle.std.proofs.Common.{◌∷◌, [], ◌++◌, codes, decimal, map, string_bytes, refl, ap}
use Rattle.fm_cert.specs.Fields.{comma_words, polynomial_word}
use Rattle.fm_cert.proofs.LinesWritten.{end_written}
use Rattle.fm_cert.proofs.writing.push_end.Goals as goal

pub returns-in_ok-push_row-in-Zero : goal.returns-in_ok-push_row-in-Zero
returns-in_ok-push_row-in-Zero c = end_written _ _ _ _ _ _ c.in-Zero.is refl c.in_ok-push_row-in-Zero.ensures

pub returns-in_ok-push_row-in-Class : goal.returns-in_ok-push_row-in-Class
returns-in_ok-push_row-in-Class c = end_written _ _ _ _ _ _ c.in-Class.is refl c.in_ok-push_row-in-Class.ensures

pub returns-in_ok-push_row-in-Invert : goal.returns-in_ok-push_row-in-Invert
returns-in_ok-push_row-in-Invert c = end_written _ _ _ _ _ _ c.in-Invert.is refl c.in_ok-push_row-in-Invert.ensures

pub returns-in_ok-push_row-in-Support : goal.returns-in_ok-push_row-in-Support
returns-in_ok-push_row-in-Support c = end_written _ _ _ _ _ _ c.in-Support.is (ap (λ fs. codes "answer" ∷ codes "ideal" ∷ comma_words (map (polynomial_word (map string_bytes c.args.names.now)) fs) ++ []) c.deref.ensures.value) c.in_ok-push_row-in-Support.ensures

pub returns-in_ok-push_row-in-Root : goal.returns-in_ok-push_row-in-Root
returns-in_ok-push_row-in-Root c = end_written _ _ _ _ _ _ c.in-Root.is refl c.in_ok-push_row-in-Root.ensures

pub returns-in_ok-push_row-in-Ranks : goal.returns-in_ok-push_row-in-Ranks
returns-in_ok-push_row-in-Ranks c = end_written _ _ _ _ _ _ c.in-Ranks.is (ap (λ ks. codes "answer" ∷ codes "ranks" ∷ map decimal ks ++ []) c.deref-in-Ranks.ensures.value) c.in_ok-push_row-in-Ranks.ensures

pub returns-in_ok-push_row-in-ExtOf : goal.returns-in_ok-push_row-in-ExtOf
returns-in_ok-push_row-in-ExtOf c = end_written _ _ _ _ _ _ c.in-ExtOf.is refl c.in_ok-push_row-in-ExtOf.ensures

pub returns-in_ok-push_row-in-Map : goal.returns-in_ok-push_row-in-Map
returns-in_ok-push_row-in-Map c = end_written _ _ _ _ _ _ c.in-Map.is refl c.in_ok-push_row-in-Map.ensures

pub returns-in_ok-push_row-in-Member : goal.returns-in_ok-push_row-in-Member
returns-in_ok-push_row-in-Member c = end_written _ _ _ _ _ _ c.in-Member.is refl c.in_ok-push_row-in-Member.ensures

pub returns-in_ok-push_row-in-Budget : goal.returns-in_ok-push_row-in-Budget
returns-in_ok-push_row-in-Budget c = end_written _ _ _ _ _ _ c.in-Budget.is refl c.in_ok-push_row-in-Budget.ensures

pub returns-in_ok-push_row-in-Exponents : goal.returns-in_ok-push_row-in-Exponents
returns-in_ok-push_row-in-Exponents c = end_written _ _ _ _ _ _ c.in-Exponents.is refl c.in_ok-push_row-in-Exponents.ensures

pub returns-in_ok-push_row-in-WrongLength : goal.returns-in_ok-push_row-in-WrongLength
returns-in_ok-push_row-in-WrongLength c = end_written _ _ _ _ _ _ c.in-WrongLength.is refl c.in_ok-push_row-in-WrongLength.ensures

pub returns-in_ok-push_row-in-NotCocycle : goal.returns-in_ok-push_row-in-NotCocycle
returns-in_ok-push_row-in-NotCocycle c = end_written _ _ _ _ _ _ c.in-NotCocycle.is refl c.in_ok-push_row-in-NotCocycle.ensures

pub returns-in_ok-push_row-in-NotContained : goal.returns-in_ok-push_row-in-NotContained
returns-in_ok-push_row-in-NotContained c = end_written _ _ _ _ _ _ c.in-NotContained.is refl c.in_ok-push_row-in-NotContained.ensures
