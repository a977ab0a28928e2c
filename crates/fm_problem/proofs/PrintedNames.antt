-- The variables of a problem can be printed.
use Rattle.std.proofs.Common.{◌≡◌, ◌≢◌, suc, Bool, true, false, ◌==◌, if◌then◌else◌, List, [], ◌∷◌, All, refl, ◌∙◌, ap, arith}
use Rattle.std.specs.List.{list_all}
use Rattle.std.proofs.lemmas.Bool.{eqb-true}
use Rattle.fm_words.specs.Words.{are_names, AreNames, same_bytes}
use Rattle.fm_words.specs.Parts.{Bytes}
use Rattle.fm_problem.specs.declared.problem.Problem.{Problem}
use Rattle.fm_problem.specs.Sound.{IsShortName, IsAbsent, AreApart, IsProblem}
use Rattle.fm_problem.proofs.AsciiNames.{both}

same_name : (m n : Bytes) → same_bytes m n ≡ true → m ≡ n
same_name [] [] h = refl
same_name [] (c ∷ n) h = absurd (let e : false ≡ true = h in cc)
same_name (b ∷ m) [] h = absurd (let e : false ≡ true = h in cc)
same_name (b ∷ m) (c ∷ n) h =
    let parts = both (b == c) (same_bytes m n) h in ap (λ v. v ∷ m) (eqb-true b c parts.0) ∙ ap (λ v. c ∷ v) (same_name m n parts.1)

other_by : (m n : Bytes) (same : Bool) → same_bytes m n ≡ same → m ≢ n → (if same then false else true) ≡ true
other_by m n true e other = absurd (other (same_name m n e))
other_by m n false e other = refl

none_same : (n : Bytes) (ms : List Bytes) → IsAbsent n ms → list_all (λ o. if same_bytes o n then false else true) ms ≡ true
none_same n [] w = refl
none_same n (m ∷ ms) w = rw (other_by m n (same_bytes m n) refl w.0, none_same n ms w.1) refl

names_apart : (ns : List Bytes) → All IsShortName ns → AreApart ns → are_names ns ≡ true
names_apart [] all apart = refl
names_apart (n ∷ ns) all apart =
    let first = all 0 n (omega arith) in
    rw (first.name, none_same n ns apart.0, names_apart ns (λ k d below. all (suc k) d (omega arith)) apart.1) refl

pub variables_are_names : (q : Problem) → IsProblem q → AreNames q.vars
unfolding AreNames
variables_are_names q sound = names_apart q.vars sound.variables sound.variables_apart
