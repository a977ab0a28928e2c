-- The names of a drawn problem.
use Rattle.std.proofs.Common.{◌≡◌, ◌∙◌, ℕ, zero, suc, Bool, true, false, ◌&&◌, if◌then◌else◌, nat_le, List, [], ◌∷◌, ◌++◌, All, length, map, is_some, refl, ap}
use Rattle.std.specs.Fmt.{digits}
use Rattle.std.specs.List.{list_all}
use Rattle.std.proofs.lemmas.Bool.{leb-true}
use Rattle.std.proofs.lemmas.List.{map-append}
use Rattle.std.proofs.lemmas.List.Elements.{All-nil, All-cons}
use Rattle.fm_words.specs.Parts.{Bytes}
use Rattle.fm_words.specs.Words.{is_name}
use Rattle.fm_words.specs.Steps.{place}
use Rattle.fm_problem.specs.Limits.{longest_name}
use Rattle.fm_problem.specs.Sound.{IsShortName, AreApart}
use Rattle.fm_problem.proofs.AsciiNames.{both}
use Rattle.fm_problem.proofs.SoundNames.{not_found}
use Rattle.fm_sample.specs.Samples.{ideal_name, ideals, variables}

-- ---- lists of names, by tests
abbrev pub is_short : Bytes → Bool
is_short n = is_name n && nat_le (length n) longest_name

pub short_name : (n : Bytes) → is_short n ≡ true → IsShortName n
short_name n h = let parts = both (is_name n) (nat_le (length n) longest_name) h in record { name = parts.0; short = leb-true (length n) longest_name parts.1 }

short_names : (ns : List Bytes) → list_all is_short ns ≡ true → All IsShortName ns
short_names [] h = All-nil IsShortName
short_names (n ∷ ns) h =
    let parts = both (is_short n) (list_all is_short ns) h in All-cons IsShortName n ns (short_name n parts.0) (short_names ns parts.1)

abbrev are_apart : List Bytes → Bool
are_apart [] = true
are_apart (n ∷ ns) = (if is_some (place 0 n ns) then false else true) && are_apart ns

not_there : (b : Bool) → (if b then false else true) ≡ true → b ≡ false
not_there true h = absurd (let e : false ≡ true = h in cc)
not_there false h = refl

apart : (ns : List Bytes) → are_apart ns ≡ true → AreApart ns
apart [] h = tt
apart (n ∷ ns) h =
    let parts = both (if is_some (place 0 n ns) then false else true) (are_apart ns) h in
    (not_found 0 n ns (not_there (is_some (place 0 n ns)) parts.0), apart ns parts.1)

-- ---- the names of the variables and of the ideals
pub short_variables : All IsShortName variables
short_variables = short_names variables refl

pub variables_apart : AreApart variables
variables_apart = apart variables refl

abbrev pub names : ℕ → List Bytes
names zero = []
names (suc n) = names n ++ ideal_name (suc n) ∷ []

pub names_of_ideals : (n s : ℕ) → map (λ i. i.name) (ideals n s) ≡ names n
names_of_ideals zero s = refl
names_of_ideals (suc n) s = map-append (λ i. i.name) (ideals n s) _ ∙ ap (λ ns. ns ++ ideal_name (suc n) ∷ []) (names_of_ideals n s)

pub names_are_short : list_all is_short (names 20) ≡ true
unfolding ideal_name digits
names_are_short = refl

names_apart_by_test : are_apart (names 20) ≡ true
unfolding ideal_name digits
names_apart_by_test = refl

pub names_apart : AreApart (names 20)
names_apart = apart (names 20) names_apart_by_test
