-- Names that are read are names, and no name stands twice.
use Rattle.std.proofs.Common.{◌≡◌, ◌≢◌, ◌<◌, ◌+◌, ℕ, zero, suc, Bool, true, false, if◌then◌else◌, List, [], ◌∷◌, ◌++◌, All, get_or, length, is_some, nat_eq, nat_lt, nat_le, Option, Some, None, Ok, refl, sym, ◌∙◌, ap, subst, arith}
use Rattle.std.specs.List.{list_all}
use Rattle.std.proofs.lemmas.Bool.{true≢false, leb-true}
use Rattle.std.proofs.lemmas.Bool.Decides.{nat_tests}
use Rattle.std.proofs.lemmas.List.Elements.{All-append}
use Rattle.fm_words.specs.Parts.{Bytes}
use Rattle.fm_words.specs.Words.{is_name, same_bytes}
use Rattle.fm_problem.specs.Limits.{most_variables, longest_name}
use Rattle.fm_problem.specs.Problems.{plus_name}
use Rattle.fm_problem.specs.Sound.{IsShortName, IsAbsent, AreApart}
use Rattle.fm_words.specs.Steps.{steps, place}
use Rattle.fm_problem.proofs.AsciiNames.{both}
use Rattle.fm_words.proofs.FirstFaults.{same_ok, first_read}
use Rattle.fm_problem.proofs.NamesRead.{name_added}

-- ---- lists
pub All_one : {X : Type 0} (P : X → Type 0) (x : X) → P x → All P (x ∷ [])
All_one P x w zero d below = w
All_one P x w (suc k) d below = absurd (omega (arith, below))

pub All_more : {X : Type 0} (P : X → Type 0) (xs : List X) (x : X) → All P xs → P x → All P (xs ++ x ∷ [])
All_more P xs x all w = All-append P xs (x ∷ []) all (All_one P x w)

pub All_map : {X : Type 0} (P Q : X → Type 0) → ((x : X) → P x → Q x) → (xs : List X) → All P xs → All Q xs
All_map P Q f xs all k d below = f (get_or xs k d) (all k d below)

-- ---- places
same_itself : (w : Bytes) → same_bytes w w ≡ true
same_itself [] = refl
same_itself (b ∷ bs) = rw (eq_itself b) (same_itself bs)
  where
    eq_itself : (b : ℕ) → nat_eq b b ≡ true
    eq_itself b = grind (arith, nat_tests)

other_name : (m n : Bytes) → same_bytes m n ≡ false → m ≢ n
other_name m n e same = true≢false (sym (same_itself m) ∙ ap (same_bytes m) same ∙ e)

absent_by : (m n : Bytes) (ms : List Bytes) (k : ℕ) (b : Bool) → same_bytes m n ≡ b → is_some (if b then Some k else place (k + 1) n ms) ≡ false
    → (is_some (place (k + 1) n ms) ≡ false → IsAbsent n ms) → (m ≢ n) × IsAbsent n ms
absent_by m n ms k true e h rest = absurd (true≢false h)
absent_by m n ms k false e h rest = (other_name m n e, rest h)

-- a name that isn't found is none of the names
pub not_found : (k : ℕ) (n : Bytes) (ms : List Bytes) → is_some (place k n ms) ≡ false → IsAbsent n ms
not_found k n [] h = tt
not_found k n (m ∷ ms) h = absent_by m n ms k (same_bytes m n) refl h (not_found (k + 1) n ms)

found_by : (m n : Bytes) (ms : List Bytes) (j k : ℕ) (b : Bool) → (if b then Some j else place (j + 1) n ms) ≡ Some k
    → (place (j + 1) n ms ≡ Some k → k < (j + 1) + length ms) → k < j + suc (length ms)
found_by m n ms j k true h rest = let e : j ≡ k = cc in omega (arith, e)
found_by m n ms j k false h rest = let below = rest h in omega (arith, below)

-- a place that is found is one of the list
pub found_below : (j k : ℕ) (n : Bytes) (ms : List Bytes) → place j n ms ≡ Some k → k < j + length ms
found_below j k n [] h = absurd (let e : ◌≡◌ {A = Option ℕ} None (Some k) = h in cc)
found_below j k n (m ∷ ms) h = found_by m n ms j k (same_bytes m n) h (found_below (j + 1) k n ms)

-- ---- names that are apart
absent_more : (m n : Bytes) (ms : List Bytes) → IsAbsent m ms → n ≢ m → IsAbsent m (ms ++ n ∷ [])
absent_more m n [] w other = (other, tt)
absent_more m n (l ∷ ms) w other = (w.0, absent_more m n ms w.1 other)

pub apart_more : (ms : List Bytes) (n : Bytes) → AreApart ms → IsAbsent n ms → AreApart (ms ++ n ∷ [])
apart_more [] n w v = (tt, tt)
apart_more (m ∷ ms) n w v = (absent_more m n ms w.0 (λ e. v.0 (sym e)), apart_more ms n w.1 v.1)

-- ---- the names of a ring line
pub record Names (vs : List Bytes) : Type 0 where
  pub named : All IsShortName vs
  pub apart : AreApart vs

name_sound : (vs us : List Bytes) (w : Bytes) → is_name w ≡ true → Names vs → plus_name vs w ≡ Ok us → Names us
name_sound vs us w name names h =
    let added = name_added vs us w h in
    let short = leb-true (length w) longest_name (both (nat_lt (length vs) most_variables) (nat_le (length w) longest_name) added.1).1 in
    subst Names added.2 (record {
      named = All_more IsShortName vs w names.named (record { name = name; short = short });
      apart = apart_more vs w names.apart (not_found 0 w vs added.0);
    })

pub names_sound : (vs ws us : List Bytes) → list_all is_name ws ≡ true → Names vs → steps plus_name vs ws ≡ Ok us → Names us
names_sound vs [] us all names h = subst Names (same_ok h) names
names_sound vs (w ∷ ws) us all names h =
    let named = both (is_name w) (list_all is_name ws) all in
    let read = first_read (plus_name vs w) (λ u. steps plus_name u ws) us h in
    names_sound read.0 ws us named.1 (name_sound vs read.0 w named.0 names read.1) read.2
