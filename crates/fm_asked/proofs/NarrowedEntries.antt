-- Entries of logs whose numbers are narrowed.
use Rattle.std.proofs.Common.{◌≡◌, ℕ, ◌<◌, ◌≤◌, ◌^◌, Bool, true, false, ◌&&◌, if◌then◌else◌, not, nat_le, List, [], ◌∷◌, length, map, Result, refl, sym, ap, ap₂, ◌∙◌, arith}
use Rattle.std.proofs.lemmas.Bool.{and_parts, leb-false}
use Rattle.fm_words.specs.Steps.{◌>>=◌}
use Rattle.fm_poly.specs.declared.ring.Ring.{Ring}
use Rattle.fm_term.specs.declared.vterm.VTerm.{VTerm}
use Rattle.fm_groebner.specs.Logs.{Start, Input, Pair, Skip}
use Rattle.fm_complete.specs.Bases.{start_value, entry_value}
use Rattle.fm_complete.specs.declared.entry.Entry.{Entry}
use Rattle.fm_complete.specs.Divisions.{terms_of}
use Rattle.fm_complete.proofs.Standing.{length_terms}
use Rattle.fm_vec.specs.Vectors.{VectorValue}
use Rattle.fm_complete.specs.Trails.{member_at}
use Rattle.fm_parts.specs.Replays.{Reason, Reference, BadEntry, Replay, needs, is_number, are_numbers, is_taken, reduce_by, with_rest, replay_entry, take_input, take_pair, skip_pair}
use Rattle.fm_pres.proofs.Tables.{is_number_bounds}
use Rattle.fm_asked.specs.Narrowing.{MOST, narrowed}
use Rattle.fm_asked.specs.OpenLogs.{narrowed_start}
use Rattle.fm_asked.proofs.PartNumbers.{past, not_zero}

number_either : {A : Type 0} (xs : List A) (k : ℕ) (b : Bool) → nat_le k MOST ≡ b → length xs ≤ MOST → is_number xs (if b then k else 0) ≡ is_number xs k
number_either xs k true e few = refl
number_either xs k false e few = let large = leb-false k MOST e in not_zero xs ∙ sym (past xs k (omega (arith, few, large)))

pub number_narrowed : {A : Type 0} (xs : List A) (k : ℕ) → length xs ≤ MOST → is_number xs (narrowed k) ≡ is_number xs k
number_narrowed xs k few = number_either xs k (nat_le k MOST) refl few

small_either : {A : Type 0} (xs : List A) (k : ℕ) (b : Bool) → nat_le k MOST ≡ b → length xs ≤ MOST → is_number xs k ≡ true → (if b then k else 0) ≡ k
small_either xs k true e few h = refl
small_either xs k false e few h = let large = leb-false k MOST e in let b = is_number_bounds xs k h in absurd (omega (arith, few, large, b.1))

-- the number of an element is narrow
pub same_number : {A : Type 0} (xs : List A) (k : ℕ) → length xs ≤ MOST → is_number xs k ≡ true → narrowed k ≡ k
same_number xs k few h = small_either xs k (nat_le k MOST) refl few h

numbers_narrowed : {A : Type 0} (xs : List A) (ks : List ℕ) → length xs ≤ MOST → are_numbers xs (map narrowed ks) ≡ are_numbers xs ks
numbers_narrowed xs [] few = refl
numbers_narrowed xs (k ∷ ks) few = ap₂ (λ x y. x && y) (number_narrowed xs k few) (numbers_narrowed xs ks few)

same_numbers : {A : Type 0} (xs : List A) (ks : List ℕ) → length xs ≤ MOST → are_numbers xs ks ≡ true → map narrowed ks ≡ ks
same_numbers xs [] few h = refl
same_numbers xs (k ∷ ks) few h =
    let t = and_parts (is_number xs k) (are_numbers xs ks) h in ap₂ (λ j js. j ∷ js) (same_number xs k few t.0) (same_numbers xs ks few t.1)

pub members_few : (vs : List VectorValue) (ms : List (List VTerm)) (n : ℕ) → terms_of vs ≡ ms → n ≡ length vs → n ≤ MOST → length ms ≤ MOST
members_few vs ms n e h few = let t = length_terms vs in let m = ap length e in omega (arith, t, m, h, few)

pub inputs_few : (vs : List VectorValue) → length vs < 2 ^ 32 → length (terms_of vs) ≤ MOST
inputs_few vs few = let t = length_terms vs in omega (arith, t, few)

-- what is asked of the members comes first
needs_same : {B : Type 0} (x y : Bool) (f g : Unit {0} → Result B Reason) → x ≡ y → (y ≡ true → f tt ≡ g tt) → (needs x Reference >>= f) ≡ (needs y Reference >>= g)
needs_same true true f g e h = h refl
needs_same false false f g e h = refl
needs_same true false f g e h = absurd (cc e)
needs_same false true f g e h = absurd (cc e)

module _ (r : Ring) (inputs : List (List VTerm)) (s : Replay) (few : length s.members ≤ MOST) (room : length inputs ≤ MOST) where
  abbrev of_input : ℕ → List ℕ → Bool → Bool → Result Replay Reason
  of_input k by keep b =
      needs (b && not (is_taken s.taken k)) BadEntry >>= λ _. reduce_by r BadEntry s.members by (member_at inputs k) >>= λ w.
      with_rest r keep w (record s { taken = k ∷ s.taken })

  input_same : (k : ℕ) (by : List ℕ) (keep : Bool) (b : Bool) → is_number inputs k ≡ b → of_input (narrowed k) by keep b ≡ of_input k by keep b
  input_same k by keep false h = refl
  input_same k by keep true h = ap (λ j. of_input j by keep true) (same_number inputs k room h)

  input_narrowed : (k : ℕ) (by : List ℕ) (keep : Bool) → take_input r inputs s (narrowed k) (map narrowed by) keep ≡ take_input r inputs s k by keep
  input_narrowed k by keep =
      needs_same (are_numbers s.members (map narrowed by)) (are_numbers s.members by) (λ _. of_input (narrowed k) (map narrowed by) keep (is_number inputs (narrowed k)))
      (λ _. of_input k by keep (is_number inputs k)) (numbers_narrowed s.members by few) (λ h.
      ap₂ (λ js b. of_input (narrowed k) js keep b) (same_numbers s.members by few h) (number_narrowed inputs k room)
      ∙ input_same k by keep (is_number inputs k) refl)

  pair_narrowed : (a b : ℕ) (by : List ℕ) (keep : Bool) → take_pair r inputs s (narrowed a) (narrowed b) (map narrowed by) keep ≡ take_pair r inputs s a b by keep
  pair_narrowed a b by keep = by_numbers (are_numbers s.members (a ∷ b ∷ by)) refl where
    by_numbers : (t : Bool) → are_numbers s.members (a ∷ b ∷ by) ≡ t → take_pair r inputs s (narrowed a) (narrowed b) (map narrowed by) keep ≡ take_pair r inputs s a b by keep
    by_numbers true h =
        let x = and_parts (is_number s.members a) (are_numbers s.members (b ∷ by)) h in
        let y = and_parts (is_number s.members b) (are_numbers s.members by) x.1 in
        (λ i. take_pair r inputs s (same_number s.members a few x.0 i) (same_number s.members b few y.0 i) (same_numbers s.members by few y.1 i) keep)
    by_numbers false h =
        rw (numbers_narrowed s.members (a ∷ b ∷ by) few ∙ h) (rw h refl)

  skip_narrowed : (a b k : ℕ) → skip_pair r inputs s (narrowed a) (narrowed b) (narrowed k) ≡ skip_pair r inputs s a b k
  skip_narrowed a b k = by_numbers (are_numbers s.members (a ∷ b ∷ k ∷ [])) refl where
    by_numbers : (t : Bool) → are_numbers s.members (a ∷ b ∷ k ∷ []) ≡ t → skip_pair r inputs s (narrowed a) (narrowed b) (narrowed k) ≡ skip_pair r inputs s a b k
    by_numbers true h =
        let x = and_parts (is_number s.members a) (are_numbers s.members (b ∷ k ∷ [])) h in
        let y = and_parts (is_number s.members b) (are_numbers s.members (k ∷ [])) x.1 in
        let z = and_parts (is_number s.members k) true y.1 in
        (λ i. skip_pair r inputs s (same_number s.members a few x.0 i) (same_number s.members b few y.0 i) (same_number s.members k few z.0 i))
    by_numbers false h =
        rw (numbers_narrowed s.members (a ∷ b ∷ k ∷ []) few ∙ h) (rw h refl)

  -- an entry with narrowed numbers does what it did
  pub entry_narrowed : (w : Start) (by : List ℕ) (keep : Bool)
      → replay_entry r inputs s (record { start = narrowed_start w; by = map narrowed by; keep = keep }) ≡ replay_entry r inputs s (record { start = w; by = by; keep = keep })
  unfolding replay_entry
  entry_narrowed (Input k) by keep = input_narrowed k by keep
  entry_narrowed (Pair a b) by keep = pair_narrowed a b by keep
  entry_narrowed (Skip a b k) by keep = skip_narrowed a b k

  pub entry_is : (w : Start) (by : List ℕ) (keep : Bool) (e : Entry) → narrowed_start w ≡ start_value e.start → e.by.items ≡ map narrowed by → e.keep ≡ keep
      → replay_entry r inputs s (record { start = w; by = by; keep = keep }) ≡ replay_entry r inputs s (entry_value e)
  entry_is w by keep e start list kept =
      sym (entry_narrowed w by keep) ∙ (λ i. replay_entry r inputs s (record { start = start i; by = sym list i; keep = sym kept i }))
