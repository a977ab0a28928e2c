-- Elements of lists by their numbers, which count from 1.
use Rattle.std.proofs.Common.{◌≡◌, ℕ, zero, suc, ◌-◌, ◌<◌, ◌≤◌, Bool, true, false, nat_eq, nat_lt, nat_le, if◌then◌else◌, List, [], ◌∷◌, length, map, get_or, Option, Some, None, option_map, ◌⊎◌, inl, inr, refl, sym, ap, ◌∙◌, subst, arith}
use Rattle.std.proofs.lemmas.Bool.{and_parts, eqb-true, eqb-false, ltb-true, ltb-false, leb-true, leb-false, ne_eqb, eq-eqb, true≢false}
use Rattle.std.proofs.lemmas.List.{length-map, get_or-map}
use Rattle.fm_words.specs.Options.{where_so}
use Rattle.fm_report.specs.Parts.{Part, given}
use Rattle.fm_report.specs.Sheets.{numbered}
use Rattle.fm_parts.specs.Replays.{is_number, are_numbers}
use Rattle.fm_pres.specs.Tables.{part_at}
use Rattle.fm_pres.specs.Blocks.{parts_at}
use Rattle.fm_pres.proofs.Tables.{is_number_bounds, bounds_is_number}
use Rattle.fm_conditions.specs.declared.kept_log.KeptLog.{KeptLog}
use Rattle.fm_conditions.specs.Meanings.{log_at, log_of, logs_of}

-- ---- a test of two numbers
pub where_same : {A : Type 0} (n m : ℕ) (x : Option A) → n ≡ m → where_so (nat_eq n m) x ≡ x
where_same n m x e = rw (eq-eqb n m e) refl

pub where_other : {A : Type 0} (n m : ℕ) (x : Option A) → (n ≡ m → ⊥) → where_so (nat_eq n m) x ≡ None
where_other n m x e = rw (ne_eqb n m e) refl

-- ---- what is at a number
first_or : {A B : Type 0} (f : A → B) (b : Bool) (x : A) (o : Option A) → option_map f (if b then Some x else o) ≡ (if b then Some (f x) else option_map f o)
first_or f true x o = refl
first_or f false x o = refl

pub numbered_map : {A B : Type 0} (f : A → B) (xs : List A) (k : ℕ) → numbered (map f xs) k ≡ option_map f (numbered xs k)
numbered_map f [] k = refl
numbered_map f (x ∷ xs) k = rw (numbered_map f xs (k - 1)) (sym (first_or f (nat_eq k 1) x (numbered xs (k - 1))))

pub numbered_at : {A : Type 0} (xs : List A) (n : ℕ) (d : A) → n < length xs → numbered xs (suc n) ≡ Some (get_or xs n d)
numbered_at [] n d h = absurd (omega (arith, h))
numbered_at (x ∷ xs) zero d h = refl
numbered_at {A} (x ∷ xs) (suc n) d h = go (nat_eq (suc (suc n)) 1) refl (numbered_at xs n d (omega (arith, h)))
  where
    go : (b : Bool) → nat_eq (suc (suc n)) 1 ≡ b → numbered xs (suc n) ≡ Some (get_or xs n d) → (if b then Some x else numbered xs (suc (suc n) - 1)) ≡ Some (get_or xs n d)
    go true t later = let o = eqb-true (suc (suc n)) 1 t in absurd (omega (arith, o))
    go false t later = let one : suc (suc n) - 1 ≡ suc n = omega arith in subst (λ k. numbered xs k ≡ Some (get_or xs n d)) (sym one) later

pub numbered_nothing : {A : Type 0} (xs : List A) (k : ℕ) → k ≡ 0 → numbered xs k ≡ None
numbered_nothing xs k e = subst (λ j. numbered xs j ≡ None) (sym e) (go xs)
  where
    go : {A : Type 0} (xs : List A) → numbered xs 0 ≡ None
    go [] = refl
    go (x ∷ xs) = go xs

pub numbered_past : {A : Type 0} (xs : List A) (k : ℕ) → length xs < k → numbered xs k ≡ None
numbered_past [] k h = refl
numbered_past (x ∷ xs) k h =
    let other : nat_eq k 1 ≡ false = ne_eqb k 1 (λ (e : k ≡ 1). omega (arith, h, e)) in
    rw other (numbered_past xs (k - 1) (omega (arith, h)))

-- an element that has a number
pub numbered_is : {A : Type 0} (xs : List A) (k : ℕ) (d : A) → is_number xs k ≡ true → numbered xs k ≡ Some (get_or xs (k - 1) d)
numbered_is xs k d h =
    let b = is_number_bounds xs k h in
    let s : suc (k - 1) ≡ k = omega (arith, b.0) in
    subst (λ j. numbered xs j ≡ Some (get_or xs (k - 1) d)) s (numbered_at xs (k - 1) d (omega (arith, b.0, b.1)))

pub numbered_isnt : {A : Type 0} (xs : List A) (k : ℕ) → is_number xs k ≡ false → numbered xs k ≡ None
numbered_isnt xs k h = go (nat_eq k 0) refl (nat_le k (length xs)) refl
  where
    go : (z : Bool) → nat_eq k 0 ≡ z → (l : Bool) → nat_le k (length xs) ≡ l → numbered xs k ≡ None
    go true e l f = numbered_nothing xs k (eqb-true k 0 e)
    go false e true f =
        let some = eqb-false k 0 e in
        absurd (true≢false (sym (bounds_is_number xs k (omega (arith, some)) (leb-true k (length xs) f)) ∙ h))
    go false e false f = numbered_past xs k (leb-false k (length xs) f)

-- ---- parts, and logs
pub part_numbered : (ps : List Part) (n k : ℕ) → length ps < 4294967296 → (n < 4294967296 → k ≡ n) → (4294967296 ≤ n → k ≡ 0) → is_number ps k ≡ true
    → numbered ps n ≡ Some (part_at ps k)
part_numbered ps n k few same none h = go (nat_lt n 4294967296) refl
  where
    go : (b : Bool) → nat_lt n 4294967296 ≡ b → numbered ps n ≡ Some (part_at ps k)
    go true e = subst (λ j. numbered ps j ≡ Some (part_at ps k)) (same (ltb-true n 4294967296 e)) (numbered_is ps k (given 0 []) h)
    go false e =
        let b = is_number_bounds ps k h in
        let nothing = none (ltb-false n 4294967296 e) in
        absurd (omega (arith, b.0, nothing))

pub no_part_numbered : (ps : List Part) (n k : ℕ) → length ps < 4294967296 → (n < 4294967296 → k ≡ n) → (4294967296 ≤ n → k ≡ 0) → is_number ps k ≡ false
    → numbered ps n ≡ None
no_part_numbered ps n k few same none h = go (nat_lt n 4294967296) refl
  where
    go : (b : Bool) → nat_lt n 4294967296 ≡ b → numbered ps n ≡ None
    go true e = subst (λ j. numbered ps j ≡ None) (same (ltb-true n 4294967296 e)) (numbered_isnt ps k h)
    go false e = let big = ltb-false n 4294967296 e in numbered_past ps n (omega (arith, few, big))

pub nth_part : (ps : List Part) (ks : List ℕ) (n k : ℕ) → n < length ks → get_or ks n 0 ≡ k → numbered (parts_at ps ks) (suc n) ≡ Some (part_at ps k)
nth_part ps ks n k h e = numbered_map (part_at ps) ks (suc n) ∙ ap (option_map (part_at ps)) (numbered_at ks n 0 h) ∙ ap (λ j. Some (part_at ps j)) e

pub no_nth_part : (ps : List Part) (ks : List ℕ) (n : ℕ) → length ks ≤ n → numbered (parts_at ps ks) (suc n) ≡ None
no_nth_part ps ks n h = numbered_map (part_at ps) ks (suc n) ∙ ap (option_map (part_at ps)) (numbered_past ks (suc n) (omega (arith, h)))

pub nth_number : {A : Type 0} (xs : List A) (ks : List ℕ) (n : ℕ) → n < length ks → are_numbers xs ks ≡ true → is_number xs (get_or ks n 0) ≡ true
nth_number xs [] n h a = absurd (omega (arith, h))
nth_number xs (k ∷ ks) zero h a = (and_parts (is_number xs k) (are_numbers xs ks) a).0
nth_number xs (k ∷ ks) (suc n) h a = nth_number xs ks n (omega (arith, h)) (and_parts (is_number xs k) (are_numbers xs ks) a).1

pub log_numbered : (ps : List Part) (ls : List KeptLog) (n : ℕ) → 0 < n → n ≤ length ls → numbered (logs_of ps ls) n ≡ Some (log_at (logs_of ps ls) n)
log_numbered ps ls n low high =
    let size : length (logs_of ps ls) ≡ length ls = length-map ls (log_of ps) in
    numbered_is (logs_of ps ls) n (record { part = given 0 []; members = [] }) (bounds_is_number (logs_of ps ls) n low (omega (arith, size, high)))

pub no_log_numbered : (ps : List Part) (ls : List KeptLog) (n : ℕ) → (n ≡ 0) ⊎ (length ls < n) → numbered (logs_of ps ls) n ≡ None
no_log_numbered ps ls n h = elim h [
  | inl e ↦ numbered_nothing (logs_of ps ls) n e
  | inr l ↦ let size : length (logs_of ps ls) ≡ length ls = length-map ls (log_of ps) in numbered_past (logs_of ps ls) n (omega (arith, size, l))
]

pub log_is : (ps : List Part) (ls : List KeptLog) (k : ℕ) (l : KeptLog) → 0 < k → k ≤ length ls → l ≡ get_or ls (k - 1) l → log_at (logs_of ps ls) k ≡ log_of ps l
log_is ps ls k l low high e =
    get_or-map (log_of ps) ls (k - 1) l (record { part = given 0 []; members = [] }) (omega (arith, low, high)) ∙ ap (log_of ps) (sym e)

-- the numbers of a list, one by one
pub number_first : {A : Type 0} (xs : List A) (k : ℕ) (ks later : List ℕ) (n : ℕ) → ks ≡ k ∷ later → length xs ≡ n → 0 < k → k ≤ n → are_numbers xs later ≡ are_numbers xs ks
number_first xs k ks later n e l low high = rw (e, bounds_is_number xs k low (omega (arith, l, high))) refl

pub number_missing : {A : Type 0} (xs : List A) (k : ℕ) (ks later : List ℕ) (n : ℕ) → ks ≡ k ∷ later → length xs ≡ n → (k ≡ 0) ⊎ (n < k) → false ≡ are_numbers xs ks
number_missing xs k ks later n e l h = go (is_number xs k) refl
  where
    go : (b : Bool) → is_number xs k ≡ b → false ≡ are_numbers xs ks
    go true t =
        let b = is_number_bounds xs k t in
        elim h [ inl z ↦ absurd (omega (arith, z, b.0)) | inr z ↦ absurd (omega (arith, z, l, b.1)) ]
    go false t = rw (e, t) refl
