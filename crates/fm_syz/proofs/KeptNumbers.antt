-- A trim goes from the last column to the first.
use mathlib.Core.List.{append-nil, map-map}
use Rattle.std.proofs.Common.{ℕ, suc, ◌+◌, ◌<◌, ◌≤◌, ◌≡◌, Bool, true, false, if◌then◌else◌, Ok, Err, Result, List, [], ◌∷◌, ◌++◌, length, map, get_or, refl, sym, ap, ◌∙◌, subst, arith}
use Rattle.std.specs.Prelude.{insert, remove}
use Rattle.std.specs.Borrow.{Bor}
use Rattle.fm_poly.specs.declared.ring.Ring.{Ring}
use Rattle.fm_term.specs.declared.vterm.VTerm.{VTerm}
use Rattle.fm_vec.specs.Vectors.{VectorValue}
use Rattle.fm_run.specs.declared.stop.Stop.{Stop}
use Rattle.fm_run.specs.Runs.{Halt, Ended, Work, Spends, ready, next_of, ◌>>=◌, Follows, halt_of}
use Rattle.fm_run.proofs.Following.{after_value}
use Rattle.fm_run.proofs.Spending.{then_spends}
use Rattle.fm_run.proofs.Calls.{follows_later, row_stops, row_wants}
use Rattle.fm_mat.proofs.Steps.{map_length}
use Rattle.fm_graphs.specs.Listing.{VectorOf, terms_of}
use Rattle.fm_graphs.specs.Trims.{spanned, trimmed_after, trimmed}
use Rattle.fm_graphs.proofs.Spending.{spanned_spends}
use Rattle.fm_syz.proofs.BorrowedVectors.{terms_in, terms_removed, terms_inserted, terms_at}

next_place : (n j : ℕ) → suc n + j ≡ n + suc j
next_place n j = omega arith

none : (j : ℕ) → 0 + j ≡ j
none j = omega arith

-- ---- lists the other way round
module _ {X : Type 0} where
  -- former the other way round, before later
  abbrev pub turned : List X → List X → List X
  turned [] later = later
  turned (x ∷ former) later = turned former (x ∷ later)

  turned_append : (f k m : List X) → turned f k ++ m ≡ turned f (k ++ m)
  turned_append [] k m = refl
  turned_append (x ∷ f) k m = turned_append f (x ∷ k) m

  turned_twice : (f k m : List X) → turned (turned f k) m ≡ turned k (f ++ m)
  turned_twice [] k m = refl
  turned_twice (x ∷ f) k m = turned_twice f (x ∷ k) m

  turned_length : (f k : List X) → length (turned f k) ≡ length f + length k
  turned_length [] k = omega arith
  turned_length (x ∷ f) k = let h = turned_length f (x ∷ k) in omega (arith, h)

  turned_back : (f : List X) → turned (turned f []) [] ≡ f
  turned_back f = turned_twice f [] [] ∙ append-nil f

  -- an edit at a place of later
  removed_later : (f k : List X) (j : ℕ) → remove (turned f k) (length f + j) ≡ turned f (remove k j)
  removed_later [] k j = ap (remove k) (none j)
  removed_later (x ∷ f) k j = ap (remove (turned f (x ∷ k))) (next_place (length f) j) ∙ removed_later f (x ∷ k) (suc j)

  inserted_later : (f k : List X) (j : ℕ) (y : X) → insert (turned f k) (length f + j) y ≡ turned f (insert k j y)
  inserted_later [] k j y = ap (λ i. insert k i y) (none j)
  inserted_later (x ∷ f) k j y = ap (λ i. insert (turned f (x ∷ k)) i y) (next_place (length f) j) ∙ inserted_later f (x ∷ k) (suc j) y

  read_later : (f k : List X) (j : ℕ) (d : X) → get_or (turned f k) (length f + j) d ≡ get_or k j d
  read_later [] k j d = ap (λ i. get_or k i d) (none j)
  read_later (x ∷ f) k j d = ap (λ i. get_or (turned f (x ∷ k)) i d) (next_place (length f) j) ∙ read_later f (x ∷ k) (suc j) d

  first_place : (f : List X) (i : ℕ) → length f ≡ i → i ≡ length f + 0
  first_place f i h = omega (arith, h)

  pub removed_first : (f k : List X) (i : ℕ) (x : X) → length f ≡ i → remove (turned f (x ∷ k)) i ≡ turned f k
  removed_first f k i x h = ap (remove (turned f (x ∷ k))) (first_place f i h) ∙ removed_later f (x ∷ k) 0

  pub inserted_first : (f k : List X) (i : ℕ) (x : X) → length f ≡ i → insert (turned f k) i x ≡ turned f (x ∷ k)
  inserted_first f k i x h = ap (λ j. insert (turned f k) j x) (first_place f i h) ∙ inserted_later f k 0 x

  pub read_first : (f k : List X) (i : ℕ) (x d : X) → length f ≡ i → get_or (turned f (x ∷ k)) i d ≡ x
  read_first f k i x d h = ap (λ j. get_or (turned f (x ∷ k)) j d) (first_place f i h) ∙ read_later f (x ∷ k) 0 d

turned_map : {X Y : Type 0} (T : X → Y) (f k : List X) → map T (turned f k) ≡ turned (map T f) (map T k)
turned_map T [] k = refl
turned_map T (x ∷ f) k = turned_map T f (x ∷ k)

-- ---- runs in a row
module _ {A B C : Type 0} (F : A → Work B) (G : B → Work C) where
  row_of_rows : (d : Ended A) → next_of G (next_of F d.end d.left).end (next_of F d.end d.left).left ≡ next_of (λ x. F x >>= G) d.end d.left
  row_of_rows d = go d.end d.left
    where
      go : (e : Result A Halt) (k : ℕ) → next_of G (next_of F e k).end (next_of F e k).left ≡ next_of (λ x. F x >>= G) e k
      go (Ok x) k = refl
      go (Err e) k = refl

module _ {A B : Type 0} where
  same_next : (F G : A → Work B) → ((x : A) (units : ℕ) → F x units ≡ G x units) → (d : Ended A) → next_of F d.end d.left ≡ next_of G d.end d.left
  same_next F G same d = go d.end d.left
    where
      go : (e : Result A Halt) (k : ℕ) → next_of F e k ≡ next_of G e k
      go (Ok x) k = same x k
      go (Err e) k = refl

ready_next : {A : Type 0} (d : Ended A) → next_of (λ (x : A). ready x) d.end d.left ≡ d
ready_next {A} d = go d.end d.left
  where
    go : (e : Result A Halt) (k : ℕ) → next_of (λ (x : A). ready x) e k ≡ record { end = e; left = k }
    go (Ok x) k = refl
    go (Err e) k = refl

-- the vectors have the terms of the columns with these numbers
abbrev pub Named : (r : Ring) → List (Bor VectorValue) → List ℕ → (ℕ → VectorOf r) → Type 0
Named r vectors numbers column = terms_in vectors ≡ map (λ k. terms_of r (column k)) numbers

module _ (r : Ring) (column : ℕ → VectorOf r) where
  abbrev pub tested : List ℕ → ℕ → Work Bool
  tested others k = spanned r (map column others) (column k)

  -- what is still to do: former are to be tested, the last first, and later are kept
  abbrev pub trimming : List ℕ → List ℕ → Work (List ℕ)
  trimming [] kept = ready kept
  trimming (k ∷ former) kept = tested (turned former kept) k >>= λ yes. trimming former (if yes then kept else k ∷ kept)

  pub trimming_spends : (former kept : List ℕ) → Spends (trimming former kept)
  trimming_spends [] kept = λ units. omega arith
  trimming_spends (k ∷ former) kept =
      then_spends (tested (turned former kept) k) (λ yes. trimming former (if yes then kept else k ∷ kept)) (spanned_spends r (map column (turned former kept)) (column k)) (λ yes. trimming_spends former (if yes then kept else k ∷ kept))

  whole : (former later : List ℕ) (units : ℕ) → (trimmed_after r column (turned former []) later >>= trimming former) units ≡ trimming (turned later former) [] units
  whole former [] units = refl
  whole former (k ∷ later) units =
      let test = λ (kept : List ℕ). spanned r (map column (turned former [] ++ kept)) (column k) >>= λ yes. ready (if yes then kept else k ∷ kept) in
      row_of_rows test (trimming former) (trimmed_after r column (turned former [] ++ k ∷ []) later units)
      ∙ same_next (λ kept. test kept >>= trimming former) (trimming (k ∷ former)) (λ kept u.
      row_of_rows (λ yes. ready (if yes then kept else k ∷ kept)) (trimming former) (spanned r (map column (turned former [] ++ kept)) (column k) u)
      ∙ ap (λ others. (tested others k >>= λ yes. trimming former (if yes then kept else k ∷ kept)) u) (turned_append former [] kept)) (trimmed_after r column (turned former [] ++ k ∷ []) later units)
      ∙ ap (λ fs. (trimmed_after r column fs later >>= trimming (k ∷ former)) units) (turned_append former [] (k ∷ []))
      ∙ whole (k ∷ former) later units

  -- the numbers before place i are to be tested, and those from there on are kept
  pub record Along (i : ℕ) (numbers : List ℕ) (units : ℕ) (all : Ended (List ℕ)) : Type 0 where
    pub former : List ℕ
    pub kept : List ℕ
    pub count : length former ≡ i
    pub is : numbers ≡ turned former kept
    pub run : trimming former kept units ≡ all

  pub along_begun : (numbers : List ℕ) (i units : ℕ) → i ≡ length numbers → Along i numbers units (trimmed r column numbers units)
  unfolding trimmed
  along_begun numbers i units e = record {
    former = turned numbers [];
    kept = [];
    count = (let h = turned_length numbers [] in omega (arith, h, e));
    is = sym (turned_back numbers);
    run = sym (whole [] numbers units) ∙ ready_next (trimmed_after r column [] numbers units);
  }

  pub along_done : (i : ℕ) (numbers : List ℕ) (units : ℕ) (all : Ended (List ℕ)) → i ≡ 0 → Along i numbers units all → all ≡ record { end = Ok numbers; left = units }
  along_done i numbers units all e w = go w.former w.count w.is w.run
    where
      go : (former : List ℕ) → length former ≡ i → numbers ≡ turned former w.kept → trimming former w.kept units ≡ all → all ≡ record { end = Ok numbers; left = units }
      go [] h is run = sym run ∙ ap (λ ks. record { end = Ok ks; left = units }) (sym is)
      go (k ∷ former) h is run = absurd (omega (arith, h, e))

  -- the number at place i is tested
  pub record Next (i : ℕ) (numbers : List ℕ) (units : ℕ) (all : Ended (List ℕ)) : Type 0 where
    pub number : ℕ
    pub former : List ℕ
    pub kept : List ℕ
    pub count : length former ≡ i
    pub is : numbers ≡ turned former (number ∷ kept)
    pub run : (tested (turned former kept) number >>= λ yes. trimming former (if yes then kept else number ∷ kept)) units ≡ all

  pub along_next : (i j : ℕ) (numbers : List ℕ) (units : ℕ) (all : Ended (List ℕ)) → j ≡ suc i → Along j numbers units all → Next i numbers units all
  along_next i j numbers units all e w = go w.former w.count w.is w.run
    where
      go : (former : List ℕ) → length former ≡ j → numbers ≡ turned former w.kept → trimming former w.kept units ≡ all → Next i numbers units all
      go [] h is run = absurd (omega (arith, h, e))
      go (k ∷ former) h is run = record { number = k; former = former; kept = w.kept; count = omega (arith, h, e); is = is; run = run }

  module _ (i : ℕ) (numbers : List ℕ) (units : ℕ) (all : Ended (List ℕ)) (w : Next i numbers units all) where
    abbrev Test : Work Bool
    Test = tested (turned w.former w.kept) w.number

    abbrev Then : Bool → Work (List ℕ)
    Then inside = trimming w.former (if inside then w.kept else w.number ∷ w.kept)

    then_they_spend : (inside : Bool) → Spends (Then inside)
    then_they_spend inside = trimming_spends w.former (if inside then w.kept else w.number ∷ w.kept)

    pub along_dropped : (numbers' : List ℕ) (left : ℕ) → numbers' ≡ remove numbers i → Test units ≡ record { end = Ok true; left = left } → Along i numbers' left all
    along_dropped numbers' left e test = record {
      former = w.former;
      kept = w.kept;
      count = w.count;
      is = e ∙ ap (λ ks. remove ks i) w.is ∙ removed_first w.former w.kept i w.number w.count;
      run = sym (after_value Test Then units left true test) ∙ w.run;
    }

    pub along_kept : (left : ℕ) → Test units ≡ record { end = Ok false; left = left } → Along i numbers left all
    along_kept left test = record {
      former = w.former;
      kept = w.number ∷ w.kept;
      count = w.count;
      is = w.is;
      run = sym (after_value Test Then units left false test) ∙ w.run;
    }

    pub along_stops : (stop : Stop) (old new : ℕ) → units ≤ old → Follows (λ yes. yes) (Err stop) units new (Test units) → Follows {X = List ℕ} (λ ks. ks) (Err stop) old new all
    along_stops stop old new earlier h =
        follows_later old units new all earlier (λ (ks : List ℕ). ks) halt_of (Err stop)
        (subst (λ d. Follows {X = List ℕ} (λ ks. ks) (Err stop) units new d) w.run (row_stops Test Then units new (λ yes. yes) (λ ks. ks) halt_of stop then_they_spend h))

    pub along_spent : (left : ℕ) (inside : Bool) → Test units ≡ record { end = Ok inside; left = left } → (left ≤ units) × (all.left ≤ left)
    along_spent left inside h =
        let s = row_wants Test Then units left (spanned_spends r (map column (turned w.former w.kept)) (column w.number)) then_they_spend (ap (λ (d : Ended Bool). d.left) h) in
        (s.0, subst (λ (d : Ended (List ℕ)). d.left ≤ left) w.run s.1)

    -- ---- the vectors
    module _ (vectors : List (Bor VectorValue)) (terms : terms_in vectors ≡ map (λ k. terms_of r (column k)) numbers) where
      abbrev T : ℕ → List VTerm
      T k = terms_of r (column k)

      places : terms_in vectors ≡ turned (map T w.former) (T w.number ∷ map T w.kept)
      places = terms ∙ ap (map T) w.is ∙ turned_map T w.former (w.number ∷ w.kept)

      counted : length (map T w.former) ≡ i
      counted = map_length T w.former ∙ w.count

      without : terms_in (remove vectors i) ≡ turned (map T w.former) (map T w.kept)
      without = terms_removed vectors i ∙ ap (λ ts. remove ts i) places ∙ removed_first (map T w.former) (map T w.kept) i (T w.number) counted

      -- the others
      pub others_are : (others : List (Bor VectorValue)) → others ≡ remove vectors i → terms_in others ≡ map (terms_of r) (map column (turned w.former w.kept))
      others_are others e = ap terms_in e ∙ without ∙ sym (turned_map T w.former w.kept) ∙ sym (map-map (terms_of r) column (turned w.former w.kept))

      -- the one that is tested
      pub one_is : (v : Bor VectorValue) → i < length vectors → v ≡ get_or vectors i v → v.now.terms ≡ T w.number
      one_is v h e = ap (λ (x : Bor VectorValue). x.now.terms) e ∙ terms_at vectors i v [] h ∙ ap (λ ts. get_or ts i []) places ∙ read_first (map T w.former) (map T w.kept) i (T w.number) [] counted

      pub fewer_are : (others : List (Bor VectorValue)) (numbers' : List ℕ) → others ≡ remove vectors i → numbers' ≡ remove numbers i → terms_in others ≡ map T numbers'
      fewer_are others numbers' e e' =
          ap terms_in e ∙ without ∙ sym (turned_map T w.former w.kept)
          ∙ ap (map T) (sym (e' ∙ ap (λ ks. remove ks i) w.is ∙ removed_first w.former w.kept i w.number w.count))

      -- it is put back
      pub all_are : (others more : List (Bor VectorValue)) (v : Bor VectorValue) → others ≡ remove vectors i → more ≡ insert others i v → v.now.terms ≡ T w.number → terms_in more ≡ map T numbers
      all_are others more v e e' same =
          ap terms_in e' ∙ terms_inserted others i v
          ∙ ap (λ ts. insert ts i v.now.terms) (ap terms_in e ∙ without) ∙ ap (insert (turned (map T w.former) (map T w.kept)) i) same
          ∙ inserted_first (map T w.former) (map T w.kept) i (T w.number) counted ∙ sym places ∙ terms
