-- A completion that ends has a complete log of free steps, so that its members are a Gröbner basis of the span of the inputs.
use Rattle.std.proofs.Common.{ℕ, zero, suc, ◌+◌, ◌*◌, ◌%◌, ◌<◌, ◌≤◌, ◌≢◌, ◌≡◌, ◌&&◌, ◌⊎◌, inl, inr, max, if◌then◌else◌, Bool, true, false, List, [], ◌∷◌, ◌++◌, map, length, Option, Some, None, Err, Contains, refl, sym, ap, ap₂, ◌∙◌, subst, arith}
use Rattle.std.proofs.lemmas.Bool.{false≢true}
use Rattle.std.proofs.lemmas.List.{length-append, append_assoc}
use native.Mathlib.Decide.{dec_lt}
use Rattle.fm_tuple.specs.Tuple.{tuple_maximum, tuple_difference, TupleDivides}
use Rattle.fm_gfp.specs.Primes.{prime_value}
use Rattle.fm_mono.specs.Bounded.{is_bounded}
use Rattle.fm_gfp.proofs.Residues.{prime_above_one}
use Rattle.fm_term.specs.declared.vterm.VTerm.{VTerm}
use Rattle.fm_term.specs.Falling.{AreMonic}
use Rattle.fm_term.specs.Multiples.{multiple}
use Rattle.fm_term.specs.Meanings.{vector_of, vectors_of}
use Rattle.fm_groebner.specs.Bases.{IsGroebnerBasis}
use Rattle.fm_groebner.specs.Logs.{IsNumber, first, next, Entry, Start, Input, Pair, IsKept, dropped, kept as kept_rest, IsSVector, IsTreated, FreeRun, begin, take_input, take_pair, skip_pair, IsComplete}
use Rattle.fm_groebner.proofs.Setting.{In, here, there}
use Rattle.fm_groebner.proofs.Numbers.{number_positive, number_within, number_left, number_last, number_cases, contains_here, contains_there, contains_cases, contains_of_in, in_of_number}
use Rattle.fm_groebner.proofs.Consequences.{basis_of_log, monic_of_log}
use Rattle.fm_poly.specs.declared.ring.Ring.{Ring}
use Rattle.fm_term.specs.declared.vterm.VTerm.{VTerm}
use Rattle.fm_vec.specs.Vectors.{IsVector}
use Rattle.fm_term.specs.Multiples.{multiple, scaled}
use Rattle.fm_vec.specs.Multiples.{inverse_of, monic_of, multiple_fits, cofactor, s_vector_of, s_vector_fits}
use Rattle.fm_vec.proofs.Meaning.{negated_part}
use Rattle.fm_vec.proofs.Proper.{s_vector_is, scaled_vector, length_cofactor}
use Rattle.fm_run.specs.Runs.{Budget, Exponent}
use Rattle.fm_complete.specs.Reductions.{Reduced, reduced, divided}
use Rattle.fm_complete.specs.Trails.{member_at}
use Rattle.fm_complete.specs.Combinations.{AreVectors}
use Rattle.fm_complete.proofs.Cancelling.{inverse_one, inverse_below, inverse_some}
use Rattle.fm_run.specs.Runs.{ready}
use Rattle.fm_run.specs.Turns.{Turn, last, again, repeated}
use Rattle.fm_complete.specs.declared.critical_pair.CriticalPair.{CriticalPair}
use Rattle.fm_complete.specs.Completions.{pair_of, with_pairs, is_pending, skipper, Completion, skipped_by, skip_entry, skipping, numbers, kept, taken_up, with_inputs, s_divided, pair_formed, pair_turn, next_pair, completed}
use Rattle.fm_run.proofs.Ends.{Ends, same_value, no_value, bound, Leads, turns_lead}
use Rattle.fm_complete.proofs.HeadReductions.{Reduction, reduction, division, with_multiple, in_vectors}
use Rattle.fm_complete.proofs.PendingPairs.{AreApart, IsPending, IsNew, Pairs, pairs_made, pending_found, skipper_found, in_cases}

-- ---- numbers
number_map : {A B : Type 0} (f : A → B) {xs : List A} {k : ℕ} {x : A} → IsNumber xs k x → IsNumber (map f xs) k (f x)
number_map f first = first
number_map f (next i) = next (number_map f i)

number_of_map : {A B : Type 0} (f : A → B) (xs : List A) {k : ℕ} {y : B} → IsNumber (map f xs) k y → (x : A) × IsNumber xs k x × (f x ≡ y)
number_of_map f [] i = elim i [ ]
number_of_map f (x ∷ xs) first = (x, first, refl)
number_of_map f (x ∷ xs) (next i) = let r = number_of_map f xs i in (r.0, next r.1, r.2)

number_middle : {A : Type 0} (xs : List A) (y : A) (ys : List A) → IsNumber (xs ++ y ∷ ys) (suc (length xs)) y
number_middle [] y ys = first
number_middle (x ∷ xs) y ys = next (number_middle xs y ys)

member_of_number : {members : List (List VTerm)} {k : ℕ} {g : List VTerm} → IsNumber members k g → member_at members k ≡ g
member_of_number first = refl
member_of_number (next first) = refl
member_of_number (next (next i)) = member_of_number (next i)

map_append : {A B : Type 0} (f : A → B) (xs ys : List A) → map f (xs ++ ys) ≡ map f xs ++ map f ys
map_append f [] ys = refl
map_append f (x ∷ xs) ys = ap (λ zs. f x ∷ zs) (map_append f xs ys)

maximum_comm : (a b : List ℕ) → tuple_maximum a b ≡ tuple_maximum b a
maximum_comm [] [] = refl
maximum_comm [] (y ∷ b) = refl
maximum_comm (x ∷ a) [] = refl
maximum_comm (x ∷ a) (y ∷ b) = ap₂ (λ m ms. m ∷ ms) (swap x y) (maximum_comm a b)
  where
    swap : (x y : ℕ) → max x y ≡ max y x
    swap x y = omega arith

and_first : (x y : Bool) → (x && y) ≡ true → x ≡ true
and_first true y e = refl
and_first false y e = cc

and_second : (x y : Bool) → (x && y) ≡ true → y ≡ true
and_second true y e = e
and_second false y e = cc

module _ (r : Ring) (m : ℕ) (inputs : List (List VTerm)) where
  abbrev Run : List Entry → List (List VTerm) → List ℕ → List (ℕ × ℕ) → Type 0
  Run log members taken treated = FreeRun r.prime r.vars m r.order is_bounded inputs log members taken treated

  -- ---- pairs
  -- a pending pair is one of members with heads in one component
  record IsPair (members : List (List VTerm)) (q : CriticalPair) : Type 0 where
    u : VTerm
    us : List VTerm
    t : VTerm
    ts : List VTerm
    first : IsNumber members q.earlier (u ∷ us)
    second : IsNumber members q.later (t ∷ ts)
    before : q.earlier < q.later
    same : u.component ≡ t.component
    component : q.component ≡ t.component
    lcm : q.lcm ≡ tuple_maximum u.mono t.mono

  abbrev Covered : List (List VTerm) → List CriticalPair → List (ℕ × ℕ) → Type 0
  Covered members pending treated = (a b : ℕ) (u t : VTerm) (us ts : List VTerm) → a < b → IsNumber members a (u ∷ us) → IsNumber members b (t ∷ ts) → u.component ≡ t.component
      → Contains treated (a, b) ⊎ IsPending pending a b

  -- what holds between members, pending pairs and treated pairs
  record Frame (members : List (List VTerm)) (pending : List CriticalPair) (treated : List (ℕ × ℕ)) : Type 0 where
    vectors : AreVectors r m members
    pairs : (q : CriticalPair) → In pending q → IsPair members q
    fresh : (q : CriticalPair) → In pending q → ¬ (Contains treated (q.earlier, q.later))
    apart : AreApart pending
    covers : Covered members pending treated
    within : (a b : ℕ) → Contains treated (a, b) → b ≤ length members

  -- the first pending pair is treated
  frame_treated : (members : List (List VTerm)) (p : CriticalPair) (ps : List CriticalPair) (treated : List (ℕ × ℕ)) → Frame members (p ∷ ps) treated → Frame members ps ((p.earlier, p.later) ∷ treated)
  frame_treated members p ps treated F = record {
    vectors = F.vectors;
    pairs = λ q i. F.pairs q (there i);
    fresh = λ q i c. elim (contains_cases (p.earlier, p.later) treated (q.earlier, q.later) c) [
      | inl e ↦ F.apart.0 q i (ap (λ (x : ℕ × ℕ). x.0) e) (ap (λ (x : ℕ × ℕ). x.1) e)
      | inr d ↦ F.fresh q (there i) d
    ];
    apart = F.apart.1;
    covers = λ a b u t us ts l i j e. elim (F.covers a b u t us ts l i j e) [
      | inl c ↦ inl (contains_there (p.earlier, p.later) treated (a, b) c)
      | inr w ↦ elim (in_cases p ps w.0 w.1) [
        | inl s ↦ inl (subst (Contains ((p.earlier, p.later) ∷ treated)) (ap₂ (λ x y. (x, y)) (ap (λ (x : CriticalPair). x.earlier) (sym s) ∙ w.2) (ap (λ (x : CriticalPair). x.later) (sym s) ∙ w.3))
            (contains_here (p.earlier, p.later) treated))
        | inr k ↦ inr (w.0, k, w.2, w.3)
      ]
    ];
    within = λ a b c. elim (contains_cases (p.earlier, p.later) treated (a, b) c) [
      | inl e ↦ let q = F.pairs p here in let h = number_within q.second in subst (λ k. k ≤ length members) (ap (λ (x : ℕ × ℕ). x.1) e) h
      | inr d ↦ F.within a b d
    ];
  }

  vectors_more : (members : List (List VTerm)) (g : List VTerm) → AreVectors r m members → IsVector r m g → AreVectors r m (members ++ g ∷ [])
  vectors_more [] g w v = (v, tt)
  vectors_more (x ∷ xs) g w v = (w.0, vectors_more xs g w.1 v)

  -- a new member
  module _ (members : List (List VTerm)) (pending : List CriticalPair) (treated : List (ℕ × ℕ)) (F : Frame members pending treated) (h : VTerm) (hs : List VTerm) (vector : IsVector r m (h ∷ hs)) where
    abbrev all : List CriticalPair
    all = with_pairs r.order (suc (length members)) h 1 members pending

    abbrev more : List (List VTerm)
    more = members ++ (h ∷ hs) ∷ []

    below : (q : CriticalPair) → In pending q → q.later < suc (length members)
    below q i = let w = number_within (F.pairs q i).second in omega (arith, w)

    made : Pairs r.order (suc (length members)) h 1 members pending all
    made = pairs_made r.order (suc (length members)) h 1 members pending F.apart below

    old_pair : (q : CriticalPair) → IsPair members q → IsPair more q
    old_pair q w = record {
      u = w.u;
      us = w.us;
      t = w.t;
      ts = w.ts;
      first = number_left ((h ∷ hs) ∷ []) w.first;
      second = number_left ((h ∷ hs) ∷ []) w.second;
      before = w.before;
      same = w.same;
      component = w.component;
      lcm = w.lcm;
    }

    new_pair : (q : CriticalPair) → IsNew r.order (suc (length members)) h 1 members q → IsPair more q
    new_pair q w = subst (IsPair more) (sym w.is) (record {
      u = w.u;
      us = w.us;
      t = h;
      ts = hs;
      first = subst (λ k. IsNumber more k (w.u ∷ w.us)) one (number_left ((h ∷ hs) ∷ []) w.at);
      second = number_last members (h ∷ hs);
      before = let l = number_within w.at in omega (arith, l);
      same = w.same;
      component = refl;
      lcm = refl;
    })
      where
        one : suc w.place ≡ 1 + w.place
        one = omega arith

    frame_more : Frame more all treated
    frame_more = record {
      vectors = vectors_more members (h ∷ hs) F.vectors vector;
      pairs = λ q i. elim (made.only q i) [ inl j ↦ old_pair q (F.pairs q j) | inr n ↦ new_pair q n ];
      fresh = λ q i c. elim (made.only q i) [
        | inl j ↦ F.fresh q j c
        | inr n ↦ let l = F.within q.earlier q.later c in let e : q.later ≡ suc (length members) = ap (λ (x : CriticalPair). x.later) n.is in absurd (omega (arith, l, e))
      ];
      apart = made.apart;
      covers = covers;
      within = λ a b c. let l = F.within a b c in let e = length-append members ((h ∷ hs) ∷ []) in omega (arith, l, e);
    }
      where
        head_of : (x y : VTerm) (xs ys : List VTerm) → x ∷ xs ≡ y ∷ ys → x ≡ y
        head_of x y xs ys e = cc

        before_last : (a : ℕ) (u : VTerm) (us : List VTerm) → IsNumber more (suc a) (u ∷ us) → suc a < suc (length members) → IsNumber members (suc a) (u ∷ us)
        before_last a u us i l = elim (number_cases members (h ∷ hs) i) [ inl j ↦ j | inr e ↦ let s = e.0 in absurd (omega (arith, l, s)) ]

        new_covered : (a b : ℕ) (u t : VTerm) (us ts : List VTerm) → a < b → IsNumber more a (u ∷ us) → b ≡ suc (length members) → t ≡ h → u.component ≡ t.component → IsPending all a b
        new_covered zero b u t us ts l i e s c = let w = number_positive i in absurd (omega (arith, w))
        new_covered (suc a) b u t us ts l i e s c = (
          pair_of (suc (length members)) h (1 + a) u,
          made.has a u us (before_last a u us i (omega (arith, l, e))) (c ∙ ap (λ (x : VTerm). x.component) s),
          omega arith,
          sym e,
        )

        covers : Covered more all treated
        covers a b u t us ts l i j e = elim (number_cases members (h ∷ hs) j) [
          | inr s ↦ inr (new_covered a b u t us ts l i s.0 (head_of t h ts hs s.1) e)
          | inl k ↦ elim (number_cases members (h ∷ hs) i) [
            | inr s ↦ let w = number_within k in let x = s.0 in absurd (omega (arith, l, w, x))
            | inl q ↦ elim (F.covers a b u t us ts l q k e) [ inl c ↦ inl c | inr w ↦ inr (w.0, made.old w.0 w.1, w.2, w.3) ]
          ]
        ]

  -- ---- rests
  pub monic_kept : (members : List (List VTerm)) (t : VTerm) (ts : List VTerm) → IsVector r m (t ∷ ts) → IsKept r.prime members true (t ∷ ts) (members ++ monic_of r (t ∷ ts) ∷ [])
  monic_kept members t ts v = kept_rest (inverse_of r t.coeff)
      (ap (λ x. x % prime_value r.prime) (swap (inverse_of r t.coeff) t.coeff) ∙ inverse_one r t.coeff v.proper.0.positive v.proper.0.below)
    where
      swap : (x y : ℕ) → x * y ≡ y * x
      swap x y = omega arith

  abbrev AfterRest : Start → List ℕ → Completion → List VTerm → Type 0
  AfterRest start by c rest = (keep : Bool) × ((kept r start by rest c).log ≡ c.log ++ record { start = start; by = by; keep = keep } ∷ []) × IsKept r.prime c.members keep rest ((kept r start by rest c).members)

  after_rest : (start : Start) (by : List ℕ) (c : Completion) (rest : List VTerm) → IsVector r m rest → AfterRest start by c rest
  after_rest start by c [] v = (false, refl, dropped)
  after_rest start by c (t ∷ ts) v = (true, refl, monic_kept c.members t ts v)

  frame_kept : (start : Start) (by : List ℕ) (c : Completion) (rest : List VTerm) (treated : List (ℕ × ℕ)) → IsVector r m rest → Frame c.members c.pending treated
      → Frame (kept r start by rest c).members (kept r start by rest c).pending treated
  frame_kept start by c [] treated v F = F
  frame_kept start by c (t ∷ ts) treated v F = frame_more c.members c.pending treated F
      (record { component = t.component; mono = t.mono; coeff = (inverse_of r t.coeff * t.coeff) % prime_value r.prime }) (scaled r.prime (inverse_of r t.coeff) ts)
      (scaled_vector r m (inverse_of r t.coeff) (t ∷ ts) (inverse_some r t.coeff v.proper.0.positive v.proper.0.below) (inverse_below r t.coeff) v)

  -- ---- completions under way
  -- a completion with its log of free steps; these inputs were taken
  record Sound (c : Completion) (taken : List ℕ) : Type 0 where
    treated : List (ℕ × ℕ)
    run : Run c.log c.members taken treated
    frame : Frame c.members c.pending treated

  -- ---- inputs
  abbrev TakenTo : List ℕ → ℕ → Type 0
  TakenTo taken k = ((j : ℕ) → Contains taken j → j ≤ k) × ((j : ℕ) → 0 < j → j ≤ k → Contains taken j)

  taken_next : (taken : List ℕ) (k : ℕ) → TakenTo taken k → TakenTo (suc k ∷ taken) (suc k)
  taken_next taken k t = (
    λ j c. elim (contains_cases (suc k) taken j c) [ inl e ↦ omega (arith, e) | inr d ↦ let l = t.0 j d in omega (arith, l) ],
    λ j some l. elim (dec_lt j (suc k)) [
      | yes w ↦ contains_there (suc k) taken j (t.1 j some (omega (arith, w)))
      | no w ↦ subst (Contains (suc k ∷ taken)) (let e : suc k ≡ j = omega (arith, w, l) in e) (contains_here (suc k) taken)
    ],
  )

  input_taken : (former later : List (List VTerm)) (v : List VTerm) (c : Completion) (taken : List ℕ) (x : Reduced) → inputs ≡ former ++ v ∷ later → IsVector r m v → TakenTo taken (length former)
      → (S : Sound c taken) → Reduction r m c.members S.frame.vectors v x → Sound (kept r (Input (suc (length former))) (numbers x.steps) x.rest c) (suc (length former) ∷ taken)
  input_taken former later v c taken x whole vector to S red =
      let k = suc (length former) in
      let after = after_rest (Input k) (numbers x.steps) c x.rest red.vector in
      record {
        treated = S.treated;
        run = subst (λ l. Run l (kept r (Input k) (numbers x.steps) x.rest c).members (k ∷ taken) S.treated) (sym after.1)
            (take_input S.run k (numbers x.steps) (λ d. let l = to.0 k d in omega (arith, l))
            ((subst (λ y. IsNumber y k v) (sym whole) (number_middle former v later))) vector red.reduces after.2);
        frame = frame_kept (Input k) (numbers x.steps) c x.rest S.treated red.vector S.frame;
      }

  taken_all : (former later : List (List VTerm)) (k : ℕ) (c : Completion) (taken : List ℕ) (units left : ℕ) (y : Completion) → inputs ≡ former ++ later → k ≡ suc (length former) → AreVectors r m later → TakenTo taken (length former)
      → Sound c taken → Ends (with_inputs r k later c units) y left → (all : List ℕ) × TakenTo all (length inputs) × Sound y all
  taken_all former [] k c taken units left y whole number vectors to S e =
      (taken, subst (TakenTo taken) (ap length (sym (whole ∙ append_nil former))) to, subst (λ z. Sound z taken) (same_value c y units left e) S)
    where
      append_nil : (xs : List (List VTerm)) → xs ++ [] ≡ xs
      append_nil [] = refl
      append_nil (x ∷ xs) = ap (λ ys. x ∷ ys) (append_nil xs)
  taken_all former (v ∷ later) k c taken units left y whole number vectors to S e =
      let start = Input k in
      let b = bound (taken_up r start c (λ u. divided r c.members u v)) (with_inputs r (suc k) later) units left y e in
      let d = bound (λ u. divided r c.members u v) (λ x. ready (kept r start (numbers x.steps) x.rest c)) units b.between b.value b.first in
      let red = division r m c.members S.frame.vectors units d.between v d.value vectors.0 d.first in
      let next_sound = input_taken former later v c taken d.value whole vectors.0 to S red in
      let value_is : kept r start (numbers d.value.steps) d.value.rest c ≡ b.value = same_value _ b.value d.between b.between d.second in
      taken_all (former ++ v ∷ []) later (suc k) b.value (suc (length former) ∷ taken) b.between left y (whole ∙ sym (append_assoc former (v ∷ []) later))
      (ap suc (number ∙ sym (longer former v))) vectors.1 (subst (TakenTo (suc (length former) ∷ taken)) (sym (longer former v)) (taken_next taken (length former) to))
      (subst (λ z. Sound z (suc (length former) ∷ taken)) (ap (λ j. kept r (Input j) (numbers d.value.steps) d.value.rest c) (sym number) ∙ value_is) next_sound)
      b.second
    where
      longer : (xs : List (List VTerm)) (z : List VTerm) → length (xs ++ z ∷ []) ≡ suc (length xs)
      longer [] z = refl
      longer (x ∷ xs) z = ap suc (longer xs z)

  -- ---- skips
  module _ (taken : List ℕ) where
    not_pending : (p : CriticalPair) (ps : List CriticalPair) (i j : ℕ) → is_pending ps i j ≡ false → (p.earlier ≡ i → p.later ≡ j → ⊥) → IsPending (p ∷ ps) i j → ⊥
    not_pending p ps i j free own (q, w, e, l) = elim (in_cases p ps q w) [
      | inl s ↦ own (ap (λ (x : CriticalPair). x.earlier) (sym s) ∙ e) (ap (λ (x : CriticalPair). x.later) (sym s) ∙ l)
      | inr k ↦ false≢true (sym free ∙ pending_found ps q i j k (inl (e, l)))
    ]

    not_pending_turned : (p : CriticalPair) (ps : List CriticalPair) (i j : ℕ) → is_pending ps i j ≡ false → (p.earlier ≡ j → p.later ≡ i → ⊥) → IsPending (p ∷ ps) j i → ⊥
    not_pending_turned p ps i j free own (q, w, e, l) = elim (in_cases p ps q w) [
      | inl s ↦ own (ap (λ (x : CriticalPair). x.earlier) (sym s) ∙ e) (ap (λ (x : CriticalPair). x.later) (sym s) ∙ l)
      | inr k ↦ false≢true (sym free ∙ pending_found ps q i j k (inr (e, l)))
    ]

    -- two members whose heads are in one component and whose pair is not pending: it is treated
    treated_pair : (members : List (List VTerm)) (pending : List CriticalPair) (treated : List (ℕ × ℕ)) → Frame members pending treated → (i j : ℕ) (u t : VTerm) (us ts : List VTerm) → i ≢ j
        → IsNumber members i (u ∷ us) → IsNumber members j (t ∷ ts) → u.component ≡ t.component → (IsPending pending i j → ⊥) → (IsPending pending j i → ⊥) → IsTreated treated i j
    treated_pair members pending treated F i j u t us ts differ a b same n n' = elim (dec_lt i j) [
      | yes l ↦ elim (F.covers i j u t us ts l a b same) [ inl c ↦ inl c | inr w ↦ absurd (n w) ]
      | no w ↦ elim (F.covers j i t u ts us (let l : j < i = omega (arith, w, differ) in l) b a (sym same)) [ inl c ↦ inr c | inr w' ↦ absurd (n' w') ]
    ]

    skipped : (members : List (List VTerm)) (log : List Entry) (p : CriticalPair) (ps : List CriticalPair) (k : ℕ) → skipper ps p 1 members ≡ Some k
        → Sound (record { members = members; pending = p ∷ ps; log = log }) taken → Sound (record { members = members; pending = ps; log = log ++ skip_entry p (Some k) }) taken
    skipped members log p ps k e S =
        let x = skipper_found ps p 1 members k e in
        let L = x.4 in
        let q = S.frame.pairs p here in
        let number : IsNumber members k (L.f ∷ L.fs) = subst (λ j. IsNumber members j (L.f ∷ L.fs)) (let h : suc x.0 ≡ k = (let z = x.3 in omega (arith, z)) in h) (subst (IsNumber members (suc x.0)) L.is x.2) in
        let to_first : L.f.component ≡ q.u.component = L.component ∙ q.component ∙ sym q.same in
        let one = treated_pair members (p ∷ ps) S.treated S.frame p.earlier k q.u L.f q.us L.fs (λ h. L.not_earlier (sym h)) q.first number (sym to_first)
        (not_pending p ps p.earlier k L.first (λ a b. L.not_later (sym b)))
        (not_pending_turned p ps p.earlier k L.first (λ a b. L.not_earlier (sym a))) in
        let two = treated_pair members (p ∷ ps) S.treated S.frame k p.later L.f q.t L.fs q.ts L.not_later number q.second (L.component ∙ q.component)
        (not_pending p ps k p.later L.second (λ a b. L.not_earlier (sym a)))
        (not_pending_turned p ps k p.later L.second (λ a b. L.not_later (sym b))) in
        record {
          treated = (p.earlier, p.later) ∷ S.treated;
          run = skip_pair S.run p.earlier p.later k q.before L.not_earlier L.not_later (S.frame.fresh p here) q.first q.second number
              (q.same, to_first, subst (TupleDivides L.f.mono) q.lcm L.divides) one two;
          frame = frame_treated members p ps S.treated S.frame;
        }

    skipping_sound : (pending : List CriticalPair) (members : List (List VTerm)) (log : List Entry) → Sound (record { members = members; pending = pending; log = log }) taken → Sound (skipping members log pending) taken
    skipping_sound [] members log S = S
    skipping_sound (p ∷ ps) members log S = go (skipper ps p 1 members) refl (λ log' S'. skipping_sound ps members log' S')
      where
        go : (k : Option ℕ) → skipper ps p 1 members ≡ k → ((log' : List Entry) → Sound (record { members = members; pending = ps; log = log' }) taken → Sound (skipping members log' ps) taken)
            → Sound (skipped_by p ps members log (skipping members (log ++ skip_entry p k) ps) k) taken
        go None e later = S
        go (Some k) e later = later (log ++ skip_entry p (Some k)) (skipped members log p ps k e S)

    -- ---- S-vectors
    module _ (members : List (List VTerm)) (vectors : AreVectors r m members) (monic : AreMonic r.prime r.vars m r.order members) where
      monic_head : (k : ℕ) (u : VTerm) (us : List VTerm) → IsNumber members k (u ∷ us) → u.coeff ≡ 1
      monic_head k u us i = (monic (u ∷ us) (contains_of_in (in_of_number i))).1

      member_vector : (k : ℕ) (u : VTerm) (us : List VTerm) → IsNumber members k (u ∷ us) → IsVector r m (u ∷ us)
      member_vector k u us i = in_vectors r m members vectors (u ∷ us) (in_of_number i)

      s_vector_falls : (i j : ℕ) (u t : VTerm) (us ts : List VTerm) → IsNumber members i (u ∷ us) → IsNumber members j (t ∷ ts) → u.component ≡ t.component → IsVector r m (s_vector_of r (u ∷ us) (t ∷ ts))
      s_vector_falls i j u t us ts a b same = s_vector_is r m (u ∷ us) (t ∷ ts) (monic_head i u us a, monic_head j t ts b, same) (member_vector i u us a) (member_vector j t ts b)

      pub s_vector : (i j : ℕ) (u t : VTerm) (us ts : List VTerm) → IsNumber members i (u ∷ us) → IsNumber members j (t ∷ ts) → u.component ≡ t.component → s_vector_fits (u ∷ us) (t ∷ ts) ≡ true
          → IsSVector r.prime r.vars m r.order is_bounded u t us ts (s_vector_of r (u ∷ us) (t ∷ ts))
      s_vector i j u t us ts a b same fit =
          let f = member_vector i u us a in
          let g = member_vector j t ts b in
          let lengths : length t.mono ≡ length u.mono = g.proper.0.fits ∙ sym f.proper.0.fits in
          record {
            one_component = same;
            falls = s_vector_falls i j u t us ts a b same;
            first_fits = and_first (multiple_fits (cofactor u t) (u ∷ us)) (multiple_fits (cofactor t u) (t ∷ ts)) fit;
            second_fits = ap (λ x. multiple_fits (tuple_difference x t.mono) (t ∷ ts)) (maximum_comm u.mono t.mono) ∙ and_second (multiple_fits (cofactor u t) (u ∷ us)) (multiple_fits (cofactor t u) (t ∷ ts)) fit;
            is = ap (λ a. vector_of r.prime r.vars m ((s_vector_of r (u ∷ us) (t ∷ ts)) ++ multiple r.prime 1 (tuple_difference a t.mono) (t ∷ ts))) (maximum_comm u.mono t.mono)
                ∙ with_multiple r m members vectors 1 (cofactor t u) (t ∷ ts) (s_vector_of r (u ∷ us) (t ∷ ts)) (multiple r.prime 1 (cofactor u t) (u ∷ us)) (length_cofactor t.mono u.mono lengths ∙ g.proper.0.fits) g
                (λ k. negated_part r k 1 (cofactor t u) (t ∷ ts) (multiple r.prime 1 (cofactor u t) (u ∷ us)) (prime_above_one r.prime) (length_cofactor t.mono u.mono lengths ∙ g.proper.0.fits) g.proper);
          }

      -- an S-vector that was divided was within the bound
      divided_fits : (f g : List VTerm) (units left : ℕ) (x : Reduced) → Ends (s_divided r members f g units) x left → s_vector_fits f g ≡ true
      divided_fits f g zero left x e = absurd (no_value Budget x zero left e)
      divided_fits f g (suc units) left x e = go (s_vector_fits f g) e
        where
          go : (b : Bool) → Ends (if b then reduced r members units (s_vector_of r f g) else record { end = Err Exponent; left = units }) x left → b ≡ true
          go true e = refl
          go false e = absurd (no_value Exponent x units left e)

      s_reduction : (f g : List VTerm) (units left : ℕ) (x : Reduced) → IsVector r m (s_vector_of r f g) → Ends (s_divided r members f g units) x left → Reduction r m members vectors (s_vector_of r f g) x
      s_reduction f g zero left x v e = absurd (no_value Budget x zero left e)
      s_reduction f g (suc units) left x v e = go (s_vector_fits f g) e
        where
          go : (b : Bool) → Ends (if b then reduced r members units (s_vector_of r f g) else record { end = Err Exponent; left = units }) x left → Reduction r m members vectors (s_vector_of r f g) x
          go true e = reduction r m members vectors units left (s_vector_of r f g) x v e
          go false e = absurd (no_value Exponent x units left e)

    pair_taken : (members : List (List VTerm)) (log : List Entry) (p : CriticalPair) (ps : List CriticalPair) (S : Sound (record { members = members; pending = p ∷ ps; log = log }) taken) (units left : ℕ) (y : Completion)
        → Ends (pair_formed r p (record { members = members; pending = ps; log = log }) units) y left → Sound y taken
    pair_taken members log p ps S units left y e =
        let start = Pair p.earlier p.later in
        let c : Completion = record { members = members; pending = ps; log = log } in
        let q = S.frame.pairs p here in
        let monic = monic_of_log r.prime r.vars m r.order S.run in
        let b = bound (s_divided r members (member_at members p.earlier) (member_at members p.later)) (λ x. ready (kept r start (numbers x.steps) x.rest c)) units left y e in
        let ended = subst (λ f. Ends (s_divided r members f (q.t ∷ q.ts) units) b.value b.between) (member_of_number q.first)
        (subst (λ g. Ends (s_divided r members (member_at members p.earlier) g units) b.value b.between) (member_of_number q.second) b.first) in
        let s = s_vector members S.frame.vectors monic p.earlier p.later q.u q.t q.us q.ts q.first q.second q.same
        (divided_fits members S.frame.vectors monic (q.u ∷ q.us) (q.t ∷ q.ts) units b.between b.value ended) in
        let red = s_reduction members S.frame.vectors monic (q.u ∷ q.us) (q.t ∷ q.ts) units b.between b.value s.falls ended in
        let after = after_rest start (numbers b.value.steps) c b.value.rest red.vector in
        subst (λ z. Sound z taken) (same_value (kept r start (numbers b.value.steps) b.value.rest c) y b.between left b.second) (record {
          treated = (p.earlier, p.later) ∷ S.treated;
          run = subst (λ l. Run l (kept r start (numbers b.value.steps) b.value.rest c).members taken ((p.earlier, p.later) ∷ S.treated)) (sym after.1)
              (take_pair S.run p.earlier p.later (numbers b.value.steps) q.before (S.frame.fresh p here) q.first q.second s red.reduces after.2);
          frame = frame_kept start (numbers b.value.steps) c b.value.rest ((p.earlier, p.later) ∷ S.treated) red.vector (frame_treated members p ps S.treated S.frame);
        })

    -- ---- the end
    -- a complete log, with vectors as members
    pub record Complete (c : Completion) : Type 0 where
      pub treated : List (ℕ × ℕ)
      pub run : Run c.log c.members taken treated
      pub complete : IsComplete inputs c.members taken treated
      pub vectors : AreVectors r m c.members

    done : TakenTo taken (length inputs) → (members : List (List VTerm)) (log : List Entry) → Sound (record { members = members; pending = []; log = log }) taken → Complete (record { members = members; pending = []; log = log })
    done to members log S = record {
      treated = S.treated;
      run = S.run;
      complete = record {
        all_taken = λ k v i. to.1 k (number_positive i) (number_within i);
        all_treated = λ a b t u ts us l i j e. elim (S.frame.covers a b t u ts us l i j e) [ inl d ↦ d | inr w ↦ elim w.1 [ ] ];
      };
      vectors = S.frame.vectors;
    }

    turn_leads : TakenTo taken (length inputs) → (c : Completion) (units left : ℕ) (t : Turn Completion Completion) → Sound c taken → Ends (next_pair r c units) t left
        → Leads Budget (next_pair r) (λ c. Sound c taken) Complete t
    turn_leads to c units left t S e = go (skipping c.members c.log c.pending).pending (skipping_sound c.pending c.members c.log S) e
      where
        members : List (List VTerm)
        members = (skipping c.members c.log c.pending).members

        log : List Entry
        log = (skipping c.members c.log c.pending).log

        go : (pending : List CriticalPair) → Sound (record { members = members; pending = pending; log = log }) taken → Ends (pair_turn r members log pending units) t left → Leads Budget (next_pair r) (λ c. Sound c taken) Complete t
        go [] S e = subst (Leads Budget (next_pair r) (λ c. Sound c taken) Complete) (same_value (last (record { members = members; pending = []; log = log })) t units left e) (done to members log S)
        go (p ∷ ps) S e =
            let b = bound (pair_formed r p (record { members = members; pending = ps; log = log })) (λ c. ready (again c)) units left t e in
            subst (Leads Budget (next_pair r) (λ c. Sound c taken) Complete) (same_value (again b.value) t b.between left b.second) (pair_taken members log p ps S units b.between b.value b.first)

  no_completion : Sound (record { members = []; pending = []; log = [] }) []
  no_completion = record {
    treated = [];
    run = begin;
    frame = record {
      vectors = tt;
      pairs = λ q i. elim i [ ];
      fresh = λ q i. elim i [ ];
      apart = tt;
      covers = λ a b u t us ts l i. elim i [ ];
      within = λ a b c. absurd (omega (arith, c.1));
    };
  }

  -- a completion that ends has a complete log of free steps
  pub completed_is : AreVectors r m inputs → (units left : ℕ) (c : Completion) → Ends (completed r inputs units) c left → (taken : List ℕ) × Complete taken c
  unfolding completed
  completed_is vectors units left c e =
      let b = bound (with_inputs r 1 inputs (record { members = []; pending = []; log = [] })) (repeated Budget (next_pair r)) units left c e in
      let t = taken_all [] inputs 1 (record { members = []; pending = []; log = [] }) [] units b.between b.value refl refl vectors
      ((λ j c. absurd (omega (arith, c.1))), (λ j some l. absurd (omega (arith, some, l)))) no_completion b.first in
      (t.0, turns_lead Budget (next_pair r) (λ c. Sound c t.0) (Complete t.0) (turn_leads t.0 t.1) b.between b.value b.between left c t.2 b.second)

  -- and its members are a Gröbner basis of the span of the inputs
  pub completed_basis : AreVectors r m inputs → (units left : ℕ) (c : Completion) → Ends (completed r inputs units) c left
      → IsGroebnerBasis r.prime r.vars m r.order (vectors_of r.prime r.vars m c.members) (vectors_of r.prime r.vars m inputs)
  completed_basis vectors units left c e = let x = completed_is vectors units left c e in basis_of_log r.prime r.vars m r.order x.1.run x.1.complete
