-- Entries that are replayed without a fault extend a log of free steps.
use Rattle.std.proofs.Common.{◌≡◌, ℕ, zero, suc, ◌<◌, ◌≤◌, ◌≢◌, Bool, true, false, ◌&&◌, ◌||◌, not, nat_eq, nat_lt, nat_le, List, [], ◌∷◌, ◌++◌, length, Contains, ◌⊎◌, inl, inr, Ok, refl, sym, ap, ap₂, ◌∙◌, subst, arith}
use Rattle.std.specs.List.{list_any}
use Rattle.std.proofs.lemmas.Bool.{and_parts, and_from, eqb-true, eq-eqb, leb-true, false≢true}
use Rattle.std.proofs.lemmas.Bool.Decides.{nat_tests}
use Rattle.std.proofs.lemmas.Map.Views.{Contains-from_any}
use Rattle.fm_tuple.specs.Tuple.{tuple_maximum, TupleDivides}
use Rattle.fm_mono.specs.Bounded.{is_bounded}
use Rattle.fm_words.specs.Steps.{◌>>=◌}
use Rattle.fm_words.proofs.FirstFaults.{no_fault, same_ok, first_read, steps_keep}
use Rattle.fm_poly.specs.declared.ring.Ring.{Ring}
use Rattle.fm_term.specs.declared.vterm.VTerm.{VTerm}
use Rattle.fm_term.specs.Falling.{AreMonic}
use Rattle.fm_groebner.specs.Logs.{Entry, Start, Input, Pair, Skip, IsNumber, first, next, IsKept, dropped, DividesLcm, IsTreated, FreeRun, begin, take_input as taken_input, take_pair as taken_pair, skip_pair as skipped_pair}
use Rattle.fm_groebner.proofs.Setting.{In, here, there}
use Rattle.fm_groebner.proofs.Numbers.{number_positive, in_of_contains}
use Rattle.fm_groebner.proofs.Consequences.{monic_of_log}
use Rattle.fm_vec.specs.Vectors.{IsVector}
use Rattle.fm_vec.specs.Multiples.{s_vector_of, s_vector_fits}
use Rattle.fm_complete.specs.Combinations.{AreVectors}
use Rattle.fm_complete.specs.Divisors.{tuple_divides}
use Rattle.fm_complete.specs.Trails.{member_at}
use Rattle.fm_complete.proofs.Heads.{tuple_divides_means}
use Rattle.fm_complete.proofs.HeadReductions.{in_vectors}
use Rattle.fm_complete.proofs.CompleteLogs.{s_vector, monic_kept}
use Rattle.fm_groebner.proofs.Numbers.{in_of_number}
use Rattle.fm_parts.specs.Replays.{Reason, BadEntry, Exponents, Reference, needs, is_number, are_numbers, reduce_by, Replay, nothing_replayed, same_pair, is_taken, is_treated, is_settled, in_one_component, divides_lcm, with_rest, is_open_pair, may_skip, with_pair, take_input, take_pair, skip_pair, start_entry, replay_entry, replayed}
use Rattle.fm_parts.proofs.Results.{needed}
use Rattle.fm_parts.proofs.Reducing.{falling_vectors, reduced_by}

-- ---- tests of lists
pub less : (a b : ℕ) → nat_lt a b ≡ true → a < b
less a b e = grind (arith, nat_tests)

number_within : (xs : List (List VTerm)) (k : ℕ) → 0 < k → k ≤ length xs → IsNumber xs k (member_at xs k)
number_within xs zero some few = absurd (omega (arith, some))
number_within [] (suc k) some few = absurd (omega (arith, few))
number_within (x ∷ xs) (suc zero) some few = first
number_within (x ∷ xs) (suc (suc k)) some few = next (number_within xs (suc k) (omega arith) (omega (arith, few)))

pub is_number_of : (xs : List (List VTerm)) (k : ℕ) → is_number xs k ≡ true → IsNumber xs k (member_at xs k)
is_number_of xs k e = let h = and_parts (nat_lt 0 k) (nat_le k (length xs)) e in number_within xs k (less 0 k h.0) (leb-true k (length xs) h.1)

same_pairs : (p q : ℕ × ℕ) → same_pair p q ≡ true → p ≡ q
same_pairs p q e = let h = and_parts (nat_eq p.0 q.0) (nat_eq p.1 q.1) e in ap₂ (λ a b. (a, b)) (eqb-true p.0 q.0 h.0) (eqb-true p.1 q.1 h.1)

pub taken_in : (k : ℕ) (ks : List ℕ) → is_taken ks k ≡ true → Contains ks k
taken_in k ks e = Contains-from_any eqb-true k ks e

pub treated_in : (a b : ℕ) (ps : List (ℕ × ℕ)) → is_treated ps a b ≡ true → Contains ps (a, b)
treated_in a b ps e = Contains-from_any same_pairs (a, b) ps e

-- what is in a list passes a test that it passes itself
any_in : {A : Type 0} (test : A → Bool) {xs : List A} {x : A} → In xs x → test x ≡ true → list_any test xs ≡ true
any_in test (here {x = x} {xs = xs}) e = ap (λ b. b || list_any test xs) e
any_in test (there {x = y} {y = x} {xs = xs} i) e = go (test y) (any_in test i e)
  where
    go : (b : Bool) → list_any test xs ≡ true → (b || list_any test xs) ≡ true
    go true h = refl
    go false h = h

refused : (b : Bool) → not b ≡ true → b ≡ true → ⊥
refused true e h = false≢true e
refused false e h = false≢true h

not_taken : (k : ℕ) (ks : List ℕ) → not (is_taken ks k) ≡ true → ¬ (Contains ks k)
not_taken k ks e c = refused (is_taken ks k) e (any_in (nat_eq k) (in_of_contains ks k c) (eq-eqb k k refl))

not_treated : (a b : ℕ) (ps : List (ℕ × ℕ)) → not (is_treated ps a b) ≡ true → ¬ (Contains ps (a, b))
not_treated a b ps e c = refused (is_treated ps a b) e
    (any_in (same_pair (a, b)) (in_of_contains ps (a, b) c) (and_from (nat_eq a a) (nat_eq b b) (eq-eqb a a refl) (eq-eqb b b refl)))

settled : (a b : ℕ) (ps : List (ℕ × ℕ)) → is_settled ps a b ≡ true → IsTreated ps a b
settled a b ps e = go (is_treated ps a b) (is_treated ps b a) refl refl e
  where
    go : (x y : Bool) → is_treated ps a b ≡ x → is_treated ps b a ≡ y → (x || y) ≡ true → IsTreated ps a b
    go true y f g h = inl (treated_in a b ps f)
    go false true f g h = inr (treated_in b a ps g)
    go false false f g h = absurd (false≢true h)

differ : (k a : ℕ) → not (nat_eq k a) ≡ true → k ≢ a
differ k a e h = refused (nat_eq k a) e (eq-eqb k a h)

-- ---- rests
-- what becomes of a rest, and that nothing else changes
record Rest (r : Ring) (keep : Bool) (w : List VTerm) (s t : Replay) : Type 0 where
  kept : IsKept r.prime s.members keep w t.members
  taken : t.taken ≡ s.taken
  treated : t.treated ≡ s.treated

rest_kept : (r : Ring) (m : ℕ) (inputs : List (List VTerm)) (keep : Bool) (w : List VTerm) (s t : Replay) → IsVector r m w → with_rest r keep w s ≡ Ok t → Rest r keep w s t
rest_kept r m inputs true [] s t v e = absurd (no_fault BadEntry t e)
rest_kept r m inputs false (x ∷ xs) s t v e = absurd (no_fault BadEntry t e)
rest_kept r m inputs false [] s t v e = subst (Rest r false [] s) (same_ok e) (record { kept = dropped; taken = refl; treated = refl })
rest_kept r m inputs true (x ∷ xs) s t v e = subst (Rest r true (x ∷ xs) s) (same_ok e) (record { kept = monic_kept r m inputs s.members x xs v; taken = refl; treated = refl })

module _ (r : Ring) (m : ℕ) (inputs : List (List VTerm)) (vectors : AreVectors r m inputs) where
  abbrev Run : List Entry → List (List VTerm) → List ℕ → List (ℕ × ℕ) → Type 0
  Run log members taken treated = FreeRun r.prime r.vars m r.order is_bounded inputs log members taken treated

  -- what was replayed is a log of free steps
  abbrev pub IsReplayed : Replay → Type 0
  IsReplayed s = (log : List Entry) × Run log s.members s.taken s.treated

  pub nothing_is_replayed : IsReplayed nothing_replayed
  unfolding nothing_replayed
  nothing_is_replayed = ([], begin)

  module _ (s : Replay) (p : IsReplayed s) where
    pub monic : AreMonic r.prime r.vars m r.order s.members
    monic = monic_of_log r.prime r.vars m r.order p.1

    members_vectors : AreVectors r m s.members
    members_vectors = falling_vectors r m s.members (λ ts c. (monic ts c).0)

    -- a log whose inputs taken and pairs treated are these
    moved : {log : List Entry} {members : List (List VTerm)} {taken taken' : List ℕ} {treated treated' : List (ℕ × ℕ)} → taken ≡ taken' → treated ≡ treated'
        → Run log members taken treated → Run log members taken' treated'
    moved {log} {members} {taken} {taken'} {treated} {treated'} a b run = subst (λ x. Run log members taken' x) b (subst (λ x. Run log members x treated) a run)

    input_replayed : (t : Replay) (k : ℕ) (by : List ℕ) (keep : Bool) → take_input r inputs s k by keep ≡ Ok t → IsReplayed t
    input_replayed t k by keep e =
        let after = record s { taken = k ∷ s.taken } in
        let finish = λ (w : List VTerm). with_rest r keep w after in
        let a = needed (are_numbers s.members by) Reference (λ _. needs (is_number inputs k && not (is_taken s.taken k)) BadEntry >>= λ _. reduce_by r BadEntry s.members by (member_at inputs k) >>= finish) t e in
        let b = needed (is_number inputs k && not (is_taken s.taken k)) BadEntry (λ _. reduce_by r BadEntry s.members by (member_at inputs k) >>= finish) t a.1 in
        let c = and_parts (is_number inputs k) (not (is_taken s.taken k)) b.0 in
        let w = first_read (reduce_by r BadEntry s.members by (member_at inputs k)) finish t b.1 in
        let i = is_number_of inputs k c.0 in
        let v = in_vectors r m inputs vectors (member_at inputs k) (in_of_number i) in
        let d = reduced_by r m BadEntry s.members members_vectors by (member_at inputs k) w.0 v w.1 in
        let x = rest_kept r m inputs keep w.0 after t d.1 w.2 in
        (p.0 ++ record { start = Input k; by = by; keep = keep } ∷ [], moved (sym x.taken) (sym x.treated) (taken_input p.1 k by (not_taken k s.taken c.1) i v d.0 x.kept))

    -- what the test of a pair tells of its heads
    record Open (a b : ℕ) (f g : List VTerm) : Type 0 where
      before : a < b
      fresh : ¬ (Contains s.treated (a, b))
      t : VTerm
      u : VTerm
      ts : List VTerm
      us : List VTerm
      first_is : f ≡ t ∷ ts
      second_is : g ≡ u ∷ us
      same : t.component ≡ u.component

    heads : (a b : ℕ) (f g : List VTerm) → a < b → ¬ (Contains s.treated (a, b)) → in_one_component f g ≡ true → Open a b f g
    heads a b [] g l n e = absurd (false≢true e)
    heads a b (t ∷ ts) [] l n e = absurd (false≢true e)
    heads a b (t ∷ ts) (u ∷ us) l n e =
        record { before = l; fresh = n; t = t; u = u; ts = ts; us = us; first_is = refl; second_is = refl; same = eqb-true t.component u.component e }

    opened : (a b : ℕ) → is_open_pair s a b ≡ true → Open a b (member_at s.members a) (member_at s.members b)
    opened a b e =
        let x = and_parts (nat_lt a b) (in_one_component (member_at s.members a) (member_at s.members b) && not (is_treated s.treated a b)) e in
        let y = and_parts (in_one_component (member_at s.members a) (member_at s.members b)) (not (is_treated s.treated a b)) x.1 in
        heads a b (member_at s.members a) (member_at s.members b) (less a b x.0) (not_treated a b s.treated y.1) y.0

    module _ (a b : ℕ) where
      abbrev f : List VTerm
      f = member_at s.members a

      abbrev g : List VTerm
      g = member_at s.members b

      pair_replayed : (t : Replay) (by : List ℕ) (keep : Bool) → take_pair r inputs s a b by keep ≡ Ok t → IsReplayed t
      pair_replayed t by keep e =
          let after = with_pair s a b in
          let finish = λ (w : List VTerm). with_rest r keep w after in
          let x = needed (are_numbers s.members (a ∷ b ∷ by)) Reference
          (λ _. needs (is_open_pair s a b) BadEntry >>= λ _. needs (s_vector_fits f g) Exponents >>= λ _. reduce_by r BadEntry s.members by (s_vector_of r f g) >>= finish) t e in
          let y = needed (is_open_pair s a b) BadEntry (λ _. needs (s_vector_fits f g) Exponents >>= λ _. reduce_by r BadEntry s.members by (s_vector_of r f g) >>= finish) t x.1 in
          let z = needed (s_vector_fits f g) Exponents (λ _. reduce_by r BadEntry s.members by (s_vector_of r f g) >>= finish) t y.1 in
          let w = first_read (reduce_by r BadEntry s.members by (s_vector_of r f g)) finish t z.1 in
          let n = and_parts (is_number s.members a) (is_number s.members b && are_numbers s.members by) x.0 in
          let n' = and_parts (is_number s.members b) (are_numbers s.members by) n.1 in
          let o = opened a b y.0 in
          let i = subst (IsNumber s.members a) o.first_is (is_number_of s.members a n.0) in
          let j = subst (IsNumber s.members b) o.second_is (is_number_of s.members b n'.0) in
          let fit = ap₂ s_vector_fits (sym o.first_is) (sym o.second_is) ∙ z.0 in
          let is = s_vector r m [] [] s.members members_vectors monic a b o.t o.u o.ts o.us i j o.same fit in
          let red = ap (λ v. reduce_by r BadEntry s.members by v) (ap₂ (s_vector_of r) (sym o.first_is) (sym o.second_is)) ∙ w.1 in
          let d = reduced_by r m BadEntry s.members members_vectors by (s_vector_of r (o.t ∷ o.ts) (o.u ∷ o.us)) w.0 is.falls red in
          let k = rest_kept r m inputs keep w.0 after t d.1 w.2 in
          (p.0 ++ record { start = Pair a b; by = by; keep = keep } ∷ [], moved (sym k.taken) (sym k.treated) (taken_pair p.1 a b by o.before o.fresh i j is d.0 k.kept))

      divides : (h f g : List VTerm) (t u : VTerm) (ts us : List VTerm) → f ≡ t ∷ ts → g ≡ u ∷ us → t.component ≡ u.component → divides_lcm h f g ≡ true → (x : VTerm) × (xs : List VTerm) × (h ≡ x ∷ xs) × DividesLcm x t u
      divides [] f g t u ts us d e c h = absurd (false≢true h)
      divides (x ∷ xs) [] g t u ts us d e c h = absurd (false≢true h)
      divides (x ∷ xs) (t' ∷ ts') [] t u ts us d e c h = absurd (false≢true h)
      divides (x ∷ xs) (t' ∷ ts') (u' ∷ us') t u ts us d e c h =
          let test = and_parts (nat_eq x.component t'.component) (tuple_divides x.mono (tuple_maximum t'.mono u'.mono)) h in
          let one : t' ≡ t = cc in
          let two : u' ≡ u = cc in (
            x,
            xs,
            refl,
            (
              c,
              eqb-true x.component t'.component test.0 ∙ ap (λ (y : VTerm). y.component) one,
              subst (λ z. TupleDivides x.mono z) (ap₂ (λ (y z : VTerm). tuple_maximum y.mono z.mono) one two)
                  (tuple_divides_means x.mono (tuple_maximum t'.mono u'.mono) test.1),
            ),
          )

      skip_replayed : (t : Replay) (k : ℕ) → skip_pair r inputs s a b k ≡ Ok t → IsReplayed t
      skip_replayed t k e =
          let h = member_at s.members k in
          let x = needed (are_numbers s.members (a ∷ b ∷ k ∷ [])) Reference (λ _. needs (is_open_pair s a b && may_skip s a b k) BadEntry >>= λ _. Ok (with_pair s a b)) t e in
          let y = needed (is_open_pair s a b && may_skip s a b k) BadEntry (λ _. Ok (with_pair s a b)) t x.1 in
          let n = and_parts (is_number s.members a) (is_number s.members b && (is_number s.members k && true)) x.0 in
          let n' = and_parts (is_number s.members b) (is_number s.members k && true) n.1 in
          let n'' = and_parts (is_number s.members k) true n'.1 in
          let q = and_parts (is_open_pair s a b) (may_skip s a b k) y.0 in
          let o = opened a b q.0 in
          let u = and_parts (not (nat_eq k a)) (not (nat_eq k b) && (divides_lcm h f g && (is_settled s.treated a k && is_settled s.treated k b))) q.1 in
          let u' = and_parts (not (nat_eq k b)) (divides_lcm h f g && (is_settled s.treated a k && is_settled s.treated k b)) u.1 in
          let u'' = and_parts (divides_lcm h f g) (is_settled s.treated a k && is_settled s.treated k b) u'.1 in
          let w = and_parts (is_settled s.treated a k) (is_settled s.treated k b) u''.1 in
          let d = divides h f g o.t o.u o.ts o.us o.first_is o.second_is o.same u''.0 in
          let i = subst (IsNumber s.members a) o.first_is (is_number_of s.members a n.0) in
          let j = subst (IsNumber s.members b) o.second_is (is_number_of s.members b n'.0) in
          let l = subst (IsNumber s.members k) d.2 (is_number_of s.members k n''.0) in
          subst IsReplayed (same_ok y.1) (
            p.0 ++ record { start = Skip a b k; by = []; keep = false } ∷ [],
            skipped_pair p.1 a b k o.before (differ k a u.0) (differ k b u'.0) o.fresh i j l d.3 (settled a k s.treated w.0) (settled k b s.treated w.1),
          )

    pub entry_replayed : (e : Entry) (t : Replay) → replay_entry r inputs s e ≡ Ok t → IsReplayed t
    unfolding replay_entry
    entry_replayed e t q = by_start e.start q
      where
        by_start : (x : Start) → start_entry r inputs s x e.by e.keep ≡ Ok t → IsReplayed t
        by_start (Input k) h = input_replayed t k e.by e.keep h
        by_start (Pair a b) h = pair_replayed a b t e.by e.keep h
        by_start (Skip a b k) h = skip_replayed a b t k h

  pub log_replayed : (entries : List Entry) (t : Replay) → replayed r inputs entries ≡ Ok t → IsReplayed t
  log_replayed entries t e = steps_keep (replay_entry r inputs) IsReplayed (λ s x u p h. entry_replayed s p x u h) nothing_replayed entries t nothing_is_replayed e
