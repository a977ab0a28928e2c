-- Pending pairs: what is put in, that no two of them are of the same members, and which the chain criterion lets skip.
use Rattle.std.proofs.Common.{ℕ, zero, suc, ◌+◌, ◌<◌, ◌≢◌, ◌==◌, ◌&&◌, ◌||◌, ◌≡◌, ◌⊎◌, inl, inr, if◌then◌else◌, not, Bool, true, false, List, [], ◌∷◌, Option, Some, refl, sym, ap, ap₂, ◌∙◌, subst, arith, eq-eqb}
use Rattle.std.proofs.lemmas.Bool.{and_parts, and_from, eqb-true, false≢true}
use Rattle.std.specs.declared.cmp.Ordering.{Ordering}
use Rattle.std.specs.declared.cmp.Ordering.TheVariants.{Less, Equal, Greater}
use Rattle.fm_tuple.specs.Tuple.{TupleDivides}
use Rattle.fm_mono.specs.declared.order.Order.{Order}
use Rattle.fm_groebner.specs.Logs.{IsNumber, first, next}
use Rattle.fm_groebner.proofs.Setting.{In, here, there}
use Rattle.fm_term.specs.declared.vterm.VTerm.{VTerm}
use Rattle.fm_complete.specs.Divisors.{tuple_divides}
use Rattle.fm_complete.proofs.Heads.{tuple_divides_means}
use Rattle.fm_complete.specs.declared.critical_pair.CriticalPair.{CriticalPair}
use Rattle.fm_complete.specs.Completions.{pair_cmp, insert_at, inserted, pair_of, with_pairs, is_pending, divides_pair, lets_skip, skipper}

-- not the pair of the same members
abbrev pub Differ : CriticalPair → CriticalPair → Type 0
Differ p q = p.earlier ≡ q.earlier → p.later ≡ q.later → ⊥

abbrev pub AreApart : List CriticalPair → Type 0
AreApart [] = Unit {0}
AreApart (p ∷ ps) = ((q : CriticalPair) → In ps q → Differ p q) × AreApart ps

-- a pending pair of the members with these numbers
abbrev pub IsPending : List CriticalPair → ℕ → ℕ → Type 0
IsPending pending a b = (q : CriticalPair) × In pending q × (q.earlier ≡ a) × (q.later ≡ b)

pub in_cases : {A : Type 0} (x : A) (xs : List A) (y : A) → In (x ∷ xs) y → (y ≡ x) ⊎ In xs y
in_cases x xs y here = inl refl
in_cases x xs y (there i) = inr i

first_number : {A : Type 0} (x : A) (xs : List A) (y : A) → IsNumber (x ∷ xs) 1 y → y ≡ x
first_number x xs y first = refl
first_number x xs y (next i) = elim i [ ]

next_number : {A : Type 0} (x : A) (xs : List A) (k : ℕ) (y : A) → IsNumber (x ∷ xs) (suc (suc k)) y → IsNumber xs (suc k) y
next_number x xs k y (next i) = i

head_same : {A : Type 0} (x y : A) (xs ys : List A) → x ∷ xs ≡ y ∷ ys → x ≡ y
head_same x y xs ys e = cc

module _ (o : Order) (p : CriticalPair) where
  inserted_own : (qs : List CriticalPair) → In (inserted o p qs) p
  inserted_own [] = here
  inserted_own (q ∷ qs) = go (pair_cmp o p q) (inserted_own qs)
    where
      go : (w : Ordering) → In (inserted o p qs) p → In (insert_at p q qs (inserted o p qs) w) p
      go Less i = here
      go Equal i = here
      go Greater i = there i

  inserted_old : (qs : List CriticalPair) (x : CriticalPair) → In qs x → In (inserted o p qs) x
  inserted_old [] x i = elim i [ ]
  inserted_old (q ∷ qs) x i = go (pair_cmp o p q) i (inserted_old qs x)
    where
      go : (w : Ordering) → In (q ∷ qs) x → (In qs x → In (inserted o p qs) x) → In (insert_at p q qs (inserted o p qs) w) x
      go Less i later = there i
      go Equal i later = there i
      go Greater i later = elim (in_cases q qs x i) [ inl e ↦ subst (In (q ∷ inserted o p qs)) (sym e) here | inr j ↦ there (later j) ]

  inserted_only : (qs : List CriticalPair) (x : CriticalPair) → In (inserted o p qs) x → (x ≡ p) ⊎ In qs x
  inserted_only [] x i = in_cases p [] x i
  inserted_only (q ∷ qs) x i = go (pair_cmp o p q) i (inserted_only qs x)
    where
      go : (w : Ordering) → In (insert_at p q qs (inserted o p qs) w) x → (In (inserted o p qs) x → (x ≡ p) ⊎ In qs x) → (x ≡ p) ⊎ In (q ∷ qs) x
      go Less i later = in_cases p (q ∷ qs) x i
      go Equal i later = in_cases p (q ∷ qs) x i
      go Greater i later = elim (in_cases q (inserted o p qs) x i) [
        | inl e ↦ inr (subst (In (q ∷ qs)) (sym e) here)
        | inr k ↦ elim (later k) [ inl e ↦ inl e | inr j ↦ inr (there j) ]
      ]

  inserted_apart : (qs : List CriticalPair) → AreApart qs → ((q : CriticalPair) → In qs q → Differ p q) → AreApart (inserted o p qs)
  inserted_apart [] a d = ((λ q i. elim i [ ]), tt)
  inserted_apart (q ∷ qs) a d = go (pair_cmp o p q) (inserted_apart qs a.1 (λ x i. d x (there i)))
    where
      go : (w : Ordering) → AreApart (inserted o p qs) → AreApart (insert_at p q qs (inserted o p qs) w)
      go Less later = (d, a)
      go Equal later = (d, a)
      go Greater later = (
        (λ x i. elim (inserted_only qs x i) [
          | inl e ↦ subst (Differ q) (sym e) (λ h k. d q here (sym h) (sym k))
          | inr j ↦ a.0 x j
        ]),
        later,
      )

-- ---- the pairs of a new member
module _ (o : Order) (later : ℕ) (t : VTerm) where
  -- a new pair, with a member of the list, numbered from the given number
  pub record IsNew (earlier : ℕ) (gs : List (List VTerm)) (q : CriticalPair) : Type 0 where
    pub place : ℕ
    pub u : VTerm
    pub us : List VTerm
    pub at : IsNumber gs (suc place) (u ∷ us)
    pub same : u.component ≡ t.component
    pub is : q ≡ pair_of later t (earlier + place) u

  pub record Pairs (earlier : ℕ) (gs : List (List VTerm)) (pending all : List CriticalPair) : Type 0 where
    pub old : (q : CriticalPair) → In pending q → In all q
    pub has : (k : ℕ) (u : VTerm) (us : List VTerm) → IsNumber gs (suc k) (u ∷ us) → u.component ≡ t.component → In all (pair_of later t (earlier + k) u)
    pub only : (q : CriticalPair) → In all q → In pending q ⊎ IsNew earlier gs q
    pub apart : AreApart all

  one_more : (earlier k : ℕ) → suc earlier + k ≡ earlier + suc k
  one_more earlier k = omega arith

  no_more : (earlier : ℕ) → earlier ≡ earlier + 0
  no_more earlier = omega arith

  new_later : (earlier : ℕ) (g : List VTerm) (gs : List (List VTerm)) (q : CriticalPair) → IsNew (suc earlier) gs q → IsNew earlier (g ∷ gs) q
  new_later earlier g gs q w = record {
    place = suc w.place;
    u = w.u;
    us = w.us;
    at = next w.at;
    same = w.same;
    is = w.is ∙ ap (λ k. pair_of later t k w.u) (one_more earlier w.place);
  }

  -- a member whose head is in another component, or that is zero, makes no pair
  passed : (earlier : ℕ) (g : List VTerm) (gs : List (List VTerm)) (pending all : List CriticalPair) → ((u : VTerm) (us : List VTerm) → g ≡ u ∷ us → u.component ≡ t.component → ⊥)
      → Pairs (suc earlier) gs pending all → Pairs earlier (g ∷ gs) pending all
  passed earlier g gs pending all other w = record {
    old = w.old;
    has = λ k u us i e. has k u us i e;
    only = λ q i. elim (w.only q i) [ inl j ↦ inl j | inr n ↦ inr (new_later earlier g gs q n) ];
    apart = w.apart;
  }
    where
      has : (k : ℕ) (u : VTerm) (us : List VTerm) → IsNumber (g ∷ gs) (suc k) (u ∷ us) → u.component ≡ t.component → In all (pair_of later t (earlier + k) u)
      has zero u us i e = absurd (other u us (sym (first_number g gs (u ∷ us) i)) e)
      has (suc k) u us i e = subst (λ j. In all (pair_of later t j u)) (one_more earlier k) (w.has k u us (next_number g gs k (u ∷ us) i) e)

  made : (earlier : ℕ) (u : VTerm) (us : List VTerm) (gs : List (List VTerm)) (pending all : List CriticalPair) → u.component ≡ t.component → ((q : CriticalPair) → In pending q → q.later < later)
      → Pairs (suc earlier) gs pending all → Pairs earlier ((u ∷ us) ∷ gs) pending (inserted o (pair_of later t earlier u) all)
  made earlier u us gs pending all same below w = record {
    old = λ q i. inserted_old o p all q (w.old q i);
    has = has;
    only = λ q i. elim (inserted_only o p all q i) [
      | inl e ↦ inr (record { place = 0; u = u; us = us; at = first; same = same; is = e ∙ ap (λ k. pair_of later t k u) (no_more earlier) })
      | inr j ↦ elim (w.only q j) [ inl k ↦ inl k | inr n ↦ inr (new_later earlier (u ∷ us) gs q n) ]
    ];
    apart = inserted_apart o p all w.apart (λ q i. elim (w.only q i) [
      | inl j ↦ (λ a b. let h = below q j in absurd (omega (arith, h, b)))
      | inr n ↦ (λ a b. let k : q.earlier ≡ suc earlier + n.place = ap (λ (x : CriticalPair). x.earlier) n.is in absurd (omega (arith, a, k)))
    ]);
  }
    where
      p : CriticalPair
      p = pair_of later t earlier u

      has : (k : ℕ) (v : VTerm) (vs : List VTerm) → IsNumber ((u ∷ us) ∷ gs) (suc k) (v ∷ vs) → v.component ≡ t.component → In (inserted o (pair_of later t earlier u) all) (pair_of later t (earlier + k) v)
      has zero v vs i e =
          let same : v ≡ u = head_same v u vs us (first_number (u ∷ us) gs (v ∷ vs) i) in
          subst (In (inserted o (pair_of later t earlier u) all)) (ap₂ (λ k x. pair_of later t k x) (no_more earlier) (sym same)) (inserted_own o (pair_of later t earlier u) all)
      has (suc k) v vs i e = inserted_old o (pair_of later t earlier u) all (pair_of later t (earlier + suc k) v)
          (subst (λ j. In all (pair_of later t j v)) (one_more earlier k) (w.has k v vs (next_number (u ∷ us) gs k (v ∷ vs) i) e))

  pub pairs_made : (earlier : ℕ) (gs : List (List VTerm)) (pending : List CriticalPair) → AreApart pending → ((q : CriticalPair) → In pending q → q.later < later)
      → Pairs earlier gs pending (with_pairs o later t earlier gs pending)
  pairs_made earlier [] pending a below = record { old = λ q i. i; has = λ k u us i e. elim i [ ]; only = λ q i. inl i; apart = a }
  pairs_made earlier ([] ∷ gs) pending a below = passed earlier [] gs pending (with_pairs o later t (suc earlier) gs pending) (λ u us e s. cc) (pairs_made (suc earlier) gs pending a below)
  pairs_made earlier ((u ∷ us) ∷ gs) pending a below = go (u.component == t.component) refl (pairs_made (suc earlier) gs pending a below)
    where
      go : (b : Bool) → (u.component == t.component) ≡ b → Pairs (suc earlier) gs pending (with_pairs o later t (suc earlier) gs pending)
          → Pairs earlier ((u ∷ us) ∷ gs) pending (if b then inserted o (pair_of later t earlier u) (with_pairs o later t (suc earlier) gs pending) else with_pairs o later t (suc earlier) gs pending)
      go true e w = made earlier u us gs pending (with_pairs o later t (suc earlier) gs pending) (eqb-true u.component t.component e) below w
      go false e w = passed earlier (u ∷ us) gs pending (with_pairs o later t (suc earlier) gs pending)
          (λ v vs s c. let same : u ≡ v = cc in false≢true (sym e ∙ eq-eqb u.component t.component (ap (λ (x : VTerm). x.component) same ∙ c))) w

-- ---- the chain criterion
or_first : (x y : Bool) → x ≡ true → (x || y) ≡ true
or_first true y e = refl
or_first false y e = cc

or_second : (x y : Bool) → y ≡ true → (x || y) ≡ true
or_second true y e = refl
or_second false y e = e

not_true : (x : Bool) → not x ≡ true → x ≡ false
not_true true e = cc
not_true false e = refl

apart_numbers : (i j : ℕ) → not (i == j) ≡ true → i ≢ j
apart_numbers i j e h = false≢true (sym (not_true (i == j) e) ∙ eq-eqb i j h)

both : (i j k l : ℕ) → i ≡ k → j ≡ l → (i == k && j == l) ≡ true
both i j k l a b = and_from (i == k) (j == l) (eq-eqb i k a) (eq-eqb j l b)

-- a pair that is pending is found so, in either order
pub pending_found : (pending : List CriticalPair) (q : CriticalPair) (i j : ℕ) → In pending q → ((q.earlier ≡ i) × (q.later ≡ j)) ⊎ ((q.earlier ≡ j) × (q.later ≡ i)) → is_pending pending i j ≡ true
pending_found [] q i j w e = elim w [ ]
pending_found (p ∷ ps) q i j here e = or_first _ (is_pending ps i j) (elim e [
  | inl h ↦ or_first (p.earlier == i && p.later == j) (p.earlier == j && p.later == i) (both p.earlier p.later i j h.0 h.1)
  | inr h ↦ or_second (p.earlier == i && p.later == j) (p.earlier == j && p.later == i) (both p.earlier p.later j i h.0 h.1)
])
pending_found (p ∷ ps) q i j (there w) e = or_second _ (is_pending ps i j) (pending_found ps q i j w e)

-- the member k lets the pair p be skipped
pub record LetsSkip (pending : List CriticalPair) (p : CriticalPair) (k : ℕ) (g : List VTerm) : Type 0 where
  pub f : VTerm
  pub fs : List VTerm
  pub is : g ≡ f ∷ fs
  pub not_earlier : k ≢ p.earlier
  pub not_later : k ≢ p.later
  pub component : f.component ≡ p.component
  pub divides : TupleDivides f.mono p.lcm
  pub first : is_pending pending p.earlier k ≡ false
  pub second : is_pending pending k p.later ≡ false

skip_by : (pending : List CriticalPair) (p : CriticalPair) (k : ℕ) (g : List VTerm) → k ≢ p.earlier → k ≢ p.later → divides_pair g p ≡ true
    → (not (is_pending pending p.earlier k) && not (is_pending pending k p.later)) ≡ true → LetsSkip pending p k g
skip_by pending p k [] n m d e = absurd (false≢true d)
skip_by pending p k (f ∷ fs) n m d e =
    let c = and_parts (f.component == p.component) (tuple_divides f.mono p.lcm) d in
    let h = and_parts (not (is_pending pending p.earlier k)) (not (is_pending pending k p.later)) e in
    record {
      f = f;
      fs = fs;
      is = refl;
      not_earlier = n;
      not_later = m;
      component = eqb-true f.component p.component c.0;
      divides = tuple_divides_means f.mono p.lcm c.1;
      first = not_true (is_pending pending p.earlier k) h.0;
      second = not_true (is_pending pending k p.later) h.1;
    }

pub lets_skip_means : (pending : List CriticalPair) (p : CriticalPair) (k : ℕ) (g : List VTerm) → lets_skip pending p k g ≡ true → LetsSkip pending p k g
lets_skip_means pending p k g e =
    let free = not (is_pending pending p.earlier k) && not (is_pending pending k p.later) in
    let a = and_parts (not (k == p.earlier)) (not (k == p.later) && (divides_pair g p && free)) e in
    let b = and_parts (not (k == p.later)) (divides_pair g p && free) a.1 in
    let c = and_parts (divides_pair g p) free b.1 in
    skip_by pending p k g (apart_numbers k p.earlier a.0) (apart_numbers k p.later b.0) c.0 c.1

pub skipper_found : (pending : List CriticalPair) (p : CriticalPair) (j : ℕ) (gs : List (List VTerm)) (k : ℕ) → skipper pending p j gs ≡ Some k
    → (i : ℕ) × (g : List VTerm) × IsNumber gs (suc i) g × (k ≡ j + i) × LetsSkip pending p k g
skipper_found pending p j [] k e = cc
skipper_found pending p j (g ∷ gs) k e = go (lets_skip pending p j g) refl e (skipper_found pending p (suc j) gs k)
  where
    plain : (j : ℕ) → j ≡ j + 0
    plain j = omega arith

    moved : (j i : ℕ) → suc j + i ≡ j + suc i
    moved j i = omega arith

    go : (b : Bool) → lets_skip pending p j g ≡ b → ◌≡◌ {A = Option ℕ} (if b then Some j else skipper pending p (suc j) gs) (Some k)
        → (skipper pending p (suc j) gs ≡ Some k → (i : ℕ) × (h : List VTerm) × IsNumber gs (suc i) h × (k ≡ suc j + i) × LetsSkip pending p k h)
        → (i : ℕ) × (h : List VTerm) × IsNumber (g ∷ gs) (suc i) h × (k ≡ j + i) × LetsSkip pending p k h
    go true e is later = let same : j ≡ k = cc in (0, g, first, sym same ∙ plain j, subst (λ x. LetsSkip pending p x g) same (lets_skip_means pending p j g e))
    go false e is later = let x = later is in (suc x.0, x.1, next x.2, x.3 ∙ moved j x.0, x.4)
