-- The heads of members by their components: what a place of the index holds, one member more, and the step by the first head that divides.
use Rattle.std.proofs.Common.{ℕ, zero, suc, ◌+◌, ◌<◌, ◌≤◌, ◌==◌, ◌&&◌, ◌≡◌, ◌⊎◌, not, if◌then◌else◌, Bool, true, false, List, [], ◌∷◌, ◌++◌, length, get_or, set, take, append_assoc, ◌≢◌, Option, Some, None, refl, sym, ap, ap₂, ◌∙◌, subst, arith, eq-eqb, inl, inr}
use Rattle.std.proofs.lemmas.Bool.{eqb-true}
use Rattle.fm_poly.specs.declared.ring.Ring.{Ring}
use Rattle.fm_poly.specs.Polys.{PolyValue}
use Rattle.fm_term.specs.declared.vterm.VTerm.{VTerm}
use Rattle.fm_term.specs.Falling.{IsTerm, head_of}
use Rattle.fm_vec.specs.Vectors.{IsVector, VectorValue}
use Rattle.fm_complete.specs.Divisions.{AreMembers, terms_of}
use Rattle.fm_complete.specs.Spread.{IsFront, tail_column, tail_columns}
use Rattle.fm_complete.specs.declared.head_index.Head.{Head}
use Rattle.fm_complete.specs.declared.critical_pair.CriticalPair.{CriticalPair}
use Rattle.fm_complete.specs.declared.step.Step.{Step}
use Rattle.fm_complete.specs.Completions.{is_pending, lets_skip, skipper}
use Rattle.fm_complete.specs.Combinations.{AreVectors}
use Rattle.fm_complete.specs.Divisors.{tuple_divides, term_divides, step_for, first_step}
use Rattle.fm_complete.specs.Indexed.{head_in, heads_in, heads_from, first_head, first_skipper, EachHead, IsIndexOf}
use Rattle.fm_complete.specs.Trails.{member_at}
use Rattle.fm_complete.proofs.Heads.{has_tail, found}

-- ---- places
pub heads_length : (count k : ℕ) (ms : List (List VTerm)) → length (heads_from count k ms) ≡ count
heads_length zero k ms = refl
heads_length (suc count) k ms = ap suc (heads_length count (suc k) ms)

pub heads_at : (count k j : ℕ) (ms : List (List VTerm)) (d : List Head) → j < count → get_or (heads_from count k ms) j d ≡ heads_in (k + j) 1 ms
heads_at zero k j ms d l = absurd (omega arith)
heads_at (suc count) k zero ms d l = ap (λ n. heads_in n 1 ms) (let h : k ≡ k + 0 = omega arith in h)
heads_at (suc count) k (suc j) ms d l = heads_at count (suc k) j ms d (omega arith) ∙ ap (λ n. heads_in n 1 ms) (let h : suc k + j ≡ k + suc j = omega arith in h)

-- ---- one member more
in_more : (k n : ℕ) (ms : List (List VTerm)) (g : List VTerm) → heads_in k n (ms ++ g ∷ []) ≡ heads_in k n ms ++ head_in k (n + length ms) g []
in_more k n [] g = ap (λ i. head_in k i g []) (let h : n ≡ n + 0 = omega arith in h)
in_more k n ([] ∷ ms) g = in_more k (suc n) ms g ∙ ap (λ i. heads_in k (suc n) ms ++ head_in k i g []) (let h : suc n + length ms ≡ n + suc (length ms) = omega arith in h)
in_more k n ((b ∷ bs) ∷ ms) g = go (b.component == k) (in_more k (suc n) ms g ∙ ap (λ i. heads_in k (suc n) ms ++ head_in k i g []) (let h : suc n + length ms ≡ n + suc (length ms) = omega arith in h))
  where
    go : (x : Bool) → heads_in k (suc n) (ms ++ g ∷ []) ≡ heads_in k (suc n) ms ++ head_in k (n + suc (length ms)) g []
        → ◌≡◌ {A = List Head} (if x then record { number = n; term = b } ∷ heads_in k (suc n) (ms ++ g ∷ []) else heads_in k (suc n) (ms ++ g ∷ []))
        ((if x then record { number = n; term = b } ∷ heads_in k (suc n) ms else heads_in k (suc n) ms) ++ head_in k (n + suc (length ms)) g [])
    go true later = ap (λ (hs : List Head). record { number = n; term = b } ∷ hs) later
    go false later = later

append_none : (hs : List Head) → hs ++ [] ≡ hs
append_none [] = refl
append_none (h ∷ hs) = ap (λ x. h ∷ x) (append_none hs)

module _ (b : VTerm) (bs : List VTerm) (number : ℕ) (ms : List (List VTerm)) (is : number ≡ suc (length ms)) where
  own_more : heads_in b.component 1 (ms ++ (b ∷ bs) ∷ []) ≡ heads_in b.component 1 ms ++ record { number = number; term = b } ∷ []
  own_more =
      in_more b.component 1 ms (b ∷ bs)
      ∙ ap (λ x. heads_in b.component 1 ms ++ (if x then record { number = 1 + length ms; term = b } ∷ [] else [])) (eq-eqb b.component b.component refl)
      ∙ ap (λ i. heads_in b.component 1 ms ++ record { number = i; term = b } ∷ []) (let h : 1 + length ms ≡ number = omega arith in h)

  other_more : (k : ℕ) → (b.component ≡ k → ⊥) → heads_in k 1 (ms ++ (b ∷ bs) ∷ []) ≡ heads_in k 1 ms
  other_more k other = in_more k 1 ms (b ∷ bs) ∙ go (b.component == k) refl
    where
      go : (x : Bool) → (b.component == k) ≡ x → heads_in k 1 ms ++ (if x then record { number = 1 + length ms; term = b } ∷ [] else []) ≡ heads_in k 1 ms
      go true e = absurd (other (eqb-true b.component k e))
      go false e = append_none (heads_in k 1 ms)

  others_more : (count k : ℕ) → b.component < k → heads_from count k (ms ++ (b ∷ bs) ∷ []) ≡ heads_from count k ms
  others_more zero k l = refl
  others_more (suc count) k l = ap₂ (λ (x : List Head) y. x ∷ y) (other_more k (λ e. omega (arith, e, l))) (others_more count (suc k) (omega (arith, l)))

  -- the row that changes stands at this place
  pub heads_more : (count k j : ℕ) → k + j ≡ b.component → j < count
      → set (heads_from count k ms) j (heads_in b.component 1 ms ++ record { number = number; term = b } ∷ []) ≡ heads_from count k (ms ++ (b ∷ bs) ∷ [])
  heads_more zero k j e l = absurd (omega arith)
  heads_more (suc count) k zero e l =
      let same : b.component ≡ k = omega arith in
      ap₂ (λ (x : List Head) y. x ∷ y) (sym own_more ∙ ap (λ i. heads_in i 1 (ms ++ (b ∷ bs) ∷ [])) same) (sym (others_more count (suc k) (omega (arith, same))))
  heads_more (suc count) k (suc j) e l =
      ap₂ (λ (x : List Head) y. x ∷ y) (sym (other_more k (λ same. omega (arith, same, e)))) (heads_more count (suc k) j (omega (arith, e)) (omega arith))

-- no head is in a component that there is not
pub none_out : (r : Ring) (n k i : ℕ) (ms : List (List VTerm)) → AreVectors r n ms → (k ≡ 0) ⊎ (n < k) → heads_in k i ms ≡ []
none_out r n k i [] w out = refl
none_out r n k i ([] ∷ ms) w out = none_out r n k (suc i) ms w.1 out
none_out r n k i ((b ∷ bs) ∷ ms) w out = go (b.component == k) refl (none_out r n k (suc i) ms w.1 out)
  where
    other : (b.component ≡ k) → (k ≡ 0) ⊎ (n < k) → ⊥
    other e o =
        let low = w.0.within.0 in
        let high = w.0.within.1 in
        elim o [ inl none ↦ omega (arith, e, none, low) | inr past ↦ omega (arith, e, past, high) ]

    go : (x : Bool) → (b.component == k) ≡ x → heads_in k (suc i) ms ≡ [] → (if x then record { number = i; term = b } ∷ heads_in k (suc i) ms else heads_in k (suc i) ms) ≡ []
    go true e later = absurd (other (eqb-true b.component k e) out)
    go false e later = later

-- ---- each head
-- a head with its number, of the members numbered from n
pub record IsHeadOf (r : Ring) (rows n count : ℕ) (h : Head) : Type 0 where
  pub low : n ≤ h.number
  pub high : h.number < n + count
  pub term : IsTerm r.prime r.vars h.term

each_weaker : (P Q : Head → Type 0) (hs : List Head) → ((h : Head) → P h → Q h) → EachHead P hs → EachHead Q hs
each_weaker P Q [] f w = tt
each_weaker P Q (h ∷ hs) f w = (f h w.0, each_weaker P Q hs f w.1)

pub heads_are : (r : Ring) (rows k n : ℕ) (ms : List (List VTerm)) → AreVectors r rows ms → EachHead (IsHeadOf r rows n (length ms)) (heads_in k n ms)
heads_are r rows k n [] w = tt
heads_are r rows k n (g ∷ ms) w = go g w.0 (each_weaker (IsHeadOf r rows (suc n) (length ms)) (IsHeadOf r rows n (suc (length ms))) (heads_in k (suc n) ms)
    (λ h i. let a = i.low in let b = i.high in record { low = omega (arith, a); high = omega (arith, b); term = i.term }) (heads_are r rows k (suc n) ms w.1))
  where
    go : (g : List VTerm) → IsVector r rows g → EachHead (IsHeadOf r rows n (suc (length ms))) (heads_in k (suc n) ms) → EachHead (IsHeadOf r rows n (suc (length ms))) (head_in k n g (heads_in k (suc n) ms))
    go [] v later = later
    go (b ∷ bs) v later = of (b.component == k)
      where
        of : (x : Bool) → EachHead (IsHeadOf r rows n (suc (length ms))) (if x then record { number = n; term = b } ∷ heads_in k (suc n) ms else heads_in k (suc n) ms)
        of true = (record { low = omega arith; high = omega arith; term = v.proper.0 }, later)
        of false = later

-- the first head that divides
pub first_is : (P : Head → Type 0) (hs : List Head) (t : VTerm) (h : Head) → EachHead P hs → first_head hs t ≡ Some h → P h × (term_divides h.term t ≡ true)
first_is P [] t h w e = cc
first_is P (x ∷ hs) t h w e = go (term_divides x.term t) refl e (first_is P hs t h w.1)
  where
    go : (d : Bool) → term_divides x.term t ≡ d → ◌≡◌ {A = Option Head} (if d then Some x else first_head hs t) (Some h)
        → (first_head hs t ≡ Some h → P h × (term_divides h.term t ≡ true)) → P h × (term_divides h.term t ≡ true)
    go true i f later = let same : x ≡ h = cc in (subst P same w.0, ap (λ (y : Head). term_divides y.term t) (sym same) ∙ i)
    go false i f later = later f

-- ---- the step by the first head that divides
module _ (r : Ring) (t : VTerm) where
  pub none_step : (n : ℕ) (ms : List (List VTerm)) → first_head (heads_in t.component n ms) t ≡ None → first_step r n ms t ≡ None
  none_step n [] e = refl
  none_step n ([] ∷ ms) e = none_step (suc n) ms e
  none_step n ((b ∷ bs) ∷ ms) e = go (b.component == t.component) refl e (none_step (suc n) ms)
    where
      of : (d : Bool) → ◌≡◌ {A = Option Head} (if d then Some (record { number = n; term = b }) else first_head (heads_in t.component (suc n) ms) t) None
          → (first_head (heads_in t.component (suc n) ms) t ≡ None → first_step r (suc n) ms t ≡ None)
          → ◌≡◌ {A = Option (Step × List VTerm)} (if d then Some (step_for r n b t, b ∷ bs) else first_step r (suc n) ms t) None
      of true f later = cc
      of false f later = later f

      go : (x : Bool) → (b.component == t.component) ≡ x
          → first_head (if x then record { number = n; term = b } ∷ heads_in t.component (suc n) ms else heads_in t.component (suc n) ms) t ≡ None
          → (first_head (heads_in t.component (suc n) ms) t ≡ None → first_step r (suc n) ms t ≡ None)
          → ◌≡◌ {A = Option (Step × List VTerm)} (if b.component == t.component && tuple_divides b.mono t.mono then Some (step_for r n b t, b ∷ bs) else first_step r (suc n) ms t) None
      go true i f later = of (term_divides b t) f later
      go false i f later = ap (λ x. if x && tuple_divides b.mono t.mono then Some (step_for r n b t, b ∷ bs) else first_step r (suc n) ms t) i ∙ later f

  pub some_step : (n : ℕ) (ms : List (List VTerm)) (h : Head) → first_head (heads_in t.component n ms) t ≡ Some h
      → (g : List VTerm) × (first_step r n ms t ≡ Some (step_for r h.number h.term t, g))
  some_step n [] h e = cc
  some_step n ([] ∷ ms) h e = some_step (suc n) ms h e
  some_step n ((b ∷ bs) ∷ ms) h e = go (b.component == t.component) refl e (some_step (suc n) ms h)
    where
      of : (d : Bool) → ◌≡◌ {A = Option Head} (if d then Some (record { number = n; term = b }) else first_head (heads_in t.component (suc n) ms) t) (Some h)
          → (first_head (heads_in t.component (suc n) ms) t ≡ Some h → (g : List VTerm) × (first_step r (suc n) ms t ≡ Some (step_for r h.number h.term t, g)))
          → (g : List VTerm) × ◌≡◌ {A = Option (Step × List VTerm)} (if d then Some (step_for r n b t, b ∷ bs) else first_step r (suc n) ms t) (Some (step_for r h.number h.term t, g))
      of true f later = let same : ◌≡◌ {A = Head} (record { number = n; term = b }) h = cc in (b ∷ bs, ap (λ (y : Head). Some (step_for r y.number y.term t, b ∷ bs)) same)
      of false f later = later f

      go : (x : Bool) → (b.component == t.component) ≡ x
          → first_head (if x then record { number = n; term = b } ∷ heads_in t.component (suc n) ms else heads_in t.component (suc n) ms) t ≡ Some h
          → (first_head (heads_in t.component (suc n) ms) t ≡ Some h → (g : List VTerm) × (first_step r (suc n) ms t ≡ Some (step_for r h.number h.term t, g)))
          → (g : List VTerm) × ◌≡◌ {A = Option (Step × List VTerm)} (if b.component == t.component && tuple_divides b.mono t.mono then Some (step_for r n b t, b ∷ bs) else first_step r (suc n) ms t)
          (Some (step_for r h.number h.term t, g))
      go true i f later = of (term_divides b t) f later
      go false i f later =
          let w = later f in
          (w.0, ap (λ x. if x && tuple_divides b.mono t.mono then Some (step_for r n b t, b ∷ bs) else first_step r (suc n) ms t) i ∙ w.1)

-- what is found
pub record IsPicked (r : Ring) (ms : List (List VTerm)) (t : VTerm) (h : Head) : Type 0 where
  pub low : 1 ≤ h.number
  pub high : h.number ≤ length ms
  pub term : IsTerm r.prime r.vars h.term
  pub divides : term_divides h.term t ≡ true
  pub step : first_step r 1 ms t ≡ Some (step_for r h.number h.term t, member_at ms h.number)

pub picked : (r : Ring) (rows : ℕ) (ms : List (List VTerm)) (t : VTerm) (h : Head) (row : List Head) → AreVectors r rows ms → row ≡ heads_in t.component 1 ms → first_head row t ≡ Some h → IsPicked r ms t h
picked r rows ms t h row vectors same e =
    let chosen : first_head (heads_in t.component 1 ms) t ≡ Some h = ap (λ hs. first_head hs t) (sym same) ∙ e in
    let w = first_is (IsHeadOf r rows 1 (length ms)) (heads_in t.component 1 ms) t h (heads_are r rows t.component 1 ms vectors) chosen in
    let s = some_step r t 1 ms h chosen in
    let a = w.0.high in
    record {
      low = w.0.low;
      high = omega (arith, a);
      term = w.0.term;
      divides = w.1;
      step = s.1 ∙ ap (λ (g : List VTerm). Some (step_for r h.number h.term t, g)) (sym (found r ms t (step_for r h.number h.term t) s.0 s.1).place);
    }

pub each_term : (r : Ring) (rows : ℕ) (ms : List (List VTerm)) (k : ℕ) (row : List Head) → AreVectors r rows ms → row ≡ heads_in k 1 ms → EachHead (λ (h : Head). IsTerm r.prime r.vars h.term) row
each_term r rows ms k row vectors same =
    subst (EachHead (λ (h : Head). IsTerm r.prime r.vars h.term)) (sym same)
    (each_weaker (IsHeadOf r rows 1 (length ms)) (λ (h : Head). IsTerm r.prime r.vars h.term) (heads_in k 1 ms) (λ h w. w.term) (heads_are r rows k 1 ms vectors))

-- ---- skips
module _ (pending : List CriticalPair) (p : CriticalPair) where
  never : (a b x y : Bool) → (not a && (not b && (false && (x && y)))) ≡ false
  never true b x y = refl
  never false true x y = refl
  never false false x y = refl

  pub skipper_is : (n : ℕ) (ms : List (List VTerm)) → skipper pending p n ms ≡ first_skipper pending p (heads_in p.component n ms)
  skipper_is n [] = refl
  skipper_is n ([] ∷ ms) =
      ap (λ x. if x then Some n else skipper pending p (suc n) ms) (never (n == p.earlier) (n == p.later) (not (is_pending pending p.earlier n)) (not (is_pending pending n p.later)))
      ∙ skipper_is (suc n) ms
  skipper_is n ((b ∷ bs) ∷ ms) = go (b.component == p.component) refl (skipper_is (suc n) ms)
    where
      go : (x : Bool) → (b.component == p.component) ≡ x → skipper pending p (suc n) ms ≡ first_skipper pending p (heads_in p.component (suc n) ms)
          → (if lets_skip pending p n (b ∷ bs) then Some n else skipper pending p (suc n) ms)
          ≡ first_skipper pending p (if x then record { number = n; term = b } ∷ heads_in p.component (suc n) ms else heads_in p.component (suc n) ms)
      go true e later = ap (λ o. if lets_skip pending p n (b ∷ []) then Some n else o) later
      go false e later =
          ap (λ x. if not (n == p.earlier) && (not (n == p.later) && ((x && tuple_divides b.mono p.lcm) && (not (is_pending pending p.earlier n) && not (is_pending pending n p.later)))) then Some n
          else skipper pending p (suc n) ms) e
          ∙ ap (λ x. if x then Some n else skipper pending p (suc n) ms) (never (n == p.earlier) (n == p.later) (not (is_pending pending p.earlier n)) (not (is_pending pending n p.later)))
          ∙ later

-- ---- the members one after the other
pub empty_more : (count k : ℕ) → heads_from count k [] ++ [] ∷ [] ≡ heads_from (count + 1) k []
empty_more count k = go count k ∙ ap (λ n. heads_from n k []) (let h : suc count ≡ count + 1 = omega arith in h)
  where
    go : (count k : ℕ) → heads_from count k [] ++ [] ∷ [] ≡ heads_from (suc count) k []
    go zero k = refl
    go (suc count) k = ap (λ (rows : List (List Head)). [] ∷ rows) (go count (suc k))

pub members_at : (r : Ring) (rows : ℕ) (vs : List VectorValue) (k : ℕ) (v : VectorValue) → AreMembers r rows vs → k < length vs → v ≡ get_or vs k v → (v.ring ≡ r) × (v.rows ≡ rows) × (v.terms ≢ [])
members_at r rows [] k v w l e = absurd (omega (arith, l))
members_at r rows (x ∷ vs) zero v w l e = subst (λ (y : VectorValue). (y.ring ≡ r) × (y.rows ≡ rows) × (y.terms ≢ [])) (sym e) (w.0, w.1, w.2)
members_at r rows (x ∷ vs) (suc k) v w l e = members_at r rows vs k v w.3 (omega (arith, l)) e

pub taken_more : (vs : List VectorValue) (k : ℕ) (v : VectorValue) → k < length vs → v ≡ get_or vs k v → terms_of (take k vs) ++ v.terms ∷ [] ≡ terms_of (take (k + 1) vs)
taken_more vs k v l e = go vs k l e ∙ ap (λ n. terms_of (take n vs)) (let h : suc k ≡ k + 1 = omega arith in h)
  where
    go : (vs : List VectorValue) (k : ℕ) → k < length vs → v ≡ get_or vs k v → terms_of (take k vs) ++ v.terms ∷ [] ≡ terms_of (take (suc k) vs)
    go [] k l e = absurd (omega (arith, l))
    go (x ∷ vs) zero l e = ap (λ (y : VectorValue). y.terms ∷ []) e
    go (x ∷ vs) (suc k) l e = ap (λ ts. x.terms ∷ ts) (go vs k (omega (arith, l)) e)

pub taken_count : (vs : List VectorValue) (k : ℕ) → k < length vs → k + 1 ≡ suc (length (terms_of (take k vs)))
taken_count vs k l = let h = go vs k l in omega (arith, h)
  where
    go : (vs : List VectorValue) (k : ℕ) → k < length vs → length (terms_of (take k vs)) ≡ k
    go [] k l = absurd (omega (arith, l))
    go (x ∷ vs) zero l = refl
    go (x ∷ vs) (suc k) l = ap suc (go vs k (omega (arith, l)))

pub all_taken : (vs : List VectorValue) (k : ℕ) → length vs ≤ k → terms_of (take k vs) ≡ terms_of vs
all_taken [] zero l = refl
all_taken [] (suc k) l = refl
all_taken (x ∷ vs) zero l = absurd (omega (arith, l))
all_taken (x ∷ vs) (suc k) l = ap (λ ts. x.terms ∷ ts) (all_taken vs k (omega (arith, l)))

-- ---- the tails of the first members
pub front_next : (r : Ring) (n : ℕ) (vs : List VectorValue) (xs : List (List PolyValue)) (v : VectorValue) → IsFront xs (tail_columns r n (terms_of vs)) → length xs < length vs → v ≡ get_or vs (length xs) v
    → IsFront (xs ++ tail_column r n v.terms ∷ []) (tail_columns r n (terms_of vs))
front_next r n [] xs v w l e = absurd (omega (arith, l))
front_next r n (x ∷ vs) [] v w l e = (tail_columns r n (terms_of vs), ap (λ (y : VectorValue). tail_column r n y.terms ∷ tail_columns r n (terms_of vs)) (sym e))
front_next r n (x ∷ vs) (c ∷ xs) v w l e =
    let first : tail_column r n x.terms ≡ c = cc (w.1) in
    let rest : tail_columns r n (terms_of vs) ≡ xs ++ w.0 = cc (w.1) in
    let h = front_next r n vs xs v (w.0, rest) (omega (arith, l)) e in
    (h.0, ap₂ (λ (c : List PolyValue) cs. c ∷ cs) first h.1)

pub front_all : (r : Ring) (n : ℕ) (vs : List VectorValue) (xs : List (List PolyValue)) → IsFront xs (tail_columns r n (terms_of vs)) → length vs ≤ length xs → xs ≡ tail_columns r n (terms_of vs)
front_all r n [] xs w l = go xs w.0 w.1
  where
    go : (xs later : List (List PolyValue)) → [] ≡ xs ++ later → xs ≡ []
    go [] later e = refl
    go (x ∷ xs) later e = cc
front_all r n (x ∷ vs) [] w l = absurd (omega (arith, l))
front_all r n (x ∷ vs) (c ∷ xs) w l =
    let first : tail_column r n x.terms ≡ c = cc (w.1) in
    let rest : tail_columns r n (terms_of vs) ≡ xs ++ w.0 = cc (w.1) in
    ap₂ (λ (c : List PolyValue) cs. c ∷ cs) (sym first) (front_all r n vs xs (w.0, rest) (omega (arith, l)))

pub front_more : (r : Ring) (n : ℕ) (ms : List (List VTerm)) (g : List VTerm) (xs : List (List PolyValue)) → IsFront xs (tail_columns r n ms) → IsFront xs (tail_columns r n (ms ++ g ∷ []))
front_more r n ms g xs w = (w.0 ++ tail_column r n g ∷ [], go ms ∙ ap (λ cs. cs ++ tail_column r n g ∷ []) w.1 ∙ append_assoc xs w.0 (tail_column r n g ∷ []))
  where
    go : (ms : List (List VTerm)) → tail_columns r n (ms ++ g ∷ []) ≡ tail_columns r n ms ++ tail_column r n g ∷ []
    go [] = refl
    go (m ∷ ms) = ap (λ cs. tail_column r n m ∷ cs) (go ms)

-- ---- the index with one member more
pub vectors_more : (r : Ring) (n : ℕ) (ms : List (List VTerm)) (g : List VTerm) → AreVectors r n ms → IsVector r n g → AreVectors r n (ms ++ g ∷ [])
vectors_more r n [] g w v = (v, tt)
vectors_more r n (m ∷ ms) g w v = (w.0, vectors_more r n ms g w.1 v)

pub index_more : (r : Ring) (n : ℕ) (ms : List (List VTerm)) (g : List VTerm) (t : VTerm) (old new : List (List Head)) → Some t ≡ head_of g → IsVector r n g
    → ((ts : List VTerm) → old ≡ heads_from n 1 ms → new ≡ heads_from n 1 (ms ++ (t ∷ ts) ∷ [])) → IsIndexOf r n ms old → IsIndexOf r n (ms ++ g ∷ []) new
index_more r n ms g t old new head v pushed w =
    let h = has_tail g t head in
    record {
      vectors = vectors_more r n ms g w.vectors v;
      heads = pushed h.0 w.heads ∙ ap (λ x. heads_from n 1 (ms ++ x ∷ [])) (sym h.1);
    }

-- ---- over a ring and a length that are the same
pub front_for : (q r : Ring) (m n : ℕ) (ms : List (List VTerm)) (xs : List (List PolyValue)) → q ≡ r → m ≡ n → IsFront xs (tail_columns r n ms) → IsFront xs (tail_columns q m ms)
front_for q r m n ms xs ring rows w = subst (λ (k : Ring). IsFront xs (tail_columns k m ms)) (sym ring) (subst (λ k. IsFront xs (tail_columns r k ms)) (sym rows) w)
