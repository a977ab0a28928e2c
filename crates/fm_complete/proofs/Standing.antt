-- Members and pending pairs of a completion, with one member more.
use Rattle.std.proofs.Common.{ℕ, zero, suc, ◌+◌, ◌*◌, ◌%◌, ◌<◌, ◌≤◌, ◌≡◌, ◌≢◌, ◌==◌, if◌then◌else◌, Bool, true, false, List, [], ◌∷◌, ◌++◌, map, length, drop, get_or, Some, refl, sym, ap, ◌∙◌, subst, arith}
use Rattle.std.proofs.lemmas.Bool.{eqb-true}
use Rattle.std.specs.Borrow.{Bor}
use Rattle.std.specs.declared.cmp.Ordering.{Ordering}
use Rattle.std.specs.declared.cmp.Ordering.TheVariants.{Less, Equal, Greater}
use Rattle.fm_gfp.specs.Primes.{prime_value}
use Rattle.fm_mono.specs.declared.order.Order.{Order}
use Rattle.fm_poly.specs.declared.ring.Ring.{Ring}
use Rattle.fm_term.specs.declared.vterm.VTerm.{VTerm}
use Rattle.fm_term.specs.Falling.{IsMonic, head_of}
use Rattle.fm_vec.specs.Vectors.{VectorValue, HaveSVector, IsVector}
use Rattle.fm_vec.specs.Multiples.{inverse_of, monic_of}
use Rattle.fm_groebner.specs.Logs.{Start, Entry}
use Rattle.fm_complete.specs.declared.entry.Entry.{Entry as ProgramEntry}
use Rattle.fm_complete.specs.declared.critical_pair.CriticalPair.{CriticalPair}
use Rattle.fm_complete.specs.Bases.{entry_value}
use Rattle.fm_complete.specs.Completions.{Completion, pair_cmp, insert_at, inserted, pair_of, with_pair, with_pairs, kept}
use Rattle.fm_complete.specs.Divisions.{AreMembers, terms_of}
use Rattle.fm_complete.specs.Pairs.{EachPair, ArePairsOver}
use Rattle.fm_complete.specs.Standing.{IsPairOf, ArePairsOf, AreMonicMembers, AreStanding, values}
use Rattle.fm_complete.specs.Trails.{member_at}
use Rattle.fm_complete.proofs.Cancelling.{inverse_one}

-- ---- lists
pub length_terms : (vs : List VectorValue) → length (terms_of vs) ≡ length vs
length_terms [] = refl
length_terms (v ∷ vs) = ap suc (length_terms vs)

-- the borrowed vector at k, and those behind it
pub values_at : (xs : List (Bor VectorValue)) (k : ℕ) (v : Bor VectorValue) → k < length xs → v ≡ get_or xs k v → values (drop k xs) ≡ v.now ∷ values (drop (k + 1) xs)
values_at [] k v l e = absurd (omega (arith, l))
values_at (x ∷ xs) zero v l e = ap (λ (y : Bor VectorValue). y.now ∷ values xs) (sym e)
values_at (x ∷ xs) (suc k) v l e = values_at xs k v (omega arith) e ∙ ap (λ n. v.now ∷ values (drop n (x ∷ xs))) (let h : suc (k + 1) ≡ suc k + 1 = omega arith in h)

pub values_then : (xs : List (Bor VectorValue)) (v : Bor VectorValue) (left : List VectorValue) → values (xs ++ v ∷ []) ++ left ≡ values xs ++ v.now ∷ left
values_then [] v left = refl
values_then (x ∷ xs) v left = ap (λ vs. x.now ∷ vs) (values_then xs v left)

pub terms_more : (vs : List VectorValue) (v : VectorValue) → terms_of (vs ++ v ∷ []) ≡ terms_of vs ++ v.terms ∷ []
terms_more [] v = refl
terms_more (x ∷ vs) v = ap (λ ts. x.terms ∷ ts) (terms_more vs v)

members_more : (r : Ring) (rows : ℕ) (vs : List VectorValue) (v : VectorValue) → AreMembers r rows vs → v.ring ≡ r → v.rows ≡ rows → (v.terms ≢ []) → AreMembers r rows (vs ++ v ∷ [])
members_more r rows [] v h a b some = (a, b, some, tt)
members_more r rows (x ∷ vs) v h a b some = (h.0, h.1, h.2, members_more r rows vs v h.3 a b some)

monic_more : (gs : List (List VTerm)) (g : List VTerm) → AreMonicMembers gs → IsMonic g → AreMonicMembers (gs ++ g ∷ [])
monic_more [] g h m = (m, tt)
monic_more (x ∷ gs) g h m = (h.0, monic_more gs g h.1 m)

pub map_more : (log : List ProgramEntry) (e : ProgramEntry) → map entry_value (log ++ e ∷ []) ≡ map entry_value log ++ entry_value e ∷ []
map_more [] e = refl
map_more (x ∷ log) e = ap (λ es. entry_value x ∷ es) (map_more log e)

member_left : (ms : List (List VTerm)) (g : List VTerm) (k : ℕ) → 1 ≤ k → k ≤ length ms → member_at (ms ++ g ∷ []) k ≡ member_at ms k
member_left [] g k low high = absurd (omega (arith, low, high))
member_left (m ∷ ms) g zero low high = absurd (omega (arith, low))
member_left (m ∷ ms) g (suc zero) low high = refl
member_left (m ∷ ms) g (suc (suc k)) low high = member_left ms g (suc k) (omega arith) (omega (arith, high))

member_last : (ms : List (List VTerm)) (g : List VTerm) → member_at (ms ++ g ∷ []) (suc (length ms)) ≡ g
member_last [] g = refl
member_last (m ∷ ms) g = member_last ms g

monic_at : (gs : List (List VTerm)) (k : ℕ) (u : VTerm) (us : List VTerm) → AreMonicMembers gs → k < length gs → member_at gs (suc k) ≡ u ∷ us → u.coeff ≡ 1
monic_at [] k u us h l e = absurd (omega (arith, l))
monic_at (g ∷ gs) zero u us h l e = subst IsMonic e h.0
monic_at (g ∷ gs) (suc k) u us h l e = monic_at gs k u us h.1 (omega (arith, l)) e

-- ---- pairs
pub inserted_each : (P : CriticalPair → Type 0) (o : Order) (p : CriticalPair) (qs : List CriticalPair) → P p → EachPair P qs → EachPair P (inserted o p qs)
inserted_each P o p [] h w = (h, tt)
inserted_each P o p (q ∷ qs) h w = go (pair_cmp o p q) (inserted_each P o p qs h w.1)
  where
    go : (x : Ordering) → EachPair P (inserted o p qs) → EachPair P (insert_at p q qs (inserted o p qs) x)
    go Less later = (h, w)
    go Equal later = (h, w)
    go Greater later = (w.0, later)

pub each_weaker : (P Q : CriticalPair → Type 0) (qs : List CriticalPair) → ((q : CriticalPair) → P q → Q q) → EachPair P qs → EachPair Q qs
each_weaker P Q [] f w = tt
each_weaker P Q (q ∷ qs) f w = (f q w.0, each_weaker P Q qs f w.1)

with_pairs_each : (P : CriticalPair → Type 0) (o : Order) (later : ℕ) (t : VTerm) (earlier : ℕ) (gs : List (List VTerm)) (pending : List CriticalPair) → EachPair P pending
    → ((k : ℕ) (u : VTerm) (us : List VTerm) → k < length gs → member_at gs (suc k) ≡ u ∷ us → u.component ≡ t.component → P (pair_of later t (earlier + k) u))
    → EachPair P (with_pairs o later t earlier gs pending)
with_pairs_each P o later t earlier [] pending w new = w
with_pairs_each P o later t earlier (g ∷ gs) pending w new =
    go g refl (with_pairs_each P o later t (suc earlier) gs pending w
    (λ k u us l e c. subst (λ n. P (pair_of later t n u)) (let h : earlier + suc k ≡ suc earlier + k = omega arith in h) (new (suc k) u us (omega (arith, l)) e c)))
  where
    go : (h : List VTerm) → g ≡ h → EachPair P (with_pairs o later t (suc earlier) gs pending) → EachPair P (with_pair o later t earlier h (with_pairs o later t (suc earlier) gs pending))
    go [] e later_pairs = later_pairs
    go (u ∷ us) e later_pairs = of (u.component == t.component) refl
      where
        of : (b : Bool) → (u.component == t.component) ≡ b
            → EachPair P (if b then inserted o (pair_of later t earlier u) (with_pairs o later t (suc earlier) gs pending) else with_pairs o later t (suc earlier) gs pending)
        of true same = inserted_each P o (pair_of later t earlier u) (with_pairs o later t (suc earlier) gs pending)
            (subst (λ n. P (pair_of later t n u)) (let h : earlier + 0 ≡ earlier = omega arith in h) (new 0 u us (omega arith) e (eqb-true u.component t.component same))) later_pairs
        of false same = later_pairs

pair_left : (ms : List (List VTerm)) (g : List VTerm) (q : CriticalPair) → IsPairOf ms q → IsPairOf (ms ++ g ∷ []) q
pair_left ms g q w = record {
  earlier_low = w.earlier_low;
  earlier_high = longer w.earlier_high;
  later_low = w.later_low;
  later_high = longer w.later_high;
  heads = subst (λ f. HaveSVector f (member_at (ms ++ g ∷ []) q.later)) (sym (member_left ms g q.earlier w.earlier_low w.earlier_high))
      (subst (HaveSVector (member_at ms q.earlier)) (sym (member_left ms g q.later w.later_low w.later_high)) w.heads);
}
  where
    length_more : (xs : List (List VTerm)) → length (xs ++ g ∷ []) ≡ suc (length xs)
    length_more [] = refl
    length_more (x ∷ xs) = ap suc (length_more xs)

    longer : {k : ℕ} → k ≤ length ms → k ≤ length (ms ++ g ∷ [])
    longer h = let e = length_more ms in omega (arith, h, e)

-- the pairs of a new member, whose head has the component of t
pairs_new : (o : Order) (t : VTerm) (ms : List (List VTerm)) (h : VTerm) (hs : List VTerm) (pending : List CriticalPair) → AreMonicMembers ms → h.coeff ≡ 1 → h.component ≡ t.component
    → EachPair (IsPairOf ms) pending → EachPair (IsPairOf (ms ++ (h ∷ hs) ∷ [])) (with_pairs o (suc (length ms)) t 1 ms pending)
pairs_new o t ms h hs pending monic one same w =
    with_pairs_each (IsPairOf more) o (suc (length ms)) t 1 ms pending (each_weaker (IsPairOf ms) (IsPairOf more) pending (pair_left ms (h ∷ hs)) w)
    (λ k u us l e c. record {
      earlier_low = omega arith;
      earlier_high = (let n = length_more ms in omega (arith, l, n));
      later_low = omega arith;
      later_high = (let n = length_more ms in omega (arith, n));
      heads = subst (λ f. HaveSVector f (member_at more (suc (length ms)))) (sym (first k u us l e))
          (subst (HaveSVector (u ∷ us)) (sym (member_last ms (h ∷ hs))) (monic_at ms k u us monic l e, one, c ∙ sym same));
    })
  where
    more : List (List VTerm)
    more = ms ++ (h ∷ hs) ∷ []

    length_more : (xs : List (List VTerm)) → length (xs ++ (h ∷ hs) ∷ []) ≡ suc (length xs)
    length_more [] = refl
    length_more (x ∷ xs) = ap suc (length_more xs)

    first : (k : ℕ) (u : VTerm) (us : List VTerm) → k < length ms → member_at ms (suc k) ≡ u ∷ us → member_at more (1 + k) ≡ u ∷ us
    first k u us l e = ap (member_at more) (let s : 1 + k ≡ suc k = omega arith in s) ∙ member_left ms (h ∷ hs) (suc k) (omega arith) (omega (arith, l)) ∙ e

-- ---- one member more
module _ (r : Ring) (rows : ℕ) (rest : List VTerm) (t : VTerm) (head : Some t ≡ head_of rest) (vector : IsVector r rows rest) (members more : List VectorValue) (v : VectorValue)
    (pushed : more ≡ members ++ v ∷ []) (is : v ≡ record { ring = r; rows = rows; terms = monic_of r rest }) (S : AreStanding r rows members) where
  monic_rest : (ts : List VTerm) → Some t ≡ head_of ts → IsVector r rows ts → (monic_of r ts ≢ []) × IsMonic (monic_of r ts)
  monic_rest [] e w = cc
  monic_rest (u ∷ us) e w =
      ((λ none. some none), ap (λ x. x % prime_value r.prime) (swap (inverse_of r u.coeff) u.coeff) ∙ inverse_one r u.coeff w.proper.0.positive w.proper.0.below)
    where
      swap : (x y : ℕ) → x * y ≡ y * x
      swap x y = omega arith

      some : monic_of r (u ∷ us) ≡ [] → ⊥
      some e = cc

  terms_is : terms_of more ≡ terms_of members ++ monic_of r rest ∷ []
  terms_is = ap terms_of pushed ∙ terms_more members v ∙ ap (λ (x : VectorValue). terms_of members ++ x.terms ∷ []) is

  pub standing_more : length members < 4294967295 → AreStanding r rows more
  standing_more few = record {
    vectors = subst (AreMembers r rows) (sym pushed) (members_more r rows members v S.vectors (ap (λ (x : VectorValue). x.ring) is) (ap (λ (x : VectorValue). x.rows) is)
        (λ none. (monic_rest rest head vector).0 (sym (ap (λ (x : VectorValue). x.terms) is) ∙ none)));
    few = (let e = ap length pushed ∙ length_more members in omega (arith, few, e));
    monic = subst AreMonicMembers (sym terms_is) (monic_more (terms_of members) (monic_of r rest) S.monic (monic_rest rest head vector).1);
  }
    where
      length_more : (xs : List VectorValue) → length (xs ++ v ∷ []) ≡ suc (length xs)
      length_more [] = refl
      length_more (x ∷ xs) = ap suc (length_more xs)

  number_is : length members + 1 ≡ suc (length (terms_of members))
  number_is = let e = length_terms members in omega (arith, e)

  pub pairs_more : (pending new : List CriticalPair) → ArePairsOf r members pending → new ≡ with_pairs r.order (length members + 1) t 1 (terms_of members) pending → ArePairsOver r.vars new
      → ArePairsOf r more new
  pairs_more pending new w made over = (
    subst (EachPair (IsPairOf (terms_of more))) (sym (made ∙ ap (λ n. with_pairs r.order n t 1 (terms_of members) pending) number_is))
        (subst (λ ms. EachPair (IsPairOf ms) (with_pairs r.order (suc (length (terms_of members))) t 1 (terms_of members) pending)) (sym terms_is) (of rest head vector)),
    over,
  )
    where
      of : (ts : List VTerm) → Some t ≡ head_of ts → IsVector r rows ts
          → EachPair (IsPairOf (terms_of members ++ monic_of r ts ∷ [])) (with_pairs r.order (suc (length (terms_of members))) t 1 (terms_of members) pending)
      of [] e w' = cc
      of (u ∷ us) e w' = let same : t ≡ u = cc in pairs_new r.order t (terms_of members) _ _ pending S.monic (monic_rest (u ∷ us) e w').1 (ap (λ (x : VTerm). x.component) (sym same)) w.0

  pub kept_more : (start : Start) (by : List ℕ) (pending new : List CriticalPair) (log log' : List ProgramEntry) (e : ProgramEntry)
      → new ≡ with_pairs r.order (length members + 1) t 1 (terms_of members) pending → log' ≡ log ++ e ∷ [] → entry_value e ≡ record { start = start; by = by; keep = true }
      → ◌≡◌ {A = Completion} (record { members = terms_of more; pending = new; log = map entry_value log' }) (kept r start by rest (record { members = terms_of members; pending = pending; log = map entry_value log }))
  kept_more start by pending new log log' e made logged entry =
      (λ i. record {
        members = terms_is i;
        pending = (made ∙ ap (λ n. with_pairs r.order n t 1 (terms_of members) pending) number_is) i;
        log = (ap (map entry_value) logged ∙ map_more log e ∙ ap (λ (x : Entry). map entry_value log ++ x ∷ []) entry) i;
      })
      ∙ of rest head
    where
      of : (ts : List VTerm) → Some t ≡ head_of ts
          → ◌≡◌ {A = Completion} (record {
            members = terms_of members ++ monic_of r ts ∷ [];
            pending = with_pairs r.order (suc (length (terms_of members))) t 1 (terms_of members) pending;
            log = map entry_value log ++ record { start = start; by = by; keep = true } ∷ [];
          })
          (kept r start by ts (record { members = terms_of members; pending = pending; log = map entry_value log }))
      of [] h = cc
      of (u ∷ us) h =
          let same : t ≡ u = cc in
          λ i. record {
            members = terms_of members ++ monic_of r (u ∷ us) ∷ [];
            pending = with_pairs r.order (suc (length (terms_of members))) (same i) 1 (terms_of members) pending;
            log = map entry_value log ++ record { start = start; by = by; keep = true } ∷ [];
          }

-- pairs of the members have smaller numbers than the next member
pub pairs_earlier : (members : List (List VTerm)) (later : ℕ) (pending : List CriticalPair) → length members < later → EachPair (IsPairOf members) pending → EachPair (λ q. q.later < later) pending
pairs_earlier members later pending few w = each_weaker (IsPairOf members) (λ q. q.later < later) pending (λ q h. let k = h.later_high in omega (arith, few, k)) w
