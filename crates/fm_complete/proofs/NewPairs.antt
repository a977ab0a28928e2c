-- The pairs of a new member, from the last member on, and skips, as the program makes them.
use Rattle.std.proofs.Common.{ℕ, suc, ◌+◌, ◌<◌, ◌≢◌, ◌≡◌, ◌==◌, ◌&&◌, ◌||◌, ◌⊎◌, inl, inr, if◌then◌else◌, not, Bool, true, false, List, [], ◌∷◌, ◌++◌, length, refl, sym, ap, ap₂, ◌∙◌, subst, arith}
use Rattle.std.proofs.lemmas.Bool.{eqb-true}
use Rattle.fm_mono.specs.declared.order.Order.{Order}
use Rattle.fm_poly.specs.declared.ring.Ring.{Ring}
use Rattle.fm_term.specs.declared.vterm.VTerm.{VTerm}
use Rattle.fm_vec.specs.Vectors.{VectorValue}
use Rattle.fm_complete.specs.declared.critical_pair.CriticalPair.{CriticalPair}
use Rattle.fm_complete.specs.Completions.{inserted, pair_of, with_pair, with_pairs}
use Rattle.fm_complete.specs.Divisions.{AreMembers, terms_of}
use Rattle.fm_complete.specs.Pairs.{EachPair}
use Rattle.fm_complete.specs.Pending.{has_numbers}
use Rattle.fm_complete.proofs.Standing.{each_weaker, inserted_each, length_terms, terms_more}

-- ---- the pairs of a new member, from the last member on
pairs_last : (o : Order) (later : ℕ) (t : VTerm) (k : ℕ) (gs : List (List VTerm)) (g : List VTerm) (pending : List CriticalPair)
    → with_pairs o later t k (gs ++ g ∷ []) pending ≡ with_pairs o later t k gs (with_pair o later t (length gs + k) g pending)
pairs_last o later t k [] g pending = ap (λ n. with_pair o later t n g pending) (let h : k ≡ 0 + k = omega arith in h)
pairs_last o later t k (x ∷ gs) g pending =
    ap (with_pair o later t k x) (pairs_last o later t (suc k) gs g pending ∙ ap (λ n. with_pairs o later t (suc k) gs (with_pair o later t n g pending)) (moved (length gs) k))
  where
    moved : (n k : ℕ) → n + suc k ≡ suc n + k
    moved n k = omega arith

-- a pair is made of the head alone
pub head_alone : (o : Order) (later : ℕ) (t : VTerm) (earlier : ℕ) (u : VTerm) (us : List VTerm) (pending : List CriticalPair)
    → with_pair o later t earlier (u ∷ []) pending ≡ with_pair o later t earlier (u ∷ us) pending
head_alone o later t earlier u us pending = refl

members_before : (r : Ring) (rows : ℕ) (vs : List VectorValue) (v : VectorValue) → AreMembers r rows (vs ++ v ∷ []) → AreMembers r rows vs × (v.ring ≡ r) × (v.rows ≡ rows) × (v.terms ≢ [])
members_before r rows [] v w = (tt, w.0, w.1, w.2)
members_before r rows (x ∷ vs) v w = let h = members_before r rows vs v w.3 in ((w.0, w.1, w.2, h.0), h.1, h.2, h.3)

pub whole_length : (left before : List VectorValue) (g : VectorValue) → left ≡ before ++ g ∷ [] → length left ≡ length before + 1
whole_length left before g e = ap length e ∙ more before g
  where
    more : (vs : List VectorValue) (v : VectorValue) → length (vs ++ v ∷ []) ≡ length vs + 1
    more [] v = refl
    more (u ∷ vs) v = let h = more vs v in omega (arith, h)

module _ (r : Ring) (rows : ℕ) (left before : List VectorValue) (g : VectorValue) (whole : left ≡ before ++ g ∷ []) (members : AreMembers r rows left) where
  pub last_member : AreMembers r rows before × (g.ring ≡ r) × (g.rows ≡ rows) × (g.terms ≢ [])
  last_member = members_before r rows before g (subst (AreMembers r rows) whole members)

  pub pairs_before : (later : ℕ) (t u : VTerm) (us : List VTerm) (pending new : List CriticalPair) → g.terms ≡ u ∷ us → new ≡ with_pair r.order later t (length before + 1) (u ∷ []) pending
      → with_pairs r.order later t 1 (terms_of before) new ≡ with_pairs r.order later t 1 (terms_of left) pending
  pairs_before later t u us pending new terms made =
      ap (with_pairs r.order later t 1 (terms_of before)) (made ∙ ap (λ ts. with_pair r.order later t (length before + 1) ts pending) (sym terms) ∙ ap (λ n. with_pair r.order later t (n + 1) g.terms pending) (sym (length_terms before)))
      ∙ sym (ap (λ vs. with_pairs r.order later t 1 (terms_of vs) pending) whole ∙ ap (λ ms. with_pairs r.order later t 1 ms pending) (terms_more before g) ∙ pairs_last r.order later t 1 (terms_of before) g.terms pending)

-- a pair that is not of the new member and one of the first n
abbrev pub IsOther : ℕ → ℕ → CriticalPair → Type 0
IsOther later n q = (q.later < later) ⊎ (n < q.earlier)

pub all_other : (later n : ℕ) (pending : List CriticalPair) → EachPair (λ q. q.later < later) pending → EachPair (IsOther later n) pending
all_other later n pending w = each_weaker (λ q. q.later < later) (IsOther later n) pending (λ q h. inl h) w

fewer_other : (later n : ℕ) (pending : List CriticalPair) → EachPair (IsOther later (n + 1)) pending → EachPair (IsOther later n) pending
fewer_other later n pending w = each_weaker (IsOther later (n + 1)) (IsOther later n) pending (λ q h. elim h [ inl k ↦ inl k | inr k ↦ inr (omega (arith, k)) ]) w

pub other_none : (later n : ℕ) (pending : List CriticalPair) → EachPair (IsOther later n) pending → has_numbers pending n later ≡ false
other_none later n [] w = refl
other_none later n (q ∷ qs) w = ap₂ (λ a b. a || b) (apart (q.earlier == n) (q.later == later) refl refl w.0) (other_none later n qs w.1)
  where
    apart : (a b : Bool) → (q.earlier == n) ≡ a → (q.later == later) ≡ b → IsOther later n q → (a && b) ≡ false
    apart false b e f h = refl
    apart true false e f h = refl
    apart true true e f h =
        let same_earlier : q.earlier ≡ n = eqb-true q.earlier n e in
        let same_later : q.later ≡ later = eqb-true q.later later f in
        elim h [ inl k ↦ absurd (omega (arith, k, same_later)) | inr k ↦ absurd (omega (arith, k, same_earlier)) ]

pub others_left : (o : Order) (later : ℕ) (t : VTerm) (n : ℕ) (u : VTerm) (pending : List CriticalPair) → EachPair (IsOther later (n + 1)) pending
    → EachPair (IsOther later n) (with_pair o later t (n + 1) (u ∷ []) pending)
others_left o later t n u pending w = go (u.component == t.component)
  where
    go : (b : Bool) → EachPair (IsOther later n) (if b then inserted o (pair_of later t (n + 1) u) pending else pending)
    go true = inserted_each (IsOther later n) o (pair_of later t (n + 1) u) pending (inr (omega arith)) (fewer_other later n pending w)
    go false = fewer_other later n pending w

-- ---- skips
-- the four tests as the code makes them
pub tests : (a b d x y : Bool) → (not a && (not b && (d && (not x && not y)))) ≡ ((not a && not b) && d) && (not x && not y)
tests true b d x y = refl
tests false true d x y = refl
tests false false d x y = refl
