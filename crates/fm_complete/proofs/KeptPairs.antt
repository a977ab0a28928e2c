-- Pending pairs as they are kept: a pair put in, taken out, or looked up.
use Rattle.std.proofs.Common.{ℕ, ◌≡◌, ◌==◌, ◌&&◌, ◌||◌, cond, Bool, true, false, List, [], ◌∷◌, length, refl, sym, ap, ap₂, ◌∙◌, subst, eq-eqb}
use Rattle.std.proofs.lemmas.Bool.{and_parts, and_from, true≢false, eqb-true}
use Rattle.std.proofs.lemmas.Cmp.{nat_cmp_total, tied_itself, nat_eq_equiv}
use Rattle.std.specs.Cmp.{ranked, unsigned_tied}
use Rattle.std.specs.List.{list_any}
use Rattle.std.specs.Ordering.{nat_cmp, ordering_then, is_eq, match_ordering}
use Rattle.std.specs.BTreeMap.{is_at}
use Rattle.std.specs.BTreeSet.{BTreeSet, insert_key}
use Rattle.std.specs.declared.cmp.Ordering.{Ordering}
use Rattle.std.specs.declared.cmp.Ordering.TheVariants.{Less, Equal, Greater}
use Rattle.fm_mono.specs.declared.order.Order.{Order}
use Rattle.fm_mono.specs.Orders.{monomial_cmp}
use Rattle.fm_complete.specs.declared.critical_pair.CriticalPair.{CriticalPair}
use Rattle.fm_complete.specs.declared.pending_pair.PendingPair.{PendingPair}
use Rattle.fm_complete.specs.Completions.{pair_cmp, insert_at, inserted, is_pending}
use Rattle.fm_complete.specs.Pairs.{ArePairsOver}
use Rattle.fm_complete.specs.Pending.{order_number, pending_cmp, pairs_of, EachIn, has_numbers, AreDistinct, numbers_cmp, IsKept}
use Rattle.fm_complete.specs.declared.pending.Pending.TheInside.{Inside}

-- ---- truth values
or_swapped : (x y z : Bool) → (x || (y || z)) ≡ (y || (x || z))
or_swapped true true z = refl
or_swapped true false z = refl
or_swapped false y z = refl

or_false : (x y : Bool) → (x || y) ≡ false → (x ≡ false) × (y ≡ false)
or_false true y e = absurd (true≢false e)
or_false false y e = (refl, e)

four : (a b x y : Bool) → ((a || b) || (x || y)) ≡ ((a || x) || (b || y))
four true b x y = refl
four false true true y = refl
four false true false y = refl
four false false x y = refl

-- ---- numbers of members
numbers_equal : (i j k l : ℕ) → is_at (numbers_cmp (i, j)) (k, l) ≡ (i == k && j == l)
numbers_equal i j k l = go (nat_cmp i k) refl ∙ ap (λ b. b && j == l) (unsigned_tied i k)
  where
    go : (w : Ordering) → nat_cmp i k ≡ w → is_eq (ordering_then w (nat_cmp j l)) ≡ (is_eq w && j == l)
    go Less e = refl
    go Equal e = unsigned_tied j l
    go Greater e = refl

same_numbers : (i j k l : ℕ) → (i == k && j == l) ≡ (k == i && l == j)
same_numbers i j k l = ap₂ (λ a b. a && b) (nat_eq_equiv.symm i k) (nat_eq_equiv.symm j l)

-- ---- a pair put in
module _ (o : Order) (p : CriticalPair) where
  abbrev pub key : PendingPair
  key = record { order = o; pair = p }

  compared : (x : PendingPair) → x.order ≡ o → length x.pair.lcm ≡ length p.lcm → pending_cmp key x ≡ pair_cmp o p x.pair
  compared x same long =
      ap₂ (λ (m n : ℕ). ordering_then (nat_cmp (order_number o) m) (ordering_then (nat_cmp (length p.lcm) n) (pair_cmp o p x.pair))) (ap order_number same) long
      ∙ ap₂ (λ v w. ordering_then v (ordering_then w (pair_cmp o p x.pair))) (tied_itself nat_cmp_total (order_number o)) (tied_itself nat_cmp_total (length p.lcm))

  -- pairs that tie are of the same members
  tie : (q : CriticalPair) → pair_cmp o p q ≡ Equal → (q.earlier == p.earlier && q.later == p.later) ≡ true
  tie q e = by_numbers (nat_cmp q.component p.component) (monomial_cmp o p.lcm q.lcm) (nat_cmp p.later q.later) refl (nat_cmp p.earlier q.earlier) refl e
    where
      by_numbers : (u v w : Ordering) → w ≡ nat_cmp p.later q.later → (x : Ordering) → x ≡ nat_cmp p.earlier q.earlier → ordering_then (ordering_then u v) (ordering_then w x) ≡ Equal
          → (q.earlier == p.earlier && q.later == p.later) ≡ true
      by_numbers Less v w is x is' h = cc
      by_numbers Greater v w is x is' h = cc
      by_numbers Equal Less w is x is' h = cc
      by_numbers Equal Greater w is x is' h = cc
      by_numbers Equal Equal Less is x is' h = cc
      by_numbers Equal Equal Greater is x is' h = cc
      by_numbers Equal Equal Equal is Less is' h = cc
      by_numbers Equal Equal Equal is Greater is' h = cc
      by_numbers Equal Equal Equal is Equal is' h =
          and_from (q.earlier == p.earlier) (q.later == p.later) (eq-eqb q.earlier p.earlier (sym (ranked p.earlier q.earlier Equal is'))) (eq-eqb q.later p.later (sym (ranked p.later q.later Equal is)))

  pub has_inserted : (qs : List CriticalPair) (i j : ℕ) → has_numbers (inserted o p qs) i j ≡ ((p.earlier == i && p.later == j) || has_numbers qs i j)
  has_inserted [] i j = refl
  has_inserted (q ∷ qs) i j = go (pair_cmp o p q) (has_inserted qs i j)
    where
      go : (w : Ordering) → has_numbers (inserted o p qs) i j ≡ ((p.earlier == i && p.later == j) || has_numbers qs i j)
          → has_numbers (insert_at p q qs (inserted o p qs) w) i j ≡ ((p.earlier == i && p.later == j) || has_numbers (q ∷ qs) i j)
      go Less later = refl
      go Equal later = refl
      go Greater later = ap (λ b. (q.earlier == i && q.later == j) || b) later ∙ or_swapped (q.earlier == i && q.later == j) (p.earlier == i && p.later == j) (has_numbers qs i j)

  pub distinct_inserted : (qs : List CriticalPair) → AreDistinct qs → has_numbers qs p.earlier p.later ≡ false → AreDistinct (inserted o p qs)
  distinct_inserted [] d new = (refl, tt)
  distinct_inserted (q ∷ qs) d new =
      let apart = or_false (q.earlier == p.earlier && q.later == p.later) (has_numbers qs p.earlier p.later) new in
      go (pair_cmp o p q)
      (has_inserted qs q.earlier q.later ∙ ap₂ (λ a b. a || b) (same_numbers p.earlier p.later q.earlier q.later ∙ apart.0) d.0)
      (distinct_inserted qs d.1 apart.1)
    where
      go : (w : Ordering) → has_numbers (inserted o p qs) q.earlier q.later ≡ false → AreDistinct (inserted o p qs) → AreDistinct (insert_at p q qs (inserted o p qs) w)
      go Less other later = (new, d)
      go Equal other later = (new, d)
      go Greater other later = (other, later)

  pub each_inserted : (keys : List PendingPair) → EachIn o keys → EachIn o (insert_key pending_cmp keys key)
  each_inserted [] e = (refl, tt)
  each_inserted (x ∷ xs) e = go (pending_cmp key x) (each_inserted xs e.1)
    where
      go : (w : Ordering) → EachIn o (insert_key pending_cmp xs key) → EachIn o (match_ordering w (key ∷ x ∷ xs) (x ∷ xs) (x ∷ insert_key pending_cmp xs key))
      go Less later = (refl, e)
      go Equal later = e
      go Greater later = (e.0, later)

  pub inserted_pairs : (keys : List PendingPair) → EachIn o keys → ArePairsOver (length p.lcm) (pairs_of keys) → has_numbers (pairs_of keys) p.earlier p.later ≡ false
      → pairs_of (insert_key pending_cmp keys key) ≡ inserted o p (pairs_of keys)
  inserted_pairs [] e over new = refl
  inserted_pairs (x ∷ xs) e over new =
      let apart = or_false (x.pair.earlier == p.earlier && x.pair.later == p.later) (has_numbers (pairs_of xs) p.earlier p.later) new in
      ap (λ w. pairs_of (match_ordering w (key ∷ x ∷ xs) (x ∷ xs) (x ∷ insert_key pending_cmp xs key))) (compared x e.0 over.0)
      ∙ go (pair_cmp o p x.pair) refl apart.0 (inserted_pairs xs e.1 over.1 apart.1)
    where
      go : (w : Ordering) → pair_cmp o p x.pair ≡ w → (x.pair.earlier == p.earlier && x.pair.later == p.later) ≡ false → pairs_of (insert_key pending_cmp xs key) ≡ inserted o p (pairs_of xs)
          → pairs_of (match_ordering w (key ∷ x ∷ xs) (x ∷ xs) (x ∷ insert_key pending_cmp xs key)) ≡ insert_at p x.pair (pairs_of xs) (inserted o p (pairs_of xs)) w
      go Less is other later = refl
      go Equal is other later = absurd (true≢false (sym (tie x.pair is) ∙ other))
      go Greater is other later = ap (λ qs. x.pair ∷ qs) later

-- ---- pairs looked up
pub either_order : (pairs : List CriticalPair) (i j : ℕ) → (has_numbers pairs i j || has_numbers pairs j i) ≡ is_pending pairs i j
either_order [] i j = refl
either_order (p ∷ ps) i j =
    four (p.earlier == i && p.later == j) (has_numbers ps i j) (p.earlier == j && p.later == i) (has_numbers ps j i)
    ∙ ap (λ b. ((p.earlier == i && p.later == j) || (p.earlier == j && p.later == i)) || b) (either_order ps i j)

pub first_found : (b : Bool) (i j : ℕ) (pairs : List CriticalPair) → b ≡ true → b ≡ has_numbers pairs i j → b ≡ is_pending pairs i j
first_found b i j pairs yes_is is = yes_is ∙ ap (λ x. x || has_numbers pairs j i) (sym yes_is ∙ is) ∙ either_order pairs i j

pub second_found : (b d : Bool) (i j : ℕ) (pairs : List CriticalPair) → b ≡ false → b ≡ has_numbers pairs i j → d ≡ has_numbers pairs j i → d ≡ is_pending pairs i j
second_found b d i j pairs no_is is second = second ∙ ap (λ x. x || has_numbers pairs j i) (sym no_is ∙ is) ∙ either_order pairs i j

-- ---- what is kept beside the pairs
abbrev has : BTreeSet (ℕ × ℕ) → ℕ × ℕ → Bool
has numbers q = list_any (is_at (numbers_cmp q)) numbers.keys

-- the numbers of p are put in
abbrev pub WithNumbers : CriticalPair → BTreeSet (ℕ × ℕ) → BTreeSet (ℕ × ℕ) → Type 0
WithNumbers p old new = (q : ℕ × ℕ) → has new q ≡ cond (is_at (numbers_cmp (p.earlier, p.later)) q) true (has old q)

-- the numbers of p are taken out
abbrev pub WithoutNumbers : CriticalPair → BTreeSet (ℕ × ℕ) → BTreeSet (ℕ × ℕ) → Type 0
WithoutNumbers p old new = (q : ℕ × ℕ) → has new q ≡ cond (is_at (numbers_cmp (p.earlier, p.later)) q) false (has old q)

put_in : (b x : Bool) → cond b true x ≡ (b || x)
put_in true x = refl
put_in false x = refl

module _ (w : Inside) (kept : IsKept w) where
  pub kept_inserted : (p : CriticalPair) → ArePairsOver (length p.lcm) (pairs_of w.pairs.keys) → has_numbers (pairs_of w.pairs.keys) p.earlier p.later ≡ false
      → (pairs : BTreeSet PendingPair) (numbers : BTreeSet (ℕ × ℕ)) → pairs.keys ≡ insert_key pending_cmp w.pairs.keys (key w.order p) → WithNumbers p w.numbers numbers
      → IsKept (record { order = w.order; pairs = pairs; numbers = numbers })
  kept_inserted p over new pairs numbers put with_numbers =
      let is : pairs_of pairs.keys ≡ inserted w.order p (pairs_of w.pairs.keys) = ap pairs_of put ∙ inserted_pairs w.order p w.pairs.keys kept.ordered over new in
      record {
        ordered = subst (EachIn w.order) (sym put) (each_inserted w.order p w.pairs.keys kept.ordered);
        distinct = subst AreDistinct (sym is) (distinct_inserted w.order p (pairs_of w.pairs.keys) kept.distinct new);
        numbered = λ i j. with_numbers (i, j) ∙ put_in (is_at (numbers_cmp (p.earlier, p.later)) (i, j)) (has w.numbers (i, j))
            ∙ ap₂ (λ a b. a || b) (numbers_equal p.earlier p.later i j) (kept.numbered i j)
            ∙ sym (ap (λ qs. has_numbers qs i j) is ∙ has_inserted w.order p (pairs_of w.pairs.keys) i j);
      }

  -- a pair that could not be put in, whose numbers are taken out again
  pub kept_refused : (p : CriticalPair) → has_numbers (pairs_of w.pairs.keys) p.earlier p.later ≡ false → (pairs : BTreeSet PendingPair) (more numbers : BTreeSet (ℕ × ℕ)) → pairs.keys ≡ w.pairs.keys
      → WithNumbers p w.numbers more → WithoutNumbers p more numbers → IsKept (record { order = w.order; pairs = pairs; numbers = numbers })
  kept_refused p new pairs more numbers same put taken = record {
    ordered = subst (EachIn w.order) (sym same) kept.ordered;
    distinct = subst (λ keys. AreDistinct (pairs_of keys)) (sym same) kept.distinct;
    numbered = λ i j. taken (i, j) ∙ ap (cond (is_at (numbers_cmp (p.earlier, p.later)) (i, j)) false) (put (i, j))
        ∙ ap (λ b. cond b false (cond b true (has w.numbers (i, j)))) (numbers_equal p.earlier p.later i j)
        ∙ ap (λ b. cond (p.earlier == i && p.later == j) false (cond (p.earlier == i && p.later == j) true b)) (kept.numbered i j)
        ∙ back i j (p.earlier == i && p.later == j) refl ∙ sym (ap (λ keys. has_numbers (pairs_of keys) i j) same);
  }
    where
      back : (i j : ℕ) (b : Bool) → (p.earlier == i && p.later == j) ≡ b → cond b false (cond b true (has_numbers (pairs_of w.pairs.keys) i j)) ≡ has_numbers (pairs_of w.pairs.keys) i j
      back i j true e =
          let s = and_parts (p.earlier == i) (p.later == j) e in
          sym (ap₂ (has_numbers (pairs_of w.pairs.keys)) (sym (eqb-true p.earlier i s.0)) (sym (eqb-true p.later j s.1)) ∙ new)
      back i j false e = refl

  pub kept_rest : (first : PendingPair) (pairs : BTreeSet PendingPair) (numbers : BTreeSet (ℕ × ℕ)) → w.pairs.keys ≡ first ∷ pairs.keys → WithoutNumbers first.pair w.numbers numbers
      → IsKept (record { order = w.order; pairs = pairs; numbers = numbers })
  kept_rest first pairs numbers first_is taken =
      let distinct = subst (λ keys. AreDistinct (pairs_of keys)) first_is kept.distinct in
      record {
        ordered = (subst (EachIn w.order) first_is kept.ordered).1;
        distinct = distinct.1;
        numbered = λ i j. taken (i, j)
            ∙ ap₂ (λ b x. cond b false x) (numbers_equal first.pair.earlier first.pair.later i j) (kept.numbered i j ∙ ap (λ keys. has_numbers (pairs_of keys) i j) first_is)
            ∙ rest i j (first.pair.earlier == i && first.pair.later == j) refl distinct.0;
      }
    where
      rest : (i j : ℕ) (b : Bool) → (first.pair.earlier == i && first.pair.later == j) ≡ b → has_numbers (pairs_of pairs.keys) first.pair.earlier first.pair.later ≡ false
          → cond b false (b || has_numbers (pairs_of pairs.keys) i j) ≡ has_numbers (pairs_of pairs.keys) i j
      rest i j true e none =
          let s = and_parts (first.pair.earlier == i) (first.pair.later == j) e in
          sym (ap₂ (has_numbers (pairs_of pairs.keys)) (sym (eqb-true first.pair.earlier i s.0)) (sym (eqb-true first.pair.later j s.1)) ∙ none)
      rest i j false e none = refl
