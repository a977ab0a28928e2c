-- Columns by their numbers, and rising numbers.
use mathlib.Core.List.{map-map}
use Rattle.std.proofs.Common.{ℕ, zero, suc, ◌+◌, ◌-◌, ◌≤◌, ◌≡◌, ◌↔◌, Bool, true, false, cond, if◌then◌else◌, List, [], ◌∷◌, ◌++◌, length, map, get_or, refl, sym, ap, ◌∙◌, subst, arith}
use Rattle.std.specs.List.{filter}
use Rattle.fm_algebra.specs.PolynomialMatrices.{InImage}
use Rattle.fm_groebner.proofs.Setting.{In, here, there, in_map}
use Rattle.fm_poly.specs.declared.ring.Ring.{Ring}
use Rattle.fm_term.specs.declared.vterm.VTerm.{VTerm}
use Rattle.fm_run.specs.Runs.{ready, ◌>>=◌}
use Rattle.fm_run.proofs.Ends.{Ends, same_value, bound}
use Rattle.fm_mat.specs.Columns.{AreNumbers}
use Rattle.fm_graphs.specs.Listing.{VectorOf, terms_of}
use Rattle.fm_graphs.specs.Graphs.{MatrixOf}
use Rattle.fm_graphs.specs.Trims.{spanned, trimmed_after, trimmed}
use Rattle.fm_graphs.proofs.Columns.{AllLong, Spanned, span_own, span_within}
use Rattle.fm_graphs.proofs.Trims.{Trimmed, trimmed_is}
use Rattle.fm_syz.specs.Numbers.{numbers_from, AreRising, column_at, columns_at}

-- ---- what stands at a number
pub read_map : {X Y : Type 0} (f : X → Y) (xs : List X) (i : ℕ) (d : X) → get_or (map f xs) i (f d) ≡ f (get_or xs i d)
read_map f [] zero d = refl
read_map f [] (suc i) d = refl
read_map f (x ∷ xs) zero d = refl
read_map f (x ∷ xs) (suc i) d = read_map f xs i d

shifted : {Y : Type 0} (f : ℕ → Y) (i n : ℕ) → map f (numbers_from (suc i) n) ≡ map (λ k. f (suc k)) (numbers_from i n)
shifted f i zero = refl
shifted f i (suc n) = ap (λ ys. f (suc i) ∷ ys) (shifted f (suc i) n)

from_zero : {Y : Type 0} (xs : List Y) (d : Y) → map (λ k. get_or xs k d) (numbers_from 0 (length xs)) ≡ xs
from_zero [] d = refl
from_zero (x ∷ xs) d = ap (λ ys. x ∷ ys) (shifted (λ k. get_or (x ∷ xs) k d) 0 (length xs) ∙ from_zero xs d)

less_one : (k : ℕ) → suc k - 1 ≡ k
less_one k = omega arith

-- the numbers of all of a list
pub all_numbered : {Y : Type 0} (xs : List Y) (d : Y) → map (λ k. get_or xs (k - 1) d) (numbers_from 1 (length xs)) ≡ xs
all_numbered xs d = shifted (λ k. get_or xs (k - 1) d) 0 (length xs) ∙ ap (λ (f : ℕ → _). map f (numbers_from 0 (length xs))) (λ i k. get_or xs (less_one k i) d) ∙ from_zero xs d

pub numbers_count : (i n : ℕ) → length (numbers_from i n) ≡ n
numbers_count i zero = refl
numbers_count i (suc n) = ap suc (numbers_count (suc i) n)

pub numbers_more : (i n : ℕ) (k : ℕ) → k ≡ i + n → numbers_from i n ++ k ∷ [] ≡ numbers_from i (n + 1)
numbers_more i n k e = go i n e ∙ ap (numbers_from i) (next n)
  where
    next : (n : ℕ) → suc n ≡ n + 1
    next n = omega arith

    go : (i n : ℕ) → k ≡ i + n → numbers_from i n ++ k ∷ [] ≡ numbers_from i (suc n)
    go i zero e = ap (λ j. j ∷ []) (let h : k ≡ i = omega (arith, e) in h)
    go i (suc n) e = ap (λ ks. i ∷ ks) (go (suc i) n (omega (arith, e)))

-- ---- rising numbers
pub rising_from : (i n high : ℕ) → high ≡ i + n → AreRising i high (numbers_from (suc i) n)
rising_from i zero high e = omega (arith, e)
rising_from i (suc n) high e = (omega arith, rising_from (suc i) n high (omega (arith, e)))

rising_below : (low low' high : ℕ) (ks : List ℕ) → low ≤ low' → AreRising low' high ks → AreRising low high ks
rising_below low low' high [] h w = let w' : low' ≤ high = w in omega (arith, h, w')
rising_below low low' high (k ∷ ks) h w = (let w' = w.0 in omega (arith, h, w'), w.1)

rising_top : (low high : ℕ) (ks : List ℕ) → AreRising low high ks → low + length ks ≤ high
rising_top low high [] w = let w' : low ≤ high = w in omega (arith, w')
rising_top low high (k ∷ ks) w = let h = rising_top k high ks w.1 in let g = w.0 in omega (arith, h, g)

pub rising_few : (high : ℕ) (ks : List ℕ) → AreRising 0 high ks → length ks ≤ high
rising_few high ks w = let h = rising_top 0 high ks w in omega (arith, h)

pub rising_numbers : (low high : ℕ) (ks : List ℕ) → AreRising low high ks → AreNumbers high ks
rising_numbers low high [] w = tt
rising_numbers low high (k ∷ ks) w = (let l = w.0 in omega (arith, l), (let h = rising_top k high ks w.1 in omega (arith, h)), rising_numbers k high ks w.1)

pub rising_filter : (P : ℕ → Bool) (low high : ℕ) (ks : List ℕ) → AreRising low high ks → AreRising low high (filter P ks)
rising_filter P low high [] w = w
rising_filter P low high (k ∷ ks) w = go (P k) (filter P ks) (rising_filter P k high ks w.1)
  where
    go : (b : Bool) (later : List ℕ) → AreRising k high later → AreRising low high (cond b (k ∷ later) later)
    go true later h = (w.0, h)
    go false later h = rising_below low k high later (let l = w.0 in omega (arith, l)) h

-- what is kept of rising numbers rises
rising_kept : (r : Ring) (column : ℕ → VectorOf r) (former later : List ℕ) (low high : ℕ) → AreRising low high later → (units left : ℕ) (kept : List ℕ)
    → Ends (trimmed_after r column former later units) kept left → AreRising low high kept
rising_kept r column former [] low high w units left kept e = subst (AreRising low high) (same_value [] kept units left e) w
rising_kept r column former (k ∷ later) low high w units left kept e =
    let test = λ (kept : List ℕ). spanned r (map column (former ++ kept)) (column k) >>= λ yes. ready (if yes then kept else k ∷ kept) in
    let b = bound (trimmed_after r column (former ++ k ∷ []) later) test units left kept e in
    let d = bound (spanned r (map column (former ++ b.value)) (column k)) (λ yes. ready (if yes then b.value else k ∷ b.value)) b.between left kept b.second in
    subst (AreRising low high) (same_value (if d.value then b.value else k ∷ b.value) kept d.between left d.second)
    (go d.value b.value (rising_kept r column (former ++ k ∷ []) later k high w.1 units b.between b.value b.first))
  where
    go : (inside : Bool) (ks : List ℕ) → AreRising k high ks → AreRising low high (if inside then ks else k ∷ ks)
    go true ks h = rising_below low k high ks (let l = w.0 in omega (arith, l)) h
    go false ks h = (w.0, h)

pub trim_rises : (r : Ring) (column : ℕ → VectorOf r) (ks : List ℕ) (low high : ℕ) → AreRising low high ks → (units left : ℕ) (kept : List ℕ) → Ends (trimmed r column ks units) kept left → AreRising low high kept
unfolding trimmed
trim_rises r column ks low high w units left kept e = rising_kept r column [] ks low high w units left kept e

-- ---- terms by numbers
module _ (r : Ring) (cs : List (VectorOf r)) where
  abbrev at : ℕ → VectorOf r
  at k = get_or cs (k - 1) []

  pub terms_numbered : (ts : List (List VTerm)) → ts ≡ map (terms_of r) cs → ◌≡◌ {A = ℕ → List VTerm} (λ k. get_or ts (k - 1) []) (λ k. terms_of r (at k))
  unfolding terms_of
  terms_numbered ts e = λ i k. (ap (λ us. get_or us (k - 1) []) e ∙ read_map (terms_of r) cs (k - 1) []) i

  pub all_terms : (ts : List (List VTerm)) (n : ℕ) → ts ≡ map (terms_of r) cs → n ≡ length cs → ts ≡ map (λ k. terms_of r (at k)) (numbers_from 1 n)
  all_terms ts n e count = e ∙ ap (map (terms_of r)) (sym (all_numbered cs [])) ∙ map-map (terms_of r) at (numbers_from 1 (length cs)) ∙ ap (λ m. map (λ k. terms_of r (at k)) (numbers_from 1 m)) (sym count)

-- ---- what trimmed columns are worth
module _ (r : Ring) (A : MatrixOf r) (long : AllLong r.prime r.vars A.rows A.columns) where
  abbrev numbers : List ℕ
  numbers = numbers_from 1 (length A.columns)

  all_columns : map (column_at r A) numbers ≡ A.columns
  all_columns = all_numbered A.columns []

  column_long : (k : ℕ) → In numbers k → length (column_at r A k) ≡ A.rows
  column_long k i = long (column_at r A k) (subst (λ vs. In vs (column_at r A k)) all_columns (in_map (column_at r A) i))

  module _ (units left : ℕ) (kept : List ℕ) (e : Ends (trimmed r (column_at r A) numbers units) kept left) where
    they : Trimmed r A.rows (column_at r A) [] numbers kept
    they = trimmed_is r A.rows (column_at r A) numbers column_long units left kept e

    own : (v : VectorOf r) → In (map (column_at r A) kept) v → Spanned r.prime r.vars A.rows A.columns v
    own v i = let x = in_kept kept (λ k j. they.part k j) v i in span_own r.prime r.vars A.rows r.order A.columns v x (long v x)
      where
        in_kept : (ks : List ℕ) → ((k : ℕ) → In ks k → In numbers k) → (v : VectorOf r) → In (map (column_at r A) ks) v → In A.columns v
        in_kept [] h v i = elim i [ ]
        in_kept (k ∷ ks) h v here = subst (λ vs. In vs (column_at r A k)) all_columns (in_map (column_at r A) (h k here))
        in_kept (k ∷ ks) h v (there i) = in_kept ks (λ x j. h x (there j)) v i

    others : (v : VectorOf r) → In A.columns v → Spanned r.prime r.vars A.rows (map (column_at r A) kept) v
    others v i = go numbers (λ k j. they.same k j) v (subst (λ vs. In vs v) (sym all_columns) i)
      where
        go : (ks : List ℕ) → ((k : ℕ) → In ks k → Spanned r.prime r.vars A.rows (map (column_at r A) kept) (column_at r A k)) → (v : VectorOf r) → In (map (column_at r A) ks) v
            → Spanned r.prime r.vars A.rows (map (column_at r A) kept) v
        go [] h v i = elim i [ ]
        go (k ∷ ks) h v here = h k here
        go (k ∷ ks) h v (there i) = go ks (λ x j. h x (there j)) v i

    pub kept_span_the_same : (v : VectorOf r) → InImage r.prime r.vars (columns_at r A kept) v ↔ InImage r.prime r.vars A v
    kept_span_the_same v = (
      span_within r.prime r.vars A.rows r.order (map (column_at r A) kept) A.columns own v,
      span_within r.prime r.vars A.rows r.order A.columns (map (column_at r A) kept) others v,
    )

    pub kept_are_free : (former later : List ℕ) (k : ℕ) → kept ≡ former ++ k ∷ later → ¬ (InImage r.prime r.vars (columns_at r A (former ++ later)) (column_at r A k))
    kept_are_free former later k is = they.free former later k is
