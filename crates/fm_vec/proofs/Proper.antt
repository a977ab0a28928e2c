-- Sums, multiples, monic vectors and twists of vectors are vectors
use Rattle.std.proofs.Common.{ℕ, ◌+◌, ◌-◌, ◌*◌, ◌^◌, ◌%◌, ◌==◌, ◌<◌, ◌≤◌, ◌≡◌, inl, inr, Bool, true, false, if◌then◌else◌, List, [], ◌∷◌, ◌++◌, length, refl, sym, ap, ap₂, ◌∙◌, subst, arith, max, Some, None, mod-eq_of_lt, eq-zero-or-pos, pow-add}
use Rattle.std.proofs.Math.Nat.{mod-lt, pow-suc, pow-zero}
use Rattle.std.proofs.lemmas.Nat.{mul-mod_first, mul-mod_second}
use Rattle.std.proofs.lemmas.Bool.Decides.{nat_tests}
use Rattle.std.specs.declared.cmp.Ordering.{Ordering}
use Rattle.std.specs.declared.cmp.Ordering.TheVariants.{Less, Equal, Greater}
use Rattle.fm_tuple.specs.Tuple.{tuple_difference, tuple_maximum, tuple_multiple, TupleDivides}
use Rattle.fm_tuple.proofs.TupleEntries.{length_entrywise}
use Rattle.fm_tuple.proofs.Tuples.{length_tuple_sum, length_tuple_multiple}
use Rattle.fm_mono.specs.Bounded.{bounded, is_bounded}
use Rattle.fm_gfp.specs.Primes.{prime_value}
use Rattle.fm_gfp.specs.declared.prime.Prime.{Prime}
use Rattle.fm_gfp.proofs.Residues.{prime_positive, prime_above_one, no_zero_divisors, fermat}
use Rattle.fm_poly.specs.declared.ring.Ring.{Ring}
use Rattle.fm_term.specs.declared.vterm.VTerm.{VTerm}
use Rattle.fm_term.specs.Places.{term_cmp, AllBelow, Falls}
use Rattle.fm_term.specs.Multiples.{multiple_term, multiple, scaled, twisted}
use Rattle.fm_vec.specs.Multiples.{negated, sum_term, put_at, put, plus_multiple, cofactor, s_vector_of, monic_of}
use Rattle.fm_term.specs.Falling.{IsTerm, AreTerms, AreWithin, head_of}
use Rattle.fm_vec.specs.Vectors.{HaveSVector, IsVector}
use Rattle.fm_term.proofs.Places.{place_twist}
use Rattle.fm_vec.proofs.Adding.{plus_falls, multiple_falls}

-- ---- coefficients
pub product_positive : (p : Prime) (a b : ℕ) → 0 < a → a < prime_value p → 0 < b → b < prime_value p → 0 < (a * b) % prime_value p
product_positive p a b a_some a_below b_some b_below =
    elim (eq-zero-or-pos ((a * b) % prime_value p)) [
      | inl z ↦ elim (no_zero_divisors p a b a_below b_below z) [ inl e ↦ absurd (omega arith) | inr e ↦ absurd (omega arith) ]
      | inr pos ↦ pos
    ]

pub negated_positive : (r : Ring) (c : ℕ) → 0 < c → c < prime_value r.prime → 0 < negated r c
negated_positive r c some below =
    let less : prime_value r.prime - c < prime_value r.prime = omega arith in
    let same : (prime_value r.prime - c) % prime_value r.prime ≡ prime_value r.prime - c = mod-eq_of_lt less in
    omega arith

squared : (a : ℕ) → a ^ 2 ≡ a * a
squared a = pow-suc a 1 ∙ ap (λ z. z * a) (pow-suc a 0 ∙ ap (λ z. z * a) (pow-zero a) ∙ one_times a)
  where
    one_times : (a : ℕ) → 1 * a ≡ a
    one_times a = omega arith

regrouped : (k a x : ℕ) → (k * (a * a)) * (x * x) ≡ k * ((a * x) * (a * x))
regrouped k a x = omega arith

-- the inverse is the power by p - 2
pub inverse_is : (p : Prime) (a x : ℕ) → 0 < a → a < prime_value p → x < prime_value p → (a * x) % prime_value p ≡ 1 → x ≡ a ^ (prime_value p - 2) % prime_value p
inverse_is p a x some below x_below one =
    sym (mod-eq_of_lt x_below) ∙ ap (λ z. z % m) unit ∙ ap (λ z. (z * x) % m) (sym one) ∙ mul-mod_first (a * x) x m ∙ ap (λ z. z % m) regroup
    ∙ ap (λ z. (z * (x * x)) % m) (sym (fermat p a below)) ∙ mul-mod_first (a ^ m) (x * x) m ∙ ap (λ z. (z * (x * x)) % m) power
    ∙ ap (λ z. z % m) spread ∙ sym (mul-mod_second k ((a * x) * (a * x)) m) ∙ ap (λ z. (k * z) % m) square ∙ mul-mod_second k 1 m ∙ ap (λ z. z % m) last
  where
    m : ℕ
    m = prime_value p

    k : ℕ
    k = a ^ (prime_value p - 2)

    unit : x ≡ 1 * x
    unit = omega arith

    regroup : (a * x) * x ≡ a * (x * x)
    regroup = omega arith

    whole : prime_value p ≡ (prime_value p - 2) + 2
    whole = let above = prime_above_one p in omega arith

    power : a ^ prime_value p ≡ a ^ (prime_value p - 2) * (a ^ 2)
    power = ap (λ n. a ^ n) whole ∙ pow-add a (prime_value p - 2) 2

    spread : (a ^ (prime_value p - 2) * (a ^ 2)) * (x * x) ≡ a ^ (prime_value p - 2) * ((a * x) * (a * x))
    spread = ap (λ z. (a ^ (prime_value p - 2) * z) * (x * x)) (squared a) ∙ regrouped (a ^ (prime_value p - 2)) a x

    one_times : (y : ℕ) → 1 * y ≡ y
    one_times y = omega arith

    square : ((a * x) * (a * x)) % prime_value p ≡ 1 % prime_value p
    square = sym (mul-mod_first (a * x) (a * x) m) ∙ ap (λ z. (z * (a * x)) % m) one ∙ ap (λ z. z % m) (one_times (a * x)) ∙ one ∙ sym (mod-eq_of_lt (prime_above_one p))

    last : a ^ (prime_value p - 2) * 1 ≡ a ^ (prime_value p - 2)
    last = omega arith

-- ---- terms
pub bounded_is : (a m : List ℕ) → bounded a ≡ Some m → m ≡ a
bounded_is a m e = go (is_bounded a) e
  where
    go : (b : Bool) → (if b then Some a else None) ≡ Some m → m ≡ a
    go true h = cc
    go false h = cc

pub times_is_term : (r : Ring) (d : ℕ) (m : List ℕ) (t : VTerm) → 0 < d → d < prime_value r.prime → length m ≡ r.vars → IsTerm r.prime r.vars t → IsTerm r.prime r.vars (multiple_term r.prime d m t)
times_is_term r d m t some below l term = record {
  fits = length_tuple_sum m t.mono (l ∙ sym term.fits) ∙ l;
  positive = product_positive r.prime d t.coeff some below term.positive term.below;
  below = mod-lt (d * t.coeff) (prime_positive r.prime);
}

pub multiple_terms : (r : Ring) (d : ℕ) (m : List ℕ) (g : List VTerm) → 0 < d → d < prime_value r.prime → length m ≡ r.vars → AreTerms r.prime r.vars g → AreTerms r.prime r.vars (multiple r.prime d m g)
multiple_terms r d m [] some below l w = tt
multiple_terms r d m (t ∷ g) some below l w = (times_is_term r d m t some below l w.0, multiple_terms r d m g some below l w.1)

sum_terms : (r : Ring) (t u : VTerm) (us : List VTerm) → IsTerm r.prime r.vars t → AreTerms r.prime r.vars us → AreTerms r.prime r.vars (sum_term r u t ++ us)
sum_terms r t u us term w = go ((u.coeff + t.coeff) % prime_value r.prime == 0) refl
  where
    go : (b : Bool) → ((u.coeff + t.coeff) % prime_value r.prime == 0) ≡ b
        → AreTerms r.prime r.vars ((if b then [] else record { component = t.component; mono = t.mono; coeff = (u.coeff + t.coeff) % prime_value r.prime } ∷ []) ++ us)
    go true e = w
    go false e = (record { fits = term.fits; positive = some ((u.coeff + t.coeff) % prime_value r.prime) e; below = mod-lt (u.coeff + t.coeff) (prime_positive r.prime) }, w)
      where
        some : (c : ℕ) → (c == 0) ≡ false → 0 < c
        some c e = grind (arith, nat_tests)

pub put_terms : (r : Ring) (t : VTerm) (us : List VTerm) → IsTerm r.prime r.vars t → AreTerms r.prime r.vars us → AreTerms r.prime r.vars (put r t us)
put_terms r t [] term w = (term, tt)
put_terms r t (u ∷ us) term w = go (term_cmp r.order u t) (put_terms r t us term w.1)
  where
    go : (c : Ordering) → AreTerms r.prime r.vars (put r t us) → AreTerms r.prime r.vars (put_at r t u us (put r t us) c)
    go Less later = (term, w)
    go Equal later = sum_terms r t u us term w.1
    go Greater later = (w.0, later)

pub plus_terms : (r : Ring) (d : ℕ) (m : List ℕ) (g f : List VTerm) → 0 < d → d < prime_value r.prime → length m ≡ r.vars → AreTerms r.prime r.vars g → AreTerms r.prime r.vars f → AreTerms r.prime r.vars (plus_multiple r d m g f)
plus_terms r d m [] f some below l w v = v
plus_terms r d m (t ∷ g) f some below l w v =
    put_terms r (multiple_term r.prime d m t) (plus_multiple r d m g f) (times_is_term r d m t some below l w.0) (plus_terms r d m g f some below l w.1 v)

-- ---- the least common multiple
pub divides_maximum : (a b : List ℕ) → length a ≡ length b → TupleDivides a (tuple_maximum a b)
divides_maximum [] b l = tt
divides_maximum (i ∷ a) [] l = absurd (omega arith)
divides_maximum (i ∷ a) (j ∷ b) l = (left_le i j, divides_maximum a b (omega arith))
  where
    left_le : (i j : ℕ) → i ≤ max i j
    left_le i j = omega arith

pub length_maximum : (a b : List ℕ) → length a ≡ length b → length (tuple_maximum a b) ≡ length a
length_maximum a b l = length_entrywise max a b l

pub length_cofactor : (a b : List ℕ) → length a ≡ length b → length (tuple_difference (tuple_maximum a b) a) ≡ length a
length_cofactor a b l = length_entrywise ◌-◌ (tuple_maximum a b) a (length_maximum a b l) ∙ length_maximum a b l

-- ---- components
pub put_within : (r : Ring) (n : ℕ) (t : VTerm) (us : List VTerm) → 1 ≤ t.component → t.component ≤ n → AreWithin n us → AreWithin n (put r t us)
put_within r n t [] low high w = (low, high, tt)
put_within r n t (u ∷ us) low high w = go (term_cmp r.order u t) (put_within r n t us low high w.2)
  where
    summed : (b : Bool) → AreWithin n ((if b then [] else record { component = t.component; mono = t.mono; coeff = (u.coeff + t.coeff) % prime_value r.prime } ∷ []) ++ us)
    summed true = w.2
    summed false = (low, high, w.2)

    go : (c : Ordering) → AreWithin n (put r t us) → AreWithin n (put_at r t u us (put r t us) c)
    go Less later = (low, high, w)
    go Equal later = summed ((u.coeff + t.coeff) % prime_value r.prime == 0)
    go Greater later = (w.0, w.1, later)

pub plus_within : (r : Ring) (n d : ℕ) (m : List ℕ) (g f : List VTerm) → AreWithin n g → AreWithin n f → AreWithin n (plus_multiple r d m g f)
plus_within r n d m [] f w v = v
plus_within r n d m (t ∷ g) f w v = put_within r n (multiple_term r.prime d m t) (plus_multiple r d m g f) w.0 w.1 (plus_within r n d m g f w.2 v)

pub multiple_within : (r : Ring) (n d : ℕ) (m : List ℕ) (g : List VTerm) → AreWithin n g → AreWithin n (multiple r.prime d m g)
multiple_within r n d m [] w = tt
multiple_within r n d m (t ∷ g) w = (w.0, w.1, multiple_within r n d m g w.2)

-- ---- vectors
module _ (r : Ring) (n : ℕ) where
  pub plus_vector : (d : ℕ) (m : List ℕ) (g f : List VTerm) → 0 < d → d < prime_value r.prime → length m ≡ r.vars → IsVector r n g → IsVector r n f → IsVector r n (plus_multiple r d m g f)
  plus_vector d m g f some below l v w = record {
    falls = plus_falls r d m g f w.falls;
    proper = plus_terms r d m g f some below l v.proper w.proper;
    within = plus_within r n d m g f v.within w.within;
  }

  pub multiple_vector : (d : ℕ) (m : List ℕ) (g : List VTerm) → 0 < d → d < prime_value r.prime → length m ≡ r.vars → IsVector r n g → IsVector r n (multiple r.prime d m g)
  multiple_vector d m g some below l v = record {
    falls = multiple_falls r d m g l v.proper v.falls;
    proper = multiple_terms r d m g some below l v.proper;
    within = multiple_within r n d m g v.within;
  }

  pub s_vector_is : (f g : List VTerm) → HaveSVector f g → IsVector r n f → IsVector r n g → IsVector r n (s_vector_of r f g)
  s_vector_is [] g h v w = absurd h
  s_vector_is (t ∷ ts) [] h v w = absurd h
  s_vector_is (t ∷ ts) (u ∷ us) h v w =
      let same : length t.mono ≡ length u.mono = v.proper.0.fits ∙ sym w.proper.0.fits in
      plus_vector (negated r 1) (cofactor u t) (u ∷ us) (multiple r.prime 1 (cofactor t u) (t ∷ ts))
      (negated_positive r 1 (omega arith) (prime_above_one r.prime)) (mod-lt (prime_value r.prime - 1) (prime_positive r.prime))
      (length_cofactor u.mono t.mono (sym same) ∙ w.proper.0.fits) w
      (multiple_vector 1 (cofactor t u) (t ∷ ts) (omega arith) (prime_above_one r.prime) (length_cofactor t.mono u.mono same ∙ v.proper.0.fits) v)

  -- ---- multiples by a number
  below_scaled : (c : ℕ) (y : VTerm) (ts : List VTerm) → AllBelow r.order y ts
      → AllBelow r.order (record { component = y.component; mono = y.mono; coeff = (c * y.coeff) % prime_value r.prime }) (scaled r.prime c ts)
  below_scaled c y [] w = tt
  below_scaled c y (t ∷ ts) w = (w.0, below_scaled c y ts w.1)

  scaled_falls : (c : ℕ) (ts : List VTerm) → Falls r.order ts → Falls r.order (scaled r.prime c ts)
  scaled_falls c [] w = tt
  scaled_falls c (t ∷ ts) w = (below_scaled c t ts w.0, scaled_falls c ts w.1)

  scaled_terms : (c : ℕ) (ts : List VTerm) → 0 < c → c < prime_value r.prime → AreTerms r.prime r.vars ts → AreTerms r.prime r.vars (scaled r.prime c ts)
  scaled_terms c [] some below w = tt
  scaled_terms c (t ∷ ts) some below w = (
    record {
      fits = w.0.fits;
      positive = product_positive r.prime c t.coeff some below w.0.positive w.0.below;
      below = mod-lt (c * t.coeff) (prime_positive r.prime);
    },
    scaled_terms c ts some below w.1,
  )

  scaled_within : (c : ℕ) (ts : List VTerm) → AreWithin n ts → AreWithin n (scaled r.prime c ts)
  scaled_within c [] w = tt
  scaled_within c (t ∷ ts) w = (w.0, w.1, scaled_within c ts w.2)

  pub scaled_vector : (c : ℕ) (ts : List VTerm) → 0 < c → c < prime_value r.prime → IsVector r n ts → IsVector r n (scaled r.prime c ts)
  scaled_vector c ts some below v = record {
    falls = scaled_falls c ts v.falls;
    proper = scaled_terms c ts some below v.proper;
    within = scaled_within c ts v.within;
  }

  -- ---- twists
  module _ (q : ℕ) (positive : 0 < q) where
    below_twisted : (y : VTerm) (ts : List VTerm) → AllBelow r.order y ts
        → AllBelow r.order (record { component = y.component; mono = tuple_multiple q y.mono; coeff = y.coeff }) (twisted q ts)
    below_twisted y [] w = tt
    below_twisted y (t ∷ ts) w = (place_twist r.order q t y positive ∙ w.0, below_twisted y ts w.1)

    twisted_falls : (ts : List VTerm) → Falls r.order ts → Falls r.order (twisted q ts)
    twisted_falls [] w = tt
    twisted_falls (t ∷ ts) w = (below_twisted t ts w.0, twisted_falls ts w.1)

  twisted_terms : (q : ℕ) (ts : List VTerm) → AreTerms r.prime r.vars ts → AreTerms r.prime r.vars (twisted q ts)
  twisted_terms q [] w = tt
  twisted_terms q (t ∷ ts) w = (record { fits = length_tuple_multiple q t.mono ∙ w.0.fits; positive = w.0.positive; below = w.0.below }, twisted_terms q ts w.1)

  twisted_within : (q : ℕ) (ts : List VTerm) → AreWithin n ts → AreWithin n (twisted q ts)
  twisted_within q [] w = tt
  twisted_within q (t ∷ ts) w = (w.0, w.1, twisted_within q ts w.2)

  pub twisted_vector : (q : ℕ) (ts : List VTerm) → 0 < q → IsVector r n ts → IsVector r n (twisted q ts)
  twisted_vector q ts positive v = record {
    falls = twisted_falls q positive ts v.falls;
    proper = twisted_terms q ts v.proper;
    within = twisted_within q ts v.within;
  }

-- ---- what the code made
pub moved_vector : {r s : Ring} {n k : ℕ} {ts us : List VTerm} → r ≡ s → n ≡ k → ts ≡ us → IsVector r n ts → IsVector s k us
moved_vector {r} {s} {n} {k} {ts} {us} er en et v = subst (λ x. IsVector x k us) er (subst (λ x. IsVector r x us) en (subst (λ x. IsVector r n x) et v))

pub plus_made : (d : ℕ) (m : List ℕ) {r s q : Ring} {n k l : ℕ} {g f x y out : List VTerm} → s ≡ r → k ≡ n → q ≡ r → l ≡ n
    → out ≡ plus_multiple s d m x y → x ≡ g → y ≡ f → 0 < d → d < prime_value r.prime → length m ≡ r.vars → IsVector q l g → IsVector r n f → IsVector s k out
plus_made d m {r} {s} {q} {n} {k} {l} {g} {f} {x} {y} {out} es ek eq el eo ex ey some below vars v w =
    moved_vector (sym es) (sym ek) (ap (λ z. plus_multiple z d m g f) (sym es) ∙ ap₂ (λ a b. plus_multiple s d m a b) (sym ex) (sym ey) ∙ sym eo)
    (plus_vector r n d m g f some below vars (moved_vector eq el refl v) w)

pub s_vector_made : {r s q : Ring} {n k l : ℕ} {g f x y out : List VTerm} → s ≡ r → k ≡ n → q ≡ r → l ≡ n
    → out ≡ s_vector_of s x y → x ≡ f → y ≡ g → HaveSVector f g → IsVector r n f → IsVector q l g → IsVector s k out
s_vector_made {r} {s} {q} {n} {k} {l} {g} {f} {x} {y} {out} es ek eq el eo ex ey heads v w =
    moved_vector (sym es) (sym ek) (ap (λ z. s_vector_of z f g) (sym es) ∙ ap₂ (λ a b. s_vector_of s a b) (sym ex) (sym ey) ∙ sym eo)
    (s_vector_is r n f g heads v (moved_vector eq el refl w))

-- the inverse of the head's coefficient makes monic
pub monic_from : (r : Ring) (ts : List VTerm) (h : VTerm) (x : ℕ) → Some h ≡ head_of ts → AreTerms r.prime r.vars ts → (h.coeff * x) % prime_value r.prime ≡ 1 → x < prime_value r.prime
    → scaled r.prime x ts ≡ monic_of r ts
monic_from r [] h x e w one below = cc
monic_from r (t ∷ ts) h x e w one below =
    let same : h ≡ t = cc in
    let one_at : (t.coeff * x) % prime_value r.prime ≡ 1 = ap (λ (v : VTerm). (v.coeff * x) % prime_value r.prime) (sym same) ∙ one in
    ap (λ c. scaled r.prime c (t ∷ ts)) (inverse_is r.prime t.coeff x w.0.positive w.0.below below one_at)

-- ---- heads
pub not_empty : (ts : List VTerm) (t : VTerm) → Some t ≡ head_of ts → ts ≡ [] → ⊥
not_empty [] t e none = cc
not_empty (u ∷ ts) t e none = cc

pub have_s_vector : (f g : List VTerm) (t u : VTerm) → Some t ≡ head_of f → Some u ≡ head_of g → t.coeff ≡ 1 → u.coeff ≡ 1 → t.component ≡ u.component → HaveSVector f g
have_s_vector [] g t u ef eg ct cu c = cc
have_s_vector (x ∷ f) [] t u ef eg ct cu c = cc
have_s_vector (x ∷ f) (y ∷ g) t u ef eg ct cu c =
    let left : t ≡ x = cc in
    let right : u ≡ y = cc in
    (ap (λ (v : VTerm). v.coeff) (sym left) ∙ ct, ap (λ (v : VTerm). v.coeff) (sym right) ∙ cu, ap (λ (v : VTerm). v.component) (sym left) ∙ c ∙ ap (λ (v : VTerm). v.component) right)
