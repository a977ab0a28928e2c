-- Over GF(p) the p-th power of a polynomial is its twist
use Rattle.std.proofs.Common.{◌≡◌, ◌<◌, ℕ, zero, suc, ◌+◌, ◌-◌, ◌*◌, ◌^◌, ◌%◌, List, [], ◌∷◌, length, inl, inr, refl, ap, ap₂, sym, ◌∙◌, subst, arith, mul_comm}
use Rattle.std.proofs.Math.Nat.{mul-mod_right, zero-mod}
use Rattle.std.proofs.lemmas.Nat.{mul-mod_second}
use native.Mathlib.Nat.{pow-zero, pow-suc, mul-pos, zero-mul, add-mod-mod}
use Rattle.fm_tuple.specs.Tuple.{tuple_sum, tuple_multiple}
use Rattle.fm_tuple.proofs.Tuples.{length_tuple_multiple, tuple_multiple_one, tuple_multiple_product}
use Rattle.fm_gfp.specs.Primes.{prime_value}
use Rattle.fm_gfp.specs.declared.prime.Prime.{Prime}
use Rattle.fm_gfp.proofs.Residues.{fermat}
use Rattle.fm_algebra.specs.Ring.{Ring, IsRing}
use Rattle.fm_algebra.specs.Gf.{gf, Residue, same_residue, prime_positive}
use Rattle.fm_algebra.specs.Poly.{Poly, coeff, same_tuple, apart}
use Rattle.fm_algebra.specs.PolyRing.{poly}
use Rattle.fm_algebra.specs.Power.{power, repeated}
use Rattle.fm_algebra.specs.Monomial.{monomial, single}
use Rattle.fm_algebra.specs.Twist.{twist, twisted}
use Rattle.fm_algebra.proofs.Algebra.{mul_one}
use Rattle.fm_algebra.proofs.Gf.{gf_laws}
use Rattle.fm_algebra.proofs.Poly.{same_at_tuples}
use Rattle.fm_algebra.proofs.PolyRing.{coeff_zero, coeff_add, poly_laws}
use Rattle.fm_algebra.proofs.Slices.{twist_add, twist_zero}
use Rattle.fm_algebra.proofs.PolySlices.{poly_sliced}
use Rattle.fm_algebra.proofs.Twist.{coeff_twist, twisted_at, twisted_multiple}
use Rattle.fm_algebra.proofs.Monomial.{poly_induction, coeff_monomial, coeff_monomial_at, monomial_mul, single_same, single_other}
use Rattle.fm_algebra.proofs.Binomial.{power_sum, power_power, power_zero}

pub multiple_next : (k : ℕ) (a : List ℕ) → tuple_sum a (tuple_multiple k a) ≡ tuple_multiple (suc k) a
multiple_next k [] = refl
multiple_next k (i ∷ a) =
    let head : i + k * i ≡ suc k * i = omega arith in
    ap₂ (λ x y. x ∷ y) head (multiple_next k a)

module _ (K : Ring) (L : IsRing K) (is_zero : (c : K.Carrier) → Dec (c ≡ K.zero)) (n : ℕ) where
  open K use {Carrier, zero as 𝟘, one as 𝟙, add as ◌⊕◌, mul as ◌⊗◌, neg}

  infixl 60 ◌⊕◌
  infixl 70 ◌⊗◌
  abbrev P : Ring
  P = poly K is_zero n

  abbrev mono : K.Carrier → List ℕ → Poly K n
  mono c a = monomial K is_zero n c a

  -- additive maps that agree at monomials are equal
  pub additive_same : (φ ψ : Poly K n → Poly K n) → φ P.zero ≡ ψ P.zero
      → ((f g : Poly K n) → φ (P.add f g) ≡ P.add (φ f) (φ g)) → ((f g : Poly K n) → ψ (P.add f g) ≡ P.add (ψ f) (ψ g))
      → ((c : K.Carrier) (a : List ℕ) → length a ≡ n → φ (mono c a) ≡ ψ (mono c a)) → (f : Poly K n) → φ f ≡ ψ f
  additive_same φ ψ at_zero φ_add ψ_add at_mono f =
      poly_induction K L is_zero n (λ f. φ f ≡ ψ f) at_zero
      (λ c a f l e. φ_add (mono c a) f ∙ ap₂ P.add (at_mono c a l) e ∙ sym (ψ_add (mono c a) f)) f

  pub power_monomial : (k : ℕ) (c : K.Carrier) (a : List ℕ) → length a ≡ n → power P (suc k) (mono c a) ≡ mono (power K (suc k) c) (tuple_multiple (suc k) a)
  unfolding power
  power_monomial zero c a l = mul_one (poly_laws K L is_zero n) (mono c a) ∙ ap₂ mono (sym (mul_one L c)) (sym (tuple_multiple_one a))
  power_monomial (suc k) c a l =
      ap (P.mul (mono c a)) (power_monomial k c a l)
      ∙ monomial_mul K L is_zero n c (power K (suc k) c) a (tuple_multiple (suc k) a) l (length_tuple_multiple (suc k) a ∙ l)
      ∙ ap (mono (power K (suc (suc k)) c)) (multiple_next (suc k) a)

  pub twist_monomial : (q : ℕ) → 0 < q → (c : K.Carrier) (a : List ℕ) → length a ≡ n → twist K is_zero n q (mono c a) ≡ mono c (tuple_multiple q a)
  twist_monomial q pos c a l = same_at_tuples K is_zero n _ _ (λ e k.
      ap (λ h. h e) (coeff_twist K is_zero n q (mono c a)) ∙ ap (λ h. twisted K q h e) (coeff_monomial K L is_zero n c a l)
      ∙ elim (same_tuple e (tuple_multiple q a)) [
        | inl s ↦ ap (twisted K q (single K c a)) s.0 ∙ twisted_multiple K q pos (single K c a) a ∙ single_same K c a ∙ sym (ap (single K c (tuple_multiple q a)) s.0 ∙ single_same K c (tuple_multiple q a))
        | inr w ↦ off e (apart e (tuple_multiple q a) w) ∙ sym (single_other K c (tuple_multiple q a) e (apart e (tuple_multiple q a) w))
      ]
      ∙ sym (coeff_monomial_at K L is_zero n c (tuple_multiple q a) e k))
    where
      off : (e : List ℕ) → ¬ (e ≡ tuple_multiple q a) → twisted K q (single K c a) e ≡ 𝟘
      off e w = elim (twisted_at K q (single K c a) e) [
        | inl z ↦ z
        | inr t ↦ t.2 ∙ single_other K c a t.0 (λ s. w (t.1 ∙ ap (tuple_multiple q) s))
      ]

  module _ (q : ℕ) (pos : 0 < q) where
    pub twist_sum : (f g : Poly K n) → twist K is_zero n q (P.add f g) ≡ P.add (twist K is_zero n q f) (twist K is_zero n q g)
    twist_sum f g = twist_add (poly_laws K L is_zero n) (poly_sliced K L is_zero n q pos) f g

    pub twist_of_zero : twist K is_zero n q P.zero ≡ P.zero
    twist_of_zero = twist_zero (poly_laws K L is_zero n) (poly_sliced K L is_zero n q pos)

  pub twist_by_one : (f : Poly K n) → twist K is_zero n 1 f ≡ f
  twist_by_one f = additive_same (twist K is_zero n 1) (λ f. f) (twist_of_zero 1 pos) (twist_sum 1 pos) (λ f g. refl)
      (λ c a l. twist_monomial 1 pos c a l ∙ ap (mono c) (tuple_multiple_one a)) f
    where
      pos : 0 < 1
      pos = omega arith

  pub twist_twist : (q r : ℕ) → 0 < q → 0 < r → (f : Poly K n) → twist K is_zero n q (twist K is_zero n r f) ≡ twist K is_zero n (q * r) f
  twist_twist q r q_pos r_pos f =
      let pos : 0 < q * r = mul-pos q_pos r_pos in
      additive_same (λ f. twist K is_zero n q (twist K is_zero n r f)) (twist K is_zero n (q * r))
      (ap (twist K is_zero n q) (twist_of_zero r r_pos) ∙ twist_of_zero q q_pos ∙ sym (twist_of_zero (q * r) pos))
      (λ f g. ap (twist K is_zero n q) (twist_sum r r_pos f g) ∙ twist_sum q q_pos _ _) (twist_sum (q * r) pos)
      (λ c a l. ap (twist K is_zero n q) (twist_monomial r r_pos c a l) ∙ twist_monomial q q_pos c (tuple_multiple r a) (length_tuple_multiple r a ∙ l)
      ∙ ap (mono c) (sym (tuple_multiple_product q r a)) ∙ sym (twist_monomial (q * r) pos c a l)) f

  pub coeff_repeated : (k : ℕ) (f : Poly K n) (a : List ℕ) → coeff (repeated P k f) a ≡ repeated K k (coeff f a)
  unfolding repeated
  coeff_repeated zero f a = ap (λ h. h a) (coeff_zero K L is_zero n)
  coeff_repeated (suc k) f a = ap (λ h. h a) (coeff_add K L is_zero n f (repeated P k f)) ∙ ap (λ x. coeff f a ⊕ x) (coeff_repeated k f a)

-- ---- over GF(p)
pub power_positive : (p : ℕ) → 0 < p → (e : ℕ) → 0 < p ^ e
power_positive p pos zero = subst (λ x. 0 < x) (sym (pow-zero p)) (omega arith)
power_positive p pos (suc e) = subst (λ x. 0 < x) (sym (pow-suc p e)) (mul-pos (power_positive p pos e) pos)

module _ (p : Prime) where
  number_repeated : (k : ℕ) (c : Residue (prime_value p)) → (repeated (gf p) k c).number ≡ k * c.number % prime_value p
  unfolding repeated
  number_repeated zero c = ap (λ x. x % prime_value p) (sym (zero-mul c.number))
  number_repeated (suc k) c =
      let next : c.number + k * c.number ≡ suc k * c.number = omega arith in
      ap (λ x. (c.number + x) % prime_value p) (number_repeated k c) ∙ add-mod-mod c.number (k * c.number) (prime_value p) ∙ ap (λ x. x % prime_value p) next

  number_power : (k : ℕ) (c : Residue (prime_value p)) → (power (gf p) k c).number ≡ c.number ^ k % prime_value p
  unfolding power
  number_power zero c = ap (λ x. x % prime_value p) (sym (pow-zero c.number))
  number_power (suc k) c =
      ap (λ x. c.number * x % prime_value p) (number_power k c) ∙ mul-mod_second c.number (c.number ^ k) (prime_value p)
      ∙ ap (λ x. x % prime_value p) (mul_comm c.number (c.number ^ k) ∙ sym (pow-suc c.number k))

  pub gf_char : (c : Residue (prime_value p)) → repeated (gf p) (prime_value p) c ≡ (gf p).zero
  gf_char c = same_residue _ _ (number_repeated (prime_value p) c ∙ mul-mod_right (prime_value p) c.number ∙ sym (zero-mod (prime_value p)))

  -- c ^ p = c
  pub gf_fermat : (c : Residue (prime_value p)) → power (gf p) (prime_value p) c ≡ c
  gf_fermat c = same_residue _ _ (number_power (prime_value p) c ∙ fermat p c.number c.below)

module _ (p : Prime) (is_zero : (c : Residue (prime_value p)) → Dec (c ≡ (gf p).zero)) (n : ℕ) where
  abbrev Q : Ring
  Q = poly (gf p) is_zero n

  poly_char : (f : Poly (gf p) n) → repeated Q (prime_value p) f ≡ Q.zero
  poly_char f = same_at_tuples (gf p) is_zero n _ _ (λ a l. coeff_repeated (gf p) (gf_laws p) is_zero n (prime_value p) f a ∙ gf_char p (coeff f a) ∙ sym (ap (λ h. h a) (coeff_zero (gf p) (gf_laws p) is_zero n)))

  from_one : (k : ℕ) → 0 < k → k ≡ suc (k - 1)
  from_one k h = omega arith

  power_of_zero : (k : ℕ) → prime_value p ≡ suc k → power Q (prime_value p) Q.zero ≡ Q.zero
  power_of_zero k e = ap (λ x. power Q x Q.zero) e ∙ power_zero (poly_laws (gf p) (gf_laws p) is_zero n) k

  power_of_monomial : (k : ℕ) → prime_value p ≡ suc k → (c : Residue (prime_value p)) (a : List ℕ) → length a ≡ n
      → power Q (prime_value p) (monomial (gf p) is_zero n c a) ≡ monomial (gf p) is_zero n c (tuple_multiple (prime_value p) a)
  power_of_monomial k e c a l =
      ap (λ x. power Q x (monomial (gf p) is_zero n c a)) e ∙ power_monomial (gf p) (gf_laws p) is_zero n k c a l
      ∙ ap (λ x. monomial (gf p) is_zero n (power (gf p) x c) (tuple_multiple x a)) (sym e)
      ∙ ap (λ x. monomial (gf p) is_zero n x (tuple_multiple (prime_value p) a)) (gf_fermat p c)

  -- f ^ p = f ^[p]
  pub frobenius : (f : Poly (gf p) n) → power Q (prime_value p) f ≡ twist (gf p) is_zero n (prime_value p) f
  frobenius f =
      let one_more : prime_value p ≡ suc (prime_value p - 1) = from_one (prime_value p) (prime_positive p) in
      additive_same (gf p) (gf_laws p) is_zero n (power Q (prime_value p)) (twist (gf p) is_zero n (prime_value p))
      (power_of_zero (prime_value p - 1) one_more ∙ sym (twist_of_zero (gf p) (gf_laws p) is_zero n (prime_value p) (prime_positive p)))
      (power_sum (poly_laws (gf p) (gf_laws p) is_zero n) p poly_char)
      (twist_sum (gf p) (gf_laws p) is_zero n (prime_value p) (prime_positive p))
      (λ c a l. power_of_monomial (prime_value p - 1) one_more c a l ∙ sym (twist_monomial (gf p) (gf_laws p) is_zero n (prime_value p) (prime_positive p) c a l)) f

  -- f ^ q = f ^[q] for q = p ^ e
  pub frobenius_power : (e : ℕ) (f : Poly (gf p) n) → power Q (prime_value p ^ e) f ≡ twist (gf p) is_zero n (prime_value p ^ e) f
  unfolding power
  frobenius_power zero f =
      ap (λ x. power Q x f) (pow-zero (prime_value p)) ∙ mul_one (poly_laws (gf p) (gf_laws p) is_zero n) f
      ∙ sym (ap (λ x. twist (gf p) is_zero n x f) (pow-zero (prime_value p)) ∙ twist_by_one (gf p) (gf_laws p) is_zero n f)
  frobenius_power (suc e) f =
      let q = prime_value p ^ e in
      ap (λ x. power Q x f) (pow-suc (prime_value p) e)
      ∙ power_power (poly_laws (gf p) (gf_laws p) is_zero n) q (prime_value p) f
      ∙ ap (power Q q) (frobenius f) ∙ frobenius_power e (twist (gf p) is_zero n (prime_value p) f)
      ∙ twist_twist (gf p) (gf_laws p) is_zero n q (prime_value p) (power_positive (prime_value p) (prime_positive p) e) (prime_positive p) f
      ∙ ap (λ x. twist (gf p) is_zero n x f) (sym (pow-suc (prime_value p) e))
