-- What an entry adds to a replay that is kept.
use Rattle.std.proofs.Common.{ℕ, ◌+◌, ◌*◌, ◌%◌, ◌<◌, ◌^◌, ◌≡◌, ◌≢◌, nat_eq, ◌==◌, ◌||◌, ◌&&◌, cond, Bool, true, false, List, [], ◌∷◌, ◌++◌, length, Option, Some, None, refl, sym, ap, ap₂, ◌∙◌, subst, arith}
use Rattle.std.proofs.lemmas.Cmp.{nat_eq_equiv}
use Rattle.std.specs.Cmp.{unsigned_tied}
use Rattle.std.specs.List.{list_any}
use Rattle.std.specs.Ordering.{nat_cmp, ordering_then, is_eq}
use Rattle.std.specs.BTreeMap.{is_at}
use Rattle.std.specs.declared.cmp.Ordering.{Ordering}
use Rattle.std.specs.declared.cmp.Ordering.TheVariants.{Less, Equal, Greater}
use Rattle.fm_gfp.specs.Primes.{prime_value}
use Rattle.fm_poly.specs.declared.ring.Ring.{Ring}
use Rattle.fm_term.specs.declared.vterm.VTerm.{VTerm}
use Rattle.fm_term.specs.Falling.{IsMonic, head_of}
use Rattle.fm_vec.specs.Vectors.{VectorValue, IsVector}
use Rattle.fm_vec.specs.Multiples.{inverse_of, monic_of}
use Rattle.fm_complete.specs.Divisions.{AreMembers, terms_of}
use Rattle.fm_complete.specs.Standing.{AreOfShape, AreMonicMembers}
use Rattle.fm_complete.proofs.Cancelling.{inverse_one}
use Rattle.fm_complete.proofs.Standing.{terms_more}
use Rattle.fm_parts.specs.Replays.{Replay, is_taken, is_treated}
use Rattle.fm_replay.specs.Kept.{AreNumbered, Keeps, IsNextMember, with_member, after_input, after_pair}

-- ---- monic rests
pub monic_rest : (r : Ring) (rows : ℕ) (ts : List VTerm) (t : VTerm) → Some t ≡ head_of ts → IsVector r rows ts → IsMonic (monic_of r ts)
monic_rest r rows [] t e v = cc
monic_rest r rows (u ∷ us) t e v = ap (λ x. x % prime_value r.prime) (swap (inverse_of r u.coeff) u.coeff) ∙ inverse_one r u.coeff v.proper.0.positive v.proper.0.below
  where
    swap : (a b : ℕ) → a * b ≡ b * a
    swap a b = omega arith

pub next_member : (r : Ring) (rows : ℕ) (ts : List VTerm) (t : VTerm) → Some t ≡ head_of ts → IsVector r rows ts → (v : VectorValue) → v ≡ record { ring = r; rows = rows; terms = monic_of r ts }
    → (v.ring ≡ r) × (v.rows ≡ rows) × IsMonic v.terms
next_member r rows ts t e w v is =
    (ap (λ (x : VectorValue). x.ring) is, ap (λ (x : VectorValue). x.rows) is, subst (λ (x : VectorValue). IsMonic x.terms) (sym is) (monic_rest r rows ts t e w))

-- ---- one member more
shape_more : (r : Ring) (rows : ℕ) (vs : List VectorValue) (v : VectorValue) → AreOfShape r rows vs → v.ring ≡ r → v.rows ≡ rows → AreOfShape r rows (vs ++ v ∷ [])
shape_more r rows [] v h a b = (a, b, tt)
shape_more r rows (x ∷ vs) v h a b = (h.0, h.1, shape_more r rows vs v h.2 a b)

monic_more : (vs : List VectorValue) (v : VectorValue) → AreMonicMembers (terms_of vs) → IsMonic v.terms → AreMonicMembers (terms_of (vs ++ v ∷ []))
monic_more [] v h m = (m, tt)
monic_more (x ∷ vs) v h m = (h.0, monic_more vs v h.1 m)

not_zero : (ts : List VTerm) → IsMonic ts → ts ≢ []
not_zero [] m e = m
not_zero (t ∷ ts) m e = cc

pub members_are : (r : Ring) (rows : ℕ) (vs : List VectorValue) → AreOfShape r rows vs → AreMonicMembers (terms_of vs) → AreMembers r rows vs
members_are r rows [] a m = tt
members_are r rows (v ∷ vs) a m = (a.0, a.1, not_zero v.terms m.0, members_are r rows vs a.2 m.1)

length_more : (vs : List VectorValue) (v : VectorValue) → length (vs ++ v ∷ []) ≡ length vs + 1
length_more [] v = refl
length_more (x ∷ vs) v = let e = length_more vs v in omega (arith, e)

pub numbered_more : (r : Ring) (rows : ℕ) (vs more : List VectorValue) (v : VectorValue) → more ≡ vs ++ v ∷ [] → AreNumbered r rows vs → IsNextMember r rows (Some v) → length vs + 1 < 2 ^ 32
    → AreNumbered r rows more
numbered_more r rows vs more v pushed h next few =
    subst (AreNumbered r rows) (sym pushed) (record {
      shape = shape_more r rows vs v h.shape next.0 next.1;
      monic = monic_more vs v h.monic next.2;
      few = (let e = length_more vs v in omega (arith, e, few));
    })

pub terms_with : (vs more : List VectorValue) (v : VectorValue) (member : Option VectorValue) → more ≡ vs ++ v ∷ [] → member ≡ Some v → terms_of more ≡ with_member member (terms_of vs)
terms_with vs more v member pushed is = ap terms_of pushed ∙ terms_more vs v ∙ sym (ap (λ o. with_member o (terms_of vs)) is)

-- ---- sets of numbers, and of pairs of numbers
put_in : (b x : Bool) → cond b true x ≡ (b || x)
put_in true x = refl
put_in false x = refl

abbrev pub pair_cmp : ℕ × ℕ → ℕ × ℕ → Ordering
pair_cmp x y = ordering_then (nat_cmp x.0 y.0) (nat_cmp x.1 y.1)

taken_is : (ks : List ℕ) (q : ℕ) → list_any (is_at (nat_cmp q)) ks ≡ is_taken ks q
taken_is [] q = refl
taken_is (k ∷ ks) q = ap₂ (λ a b. a || b) (unsigned_tied q k) (taken_is ks q)

same_numbers : (i j k l : ℕ) → is_at (pair_cmp (i, j)) (k, l) ≡ (i == k && j == l)
same_numbers i j k l = go (nat_cmp i k) refl ∙ ap (λ b. b && j == l) (unsigned_tied i k)
  where
    go : (w : Ordering) → nat_cmp i k ≡ w → is_eq (ordering_then w (nat_cmp j l)) ≡ (is_eq w && j == l)
    go Less e = refl
    go Equal e = unsigned_tied j l
    go Greater e = refl

treated_is : (ps : List (ℕ × ℕ)) (i j : ℕ) → list_any (is_at (pair_cmp (i, j))) ps ≡ is_treated ps i j
treated_is [] i j = refl
treated_is (p ∷ ps) i j = ap₂ (λ a b. a || b) (same_numbers i j p.0 p.1) (treated_is ps i j)

module _ (r : Ring) (rows : ℕ) (vs : List VectorValue) (taken : List ℕ) (treated : List (ℕ × ℕ)) (s : Replay)
    (kept : Keeps (record { ring = r; rows = rows; members = vs; taken = taken; treated = treated }) s)
    (member : Option VectorValue) (more : List VectorValue) (adds : terms_of more ≡ with_member member (terms_of vs)) where
  pub input_kept : (k : ℕ) (new : List ℕ) → ((q : ℕ) → list_any (is_at (nat_cmp q)) new ≡ cond (is_at (nat_cmp k) q) true (list_any (is_at (nat_cmp q)) taken))
      → Keeps (record { ring = r; rows = rows; members = more; taken = new; treated = treated }) (after_input s k member)
  input_kept k new put = record {
    members = adds ∙ ap (with_member member) kept.members;
    taken = λ q. sym (taken_is new q) ∙ put q ∙ put_in (is_at (nat_cmp k) q) (list_any (is_at (nat_cmp q)) taken)
        ∙ ap₂ (λ a b. a || b) (unsigned_tied k q ∙ nat_eq_equiv.symm k q) (taken_is taken q ∙ kept.taken q);
    treated = kept.treated;
  }

  pub pair_kept : (a b : ℕ) (new : List (ℕ × ℕ))
      → ((q : ℕ × ℕ) → list_any (is_at (pair_cmp q)) new ≡ cond (is_at (pair_cmp (a, b)) q) true (list_any (is_at (pair_cmp q)) treated))
      → Keeps (record { ring = r; rows = rows; members = more; taken = taken; treated = new }) (after_pair s a b member)
  pair_kept a b new put = record {
    members = adds ∙ ap (with_member member) kept.members;
    taken = kept.taken;
    treated = λ i j. sym (treated_is new i j) ∙ put (i, j) ∙ put_in (is_at (pair_cmp (a, b)) (i, j)) (list_any (is_at (pair_cmp (i, j))) treated)
        ∙ ap₂ (λ x y. x || y) (same_numbers a b i j ∙ ap₂ (λ x y. x && y) (nat_eq_equiv.symm a i) (nat_eq_equiv.symm b j)) (treated_is treated i j ∙ kept.treated i j);
  }
