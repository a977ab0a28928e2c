-- A vector as buckets: taking its head off, and adding a multiple to it
use Rattle.std.proofs.Common.{ℕ, zero, suc, ◌+◌, ◌==◌, ◌<◌, ◌≤◌, ◌≡◌, if◌then◌else◌, Bool, true, false, List, [], ◌∷◌, ◌++◌, length, slice_index_or, slice_set, refl, sym, ap, ap₂, ◌∙◌, subst, arith, Option, Some, None, IfSome, IfNone, MatchOption, append_assoc, append-nil}
use Rattle.std.proofs.lemmas.Bool.{eqb-true}
use Rattle.std.proofs.lemmas.List.{nil_from_length}
use Rattle.std.proofs.lemmas.Bool.Decides.{nat_tests}
use Rattle.fm_gfp.specs.Primes.{prime_value}
use Rattle.fm_algebra.specs.Polynomials.{polynomial_zero, polynomial_sum, polynomial_term, polynomial_product}
use Rattle.fm_poly.specs.declared.ring.Ring.{Ring}
use Rattle.fm_poly.specs.declared.term.Term.{Term}
use Rattle.fm_poly.specs.Polys.{PolyValue, IsCanonical, meaning}
use Rattle.fm_poly.proofs.KeptTerms.{lists_unique, zero_list}
use Rattle.fm_bucket.specs.Levels.{levels_sum, AreCanonical, AreBelow}
use Rattle.fm_bucket.specs.Values.{BucketValue}
use Rattle.fm_bucket.proofs.Determined.{determined}
use Rattle.fm_term.specs.declared.vterm.VTerm.{VTerm}
use Rattle.fm_term.specs.Places.{Falls}
use Rattle.fm_term.specs.Falling.{AreTerms}
use Rattle.fm_vec.specs.Vectors.{IsVector}
use Rattle.fm_vec.specs.Multiples.{plus_multiple}
use Rattle.fm_vec.specs.Components.{component_terms, component_meaning, column_from, AreOver}
use Rattle.fm_vec.specs.Steps.{AreFrom}
use Rattle.fm_vec.proofs.Components.{component_canonical, none_before}
use Rattle.fm_vec.proofs.Meaning.{plus, times, term, nothing, plus_part, part_none, times_nothing, nothing_plus}
use Rattle.fm_complete.specs.Spread.{AreParts, AreOf}

differs : (c k : ℕ) → (c ≡ k → ⊥) → (c == k) ≡ false
differs c k h = grind (arith, nat_tests)

greater : (c k : ℕ) → k ≤ c → (c == k) ≡ false → suc k ≤ c
greater c k h e = grind (arith, nat_tests)

-- ---- lists
-- a first term elsewhere is in no component k
pub elsewhere : (k : ℕ) (h : VTerm) (ts : List VTerm) → (h.component ≡ k → ⊥) → component_terms k (h ∷ ts) ≡ component_terms k ts
elsewhere k h ts other = ap (λ b. if b then record { mono = h.mono; coeff = h.coeff } ∷ component_terms k ts else component_terms k ts) (differs h.component k other)

no_first : (t : Term) (us : List Term) → [] ≡ t ∷ us → ⊥
no_first t us e = let none : 0 ≡ suc (length us) = ap length e in absurd (omega arith)

-- nothing in component k
pub from_next : (k : ℕ) (ts : List VTerm) → AreFrom k ts → component_terms k ts ≡ [] → AreFrom (suc k) ts
from_next k [] w e = tt
from_next k (t ∷ ts) w e = go (t.component == k) refl e (λ none. from_next k ts w.1 none)
  where
    go : (b : Bool) → (t.component == k) ≡ b → (if b then record { mono = t.mono; coeff = t.coeff } ∷ component_terms k ts else component_terms k ts) ≡ []
        → (component_terms k ts ≡ [] → AreFrom (suc k) ts) → AreFrom (suc k) (t ∷ ts)
    go true i none later = absurd (no_first (record { mono = t.mono; coeff = t.coeff }) (component_terms k ts) (sym none))
    go false i none later = (greater t.component k w.0 i, later none)

-- the first term of the first component that is left is the head
pub record IsHeadOf (k : ℕ) (t : Term) (us : List Term) (v : List VTerm) : Type 0 where
  pub tail : List VTerm
  pub is : v ≡ record { component = k; mono = t.mono; coeff = t.coeff } ∷ tail
  pub left : component_terms k tail ≡ us

module _ (r : Ring) where
  pub head_here : (k : ℕ) (t : Term) (us : List Term) (v : List VTerm) → Falls r.order v → AreFrom k v → component_terms k v ≡ t ∷ us → IsHeadOf k t us v
  head_here k t us [] falls from e = absurd (no_first t us e)
  head_here k t us (h ∷ ts) falls from e = go (h.component == k) refl e
    where
      go : (b : Bool) → (h.component == k) ≡ b → (if b then record { mono = h.mono; coeff = h.coeff } ∷ component_terms k ts else component_terms k ts) ≡ t ∷ us
          → IsHeadOf k t us (h ∷ ts)
      go true i same =
          let head : ◌≡◌ {A = Term} (record { mono = h.mono; coeff = h.coeff }) t = cc in
          let later : component_terms k ts ≡ us = cc in
          record {
            tail = ts;
            is = ap₂ (λ c (x : Term). record { component = c; mono = x.mono; coeff = x.coeff } ∷ ts) (eqb-true h.component k i) head;
            left = later;
          }
      go false i same = absurd (no_first t us (sym (none_before r k h ts (greater h.component k from.0 i) falls) ∙ e))

  -- ---- buckets
  pub parts_ring : (k : ℕ) (bs : List BucketValue) (v : List VTerm) → AreParts r k bs v → AreOf r bs
  parts_ring k [] v w = tt
  parts_ring k (b ∷ bs) v w = (w.0, parts_ring (suc k) bs v w.2)

  pub parts_at : (k i : ℕ) (bs : List BucketValue) (b : BucketValue) (v : List VTerm) → i < length bs → b ≡ slice_index_or bs i b → AreParts r k bs v
      → (b.ring ≡ r) × (levels_sum r b.lists ≡ component_meaning r (k + i) v)
  parts_at k i [] b v l e w = absurd (omega arith)
  parts_at k zero (c ∷ bs) b v l e w =
      let plain : k + 0 ≡ k = omega arith in
      (ap (λ (x : BucketValue). x.ring) e ∙ w.0, ap (λ (x : BucketValue). levels_sum r x.lists) e ∙ w.1 ∙ ap (λ j. component_meaning r j v) (sym plain))
  parts_at k (suc i) (c ∷ bs) b v l e w =
      let moved : suc k + i ≡ k + suc i = omega arith in
      subst (λ j. (b.ring ≡ r) × (levels_sum r b.lists ≡ component_meaning r j v)) moved (parts_at (suc k) i bs b v (omega arith) e w.2)

  pub parts_same : (k : ℕ) (bs : List BucketValue) (v w : List VTerm) → ((j : ℕ) → k ≤ j → component_meaning r j v ≡ component_meaning r j w) → AreParts r k bs v → AreParts r k bs w
  parts_same k [] v w same p = tt
  parts_same k (b ∷ bs) v w same p = (p.0, p.1 ∙ same k (omega arith), parts_same (suc k) bs v w (λ j l. same j (omega arith)) p.2)

  pub parts_set : (k i : ℕ) (bs : List BucketValue) (b : BucketValue) (v w : List VTerm) → ((j : ℕ) → (j ≡ k + i → ⊥) → component_meaning r j v ≡ component_meaning r j w)
      → b.ring ≡ r → levels_sum r b.lists ≡ component_meaning r (k + i) w → AreParts r k bs v → AreParts r k (slice_set bs i b) w
  parts_set k i [] b v w same ring sum p = tt
  parts_set k zero (c ∷ bs) b v w same ring sum p =
      let plain : k + 0 ≡ k = omega arith in
      (ring, sum ∙ ap (λ j. component_meaning r j w) plain, parts_same (suc k) bs v w (λ j l. same j (λ e. absurd (omega arith))) p.2)
  parts_set k (suc i) (c ∷ bs) b v w same ring sum p =
      let moved : k + suc i ≡ suc k + i = omega arith in (
        p.0,
        p.1 ∙ same k (λ e. absurd (omega arith)),
        parts_set (suc k) i bs b v w (λ j other. same j (λ e. other (e ∙ moved))) ring (sum ∙ ap (λ j. component_meaning r j w) moved) p.2,
      )

  part_same : (k : ℕ) (ts us : List VTerm) → component_terms k ts ≡ component_terms k us → component_meaning r k ts ≡ component_meaning r k us
  unfolding component_meaning
  part_same k ts us e = ap (meaning r) e

  part_is : (k : ℕ) (ts : List VTerm) → component_meaning r k ts ≡ meaning r (component_terms k ts)
  unfolding component_meaning
  part_is k ts = refl

  -- ---- the head of the first bucket that is not zero
  module _ (i : ℕ) (bs : List BucketValue) (b c : BucketValue) (within : i < length bs) (here : b ≡ slice_index_or bs i b) (ring : c.ring ≡ b.ring) where
    pub none_taken : (n : ℕ) (v : List VTerm) → levels_sum b.ring b.lists ≡ polynomial_zero b.ring.prime b.ring.vars → levels_sum b.ring c.lists ≡ polynomial_zero b.ring.prime b.ring.vars
        → IsVector r n v → AreFrom (i + 1) v → AreParts r 1 bs v → AreParts r 1 (slice_set bs i c) v × AreFrom (i + 2) v
    none_taken n v was is vector from parts =
        let p = parts_at 1 i bs b v within here parts in
        let one : 1 + i ≡ i + 1 = omega arith in
        let two : suc (i + 1) ≡ i + 2 = omega arith in
        let was_r : levels_sum r b.lists ≡ polynomial_zero r.prime r.vars = subst (λ (q : Ring). levels_sum q b.lists ≡ polynomial_zero q.prime q.vars) p.0 was in
        let is_r : levels_sum r c.lists ≡ polynomial_zero r.prime r.vars = subst (λ (q : Ring). levels_sum q c.lists ≡ polynomial_zero q.prime q.vars) p.0 is in
        let zero_part : component_meaning r (i + 1) v ≡ polynomial_zero r.prime r.vars = ap (λ j. component_meaning r j v) (sym one) ∙ sym p.1 ∙ was_r in (
          parts_set 1 i bs c v v (λ j other. refl) (ring ∙ p.0) (is_r ∙ sym was_r ∙ p.1) parts,
          subst (λ k. AreFrom k v) two (from_next (i + 1) v from
              ((zero_list r (component_terms (i + 1) v) (component_canonical r (i + 1) v vector.falls vector.proper)).1 (sym (part_is (i + 1) v) ∙ zero_part))),
        )

    pub head_taken : (n : ℕ) (v : List VTerm) (t : Term)
        → levels_sum b.ring b.lists ≡ polynomial_sum b.ring.prime b.ring.vars (polynomial_term b.ring.prime b.ring.vars t.coeff t.mono) (levels_sum b.ring c.lists)
        → AreCanonical b.ring c.lists → AreBelow b.ring.order t.mono c.lists → (length t.mono ≡ b.ring.vars) × (0 < t.coeff) × (t.coeff < prime_value b.ring.prime)
        → IsVector r n v → AreFrom (i + 1) v → AreParts r 1 bs v
        → (ts : List VTerm) × (v ≡ record { component = i + 1; mono = t.mono; coeff = t.coeff } ∷ ts) × AreParts r 1 (slice_set bs i c) ts
    head_taken n v t sum canonical below proper vector from parts =
        let p = parts_at 1 i bs b v within here parts in
        let one : 1 + i ≡ i + 1 = omega arith in
        let sum_r = subst (λ (q : Ring). levels_sum q b.lists ≡ polynomial_sum q.prime q.vars (polynomial_term q.prime q.vars t.coeff t.mono) (levels_sum q c.lists)) p.0 sum in
        let proper_r = subst (λ (q : Ring). (length t.mono ≡ q.vars) × (0 < t.coeff) × (t.coeff < prime_value q.prime)) p.0 proper in
        let d = determined r t c.lists proper_r.0 proper_r.1 proper_r.2 (subst (λ (q : Ring). AreCanonical q c.lists) p.0 canonical) (subst (λ (q : Ring). AreBelow q.order t.mono c.lists) p.0 below)
        (component_terms (i + 1) v) (component_canonical r (i + 1) v vector.falls vector.proper)
        (sym (part_is (i + 1) v) ∙ ap (λ j. component_meaning r j v) (sym one) ∙ sym p.1 ∙ sum_r) in
        let h : IsHeadOf (i + 1) t d.0 v = head_here (i + 1) t d.0 v vector.falls from d.1 in
        let head : VTerm = record { component = i + 1; mono = t.mono; coeff = t.coeff } in
        let left : levels_sum r c.lists ≡ component_meaning r (1 + i) h.tail = sym d.2 ∙ ap (meaning r) (sym h.left) ∙ sym (part_is (i + 1) h.tail) ∙ ap (λ j. component_meaning r j h.tail) (sym one) in (
          h.tail,
          h.is,
          parts_set 1 i bs c v h.tail
              (λ j other. part_same j v h.tail (ap (component_terms j) h.is ∙ elsewhere j head h.tail (λ e. other (sym e ∙ sym one))))
              (ring ∙ p.0) left parts,
        )

    pub take_none : (o : Option Term)
        → MatchOption o (levels_sum b.ring b.lists ≡ polynomial_zero b.ring.prime b.ring.vars)
        (λ t. levels_sum b.ring b.lists ≡ polynomial_sum b.ring.prime b.ring.vars (polynomial_term b.ring.prime b.ring.vars t.coeff t.mono) (levels_sum b.ring c.lists))
        → IfNone o (levels_sum b.ring c.lists ≡ polynomial_zero b.ring.prime b.ring.vars)
        → IfNone o ((n : ℕ) (v : List VTerm) → IsVector r n v → AreFrom (i + 1) v → AreParts r 1 bs v → AreParts r 1 (slice_set bs i c) v × AreFrom (i + 2) v)
    take_none None was is = λ n v vector from parts. none_taken n v was is vector from parts
    take_none (Some t) was is = tt

    pub take_some : (o : Option Term)
        → MatchOption o (levels_sum b.ring b.lists ≡ polynomial_zero b.ring.prime b.ring.vars)
        (λ t. levels_sum b.ring b.lists ≡ polynomial_sum b.ring.prime b.ring.vars (polynomial_term b.ring.prime b.ring.vars t.coeff t.mono) (levels_sum b.ring c.lists))
        → AreCanonical b.ring c.lists → IfSome o (λ t. AreBelow b.ring.order t.mono c.lists)
        → IfSome o (λ t. (length t.mono ≡ b.ring.vars) × (0 < t.coeff) × (t.coeff < prime_value b.ring.prime))
        → IfSome o (λ t. (n : ℕ) (v : List VTerm) → IsVector r n v → AreFrom (i + 1) v → AreParts r 1 bs v
        → (ts : List VTerm) × (v ≡ record { component = i + 1; mono = t.mono; coeff = t.coeff } ∷ ts) × AreParts r 1 (slice_set bs i c) ts)
    take_some None sum canonical below proper = tt
    take_some (Some t) sum canonical below proper = λ n v vector from parts. head_taken n v t sum canonical below proper vector from parts

  -- ---- a multiple added
  pub no_parts : (k : ℕ) (bs : List BucketValue) (w : List VTerm) → length bs ≡ 0 → AreParts r k bs w
  no_parts k [] w e = tt
  no_parts k (b ∷ bs) w e = absurd (omega arith)

  module _ (t : Term) (canonical : IsCanonical r (t ∷ [])) where
    -- the part is empty
    pub nothing_added : (k : ℕ) (old : List (List Term)) (f : List Term) (ts g : List VTerm) → length f ≡ 0 → AreTerms r.prime r.vars ts → f ≡ component_terms k ts
        → levels_sum r old ≡ component_meaning r k g → levels_sum r old ≡ component_meaning r k (plus_multiple r t.coeff t.mono ts g)
    nothing_added k old f ts g none terms is was =
        let empty : component_meaning r k ts ≡ nothing r = part_same k ts [] (sym is ∙ nil_from_length f none) ∙ part_none r k in
        was ∙ sym (plus_part r k t.coeff t.mono ts g canonical.listed.0 terms
        ∙ ap (λ x. plus r (times r (term r t.coeff t.mono) x) (component_meaning r k g)) empty
        ∙ ap (λ x. plus r x (component_meaning r k g)) (times_nothing r (term r t.coeff t.mono)) ∙ nothing_plus r (component_meaning r k g))

    pub part_added : (q : Ring) (k : ℕ) (old new : List (List Term)) (f : List Term) (ts g : List VTerm) → q ≡ r
        → levels_sum q new ≡ polynomial_sum q.prime q.vars (polynomial_product q.prime q.vars (polynomial_term q.prime q.vars t.coeff t.mono) (meaning q f)) (levels_sum q old)
        → AreTerms r.prime r.vars ts → f ≡ component_terms k ts
        → levels_sum r old ≡ component_meaning r k g → levels_sum r new ≡ component_meaning r k (plus_multiple r t.coeff t.mono ts g)
    part_added q k old new f ts g ring sum terms is was =
        subst (λ (q : Ring). levels_sum q new ≡ polynomial_sum q.prime q.vars (polynomial_product q.prime q.vars (polynomial_term q.prime q.vars t.coeff t.mono) (meaning q f)) (levels_sum q old)) ring sum
        ∙ ap₂ (λ x y. plus r (times r (term r t.coeff t.mono) x) y) (ap (meaning r) is ∙ sym (part_is k ts)) was
        ∙ sym (plus_part r k t.coeff t.mono ts g canonical.listed.0 terms)

    abbrev pub IsAdded : List (List Term) → List Term → List (List Term) → Type 0
    IsAdded old f new = (k : ℕ) (ts g : List VTerm) → AreTerms r.prime r.vars ts → f ≡ component_terms k ts → levels_sum r old ≡ component_meaning r k g
        → levels_sum r new ≡ component_meaning r k (plus_multiple r t.coeff t.mono ts g)

    abbrev pub AreAdded : List BucketValue → List PolyValue → List BucketValue → Type 0
    AreAdded old fs new = (k n : ℕ) (ts f : List VTerm) → AreTerms r.prime r.vars ts → fs ≡ column_from r n k ts → AreParts r k old f → AreParts r k new (plus_multiple r t.coeff t.mono ts f)

    pub parts_added : (parts : List PolyValue) (old new : List BucketValue) (x : PolyValue) (xs : List PolyValue) (b c : BucketValue) (bs cs : List BucketValue)
        → parts ≡ x ∷ xs → old ≡ b ∷ bs → new ≡ c ∷ cs → c.ring ≡ b.ring → IsAdded b.lists x.terms c.lists → AreAdded bs xs cs → AreAdded old parts new
    parts_added parts old new x xs b c bs cs parts_is old_is new_is ring first later k zero ts f terms is was = absurd (no_poly x xs (sym is ∙ parts_is))
      where
        no_poly : (x : PolyValue) (xs : List PolyValue) → [] ≡ x ∷ xs → ⊥
        no_poly x xs e = let none : 0 ≡ suc (length xs) = ap length e in absurd (omega arith)
    parts_added parts old new x xs b c bs cs parts_is old_is new_is ring first later k (suc n) ts f terms is was =
        let both : x ∷ xs ≡ record { ring = r; terms = component_terms k ts } ∷ column_from r n (suc k) ts = sym parts_is ∙ is in
        let own : ◌≡◌ {A = PolyValue} x (record { ring = r; terms = component_terms k ts }) = cc in
        let others : xs ≡ column_from r n (suc k) ts = cc in
        let w : AreParts r k (b ∷ bs) f = subst (λ z. AreParts r k z f) old_is was in
        subst (λ z. AreParts r k z (plus_multiple r t.coeff t.mono ts f)) (sym new_is)
        (ring ∙ w.0, first k ts f terms (ap (λ (y : PolyValue). y.terms) own) w.1, later (suc k) n ts f terms others w.2)

  -- ---- what the buckets hold, read back
  pub record Gathering (all left : List BucketValue) (out : List PolyValue) : Type 0 where
    pub over : AreOf r all → AreOf r left × AreOver r out
    pub column : (n : ℕ) (v : List VTerm) → IsVector r n v → AreParts r 1 all v → (k : ℕ) × AreParts r k left v × (out ++ column_from r (length left) k v ≡ column_from r (length all) 1 v)

  over_push : (fs : List PolyValue) (f : PolyValue) → AreOver r fs → f.ring ≡ r → AreOver r (fs ++ f ∷ [])
  over_push [] f w e = (e, tt)
  over_push (x ∷ fs) f w e = (w.0, over_push fs f w.1 e)

  pub gather_start : (all : List BucketValue) (out : List PolyValue) → out ≡ [] → Gathering all all out
  gather_start all out none = subst (Gathering all all) (sym none) record {
    over = λ w. (w, tt);
    column = λ n v vector parts. (1, parts, refl);
  }

  pub gather_step : (all left : List BucketValue) (out out' : List PolyValue) (b : BucketValue) (bs : List BucketValue) (f : PolyValue) → left ≡ b ∷ bs → out' ≡ out ++ f ∷ []
      → f.ring ≡ b.ring → meaning b.ring f.terms ≡ levels_sum b.ring b.lists → IsCanonical b.ring f.terms → Gathering all left out → Gathering all bs out'
  gather_step all left out out' b bs f left_is pushed ring value canonical g = record {
    over = λ w.
        let both = g.over w in
        let own : AreOf r (b ∷ bs) = subst (AreOf r) left_is both.0 in
        (own.1, subst (AreOver r) (sym pushed) (over_push out f both.1 (ring ∙ own.0)));
    column = λ n v vector parts.
        let x = g.column n v vector parts in
        let w : AreParts r x.0 (b ∷ bs) v = subst (λ z. AreParts r x.0 z v) left_is x.1 in
        let own : f.terms ≡ component_terms x.0 v = lists_unique r f.terms (component_terms x.0 v) (subst (λ (q : Ring). IsCanonical q f.terms) w.0 canonical)
        (component_canonical r x.0 v vector.falls vector.proper) (subst (λ (q : Ring). meaning q f.terms ≡ levels_sum q b.lists) w.0 value ∙ w.1 ∙ part_is x.0 v) in
        let is : ◌≡◌ {A = PolyValue} f (record { ring = r; terms = component_terms x.0 v }) = (λ i. record { ring = (ring ∙ w.0) i; terms = own i }) in (
          suc x.0,
          w.2,
          ap (λ z. z ++ column_from r (length bs) (suc x.0) v) (pushed ∙ ap (λ z. out ++ z ∷ []) is)
              ∙ append_assoc out (record { ring = r; terms = component_terms x.0 v } ∷ []) (column_from r (length bs) (suc x.0) v)
              ∙ ap (λ z. out ++ column_from r (length z) x.0 v) (sym left_is) ∙ x.2,
        );
  }

  pub gather_over : (all left : List BucketValue) (out : List PolyValue) → Gathering all left out → AreOf r all → AreOver r out
  gather_over all left out g w = (g.over w).1

  pub gather_end : (all left : List BucketValue) (out : List PolyValue) → length left ≡ 0 → Gathering all left out → (n : ℕ) (v : List VTerm) → IsVector r n v → AreParts r 1 all v
      → out ≡ column_from r (length all) 1 v
  gather_end all left out none g n v vector parts =
      let x = g.column n v vector parts in
      sym (append-nil out) ∙ ap (λ k. out ++ column_from r k x.0 v) (sym none) ∙ x.2

  -- ---- a vector spread
  pub record Spreading (n : ℕ) (v : List VTerm) (out : List BucketValue) (left : List PolyValue) : Type 0 where
    pub parts : AreParts r 1 out v
    pub count : length out + length left ≡ n
    pub rest : left ≡ column_from r (length left) (1 + length out) v

  parts_push : (k : ℕ) (bs : List BucketValue) (b : BucketValue) (v : List VTerm) → b.ring ≡ r → levels_sum r b.lists ≡ component_meaning r (k + length bs) v → AreParts r k bs v
      → AreParts r k (bs ++ b ∷ []) v
  parts_push k [] b v ring sum w =
      let plain : k + 0 ≡ k = omega arith in
      (ring, sum ∙ ap (λ j. component_meaning r j v) plain, tt)
  parts_push k (c ∷ bs) b v ring sum w =
      let moved : k + suc (length bs) ≡ suc k + length bs = omega arith in
      (w.0, w.1, parts_push (suc k) bs b v ring (sum ∙ ap (λ j. component_meaning r j v) moved) w.2)

  length_push : (bs : List BucketValue) (b : BucketValue) → length (bs ++ b ∷ []) ≡ suc (length bs)
  length_push [] b = refl
  length_push (c ∷ bs) b = ap suc (length_push bs b)

  length_column : (n k : ℕ) (v : List VTerm) → length (column_from r n k v) ≡ n
  length_column zero k v = refl
  length_column (suc n) k v = ap suc (length_column n (suc k) v)

  pub spread_start : (n : ℕ) (v : List VTerm) (out : List BucketValue) (left all : List PolyValue) → out ≡ [] → left ≡ all → all ≡ column_from r n 1 v → Spreading n v out left
  spread_start n v out left all none same is =
      let l : length left ≡ n = ap length (same ∙ is) ∙ length_column n 1 v in
      subst (λ z. Spreading n v z left) (sym none) record {
        parts = tt;
        count = (omega arith);
        rest = same ∙ is ∙ ap (λ k. column_from r k 1 v) (sym l);
      }

  pub spread_step : (n : ℕ) (v : List VTerm) (out out' : List BucketValue) (left later : List PolyValue) (f : PolyValue) (b : BucketValue) → left ≡ f ∷ later → out' ≡ out ++ b ∷ []
      → b.ring ≡ f.ring → levels_sum f.ring b.lists ≡ meaning f.ring f.terms → Spreading n v out left → Spreading n v out' later
  spread_step n v out out' left later f b left_is pushed ring value s =
      let both : f ∷ later ≡ column_from r (suc (length later)) (1 + length out) v = sym left_is ∙ s.rest ∙ ap (λ z. column_from r (length z) (1 + length out) v) left_is in
      let own : ◌≡◌ {A = PolyValue} f (record { ring = r; terms = component_terms (1 + length out) v }) = cc in
      let others : later ≡ column_from r (length later) (suc (1 + length out)) v = cc in
      let f_ring : f.ring ≡ r = ap (λ (x : PolyValue). x.ring) own in
      let l : length out' ≡ suc (length out) = ap length pushed ∙ length_push out b in
      let moved : suc (1 + length out) ≡ 1 + length out' = omega arith in
      record {
        parts = subst (λ z. AreParts r 1 z v) (sym pushed) (parts_push 1 out b v (ring ∙ f_ring)
            (subst (λ (q : Ring). levels_sum q b.lists ≡ meaning q f.terms) f_ring value ∙ ap (λ (x : PolyValue). meaning r x.terms) own ∙ sym (part_is (1 + length out) v)) s.parts);
        count = (let was : length left ≡ suc (length later) = ap length left_is in let c = s.count in omega arith);
        rest = others ∙ ap (λ k. column_from r (length later) k v) moved;
      }
