-- Trimmed columns span the same, and none of them lies in the span of the others.
use Rattle.std.proofs.Common.{ℕ, ◌≡◌, ◌↔◌, ◌⊎◌, inl, inr, if◌then◌else◌, Bool, true, false, List, [], ◌∷◌, ◌++◌, map, length, refl, sym, ap, ◌∙◌, subst, append_assoc}
use Rattle.std.proofs.lemmas.Bool.{false≢true}
use Rattle.fm_algebra.specs.PolynomialMatrices.{InImage}
use Rattle.fm_groebner.specs.Bases.{generators}
use Rattle.fm_groebner.proofs.Setting.{In, here, there, in_left, in_right, in_map}
use Rattle.fm_groebner.proofs.Numbers.{in_of_map}
use Rattle.fm_groebner.proofs.Membership.{membership}
use Rattle.fm_poly.specs.declared.ring.Ring.{Ring}
use Rattle.fm_term.specs.declared.vterm.VTerm.{VTerm}
use Rattle.fm_complete.specs.Reductions.{Reduced, divided}
use Rattle.fm_run.specs.Runs.{ready, ◌>>=◌}
use Rattle.fm_graphs.specs.Listing.{VectorOf, terms_of}
use Rattle.fm_complete.specs.Completions.{Completion, completed}
use Rattle.fm_graphs.specs.Trims.{is_zero, spanned, trimmed_after, trimmed}
use Rattle.fm_run.proofs.Ends.{Ends, same_value, bound}
use Rattle.fm_complete.proofs.HeadReductions.{division, are_falling}
use Rattle.fm_complete.proofs.PendingPairs.{in_cases}
use Rattle.fm_graphs.proofs.Listing.{terms_vector, terms_mean}
use Rattle.fm_graphs.proofs.Columns.{AllLong, Spanned, span_own, span_within}
use Rattle.fm_graphs.proofs.Graphs.{Basis, completed_columns}

in_append : {A : Type 0} (xs ys : List A) (x : A) → In (xs ++ ys) x → In xs x ⊎ In ys x
in_append [] ys x i = inr i
in_append (z ∷ xs) ys x i = elim (in_cases z (xs ++ ys) x i) [
  | inl e ↦ inl (subst (In (z ∷ xs)) (sym e) here)
  | inr j ↦ elim (in_append xs ys x j) [ inl k ↦ inl (there k) | inr k ↦ inr k ]
]

tail_is : {A : Type 0} (x y : A) (xs ys : List A) → x ∷ xs ≡ y ∷ ys → (x ≡ y) × (xs ≡ ys)
tail_is x y xs ys e = (cc, cc)

module _ (r : Ring) (m : ℕ) where
  abbrev Span : List (VectorOf r) → VectorOf r → Type 0
  Span vs v = Spanned r.prime r.vars m vs v

  zero_means : (ts : List VTerm) → is_zero ts ≡ true → ts ≡ []
  zero_means [] e = refl
  zero_means (t ∷ ts) e = absurd (false≢true e)

  zero_if : (ts : List VTerm) → ts ≡ [] → is_zero ts ≡ true
  zero_if [] e = refl
  zero_if (t ∷ ts) e = cc

  -- a division by a completion decides the span
  pub basis_decides : (vs : List (VectorOf r)) (c : Completion) → Basis r m vs c → (v : VectorOf r) → length v ≡ m → (units left : ℕ) (x : Reduced) → Ends (divided r c.members units (terms_of r v)) x left → Span vs v ↔ (is_zero x.rest ≡ true)
  basis_decides vs c B v fits units left x e =
      let vector = terms_vector r m v fits in
      let red = division r m c.members B.vectors units left (terms_of r v) x vector e in
      let w = membership r.prime r.vars m r.order c.members (are_falling r m c.members B.vectors) vs B.basis red.reduces vector red.irreducible in (
        λ i. zero_if x.rest (w.0 (subst (InImage r.prime r.vars (generators r.prime r.vars m vs)) (sym (terms_mean r m v fits)) i)),
        λ t. subst (InImage r.prime r.vars (generators r.prime r.vars m vs)) (terms_mean r m v fits) (w.1 (zero_means x.rest t)),
      )

  -- the test decides the span
  pub spanned_is : (vs : List (VectorOf r)) → AllLong r.prime r.vars m vs → (v : VectorOf r) → length v ≡ m → (units left : ℕ) (b : Bool) → Ends (spanned r vs v units) b left → Span vs v ↔ (b ≡ true)
  spanned_is vs l v fits units left b e =
      let c = bound (completed r (map (terms_of r) vs)) (λ c. (λ units. divided r c.members units (terms_of r v)) >>= λ x. ready (is_zero x.rest)) units left b e in
      let d = bound (λ units. divided r c.value.members units (terms_of r v)) (λ x. ready (is_zero x.rest)) c.between left b c.second in
      let B = completed_columns r m vs l units c.between c.value c.first in
      let w = basis_decides vs c.value B v fits c.between d.between d.value d.first in
      let same : is_zero d.value.rest ≡ b = same_value (is_zero d.value.rest) b d.between left d.second in
      ((λ i. sym same ∙ w.0 i), (λ t. w.1 (same ∙ t)))

  module _ {X : Type 0} (column : X → VectorOf r) where
    abbrev Long : List X → Type 0
    Long xs = (x : X) → In xs x → length (column x) ≡ m

    long_columns : (xs : List X) → Long xs → AllLong r.prime r.vars m (map column xs)
    long_columns xs l v i = let x = in_of_map column xs i in ap length (sym x.2) ∙ l x.0 x.1

    own : (xs : List X) (x : X) → In xs x → length (column x) ≡ m → Span (map column xs) (column x)
    own xs x i l = span_own r.prime r.vars m r.order (map column xs) (column x) (in_map column i) l

    -- where each column of xs lies in the span of those of ys, so does their span
    within : (xs ys : List X) → ((x : X) → In xs x → Span (map column ys) (column x)) → (v : VectorOf r) → Span (map column xs) v → Span (map column ys) v
    within xs ys each v i = span_within r.prime r.vars m r.order (map column xs) (map column ys) (λ u j. let x = in_of_map column xs j in subst (Span (map column ys)) x.2 (each x.0 x.1)) v i

    more : (xs ys : List X) → Long xs → ((x : X) → In xs x → In ys x) → (v : VectorOf r) → Span (map column xs) v → Span (map column ys) v
    more xs ys l part v i = within xs ys (λ x j. own ys x (part x j) (l x j)) v i

    -- former stands before what is kept of later
    pub record Trimmed (former later kept : List X) : Type 0 where
      pub part : (x : X) → In kept x → In later x
      pub same : (x : X) → In later x → Span (map column (former ++ kept)) (column x)
      pub free : (xs ys : List X) (x : X) → kept ≡ xs ++ x ∷ ys → ¬ (Span (map column (former ++ (xs ++ ys))) (column x))

    moved : (former : List X) (x : X) (xs : List X) → (former ++ x ∷ []) ++ xs ≡ former ++ x ∷ xs
    moved former x xs = append_assoc former (x ∷ []) xs

    shorter : (former : List X) (x : X) (later kept : List X) → Long (former ++ x ∷ later) → ((y : X) → In kept y → In later y) → Long (former ++ kept)
    shorter former x later kept l part y i = elim (in_append former kept y i) [
      | inl j ↦ l y (in_left former (x ∷ later) j)
      | inr j ↦ l y (in_right former (x ∷ later) (there (part y j)))
    ]

    -- the column of x is dropped
    dropped : (former : List X) (x : X) (later kept : List X) → Long (former ++ x ∷ later) → Trimmed (former ++ x ∷ []) later kept → Span (map column (former ++ kept)) (column x) → Trimmed former (x ∷ later) kept
    dropped former x later kept l T spans = record {
      part = λ y i. there (T.part y i);
      same = λ y i. elim (in_cases x later y i) [
        | inl e ↦ subst (λ z. Span (map column (former ++ kept)) (column z)) (sym e) spans
        | inr j ↦ within ((former ++ x ∷ []) ++ kept) (former ++ kept) by (column y) (T.same y j)
      ];
      free = λ xs ys y e s. T.free xs ys y e (more (former ++ (xs ++ ys)) ((former ++ x ∷ []) ++ (xs ++ ys))
          (λ z i. shorter former x later kept l T.part z (fewer former xs ys y kept e z i))
          (λ z i. elim (in_append former (xs ++ ys) z i) [ inl j ↦ in_left (former ++ x ∷ []) (xs ++ ys) (in_left former (x ∷ []) j) | inr j ↦ in_right (former ++ x ∷ []) (xs ++ ys) j ]) (column y) s);
    }
      where
        by : (z : X) → In ((former ++ x ∷ []) ++ kept) z → Span (map column (former ++ kept)) (column z)
        by z i = elim (in_append former (x ∷ kept) z (subst (λ zs. In zs z) (moved former x kept) i)) [
          | inl j ↦ own (former ++ kept) z (in_left former kept j) (l z (in_left former (x ∷ later) j))
          | inr j ↦ elim (in_cases x kept z j) [
            | inl e ↦ subst (λ w. Span (map column (former ++ kept)) (column w)) (sym e) spans
            | inr k ↦ own (former ++ kept) z (in_right former kept k) (l z (in_right former (x ∷ later) (there (T.part z k))))
          ]
        ]

        fewer : (former xs ys : List X) (y : X) (kept : List X) → kept ≡ xs ++ y ∷ ys → (z : X) → In (former ++ (xs ++ ys)) z → In (former ++ kept) z
        fewer former xs ys y kept e z i = elim (in_append former (xs ++ ys) z i) [
          | inl j ↦ in_left former kept j
          | inr j ↦ in_right former kept (subst (λ zs. In zs z) (sym e) (elim (in_append xs ys z j) [ inl k ↦ in_left xs (y ∷ ys) k | inr k ↦ in_right xs (y ∷ ys) (there k) ]))
        ]

    -- it is kept
    kept_column : (former : List X) (x : X) (later kept : List X) → Long (former ++ x ∷ later) → Trimmed (former ++ x ∷ []) later kept → ¬ (Span (map column (former ++ kept)) (column x)) → Trimmed former (x ∷ later) (x ∷ kept)
    kept_column former x later kept l T apart = record {
      part = λ y i. elim (in_cases x kept y i) [ inl e ↦ subst (In (x ∷ later)) (sym e) here | inr j ↦ there (T.part y j) ];
      same = λ y i. elim (in_cases x later y i) [
        | inl e ↦ own (former ++ x ∷ kept) y (in_right former (x ∷ kept) (subst (In (x ∷ kept)) (sym e) here)) (l y (in_right former (x ∷ later) (subst (In (x ∷ later)) (sym e) here)))
        | inr j ↦ subst (λ zs. Span (map column zs) (column y)) (moved former x kept) (T.same y j)
      ];
      free = free;
    }
      where
        free : (xs ys : List X) (y : X) → x ∷ kept ≡ xs ++ y ∷ ys → ¬ (Span (map column (former ++ (xs ++ ys))) (column y))
        free [] ys y e s = let t = tail_is x y kept ys e in apart (subst (λ zs. Span (map column (former ++ zs)) (column x)) (sym t.1) (subst (λ z. Span (map column (former ++ ys)) (column z)) (sym t.0) s))
        free (z ∷ xs) ys y e s =
            let t = tail_is x z kept (xs ++ y ∷ ys) e in
            T.free xs ys y t.1 (subst (λ zs. Span (map column zs) (column y)) (sym (moved former x (xs ++ ys))) (subst (λ w. Span (map column (former ++ w ∷ (xs ++ ys))) (column y)) (sym t.0) s))

    trim_from : (former later : List X) → Long (former ++ later) → (units left : ℕ) (kept : List X) → Ends (trimmed_after r column former later units) kept left → Trimmed former later kept
    trim_from former [] l units left kept e = record {
      part = λ x i. subst (λ zs. In zs x) nothing i;
      same = λ x i. elim i [ ];
      free = λ xs ys x s. absurd (no_split xs ys x (sym nothing ∙ s));
    }
      where
        nothing : kept ≡ []
        nothing = sym (same_value [] kept units left e)

        no_split : (xs ys : List X) (x : X) → [] ≡ xs ++ x ∷ ys → ⊥
        no_split [] ys x s = cc
        no_split (z ∷ xs) ys x s = cc
    trim_from former (x ∷ later) l units left kept e =
        let test = λ (kept : List X). spanned r (map column (former ++ kept)) (column x) >>= λ yes. ready (if yes then kept else x ∷ kept) in
        let b = bound (trimmed_after r column (former ++ x ∷ []) later) test units left kept e in
        let d = bound (spanned r (map column (former ++ b.value)) (column x)) (λ yes. ready (if yes then b.value else x ∷ b.value)) b.between left kept b.second in
        let T = trim_from (former ++ x ∷ []) later (subst Long (sym (moved former x later)) l) units b.between b.value b.first in
        let decides = spanned_is (map column (former ++ b.value)) (long_columns (former ++ b.value) (shorter former x later b.value l T.part)) (column x) (l x (in_right former (x ∷ later) here)) b.between d.between d.value d.first in
        subst (Trimmed former (x ∷ later)) (same_value (if d.value then b.value else x ∷ b.value) kept d.between left d.second) (go d.value b.value T decides)
      where
        go : (yes : Bool) (kept : List X) → Trimmed (former ++ x ∷ []) later kept → Span (map column (former ++ kept)) (column x) ↔ (yes ≡ true) → Trimmed former (x ∷ later) (if yes then kept else x ∷ kept)
        go true kept T d = dropped former x later kept l T (d.1 refl)
        go false kept T d = kept_column former x later kept l T (λ s. false≢true (d.0 s))

    pub trimmed_is : (xs : List X) → Long xs → (units left : ℕ) (kept : List X) → Ends (trimmed r column xs units) kept left → Trimmed [] xs kept
    unfolding trimmed
    trimmed_is xs l units left kept e = trim_from [] xs l units left kept e
