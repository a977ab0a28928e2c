-- When a line begins a block, by the number of the ideal and the degree that are next.
use Rattle.std.proofs.Common.{◌≡◌, ℕ, ◌+◌, Bool, true, false, ◌&&◌, nat_eq, List, [], ◌∷◌, ◌++◌, length, map, Option, Some, None, option_map, refl, sym, ap, ap₂, ◌∙◌, arith}
use mir.Val.{bool_byte}
use Rattle.std.specs.Prelude.{is_some}
use Rattle.std.proofs.lemmas.Bool.{and_left, and_right, eq-eqb, eqb-true}
use Rattle.std.proofs.lemmas.List.{length-map, length-append}
use Rattle.fm_words.specs.Options.{◌>>=◌, where_so}
use Rattle.fm_words.specs.Parts.{Bytes}
use Rattle.fm_words.specs.Steps.{place}
use Rattle.fm_problem.specs.Problems.{ideal_names}
use Rattle.fm_problem.specs.declared.problem.Problem.{Problem}
use Rattle.fm_problem.specs.declared.query.Query.{Query}
use Rattle.fm_problem.specs.declared.query.Query.TheVariants as queries
use Rattle.fm_report.specs.Parts.{Part}
use Rattle.fm_report.specs.Sheets as sheets
use Rattle.fm_report.specs.Sheets.{Sheet, blocks_of, is_about, new_block, say_datum, with_last}
use Rattle.fm_pres.specs.Blocks.{block_of}
use Rattle.fm_pres.specs.declared.block.Block.{Block}
use Rattle.fm_asked.specs.Beginnings.{AreBlocks, HasBlocks, IsBlockIf, is_there, next_about, with_blocks}

-- these are the ideal and the degree
abbrev is_these : Option (ℕ × ℕ) → ℕ → ℕ → Bool
is_these None m j = false
is_these (Some x) m j = nat_eq m x.0 && nat_eq j x.1

about_is : (z : Query) (bs : List sheets.Block) (m j : ℕ) → is_about z bs m j ≡ is_these (next_about z (length bs)) m j
about_is (queries.Zero i k) [] m j = refl
about_is (queries.Class i k e z) [] m j = refl
about_is (queries.Root i k) [] m j = refl
about_is (queries.Invert i k f) [] m j = refl
about_is (queries.Support i k) [] m j = refl
about_is (queries.Map i k t) [] m j = refl
about_is (queries.Member k f) [] m j = refl
about_is (queries.Resolution i k) [] m j = refl
about_is (queries.ExtOf i k) [] m j = refl
about_is (queries.Zero i k) (b ∷ bs) m j = refl
about_is (queries.Class i k e z) (b ∷ bs) m j = refl
about_is (queries.Root i k) (b ∷ bs) m j = refl
about_is (queries.Invert i k f) (b ∷ bs) m j = refl
about_is (queries.Support i k) (b ∷ bs) m j = refl
about_is (queries.Map i k t) (b ∷ []) m j = refl
about_is (queries.Map i k t) (b ∷ c ∷ bs) m j = refl
about_is (queries.Member k f) (b ∷ bs) m j = refl
about_is (queries.Resolution i k) (b ∷ bs) m j = refl
about_is (queries.ExtOf i k) (b ∷ bs) m j = refl

-- how many blocks there are
abbrev pub one_if : Option Block → ℕ
one_if None = 0
one_if (Some b) = 1

pub one_is : (o : Option Block) (b : Bool) (n : ℕ) → b ≡ is_some o → n ≡ bool_byte b → n ≡ one_if o
one_is None b n e h = h ∙ ap bool_byte e
one_is (Some x) b n e h = h ∙ ap bool_byte e

pub count_if : (ps : List Part) (done : List Block) (o : Option Block) → length (with_last (map (block_of ps) done) (option_map (block_of ps) o)) ≡ length done + one_if o
count_if ps done None = let e = length-map done (block_of ps) in omega (arith, e)
count_if ps done (Some b) =
    let e = length-map done (block_of ps) in
    let f = length-append (map (block_of ps) done) (block_of ps b ∷ []) in
    omega (arith, e, f)

module _ (ps : List Part) (q : Problem) (z : Query) (done : List Block) (at_hand : Option Block) (s : Sheet) (h : HasBlocks ps q z done at_hand s) where
  blocks_are : blocks_of s ≡ with_last (map (block_of ps) done) (option_map (block_of ps) at_hand)
  blocks_are = ap₂ with_last h.finished h.block

  abbrev begun : ℕ → ℕ → Sheet
  begun m j = record s { finished = blocks_of s; block = Some (new_block m j) }

  datum_is : (n : ℕ) → n ≡ length done + one_if at_hand → (name : Bytes) (j : ℕ)
      → say_datum s name j ≡ (place 0 name (ideal_names q) >>= λ m. where_so (is_these (next_about z n) m j) (Some (begun m j)))
  datum_is n c name j =
      ap (λ o. o >>= λ q. s.asked >>= λ z. place 0 name (ideal_names q) >>= λ m. where_so (is_about z (blocks_of s) m j) (Some (begun m j))) h.head
      ∙ ap (λ o. o >>= λ z. place 0 name (ideal_names q) >>= λ m. where_so (is_about z (blocks_of s) m j) (Some (begun m j))) h.asked
      ∙ ap (λ (f : ℕ → Bool). place 0 name (ideal_names q) >>= λ m. where_so (f m) (Some (begun m j)))
      (λ i m. (about_is z (blocks_of s) m j ∙ ap (λ c. is_these (next_about z c) m j)
      (ap length blocks_are ∙ count_if ps done at_hand ∙ sym c)) i)

  -- no place makes it the next block
  nowhere : (o : Option ℕ) (name : Bytes) (j : ℕ) (f : ℕ → Bool) → ((m : ℕ) → o ≡ Some m → f m ≡ false) → (o >>= λ m. where_so (f m) (Some (begun m j))) ≡ None
  nowhere None name j f e = refl
  nowhere (Some m) name j f e = ap (λ b. where_so b (Some (begun m j))) (e m refl)

  pub other_degree : (n k i : ℕ) → n ≡ length done + one_if at_hand → next_about z n ≡ Some (k, i) → (name : Bytes) (j : ℕ) → nat_eq j i ≡ false → say_datum s name j ≡ None
  other_degree n k i c e name j w =
      datum_is n c name j ∙ nowhere (place 0 name (ideal_names q)) name j (λ m. is_these (next_about z n) m j)
      (λ m v. ap (λ o. is_these o m j) e ∙ and_right (nat_eq m k) (nat_eq j i) w)

  pub other_ideal : (n k i : ℕ) → n ≡ length done + one_if at_hand → next_about z n ≡ Some (k, i) → (name : Bytes) (j : ℕ)
      → is_there (place 0 name (ideal_names q)) k ≡ false → say_datum s name j ≡ None
  other_ideal n k i c e name j w =
      datum_is n c name j ∙ nowhere (place 0 name (ideal_names q)) name j (λ m. is_these (next_about z n) m j)
      (λ m v. ap (λ o. is_these o m j) e ∙ and_left (nat_eq m k) (nat_eq j i) (sym (ap (λ o. is_there o k) v) ∙ w))

  found : (o : Option ℕ) (k i j : ℕ) → is_there o k ≡ true → j ≡ i → (o >>= λ m. where_so (nat_eq m k && nat_eq j i) (Some (begun m j))) ≡ Some (begun k i)
  found None k i j w e = absurd (cc w)
  found (Some m) k i j w e =
      ap₂ (λ x y. where_so (x && y) (Some (begun m j))) w (eq-eqb j i e) ∙ ap₂ (λ x y. Some (begun x y)) (eqb-true m k w) e

  pub datum_begins : (n k i : ℕ) → n ≡ length done + one_if at_hand → next_about z n ≡ Some (k, i) → (name : Bytes) (j : ℕ)
      → is_there (place 0 name (ideal_names q)) k ≡ true → j ≡ i
      → (finished : List Block) (block : Option Block) → map (block_of ps) finished ≡ with_last (map (block_of ps) done) (option_map (block_of ps) at_hand)
      → option_map (block_of ps) block ≡ Some (new_block k i) → say_datum s name j ≡ Some (with_blocks s ps finished block)
  datum_begins n k i c e name j w d finished block f b =
      datum_is n c name j
      ∙ ap (λ o. place 0 name (ideal_names q) >>= λ m. where_so (is_these o m j) (Some (begun m j))) e
      ∙ found (place 0 name (ideal_names q)) k i j w d
      ∙ ap₂ (λ x y. Some (record s { finished = x; block = y })) (blocks_are ∙ sym f) (sym b)

-- ---- the blocks that are kept

pub blocks_push : (ps : List Part) (bs : List Block) (b : Block) → AreBlocks ps bs → IsBlockIf ps (Some b) → AreBlocks ps (bs ++ b ∷ [])
blocks_push ps [] b h w = (w, tt)
blocks_push ps (c ∷ bs) b h w = (h.0, blocks_push ps bs b h.1 w)

pub is_new : (ps : List Part) (b : Block) (k i : ℕ) → b.ideal ≡ k → b.degree ≡ i → b.differentials.items ≡ [] → b.lift.items ≡ [] → b.cocycles.items ≡ [] → b.kernels.items ≡ []
    → b.morphism.items ≡ [] → block_of ps b ≡ new_block k i
unfolding new_block
is_new ps b k i e f d l c n m = rw (e, f, d, l, c, n, m) refl
