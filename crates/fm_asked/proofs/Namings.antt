-- What the rows that name matrices say of a sheet, by the numbers that are kept.
use Rattle.std.proofs.Common.{◌≡◌, ℕ, suc, Bool, true, false, ◌&&◌, not, nat_eq, nat_lt, List, [], ◌∷◌, ◌++◌, length, Option, Some, None, option_map, Result, Ok, Err, refl, sym, ap, ap₂, ◌∙◌, subst}
use Rattle.std.specs.Prelude.{IfOk, Vec, is_some}
use Rattle.std.specs.Global.{Global}
use Rattle.std.proofs.lemmas.List.{length-map, map-append}
use Rattle.fm_words.specs.Options.{◌>>=◌, where_so}
use Rattle.fm_cert.specs.Kinds as kinds
use Rattle.fm_cert.specs.Lines.{Row}
use Rattle.fm_problem.specs.declared.query.Query.{Query}
use Rattle.fm_problem.specs.declared.query.Query.TheVariants as queries
use Rattle.fm_poly.specs.Polys.{PolyValue}
use Rattle.fm_report.specs.Parts.{Part, given}
use Rattle.fm_report.specs.Sheets as sheets
use Rattle.fm_report.specs.Sheets.{Sheet, numbered, say, say_named, say_differential, add_differential, add_lift, add_cocycles, add_kernel, add_morphism}
use Rattle.fm_lines.specs.Rows.{row_line}
use Rattle.fm_lines.specs.declared.row.Row as rows
use Rattle.fm_lines.specs.declared.shown.Generated.{Generated}
use Rattle.fm_parts.specs.Replays.{is_number}
use Rattle.fm_pres.specs.Tables.{part_at}
use Rattle.fm_pres.specs.Blocks.{block_of, parts_at}
use Rattle.fm_pres.specs.declared.block.Block.{Block}
use Rattle.fm_pres.proofs.Tables.{is_number_bounds}
use Rattle.fm_asked.specs.Beginnings.{IsSaid}
use Rattle.fm_asked.specs.Narrowing.{IsNumbered}
use Rattle.fm_asked.specs.Naming.{Adds, Shows, names_in_block, needs_block, with_block, with_named}
use Rattle.fm_asked.proofs.PartNumbers.{numbered_at, numbered_none}

-- ---- a part is named where it exists and its place is the next

there : (ps : List Part) (k : ℕ) → is_number ps k ≡ true → numbered ps k ≡ Some (part_at ps k)
there ps k h = let b = is_number_bounds ps k h in numbered_at ps k (given 0 []) b.0 b.1

not_there : (A : Type 0) (f : Part → A) (ps : List Part) (k : ℕ) (test : Bool) → (test && is_number ps k) ≡ false → where_so test (option_map f (numbered ps k)) ≡ None
not_there A f ps k false h = refl
not_there A f ps k true h = ap (option_map f) (numbered_none ps k h)

adds_said : {F : Type 0} (ps : List Part) (t : Part → Sheet) (old new : List ℕ) (test : Bool) (k : ℕ) (result : Result Bool F) → Adds ps old new test k result
    → IfOk result (λ said. (u : Sheet) (o : Option Sheet) → (new ≡ old ++ k ∷ [] → t (part_at ps k) ≡ u) → o ≡ where_so test (option_map t (numbered ps k)) → IsSaid said u o)
adds_said ps t old new test k (Ok true) h = λ u o e is.
    is ∙ ap (λ b. where_so b (option_map t (numbered ps k))) h.0 ∙ ap (option_map t) (there ps k h.1) ∙ ap (λ x. Some x) (e h.2)
adds_said ps t old new test k (Ok false) h = λ u o e is. is ∙ not_there Sheet t ps k test h.0
adds_said ps t old new test k (Err e) h = tt

parts_push : (ps : List Part) (old new : List ℕ) (k : ℕ) → new ≡ old ++ k ∷ [] → parts_at ps old ++ part_at ps k ∷ [] ≡ parts_at ps new
parts_push ps old new k e = sym (ap (parts_at ps) e ∙ map-append (part_at ps) old (k ∷ []))

-- ---- rows that name a matrix in the block at hand

-- what the row says of a sheet with these parts and this block
abbrev pub SaysIn : List Part → (old new : Block) → (Sheet → Option Sheet) → Bool → Type 0
SaysIn ps old new row said = (s : Sheet) → s.parts ≡ ps → s.block ≡ Some (block_of ps old) → IsSaid said (with_block s ps new) (row s)

named_is : (s : Sheet) (ps : List Part) (b : sheets.Block) (wanted : sheets.Block → ℕ) (n : ℕ) (add : sheets.Block → Part → sheets.Block) (k : ℕ)
    → s.parts ≡ ps → s.block ≡ Some b
    → say_named s wanted n add k ≡ where_so (nat_eq n (wanted b)) (option_map (λ x. record s { block = Some (add b x) }) (numbered ps k))
named_is s ps b wanted n add k e is =
    ap (λ o. o >>= λ b. where_so (nat_eq n (wanted b)) (option_map (λ x. record s { block = Some (add b x) }) (numbered s.parts k))) is
    ∙ ap (λ qs. where_so (nat_eq n (wanted b)) (option_map (λ x. record s { block = Some (add b x) }) (numbered qs k))) e

both_so : {A : Type 0} (x y : Bool) (o : Option A) → where_so x (where_so y o) ≡ where_so (x && y) o
both_so true y o = refl
both_so false y o = refl

named_in : {F : Type 0} (ps : List Part) (b c : Block) (x : Bool) (wanted : sheets.Block → ℕ) (n : ℕ) (add : sheets.Block → Part → sheets.Block) (old new : List ℕ) (test : Bool) (k : ℕ)
    (result : Result Bool F) → test ≡ (x && nat_eq n (wanted (block_of ps b))) → (new ≡ old ++ k ∷ [] → add (block_of ps b) (part_at ps k) ≡ block_of ps c)
    → Adds ps old new test k result → IfOk result (SaysIn ps b c (λ s. where_so x (say_named s wanted n add k)))
named_in ps b c x wanted n add old new test k (Err e) w more h = tt
named_in {F = F} ps b c x wanted n add old new test k (Ok said) w more h = λ s e is.
    let B = block_of ps b in
    adds_said {F = F} ps (λ y. record s { block = Some (add B y) }) old new test k (Ok said) h (with_block s ps c) (where_so x (say_named s wanted n add k))
    (λ v. ap (λ y. record s { block = Some y }) (more v))
    (ap (where_so x) (named_is s ps B wanted n add k e is)
    ∙ both_so x (nat_eq n (wanted B)) (option_map (λ y. record s { block = Some (add B y) }) (numbered ps k))
    ∙ ap (λ t. where_so t (option_map (λ y. record s { block = Some (add B y) }) (numbered ps k))) (sym w))

-- what follows of a result that is no error
pub on_ok : {A F : Type 0} (P Q : A → Type 0) (result : Result A F) → ((x : A) → P x → Q x) → IfOk result P → IfOk result Q
on_ok P Q (Ok x) f h = f x h
on_ok P Q (Err e) f h = tt

long : (ps : List Part) (ks : List ℕ) → length ks ≡ length (parts_at ps ks)
long ps ks = sym (length-map ks (part_at ps))

module _ {F : Type 0} (ps : List Part) (b : Block) (v : Vec ℕ Global) (k : ℕ) (result : Result Bool F) where
  abbrev Says : Block → (Sheet → Option Sheet) → Type 0
  Says c row = IfOk result (SaysIn ps b c row)

  pub lift_said : (j : ℕ) → Adds ps b.lift.items v.items (nat_eq j (length b.lift.items)) k result → Says (record b { lift = v }) (λ s. say s (Row kinds.Theta (j, (k, tt))))
  unfolding say
  lift_said j h =
      named_in ps b (record b { lift = v }) true (λ c. length c.lift) j add_lift b.lift.items v.items (nat_eq j (length b.lift.items)) k result
      (ap (nat_eq j) (long ps b.lift.items)) (λ e. ap (λ l. record (block_of ps b) { lift = l }) (parts_push ps b.lift.items v.items k e)) h

  cocycles_in : Adds ps b.cocycles.items v.items (nat_eq 0 (length b.cocycles.items)) k result → Says (record b { cocycles = v }) (λ s. say_named s (λ c. length c.cocycles) 0 add_cocycles k)
  cocycles_in h =
      named_in ps b (record b { cocycles = v }) true (λ c. length c.cocycles) 0 add_cocycles b.cocycles.items v.items (nat_eq 0 (length b.cocycles.items)) k result
      (ap (nat_eq 0) (long ps b.cocycles.items)) (λ e. ap (λ l. record (block_of ps b) { cocycles = l }) (parts_push ps b.cocycles.items v.items k e)) h

  relations_in : Adds ps b.kernels.items v.items (nat_eq 0 (length b.kernels.items)) k result → Says (record b { kernels = v }) (λ s. say_named s (λ c. length c.kernels) 0 add_kernel k)
  relations_in h =
      named_in ps b (record b { kernels = v }) true (λ c. length c.kernels) 0 add_kernel b.kernels.items v.items (nat_eq 0 (length b.kernels.items)) k result
      (ap (nat_eq 0) (long ps b.kernels.items)) (λ e. ap (λ l. record (block_of ps b) { kernels = l }) (parts_push ps b.kernels.items v.items k e)) h

  morphism_in : Adds ps b.morphism.items v.items (nat_eq 0 (length b.morphism.items)) k result → Says (record b { morphism = v }) (λ s. say_named s (λ c. length c.morphism) 0 add_morphism k)
  morphism_in h =
      named_in ps b (record b { morphism = v }) true (λ c. length c.morphism) 0 add_morphism b.morphism.items v.items (nat_eq 0 (length b.morphism.items)) k result
      (ap (nat_eq 0) (long ps b.morphism.items)) (λ e. ap (λ l. record (block_of ps b) { morphism = l }) (parts_push ps b.morphism.items v.items k e)) h

  pub generators_said : (shown : ℕ × ℕ × ℕ) → Adds ps b.cocycles.items v.items (nat_eq 0 (length b.cocycles.items)) k result
      → Says (record b { cocycles = v }) (λ s. say s (Row kinds.Cocycles (k, (shown.0, (shown.1, (shown.2, tt))))))
  unfolding say
  generators_said shown h = cocycles_in h

  pub z_said : Adds ps b.cocycles.items v.items (nat_eq 0 (length b.cocycles.items)) k result → Says (record b { cocycles = v }) (λ s. say s (Row kinds.Z (k, tt)))
  unfolding say
  z_said h = cocycles_in h

  pub relations_said : (shown : ℕ × ℕ × ℕ) → Adds ps b.kernels.items v.items (nat_eq 0 (length b.kernels.items)) k result
      → Says (record b { kernels = v }) (λ s. say s (Row kinds.Relations (k, (shown.0, (shown.1, (shown.2, tt))))))
  unfolding say
  relations_said shown h = relations_in h

  pub n_said : Adds ps b.kernels.items v.items (nat_eq 0 (length b.kernels.items)) k result → Says (record b { kernels = v }) (λ s. say s (Row kinds.N (k, tt)))
  unfolding say
  n_said h = relations_in h

  pub morphism_said : Adds ps b.morphism.items v.items (nat_eq 0 (length b.morphism.items)) k result → Says (record b { morphism = v }) (λ s. say s (Row kinds.Morphism (k, tt)))
  unfolding say
  morphism_said h = morphism_in h

  pub u_said : Adds ps b.morphism.items v.items (nat_eq 0 (length b.morphism.items)) k result → Says (record b { morphism = v }) (λ s. say s (Row kinds.U (k, tt)))
  unfolding say
  u_said h = morphism_in h

  differentials_in : (j : ℕ) → Adds ps b.differentials.items v.items (nat_eq j (suc (length b.differentials.items))) k result
      → Says (record b { differentials = v }) (λ s. say_named s (λ c. suc (length c.differentials)) j add_differential k)
  differentials_in j h =
      named_in ps b (record b { differentials = v }) true (λ c. suc (length c.differentials)) j add_differential b.differentials.items v.items
      (nat_eq j (suc (length b.differentials.items))) k result (ap (λ n. nat_eq j (suc n)) (long ps b.differentials.items))
      (λ e. ap (λ l. record (block_of ps b) { differentials = l }) (parts_push ps b.differentials.items v.items k e)) h

  pub differential_said : (j : ℕ) → Adds ps b.differentials.items v.items (nat_eq j (suc (length b.differentials.items))) k result
      → Says (record b { differentials = v }) (λ s. say s (Row kinds.D (j, (k, tt))))
  unfolding say
  differential_said j h =
      let c : Block = record b { differentials = v } in
      on_ok (SaysIn ps b c (λ s. say_named s (λ c. suc (length c.differentials)) j add_differential k)) (SaysIn ps b c (λ s. say s (Row kinds.D (j, (k, tt))))) result
      (λ said f s e is. subst (λ o. IsSaid said (with_block s ps c) (say_differential s o s.asked j k)) (sym is) (f s e is)) (differentials_in j h)

  kernel_in : (j : ℕ) → Adds ps b.kernels.items v.items (nat_lt 0 j && nat_eq j (length b.kernels.items)) k result
      → Says (record b { kernels = v }) (λ s. where_so (nat_lt 0 j) (say_named s (λ c. length c.kernels) j add_kernel k))
  kernel_in j h =
      named_in ps b (record b { kernels = v }) (nat_lt 0 j) (λ c. length c.kernels) j add_kernel b.kernels.items v.items
      (nat_lt 0 j && nat_eq j (length b.kernels.items)) k result (ap (λ n. nat_lt 0 j && nat_eq j n) (long ps b.kernels.items))
      (λ e. ap (λ l. record (block_of ps b) { kernels = l }) (parts_push ps b.kernels.items v.items k e)) h

  pub chain_said : (j : ℕ) (shown : ℕ × ℕ × ℕ) → Adds ps b.kernels.items v.items (nat_lt 0 j && nat_eq j (length b.kernels.items)) k result
      → Says (record b { kernels = v }) (λ s. say s (Row kinds.Chain (j, (k, (shown.0, (shown.1, (shown.2, tt)))))))
  unfolding say
  chain_said j shown h = kernel_in j h

  pub k_said : (j : ℕ) → Adds ps b.kernels.items v.items (nat_lt 0 j && nat_eq j (length b.kernels.items)) k result
      → Says (record b { kernels = v }) (λ s. say s (Row kinds.K (j, (k, tt))))
  unfolding say
  k_said j h = kernel_in j h

-- ---- other rows

so_said : (b : Bool) (s t : Sheet) → t ≡ s → IsSaid b t (where_so b (Some s))
so_said true s t e = ap (λ x. Some x) (sym e)
so_said false s t e = refl

same_block : (s : Sheet) (o : Option sheets.Block) → s.block ≡ o → record s { block = o } ≡ s
same_block s o e = ap (λ x. record s { block = x }) (sym e)

pub stable_said : (ps : List Part) (b : Block) (t w : ℕ) (said : Bool) → said ≡ nat_lt t (length b.kernels.items) → SaysIn ps b b (λ s. say s (Row kinds.Stable (t, (w, tt)))) said
unfolding say
stable_said ps b t w said h s e is =
    let B = block_of ps b in
    subst (λ (x : Bool). IsSaid x (with_block s ps b) (s.block >>= λ b. where_so (nat_lt t (length b.kernels)) (Some s))) (sym h)
    (subst (λ o. IsSaid (nat_lt t (length b.kernels.items)) (with_block s ps b) (o >>= λ b. where_so (nat_lt t (length b.kernels)) (Some s))) (sym is)
    (subst (λ n. IsSaid (nat_lt t (length b.kernels.items)) (with_block s ps b) (where_so (nat_lt t n) (Some s))) (long ps b.kernels.items)
    (so_said (nat_lt t (length b.kernels.items)) s (with_block s ps b) (same_block s (Some B) is))))

-- ---- where no block is at hand

-- what a row says of a sheet with these parts, and no block
abbrev pub SaysBeside : List Part → Query → (Sheet → Option Sheet) → Bool → Type 0
SaysBeside ps z row said = (s : Sheet) → s.parts ≡ ps → s.block ≡ None → s.asked ≡ Some z → IsSaid said s (row s)

found_said : (s : Sheet) (ps : List Part) (k : ℕ) (b : Bool) → is_number ps k ≡ b → IsSaid b s (option_map (λ x. s) (numbered ps k))
found_said s ps k true h = ap (option_map (λ x. s)) (there ps k h)
found_said s ps k false h = ap (option_map (λ x. s)) (numbered_none ps k h)

pub number_told : (ps : List Part) (k : ℕ) (o : Option ℕ) (b : Bool) → IsNumbered ps k o → b ≡ is_some o → b ≡ is_number ps k
number_told ps k None b h e = e ∙ sym h
number_told ps k (Some n) b h e = e ∙ sym h.1

pub member_said : {F : Type 0} (ps : List Part) (z : Query) (j k : ℕ) (result : Result Bool F) → (m : ℕ) × (f : PolyValue) × (z ≡ queries.Member m f)
    → IfOk result (λ b. b ≡ is_number ps k) → IfOk result (SaysBeside ps z (λ s. say s (Row kinds.D (j, (k, tt)))))
unfolding say
member_said ps z j k (Err e) m h = tt
member_said ps z j k (Ok said) m h = λ s e is asked.
    subst (λ o. IsSaid said s (say_differential s o s.asked j k)) (sym is)
    (subst (λ o. IsSaid said s (say_differential s None o j k)) (sym (asked ∙ ap (λ x. Some x) m.2))
    (subst (λ qs. IsSaid said s (option_map (λ x. s) (numbered qs k))) (sym e) (found_said s ps k said (sym h))))

no_differential : (s : Sheet) (z : Query) (j k : ℕ) → ((m : ℕ) (f : PolyValue) → z ≡ queries.Member m f → ⊥) → say_differential s None (Some z) j k ≡ None
no_differential s (queries.Zero i n) j k h = refl
no_differential s (queries.Class i n e z) j k h = refl
no_differential s (queries.Root i n) j k h = refl
no_differential s (queries.Invert i n f) j k h = refl
no_differential s (queries.Support i n) j k h = refl
no_differential s (queries.Map i n t) j k h = refl
no_differential s (queries.Member n f) j k h = absurd (h n f refl)
no_differential s (queries.Resolution i n) j k h = refl
no_differential s (queries.ExtOf i n) j k h = refl

pub other_differential : (ps : List Part) (z : Query) (j k : ℕ) → ((m : ℕ) (f : PolyValue) → z ≡ queries.Member m f → ⊥) → SaysBeside ps z (λ s. say s (Row kinds.D (j, (k, tt)))) false
unfolding say
other_differential ps z j k h s e is asked =
    ap (λ o. say_differential s o s.asked j k) is ∙ ap (λ o. say_differential s None o j k) asked ∙ no_differential s z j k h

-- a matrix can't be named
nothing_named : (s : Sheet) (wanted : sheets.Block → ℕ) (n : ℕ) (add : sheets.Block → Part → sheets.Block) (k : ℕ) → s.block ≡ None → say_named s wanted n add k ≡ None
nothing_named s wanted n add k is = ap (λ o. o >>= λ b. where_so (nat_eq n (wanted b)) (option_map (λ x. record s { block = Some (add b x) }) (numbered s.parts k))) is

no_kernel : (s : Sheet) (j : ℕ) (k : ℕ) (b : Bool) → s.block ≡ None → where_so b (say_named s (λ c. length c.kernels) j add_kernel k) ≡ None
no_kernel s j k true is = nothing_named s (λ c. length c.kernels) j add_kernel k is
no_kernel s j k false is = refl

module _ (ps : List Part) (z : Query) where
  abbrev CannotSay : (Sheet → Option Sheet) → Type 0
  CannotSay row = SaysBeside ps z row false

  pub no_lift : (j k : ℕ) → CannotSay (λ s. say s (Row kinds.Theta (j, (k, tt))))
  unfolding say
  no_lift j k s e is asked = nothing_named s (λ b. length b.lift) j add_lift k is

  pub no_generators : (k : ℕ) (shown : ℕ × ℕ × ℕ) → CannotSay (λ s. say s (Row kinds.Cocycles (k, (shown.0, (shown.1, (shown.2, tt))))))
  unfolding say
  no_generators k shown s e is asked = nothing_named s (λ b. length b.cocycles) 0 add_cocycles k is

  pub no_z : (k : ℕ) → CannotSay (λ s. say s (Row kinds.Z (k, tt)))
  unfolding say
  no_z k s e is asked = nothing_named s (λ b. length b.cocycles) 0 add_cocycles k is

  pub no_relations : (k : ℕ) (shown : ℕ × ℕ × ℕ) → CannotSay (λ s. say s (Row kinds.Relations (k, (shown.0, (shown.1, (shown.2, tt))))))
  unfolding say
  no_relations k shown s e is asked = nothing_named s (λ b. length b.kernels) 0 add_kernel k is

  pub no_n : (k : ℕ) → CannotSay (λ s. say s (Row kinds.N (k, tt)))
  unfolding say
  no_n k s e is asked = nothing_named s (λ b. length b.kernels) 0 add_kernel k is

  pub no_morphism : (k : ℕ) → CannotSay (λ s. say s (Row kinds.Morphism (k, tt)))
  unfolding say
  no_morphism k s e is asked = nothing_named s (λ b. length b.morphism) 0 add_morphism k is

  pub no_u : (k : ℕ) → CannotSay (λ s. say s (Row kinds.U (k, tt)))
  unfolding say
  no_u k s e is asked = nothing_named s (λ b. length b.morphism) 0 add_morphism k is

  pub no_chain : (j k : ℕ) (shown : ℕ × ℕ × ℕ) → CannotSay (λ s. say s (Row kinds.Chain (j, (k, (shown.0, (shown.1, (shown.2, tt)))))))
  unfolding say
  no_chain j k shown s e is asked = no_kernel s j k (nat_lt 0 j) is

  pub no_k : (j k : ℕ) → CannotSay (λ s. say s (Row kinds.K (j, (k, tt))))
  unfolding say
  no_k j k s e is asked = no_kernel s j k (nat_lt 0 j) is

  pub no_stable : (t w : ℕ) → CannotSay (λ s. say s (Row kinds.Stable (t, (w, tt))))
  unfolding say
  no_stable t w s e is asked = ap (λ o. o >>= λ b. where_so (nat_lt t (length b.kernels)) (Some s)) is

-- ---- rows that name nothing

pub not_needing : (row : rows.Row) → ((j k : ℕ) → row ≡ rows.TheVariants.Theta j k → ⊥) → ((k : ℕ) (w : Generated) → row ≡ rows.TheVariants.Cocycles k w → ⊥)
    → ((k : ℕ) → row ≡ rows.TheVariants.Z k → ⊥) → ((k : ℕ) (w : Generated) → row ≡ rows.TheVariants.Relations k w → ⊥) → ((k : ℕ) → row ≡ rows.TheVariants.N k → ⊥)
    → ((k : ℕ) → row ≡ rows.TheVariants.Morphism k → ⊥) → ((k : ℕ) → row ≡ rows.TheVariants.U k → ⊥) → ((j k : ℕ) (w : Generated) → row ≡ rows.TheVariants.Chain j k w → ⊥)
    → ((j k : ℕ) → row ≡ rows.TheVariants.K j k → ⊥) → ((t w : ℕ) → row ≡ rows.TheVariants.Stable t w → ⊥) → needs_block row ≡ false
not_needing (rows.TheVariants.Theta j k) a b c d e f g h i l = absurd (a j k refl)
not_needing (rows.TheVariants.Cocycles k w) a b c d e f g h i l = absurd (b k w refl)
not_needing (rows.TheVariants.Z k) a b c d e f g h i l = absurd (c k refl)
not_needing (rows.TheVariants.Relations k w) a b c d e f g h i l = absurd (d k w refl)
not_needing (rows.TheVariants.N k) a b c d e f g h i l = absurd (e k refl)
not_needing (rows.TheVariants.Morphism k) a b c d e f g h i l = absurd (f k refl)
not_needing (rows.TheVariants.U k) a b c d e f g h i l = absurd (g k refl)
not_needing (rows.TheVariants.Chain j k w) a b c d e f g h i l = absurd (h j k w refl)
not_needing (rows.TheVariants.K j k) a b c d e f g h i l = absurd (i j k refl)
not_needing (rows.TheVariants.Stable t w) a b c d e f g h i l = absurd (l t w refl)
not_needing row a b c d e f g h i l = refl

pub nothing_said : (row : rows.Row) → names_in_block row ≡ true → ((j k : ℕ) → row ≡ rows.TheVariants.D j k → ⊥) → needs_block row ≡ false
    → (s : Sheet) → say s (row_line row) ≡ Some s
unfolding say
nothing_said (rows.TheVariants.D j k) n d w s = absurd (d j k refl)
nothing_said (rows.TheVariants.Theta j k) n d w s = absurd (cc w)
nothing_said (rows.TheVariants.Cocycles k v) n d w s = absurd (cc w)
nothing_said (rows.TheVariants.Z k) n d w s = absurd (cc w)
nothing_said (rows.TheVariants.Relations k v) n d w s = absurd (cc w)
nothing_said (rows.TheVariants.N k) n d w s = absurd (cc w)
nothing_said (rows.TheVariants.Morphism k) n d w s = absurd (cc w)
nothing_said (rows.TheVariants.U k) n d w s = absurd (cc w)
nothing_said (rows.TheVariants.Chain j k v) n d w s = absurd (cc w)
nothing_said (rows.TheVariants.K j k) n d w s = absurd (cc w)
nothing_said (rows.TheVariants.Stable t v) n d w s = absurd (cc w)
nothing_said (rows.TheVariants.Lambda j k) n d w s = absurd (cc n)
nothing_said (rows.TheVariants.Ended ending) n d w s = absurd (cc n)
nothing_said (rows.TheVariants.Part k form) n d w s = absurd (cc n)
nothing_said (rows.TheVariants.Datum name degree) n d w s = absurd (cc n)
nothing_said (rows.TheVariants.Done k) n d w s = absurd (cc n)
nothing_said row n d w s = refl

pub nothing_in : (ps : List Part) (b : Block) (row : rows.Row) → names_in_block row ≡ true → ((j k : ℕ) → row ≡ rows.TheVariants.D j k → ⊥) → needs_block row ≡ false
    → SaysIn ps b b (λ s. say s (row_line row)) true
nothing_in ps b row n d w s e is = nothing_said row n d w s ∙ ap (λ x. Some x) (sym (same_block s (Some (block_of ps b)) is))

cannot : (ps : List Part) (z : Query) (row : rows.Row) → needs_block row ≡ true → SaysBeside ps z (λ s. say s (row_line row)) false
cannot ps z (rows.TheVariants.Theta j k) w = no_lift ps z j k
cannot ps z (rows.TheVariants.Cocycles k v) w = no_generators ps z k (v.log, v.x, v.w)
cannot ps z (rows.TheVariants.Z k) w = no_z ps z k
cannot ps z (rows.TheVariants.Relations k v) w = no_relations ps z k (v.log, v.x, v.w)
cannot ps z (rows.TheVariants.N k) w = no_n ps z k
cannot ps z (rows.TheVariants.Morphism k) w = no_morphism ps z k
cannot ps z (rows.TheVariants.U k) w = no_u ps z k
cannot ps z (rows.TheVariants.Chain j k v) w = no_chain ps z j k (v.log, v.x, v.w)
cannot ps z (rows.TheVariants.K j k) w = no_k ps z j k
cannot ps z (rows.TheVariants.Stable t v) w = no_stable ps z t v
cannot ps z row w = absurd (cc w)

-- a row is said without a block where it needs none
pub needs_told : (ps : List Part) (z : Query) (row : rows.Row) → names_in_block row ≡ true → ((j k : ℕ) → row ≡ rows.TheVariants.D j k → ⊥)
    → (b : Bool) → b ≡ needs_block row → SaysBeside ps z (λ s. say s (row_line row)) (not b)
needs_told ps z row n d true e = cannot ps z row (sym e)
needs_told ps z row n d false e = λ s f is asked. nothing_said row n d (sym e) s

-- ---- the lift of the identity

pub identity_said : {F : Type 0} (ps : List Part) (at_hand : Option Block) (old new : List ℕ) (z : Query) (j k : ℕ) (result : Result Bool F)
    → Adds ps old new (nat_eq j (length old)) k result
    → IfOk result (λ said. (s : Sheet) → Shows ps at_hand old z s → IsSaid said (with_named s ps at_hand new) (say s (Row kinds.Lambda (j, (k, tt)))))
unfolding say
identity_said ps at_hand old new z j k (Err e) h = tt
identity_said {F = F} ps at_hand old new z j k (Ok said) h = λ s x.
    adds_said {F = F} ps (λ y. record s { identity = s.identity ++ y ∷ [] }) old new (nat_eq j (length old)) k (Ok said) h (with_named s ps at_hand new) (say s (Row kinds.Lambda (j, (k, tt))))
    (λ w. ap₂ (λ o l. record s { block = o; identity = l }) x.block (ap (λ l. l ++ part_at ps k ∷ []) x.identity ∙ parts_push ps old new k w))
    (ap₂ (λ l qs. where_so (nat_eq j (length l)) (option_map (λ y. record s { identity = s.identity ++ y ∷ [] }) (numbered qs k))) x.identity x.parts
    ∙ ap (λ n. where_so (nat_eq j n) (option_map (λ y. record s { identity = s.identity ++ y ∷ [] }) (numbered ps k))) (sym (long ps old)))
