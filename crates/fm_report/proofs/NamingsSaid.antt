-- Lines that name matrices are said.
use Rattle.std.proofs.Common.{◌≡◌, ℕ, zero, suc, ◌+◌, ◌^◌, ◌<◌, ◌≤◌, Bool, nat_eq, true, false, if◌then◌else◌, List, [], ◌∷◌, ◌++◌, map, length, Option, Some, None, option_map, refl, sym, ap, ap₂, ◌∙◌, subst, arith, append_assoc, append-nil, length-append}
use Rattle.std.specs.Prelude.{decimal}
use Rattle.std.proofs.lemmas.Bool.{and_parts, eq-eqb, eqb-true, ne_eqb, lt-ltb}
use Rattle.std.proofs.lemmas.List.{length-map, map-append}
use lib.Pointwise.{pointwise}
use Rattle.fm_algebra.specs.Poly.{None≢Some, Some-same}
use Rattle.fm_words.specs.Words.{AreNames, same_bytes}
use Rattle.fm_words.specs.Options.{◌>>=◌, where_so}
use Rattle.fm_words.specs.Parts.{Bytes}
use Rattle.fm_problem.specs.declared.problem.Problem.{Problem}
use Rattle.fm_poly.specs.Polys.{PolyValue}
use Rattle.fm_problem.specs.declared.query.Query.{Query}
use Rattle.fm_problem.specs.declared.query.Query as queries
use Rattle.fm_cert.specs.Fields.{number, columns, Item, field, Values, read_row, vector_word}
use Rattle.fm_cert.specs.Kinds as kinds
use Rattle.fm_cert.specs.Lines.{Line, Row, line_text}
use Rattle.fm_cert.specs.Naming.{Grid, grid_words, number_after, Naming, part_line, named, naming_lines, forms_with, forms_after, differentials, lifts, cocycles_naming, relations_naming, morphism_naming, kernels, identities, map_naming}
use Rattle.fm_cert.specs.Writable.{AreWritableVectors, IsWritableLine}
use Rattle.fm_cert.proofs.RowsRead.{row_read}
use Rattle.fm_report.specs.Parts.{Part, given}
use Rattle.fm_report.specs.Sheets.{Block, Answer, Sheet, numbered, say_named, add_differential, add_lift, add_cocycles, add_kernel, add_morphism, say}
use Rattle.fm_report.specs.Reading.{stated_by, sheet_after}
use Rattle.fm_report.proofs.Written.{says_append, after_append, writable_append}
use Rattle.fm_report.specs.Reports.{says, after, IsWritableAfter, AreWritable, begun}

-- ---- equal words
same_name : (x y : Bytes) → same_bytes x y ≡ true → x ≡ y
same_name [] [] h = refl
same_name [] (b ∷ y) h = absurd (let e : false ≡ true = h in cc)
same_name (a ∷ x) [] h = absurd (let e : false ≡ true = h in cc)
same_name (a ∷ x) (b ∷ y) h = ap₂ (λ u v. u ∷ v) (eqb-true a b (and_parts _ _ h).0) (same_name x y (and_parts _ _ h).1)

same_forms : (xs ys : List Bytes) → pointwise same_bytes xs ys ≡ true → xs ≡ ys
same_forms [] [] h = refl
same_forms [] (y ∷ ys) h = absurd (let e : false ≡ true = h in cc)
same_forms (x ∷ xs) [] h = absurd (let e : false ≡ true = h in cc)
same_forms (x ∷ xs) (y ∷ ys) h = ap₂ (λ u v. u ∷ v) (same_name x y (and_parts _ _ h).0) (same_forms xs ys (and_parts _ _ h).1)

abbrev pub given_of : Grid → Part
given_of g = given g.rows g.columns

abbrev pub parts_of : List Grid → List Part
parts_of gs = map given_of gs

-- what the lines under an answer have laid down: the finished blocks, the block at hand, and the lift of the identity
pub record Laid : Type 0 where
  pub finished : List Block
  pub block : Option Block
  pub identity : List Part

module _ (q : Problem) (h : AreNames q.vars) (l : length q.vars ≡ q.ring.vars) where
  -- a matrix that can be printed
  pub record IsGood (g : Grid) : Type 0 where
    pub rows : g.rows < 2 ^ 64
    pub few : length g.columns < 2 ^ 64
    pub writable : AreWritableVectors q.ring g.columns

  abbrev pub AllGood : List Grid → Type 0
  AllGood [] = Unit {0}
  AllGood (g ∷ gs) = IsGood g × AllGood gs

  abbrev pub GridsGood : List Naming → Type 0
  GridsGood [] = Unit {0}
  GridsGood (x ∷ xs) = IsGood x.grid × GridsGood xs

  abbrev fields : List Item
  fields = field number ∷ field columns ∷ []

  abbrev without_first : List Bytes → List Bytes
  without_first [] = []
  without_first (w ∷ ws) = ws

  grid_back : (g : Grid) → IsGood g → read_row q.ring q.vars fields (without_first (grid_words q.vars g)) ≡ Some (g.rows, (g.columns, tt))
  grid_back g w =
      ap (λ ws. read_row q.ring q.vars fields (decimal g.rows ∷ decimal (length g.columns) ∷ ws)) (sym (append-nil (map (vector_word q.vars) g.columns)))
      ∙ row_read q.ring q.vars h l fields (g.rows, (g.columns, tt)) refl (w.rows, ((w.few, w.writable), tt))

  -- two matrices with the same words are one part
  one_part : (f g : Grid) → IsGood f → IsGood g → grid_words q.vars f ≡ grid_words q.vars g → given_of f ≡ given_of g
  one_part f g v w e =
      let same : ◌≡◌ {A = Values fields} (f.rows, (f.columns, tt)) (g.rows, (g.columns, tt)) =
      Some-same (sym (grid_back f v) ∙ ap (λ ws. read_row q.ring q.vars fields (without_first ws)) e ∙ grid_back g w) in
      ap₂ given (ap (λ (x : Values fields). x.0) same) (ap (λ (x : Values fields). x.1.0) same)

  -- ---- numbers of parts
  later : (a : Part) (others : List Part) (j : ℕ) → numbered (a ∷ others) (suc (suc j)) ≡ numbered others (suc j)
  later a others j = rw (ne_eqb (suc (suc j)) 1 (omega arith)) (ap (numbered others) (omega arith))

  -- the number that is found is that of the part
  record Found (g : Grid) (k0 k : ℕ) (ps : List Part) : Type 0 where
    spot : ℕ
    counts : k ≡ k0 + suc spot
    part : numbered ps (suc spot) ≡ Some (given_of g)
    within : spot < length ps

  nothing : (n : ℕ) → zero + n ≡ n
  nothing n = omega arith

  one_more : (n : ℕ) → suc n ≡ n + 1
  one_more n = omega arith

  moved : (m n : ℕ) → suc m + suc n ≡ m + suc (suc n)
  moved m n = omega arith

  number_found : (k0 k : ℕ) (gs : List Grid) (g : Grid) → AllGood gs → IsGood g → number_after k0 (map (grid_words q.vars) gs) (grid_words q.vars g) ≡ Some k → Found g k0 k (parts_of gs)
  number_found k0 k [] g ws w e = absurd (None≢Some e)
  number_found k0 k (f ∷ gs) g ws w e =
      by_test (pointwise same_bytes (grid_words q.vars f) (grid_words q.vars g)) refl (number_found (suc k0) k gs g ws.1 w) e
    where
      by_test : (t : Bool) → pointwise same_bytes (grid_words q.vars f) (grid_words q.vars g) ≡ t → (number_after (suc k0) (map (grid_words q.vars) gs) (grid_words q.vars g) ≡ Some k → Found g (suc k0) k (parts_of gs))
          → (if t then Some (suc k0) else number_after (suc k0) (map (grid_words q.vars) gs) (grid_words q.vars g)) ≡ Some k → Found g k0 k (given_of f ∷ parts_of gs)
      by_test true same rest e = record {
        spot = 0;
        counts = sym (Some-same e) ∙ one_more k0;
        part = ap Some (one_part f g ws.0 w (same_forms (grid_words q.vars f) (grid_words q.vars g) same));
        within = omega arith;
      }
      by_test false same rest e = record {
        spot = suc (rest e).spot;
        counts = (rest e).counts ∙ moved k0 (rest e).spot;
        part = later (given_of f) (parts_of gs) (rest e).spot ∙ (rest e).part;
        within = omega (arith, (rest e).within);
      }

  last_part : (ps : List Part) (a : Part) → numbered (ps ++ a ∷ []) (length ps + 1) ≡ Some a
  last_part [] a = refl
  last_part (b ∷ ps) a = rw (ne_eqb (length (b ∷ ps) + 1) 1 (omega arith)) (ap (numbered (ps ++ a ∷ [])) (omega arith) ∙ last_part ps a)

  -- ---- lines, under the answer to query k
  module _ (k : ℕ) (z : Query) (a : Answer) where
    unfoldable pub under : List Part → Laid → Sheet
    under ps d = record {
      head = Some (begun q q.ideals);
      count = k;
      asked = Some z;
      answer = Some a;
      parts = ps;
      finished = d.finished;
      block = d.block;
      identity = d.identity;
    }

    -- a line that can be written leads from one sheet to another, and states nothing
    record Step (s t : Sheet) (x : Line) : Type 0 where
      after : IsWritableAfter q.vars s x
      said : say s x ≡ Some t
      quiet : stated_by s x ≡ []

    step : (ps : List Part) (d : Laid) (t : Sheet) (x : Line) → IsWritableLine q.ring (Some z) x → say (under ps d) x ≡ Some t → stated_by (under ps d) x ≡ [] → Step (under ps d) t x
    unfolding under
    step ps d t x w e n = record { after = record { named = h; listed = l; printed = refl; writable = w; next = t; said = e }; said = e; quiet = n }

    -- a line that lays its matrix down
    pub record Puts (x : Naming) (c d : Laid) : Type 0 where
      pub said : (ps : List Part) (n : ℕ) → numbered ps n ≡ Some (given_of x.grid) → say (under ps c) (x.line n) ≡ Some (under ps d)
      pub writable : (n : ℕ) → n < 2 ^ 64 → IsWritableLine q.ring (Some z) (x.line n)
      pub quiet : (s : Sheet) (n : ℕ) → stated_by s (x.line n) ≡ []

    abbrev pub AllPut : List Naming → Laid → Laid → Type 0
    AllPut [] c d = c ≡ d
    AllPut (x ∷ xs) c d = (e : Laid) × Puts x c e × AllPut xs e d

    pub puts_append : (xs ys : List Naming) (c d e : Laid) → AllPut xs c d → AllPut ys d e → AllPut (xs ++ ys) c e
    puts_append [] ys c d e p r = subst (λ x. AllPut ys x e) (sym p) r
    puts_append (x ∷ xs) ys c d e (m, put, rest) r = (m, put, puts_append xs ys m d e rest r)

    -- The lines lead from what is laid down to more, and state nothing. Before them the parts are the matrices gs, and after them hs.
    pub record Leads (gs : List Grid) (c : Laid) (ls : List Line) (hs : List Grid) (d : Laid) : Type 0 where
      pub good : AllGood hs
      pub writable : AreWritable q.vars (under (parts_of gs) c) ls
      pub ends : after (under (parts_of gs) c) ls ≡ under (parts_of hs) d
      pub silent : says (under (parts_of gs) c) ls ≡ []

    onward : (gs es hs : List Grid) (c e d : Laid) (x : Line) (ls : List Line) → Step (under (parts_of gs) c) (under (parts_of es) e) x → Leads es e ls hs d → Leads gs c (x ∷ ls) hs d
    onward gs es hs c e d x ls s r = record {
      good = r.good;
      writable = (s.after, subst (λ o. AreWritable q.vars (sheet_after (under (parts_of gs) c) o) ls) (sym s.said) r.writable);
      ends = ap (λ o. after (sheet_after (under (parts_of gs) c) o) ls) s.said ∙ r.ends;
      silent = ap₂ (λ u o. u ++ says (sheet_after (under (parts_of gs) c) o) ls) s.quiet s.said ∙ r.silent;
    }

    leads_nowhere : (gs : List Grid) (c : Laid) → AllGood gs → Leads gs c [] gs c
    leads_nowhere gs c v = record { good = v; writable = tt; ends = refl; silent = refl }

    pub leads_append : (gs es hs : List Grid) (c e d : Laid) (ls ms : List Line) → Leads gs c ls es e → Leads es e ms hs d → Leads gs c (ls ++ ms) hs d
    leads_append gs es hs c e d ls ms f r = record {
      good = r.good;
      writable = writable_append q.vars (under (parts_of gs) c) ls ms f.writable (subst (λ s. AreWritable q.vars s ms) (sym f.ends) r.writable);
      ends = after_append (under (parts_of gs) c) ls ms ∙ ap (λ s. after s ms) f.ends ∙ r.ends;
      silent = says_append (under (parts_of gs) c) ls ms ∙ ap₂ (λ u s. u ++ says s ms) f.silent f.ends ∙ r.silent;
    }

    -- a line without a matrix
    pub plain_leads : (gs : List Grid) (c d : Laid) (x : Line) → AllGood gs → IsWritableLine q.ring (Some z) x → ((ps : List Part) → say (under ps c) x ≡ Some (under ps d))
        → ((s : Sheet) → stated_by s x ≡ []) → Leads gs c (x ∷ []) gs d
    plain_leads gs c d x v w e n = onward gs gs gs c d d x [] (step (parts_of gs) c (under (parts_of gs) d) x w (e (parts_of gs)) (n (under (parts_of gs) c))) (leads_nowhere gs d v)

    -- ---- lines that name matrices
    part_said : (ps : List Part) (c : Laid) (g : Grid) (n : ℕ) → n ≡ length ps + 1 → say (under ps c) (part_line n g) ≡ Some (under (ps ++ given_of g ∷ []) c)
    unfolding under say
    part_said ps c g n e = ap (λ (t : Bool). where_so t (Some (record (under ps c) { parts = ps ++ given_of g ∷ [] }))) (eq-eqb n (suc (length ps)) (omega (arith, e)))

    grown : (gs : List Grid) (g : Grid) → AllGood gs → IsGood g → AllGood (gs ++ g ∷ [])
    grown [] g v w = (w, tt)
    grown (f ∷ gs) g v w = (v.0, grown gs g v.1 w)

    -- the lines lead there, and these forms have numbers afterwards
    pub record NamesIn (gs : List Grid) (ls : List Line) (fs : List (List Bytes)) (most : ℕ) (c d : Laid) : Type 0 where
      pub grids : List Grid
      pub leads : Leads gs c ls grids d
      pub forms : fs ≡ map (grid_words q.vars) grids
      pub few : length grids ≤ most

    abbrev pub Names : List Grid → List Naming → Laid → Laid → Type 0
    Names gs xs c d = NamesIn gs (naming_lines q.vars xs (map (grid_words q.vars) gs)) (forms_after q.vars xs (map (grid_words q.vars) gs)) (length gs + length xs) c d

    -- one more line before them
    onward_in : (gs hs : List Grid) (c e d : Laid) (x : Line) (ls : List Line) (fs : List (List Bytes)) (most more : ℕ) → most ≤ more → Step (under (parts_of gs) c) (under (parts_of hs) e) x → NamesIn hs ls fs most e d
        → NamesIn gs (x ∷ ls) fs more c d
    onward_in gs hs c e d x ls fs most more h s n = record { grids = n.grids; leads = onward gs hs n.grids c e d x ls s n.leads; forms = n.forms; few = let less = n.few in omega (arith, h, less) }

    pub names_said : (gs : List Grid) (xs : List Naming) (c d : Laid) → AllGood gs → GridsGood xs → length gs + length xs + 1 < 2 ^ 64 → AllPut xs c d → Names gs xs c d
    names_said gs [] c d v w few p = subst (λ x. NamesIn gs [] (map (grid_words q.vars) gs) (length gs + 0) c x) p (record { grids = gs; leads = leads_nowhere gs c v; forms = refl; few = omega arith })
    names_said gs (x ∷ xs) c d v w few (e, put, rest) = by (number_after zero (map (grid_words q.vars) gs) (grid_words q.vars x.grid)) refl
        (names_said gs xs e d v w.1 (omega (arith, few)) rest) (names_said (gs ++ x.grid ∷ []) xs e d (grown gs x.grid v w.0) w.1 (omega (arith, few, length-append gs (x.grid ∷ []))) rest)
      where
        forms : List (List Bytes)
        forms = map (grid_words q.vars) gs

        forms_grown : map (grid_words q.vars) (gs ++ x.grid ∷ []) ≡ map (grid_words q.vars) gs ++ grid_words q.vars x.grid ∷ []
        forms_grown = map-append (grid_words q.vars) gs (x.grid ∷ [])

        parts_grown : parts_of (gs ++ x.grid ∷ []) ≡ parts_of gs ++ given_of x.grid ∷ []
        parts_grown = map-append given_of gs (x.grid ∷ [])

        forms_count : length (map (grid_words q.vars) gs) + 1 ≡ length (parts_of gs) + 1
        forms_count = ap (λ n. n + 1) (length-map gs (grid_words q.vars) ∙ sym (length-map gs given_of))

        number_small : length (map (grid_words q.vars) gs) + 1 < 2 ^ 64
        number_small = let n = length-map gs (grid_words q.vars) in omega (arith, few, n)

        by : (o : Option ℕ) → number_after zero (map (grid_words q.vars) gs) (grid_words q.vars x.grid) ≡ o → Names gs xs e d → Names (gs ++ x.grid ∷ []) xs e d
            → NamesIn gs (named q.vars o x (map (grid_words q.vars) gs) (naming_lines q.vars xs)) (forms_after q.vars xs (forms_with o (map (grid_words q.vars) gs) (grid_words q.vars x.grid))) (length gs + suc (length xs)) c d
        by (Some n) is known fresh =
            let f = number_found zero n gs x.grid v w.0 is in
            let here : numbered (parts_of gs) n ≡ Some (given_of x.grid) = ap (numbered (parts_of gs)) (f.counts ∙ nothing (suc f.spot)) ∙ f.part in
            let small : n < 2 ^ 64 = let c = f.counts in let i = f.within in let m = length-map gs given_of in omega (arith, few, c, i, m) in
            let s = step (parts_of gs) c (under (parts_of gs) e) (x.line n) (put.writable n small) (put.said (parts_of gs) n here) (put.quiet (under (parts_of gs) c) n) in
            onward_in gs gs c e d (x.line n) (naming_lines q.vars xs (map (grid_words q.vars) gs)) (forms_after q.vars xs (map (grid_words q.vars) gs)) (length gs + length xs) (length gs + suc (length xs)) (omega arith) s known
        by None is known fresh =
            let hs = gs ++ x.grid ∷ [] in
            let n = length (map (grid_words q.vars) gs) + 1 in
            let here : numbered (parts_of hs) n ≡ Some (given_of x.grid) =
            ap (λ ps. numbered ps n) parts_grown ∙ ap (numbered (parts_of gs ++ given_of x.grid ∷ [])) forms_count ∙ last_part (parts_of gs) (given_of x.grid) in
            let part : say (under (parts_of gs) c) (part_line n x.grid) ≡ Some (under (parts_of hs) c) = part_said (parts_of gs) c x.grid n forms_count ∙ ap (λ ps. Some (under ps c)) (sym parts_grown) in
            let more = map (grid_words q.vars) gs ++ grid_words q.vars x.grid ∷ [] in
            let first = step (parts_of gs) c (under (parts_of hs) c) (part_line n x.grid) (tt, (number_small, (w.0.rows, ((w.0.few, w.0.writable), tt)))) part refl in
            let second = step (parts_of hs) c (under (parts_of hs) e) (x.line n) (put.writable n number_small) (put.said (parts_of hs) n here) (put.quiet (under (parts_of hs) c) n) in
            let later : NamesIn hs (naming_lines q.vars xs more) (forms_after q.vars xs more) (length hs + length xs) e d =
            subst (λ fs. NamesIn hs (naming_lines q.vars xs fs) (forms_after q.vars xs fs) (length hs + length xs) e d) forms_grown fresh in
            onward_in gs hs c c d (part_line n x.grid) (x.line n ∷ naming_lines q.vars xs more) (forms_after q.vars xs more) (length hs + length xs) (length gs + suc (length xs)) (omega (arith, length-append gs (x.grid ∷ []))) first
            (onward_in hs hs c e d (x.line n) (naming_lines q.vars xs more) (forms_after q.vars xs more) (length hs + length xs) (length hs + length xs) (omega arith) second later)

    -- ---- matrices of the block at hand
    named_puts : (c : Laid) (b : Block) (x : Naming) (wanted : Block → ℕ) (j : ℕ) (add : Block → Part → Block) → c.block ≡ Some b → j ≡ wanted b
        → ((ps : List Part) (n : ℕ) → say (under ps c) (x.line n) ≡ say_named (under ps c) wanted j add n) → ((n : ℕ) → n < 2 ^ 64 → IsWritableLine q.ring (Some z) (x.line n))
        → ((s : Sheet) (n : ℕ) → stated_by s (x.line n) ≡ []) → Puts x c (record c { block = Some (add b (given_of x.grid)) })
    unfolding under
    named_puts c b x wanted j add there e says w n = record {
      said = λ ps n here.
          says ps n ∙ ap (λ o. o >>= λ b. where_so (nat_eq j (wanted b)) (option_map (λ x. record (under ps c) { block = Some (add b x) }) (numbered ps n))) there
          ∙ ap (λ (t : Bool). where_so t (option_map (λ x. record (under ps c) { block = Some (add b x) }) (numbered ps n))) (eq-eqb j (wanted b) e)
          ∙ ap (option_map (λ x. record (under ps c) { block = Some (add b x) })) here;
      writable = w;
      quiet = n;
    }

    module _ (fs : List Block) (ids : List Part) where
      abbrev pub at_block : Block → Laid
      at_block b = record { finished = fs; block = Some b; identity = ids }

      -- a line that names a matrix of the block
      block_puts : (b : Block) (x : Naming) (wanted : Block → ℕ) (j : ℕ) (add : Block → Part → Block) → j ≡ wanted b
          → ((ps : List Part) (n : ℕ) → say (under ps (at_block b)) (x.line n) ≡ say_named (under ps (at_block b)) wanted j add n) → ((n : ℕ) → n < 2 ^ 64 → IsWritableLine q.ring (Some z) (x.line n))
          → ((s : Sheet) (n : ℕ) → stated_by s (x.line n) ≡ []) → Puts x (at_block b) (at_block (add b (given_of x.grid)))
      block_puts b x wanted j add e says w n = named_puts (at_block b) b x wanted j add refl e says w n

      differential_said : (j : ℕ) (b : Block) (ps : List Part) (n : ℕ)
          → say (under ps (at_block b)) (Row kinds.D (j, (n, tt))) ≡ say_named (under ps (at_block b)) (λ b. suc (length b.differentials)) j add_differential n
      unfolding under say
      differential_said j b ps n = refl

      pub differentials_put : (j : ℕ) (gs : List Grid) (b : Block) → j ≡ suc (length b.differentials) → j + length gs < 2 ^ 64
          → AllPut (differentials j gs) (at_block b) (at_block (record b { differentials = b.differentials ++ parts_of gs }))
      differentials_put j [] b e small = ap (λ x. at_block (record b { differentials = x })) (sym (append-nil b.differentials))
      differentials_put j (g ∷ gs) b e small =
          let d : Block = record b { differentials = b.differentials ++ given_of g ∷ [] } in (
            at_block d,
            block_puts b (record { line = λ n. Row kinds.D (j, (n, tt)); grid = g }) (λ b. suc (length b.differentials)) j add_differential e (differential_said j b) (λ n w. (tt, (omega (arith, small), (w, tt)))) (λ s n. refl),
            subst (λ x. AllPut (differentials (suc j) gs) (at_block d) (at_block (record b { differentials = x }))) (append_assoc b.differentials (given_of g ∷ []) (parts_of gs))
                (differentials_put (suc j) gs d (omega (arith, e, length-append b.differentials (given_of g ∷ []))) (omega (arith, small))),
          )

      lift_said : (j : ℕ) (b : Block) (ps : List Part) (n : ℕ) → say (under ps (at_block b)) (Row kinds.Theta (j, (n, tt))) ≡ say_named (under ps (at_block b)) (λ b. length b.lift) j add_lift n
      unfolding under say
      lift_said j b ps n = refl

      pub lifts_put : (j : ℕ) (gs : List Grid) (b : Block) → j ≡ length b.lift → j + length gs < 2 ^ 64 → AllPut (lifts j gs) (at_block b) (at_block (record b { lift = b.lift ++ parts_of gs }))
      lifts_put j [] b e small = ap (λ x. at_block (record b { lift = x })) (sym (append-nil b.lift))
      lifts_put j (g ∷ gs) b e small =
          let d : Block = record b { lift = b.lift ++ given_of g ∷ [] } in (
            at_block d,
            block_puts b (record { line = λ n. Row kinds.Theta (j, (n, tt)); grid = g }) (λ b. length b.lift) j add_lift e (lift_said j b) (λ n w. (tt, (omega (arith, small), (w, tt)))) (λ s n. refl),
            subst (λ x. AllPut (lifts (suc j) gs) (at_block d) (at_block (record b { lift = x }))) (append_assoc b.lift (given_of g ∷ []) (parts_of gs))
                (lifts_put (suc j) gs d (omega (arith, e, length-append b.lift (given_of g ∷ []))) (omega (arith, small))),
          )

      kernel_said : (j : ℕ) (b : Block) → 0 < j → (ps : List Part) (n : ℕ) → say (under ps (at_block b)) (Row kinds.K (j, (n, tt))) ≡ say_named (under ps (at_block b)) (λ b. length b.kernels) j add_kernel n
      unfolding under say
      kernel_said zero b h ps n = absurd (omega (arith, h))
      kernel_said (suc j) b h ps n =
          ap (λ (t : Bool). where_so t (say_named (under ps (at_block b)) (λ b. length b.kernels) (suc j) add_kernel n)) (lt-ltb 0 (suc j) (omega arith))

      pub kernels_put : (j : ℕ) (gs : List Grid) (b : Block) → 0 < j → j ≡ length b.kernels → j + length gs < 2 ^ 64 → AllPut (kernels j gs) (at_block b) (at_block (record b { kernels = b.kernels ++ parts_of gs }))
      kernels_put j [] b h e small = ap (λ x. at_block (record b { kernels = x })) (sym (append-nil b.kernels))
      kernels_put j (g ∷ gs) b h e small =
          let d : Block = record b { kernels = b.kernels ++ given_of g ∷ [] } in (
            at_block d,
            block_puts b (record { line = λ n. Row kinds.K (j, (n, tt)); grid = g }) (λ b. length b.kernels) j add_kernel e (kernel_said j b h) (λ n w. (tt, (omega (arith, small), (w, tt)))) (λ s n. refl),
            subst (λ x. AllPut (kernels (suc j) gs) (at_block d) (at_block (record b { kernels = x }))) (append_assoc b.kernels (given_of g ∷ []) (parts_of gs))
                (kernels_put (suc j) gs d (omega arith) (omega (arith, e, length-append b.kernels (given_of g ∷ []))) (omega (arith, small))),
          )

      single_said : (b : Block) (ps : List Part) (n : ℕ) → (say (under ps (at_block b)) (Row kinds.Z (n, tt)) ≡ say_named (under ps (at_block b)) (λ b. length b.cocycles) 0 add_cocycles n)
          × (say (under ps (at_block b)) (Row kinds.N (n, tt)) ≡ say_named (under ps (at_block b)) (λ b. length b.kernels) 0 add_kernel n)
          × (say (under ps (at_block b)) (Row kinds.U (n, tt)) ≡ say_named (under ps (at_block b)) (λ b. length b.morphism) 0 add_morphism n)
      unfolding under say
      single_said b ps n = (refl, refl, refl)

      -- Z, N and U
      pub presentation_put : (c n u : Grid) (b : Block) → b.cocycles ≡ [] → b.kernels ≡ [] → b.morphism ≡ [] → AllPut (cocycles_naming c ∷ relations_naming n ∷ morphism_naming u ∷ []) (at_block b)
          (at_block (record b { cocycles = b.cocycles ++ given_of c ∷ []; kernels = b.kernels ++ given_of n ∷ []; morphism = b.morphism ++ given_of u ∷ [] }))
      presentation_put c n u b no_c no_n no_u =
          let b1 : Block = record b { cocycles = b.cocycles ++ given_of c ∷ [] } in
          let b2 : Block = record b1 { kernels = b1.kernels ++ given_of n ∷ [] } in (
            at_block b1,
            block_puts b (cocycles_naming c) (λ b. length b.cocycles) 0 add_cocycles (sym (ap length no_c)) (λ ps n. (single_said b ps n).0) (λ n w. (tt, (w, tt))) (λ s n. refl),
            (
              at_block b2,
              block_puts b1 (relations_naming n) (λ b. length b.kernels) 0 add_kernel (sym (ap length no_n)) (λ ps n. (single_said b1 ps n).1) (λ n w. (tt, (w, tt))) (λ s n. refl),
              (
                at_block (record b2 { morphism = b2.morphism ++ given_of u ∷ [] }),
                block_puts b2 (morphism_naming u) (λ b. length b.morphism) 0 add_morphism (sym (ap length no_u)) (λ ps n. (single_said b2 ps n).2) (λ n w. (tt, (w, tt))) (λ s n. refl),
                refl,
              ),
            ),
          )

      -- a matrix that nothing rests on
      map_said : (c : Laid) (ps : List Part) (n : ℕ) → say (under ps c) (Row kinds.Phi (n, tt)) ≡ Some (under ps c)
      unfolding under say
      map_said c ps n = refl

      pub map_puts : (c : Laid) (g : Grid) → Puts (map_naming g) c c
      map_puts c g = record { said = λ ps n here. map_said c ps n; writable = λ n w. (tt, (w, tt)); quiet = λ s n. refl }

    -- lambda_j, ..
    identity_puts : (c : Laid) (j : ℕ) (g : Grid) → j ≡ length c.identity → j < 2 ^ 64 → Puts (record { line = λ n. Row kinds.Lambda (j, (n, tt)); grid = g }) c (record c { identity = c.identity ++ given_of g ∷ [] })
    unfolding under say
    identity_puts c j g e small = record {
      said = λ ps n here.
          ap (λ (t : Bool). where_so t (option_map (λ x. record (under ps c) { identity = c.identity ++ x ∷ [] }) (numbered ps n))) (eq-eqb j (length c.identity) e)
          ∙ ap (option_map (λ x. record (under ps c) { identity = c.identity ++ x ∷ [] })) here;
      writable = λ n w. (tt, (small, (w, tt)));
      quiet = λ s n. refl;
    }

    pub identities_put : (j : ℕ) (gs : List Grid) (c : Laid) → j ≡ length c.identity → j + length gs < 2 ^ 64 → AllPut (identities j gs) c (record c { identity = c.identity ++ parts_of gs })
    identities_put j [] c e small = ap (λ x. record c { identity = x }) (sym (append-nil c.identity))
    identities_put j (g ∷ gs) c e small =
        let d : Laid = record c { identity = c.identity ++ given_of g ∷ [] } in (
          d,
          identity_puts c j g e (omega (arith, small)),
          subst (λ x. AllPut (identities (suc j) gs) d (record c { identity = x })) (append_assoc c.identity (given_of g ∷ []) (parts_of gs))
              (identities_put (suc j) gs d (omega (arith, e, length-append c.identity (given_of g ∷ []))) (omega (arith, small))),
        )

-- d_1 under membership, without a block
module _ (q : Problem) (h : AreNames q.vars) (l : length q.vars ≡ q.ring.vars) (k m : ℕ) (f : PolyValue) (a : Answer) where
  pub member_puts : (ids : List Part) (j : ℕ) (g : Grid) → j < 2 ^ 64
      → Puts q h l k (queries.TheVariants.Member m f) a (record { line = λ n. Row kinds.D (j, (n, tt)); grid = g }) (record { finished = []; block = None; identity = ids }) (record { finished = []; block = None; identity = ids })
  unfolding under say
  member_puts ids j g small = record {
    said = λ ps n here. ap (option_map (λ x. under q h l k (queries.TheVariants.Member m f) a ps (record { finished = []; block = None; identity = ids }))) here;
    writable = λ n w. (tt, (small, (w, tt)));
    quiet = λ s n. refl;
  }
