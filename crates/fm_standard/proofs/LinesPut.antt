-- What claims lay down, by the kinds of their lines.
use Rattle.std.proofs.Common.{◌≡◌, ℕ, suc, ◌<◌, Bool, true, List, [], ◌∷◌, ◌++◌, length, Some, None, option_map, refl, sym, ap, ◌∙◌, subst, arith, append_assoc, append-nil, length-append}
use Rattle.std.proofs.lemmas.Bool.{eq-eqb, lt-ltb}
use Rattle.fm_poly.specs.Polys.{PolyValue}
use Rattle.fm_words.specs.Options.{where_so}
use Rattle.fm_groebner.specs.Logs.{Entry}
use Rattle.fm_problem.specs.declared.problem.Problem.{Problem}
use Rattle.fm_problem.specs.declared.query.Query.{Query}
use Rattle.fm_problem.specs.declared.query.Query as queries
use Rattle.fm_cert.specs.Fields.{Values}
use Rattle.fm_cert.specs.Kinds.{Kind, row}
use Rattle.fm_cert.specs.Kinds as kinds
use Rattle.fm_cert.specs.Lines.{Line, Row}
use Rattle.fm_cert.specs.Writable.{IsWritableLine}
use Rattle.fm_report.specs.Parts.{Part}
use Rattle.fm_report.specs.Sheets.{Block, Answer, Sheet, numbered, say_named, add_differential, add_lift, add_cocycles, add_kernel, add_morphism, say}
use Rattle.fm_report.specs.Verdicts.{stated, block_root}
use Rattle.fm_report.specs.Reading.{stated_by}
use Rattle.fm_report.specs.Holding.{IsHeld, AllHold}
use Rattle.fm_standard.specs.Small.{IsSmallLine}
use Rattle.fm_standard.specs.Writing.{Reference, part, log, Claim, at, part_claim, generated_claim}
use Rattle.fm_standard.specs.Said.{Laid, under, AreNamed, Puts, AllPut}
use Rattle.fm_standard.proofs.IdleLines.{is_idle, idle, idle_writable}

-- a part for each index, from j on
abbrev pub indexed_claims : ((j p : ℕ) → Line) → ℕ → List Part → List Claim
indexed_claims line j [] = []
indexed_claims line j (a ∷ more) = part_claim a (line j) ∷ indexed_claims line (suc j) more

-- the part that is named first has the first number
first_named : (ps : List Part) (a : Part) (xs : List Reference) (ns : List ℕ) → AreNamed ps (part a ∷ xs) ns → numbered ps (at ns 0) ≡ Some a
first_named ps a xs [] e = absurd e
first_named ps a xs (n ∷ ns) e = e.0

module _ (q : Problem) (k : ℕ) (z : Query) (answer : Answer) where
  -- ---- lines that change nothing
  pub idle_puts : (x : Claim) (kind : Kind) (values : List ℕ → Values (row kind)) → ((ns : List ℕ) → x.line ns ≡ Row kind (values ns)) → is_idle kind ≡ true → (c : Laid)
      → Puts q k z answer x c c
  idle_puts x kind values line t c = record {
    said = λ ps ns named. ap (say (under q k z answer ps c)) (line ns) ∙ (idle kind t).said (under q k z answer ps c) (values ns);
    writable = λ ps ns named small. subst (IsWritableLine q.ring (Some z)) (sym (line ns)) (idle_writable q.ring (Some z) kind (values ns) t (subst IsSmallLine (line ns) small));
    holds = λ ps ns named. subst (λ y. AllHold (stated_by (under q k z answer ps c) y)) (sym (line ns)) ((idle kind t).holds (under q k z answer ps c) (values ns));
  }

  -- ---- matrices of the block at hand
  module _ (fs : List Block) (ids : List Part) where
    abbrev pub at_block : Block → Laid
    at_block b = record { finished = fs; block = Some b; identity = ids }

    -- a line that names first a matrix of the block
    named_puts : (b : Block) (a : Part) (xs : List Reference) (line : List ℕ → Line) (wanted : Block → ℕ) (j : ℕ) (add : Block → Part → Block) → j ≡ wanted b
        → ((ps : List Part) (ns : List ℕ) → say (under q k z answer ps (at_block b)) (line ns) ≡ say_named (under q k z answer ps (at_block b)) wanted j add (at ns 0))
        → ((ns : List ℕ) → IsSmallLine (line ns) → IsWritableLine q.ring (Some z) (line ns)) → ((s : Sheet) (ns : List ℕ) → AllHold (stated_by s (line ns)))
        → Puts q k z answer (record { names = part a ∷ xs; line = line }) (at_block b) (at_block (add b a))
    unfolding under
    named_puts b a xs line wanted j add e says w n = record {
      said = λ ps ns named.
          says ps ns
          ∙ ap (λ (t : Bool). where_so t (option_map (λ x. under q k z answer ps (at_block (add b x))) (numbered ps (at ns 0)))) (eq-eqb j (wanted b) e)
          ∙ ap (option_map (λ x. under q k z answer ps (at_block (add b x)))) (first_named ps a xs ns named);
      writable = λ ps ns named small. w ns small;
      holds = λ ps ns named. n (under q k z answer ps (at_block b)) ns;
    }

    differential_said : (j : ℕ) (b : Block) (ps : List Part) (n : ℕ)
        → say (under q k z answer ps (at_block b)) (Row kinds.D (j, (n, tt))) ≡ say_named (under q k z answer ps (at_block b)) (λ b. suc (length b.differentials)) j add_differential n
    unfolding under say
    differential_said j b ps n = refl

    -- `d j`
    pub differential_puts : (b : Block) (j : ℕ) (a : Part) → j ≡ suc (length b.differentials) → Puts q k z answer (part_claim a (λ p. Row kinds.D (j, (p, tt)))) (at_block b) (at_block (add_differential b a))
    differential_puts b j a e =
        named_puts b a [] (λ ns. Row kinds.D (j, (at ns 0, tt))) (λ b. suc (length b.differentials)) j add_differential e (λ ps ns. differential_said j b ps (at ns 0)) (λ ns s. (tt, s)) (λ s ns. tt)

    -- `d j`, `d j+1`, ..
    pub differentials_put : (j : ℕ) (xs : List Part) (b : Block) → j ≡ suc (length b.differentials)
        → AllPut q k z answer (indexed_claims (λ j p. Row kinds.D (j, (p, tt))) j xs) (at_block b) (at_block (record b { differentials = b.differentials ++ xs }))
    differentials_put j [] b e = ap (λ x. at_block (record b { differentials = x })) (sym (append-nil b.differentials))
    differentials_put j (a ∷ xs) b e = (
      at_block (add_differential b a),
      differential_puts b j a e,
      subst (λ x. AllPut q k z answer (indexed_claims (λ j p. Row kinds.D (j, (p, tt))) (suc j) xs) (at_block (add_differential b a)) (at_block (record b { differentials = x })))
          (append_assoc b.differentials (a ∷ []) xs) (differentials_put (suc j) xs (add_differential b a) (omega (arith, e, length-append b.differentials (a ∷ [])))),
    )

    lift_said : (j : ℕ) (b : Block) (ps : List Part) (n : ℕ)
        → say (under q k z answer ps (at_block b)) (Row kinds.Theta (j, (n, tt))) ≡ say_named (under q k z answer ps (at_block b)) (λ b. length b.lift) j add_lift n
    unfolding under say
    lift_said j b ps n = refl

    -- `theta j`
    pub lift_puts : (b : Block) (j : ℕ) (a : Part) → j ≡ length b.lift → Puts q k z answer (part_claim a (λ p. Row kinds.Theta (j, (p, tt)))) (at_block b) (at_block (add_lift b a))
    lift_puts b j a e = named_puts b a [] (λ ns. Row kinds.Theta (j, (at ns 0, tt))) (λ b. length b.lift) j add_lift e (λ ps ns. lift_said j b ps (at ns 0)) (λ ns s. (tt, s)) (λ s ns. tt)

    -- `theta j`, `theta j+1`, ..
    pub lifts_put : (j : ℕ) (xs : List Part) (b : Block) → j ≡ length b.lift
        → AllPut q k z answer (indexed_claims (λ j p. Row kinds.Theta (j, (p, tt))) j xs) (at_block b) (at_block (record b { lift = b.lift ++ xs }))
    lifts_put j [] b e = ap (λ x. at_block (record b { lift = x })) (sym (append-nil b.lift))
    lifts_put j (a ∷ xs) b e = (
      at_block (add_lift b a),
      lift_puts b j a e,
      subst (λ x. AllPut q k z answer (indexed_claims (λ j p. Row kinds.Theta (j, (p, tt))) (suc j) xs) (at_block (add_lift b a)) (at_block (record b { lift = x })))
          (append_assoc b.lift (a ∷ []) xs) (lifts_put (suc j) xs (add_lift b a) (omega (arith, e, length-append b.lift (a ∷ [])))),
    )

    cocycles_said : (b : Block) (ps : List Part) (p n x w : ℕ)
        → say (under q k z answer ps (at_block b)) (Row kinds.Cocycles (p, (n, (x, (w, tt))))) ≡ say_named (under q k z answer ps (at_block b)) (λ b. length b.cocycles) 0 add_cocycles p
    unfolding under say
    cocycles_said b ps p n x w = refl

    -- `cocycles`
    pub cocycles_puts : (b : Block) (P G : Part) (entries : List Entry) (X W : Part) → b.cocycles ≡ []
        → Puts q k z answer (generated_claim P G entries X W (λ p n x w. Row kinds.Cocycles (p, (n, (x, (w, tt)))))) (at_block b) (at_block (add_cocycles b P))
    cocycles_puts b P G entries X W e =
        named_puts b P (log G entries ∷ part X ∷ part W ∷ []) (λ ns. Row kinds.Cocycles (at ns 0, (at ns 1, (at ns 2, (at ns 3, tt))))) (λ b. length b.cocycles) 0 add_cocycles (sym (ap length e))
        (λ ps ns. cocycles_said b ps (at ns 0) (at ns 1) (at ns 2) (at ns 3)) (λ ns s. (tt, s)) (λ s ns. tt)

    relations_said : (b : Block) (ps : List Part) (p n x w : ℕ)
        → say (under q k z answer ps (at_block b)) (Row kinds.Relations (p, (n, (x, (w, tt))))) ≡ say_named (under q k z answer ps (at_block b)) (λ b. length b.kernels) 0 add_kernel p
    unfolding under say
    relations_said b ps p n x w = refl

    -- `relations`: K_0
    pub relations_puts : (b : Block) (P G : Part) (entries : List Entry) (X W : Part) → b.kernels ≡ []
        → Puts q k z answer (generated_claim P G entries X W (λ p n x w. Row kinds.Relations (p, (n, (x, (w, tt)))))) (at_block b) (at_block (add_kernel b P))
    relations_puts b P G entries X W e =
        named_puts b P (log G entries ∷ part X ∷ part W ∷ []) (λ ns. Row kinds.Relations (at ns 0, (at ns 1, (at ns 2, (at ns 3, tt))))) (λ b. length b.kernels) 0 add_kernel (sym (ap length e))
        (λ ps ns. relations_said b ps (at ns 0) (at ns 1) (at ns 2) (at ns 3)) (λ ns s. (tt, s)) (λ s ns. tt)

    morphism_said : (b : Block) (ps : List Part) (n : ℕ)
        → say (under q k z answer ps (at_block b)) (Row kinds.Morphism (n, tt)) ≡ say_named (under q k z answer ps (at_block b)) (λ b. length b.morphism) 0 add_morphism n
    unfolding under say
    morphism_said b ps n = refl

    -- `morphism`
    pub morphism_puts : (b : Block) (a : Part) → b.morphism ≡ [] → Puts q k z answer (part_claim a (λ p. Row kinds.Morphism (p, tt))) (at_block b) (at_block (add_morphism b a))
    morphism_puts b a e =
        named_puts b a [] (λ ns. Row kinds.Morphism (at ns 0, tt)) (λ b. length b.morphism) 0 add_morphism (sym (ap length e)) (λ ps ns. morphism_said b ps (at ns 0)) (λ ns s. (tt, s)) (λ s ns. tt)

    kernel_said : (s : ℕ) (b : Block) → 0 < s → (ps : List Part) (p n x w : ℕ)
        → say (under q k z answer ps (at_block b)) (Row kinds.Chain (s, (p, (n, (x, (w, tt)))))) ≡ say_named (under q k z answer ps (at_block b)) (λ b. length b.kernels) s add_kernel p
    unfolding under say
    kernel_said s b some ps p n x w = ap (λ (t : Bool). where_so t (say_named (under q k z answer ps (at_block b)) (λ b. length b.kernels) s add_kernel p)) (lt-ltb 0 s some)

    -- `chain s`: K_s
    pub chain_puts : (b : Block) (s : ℕ) (P G : Part) (entries : List Entry) (X W : Part) → 0 < s → s ≡ length b.kernels
        → Puts q k z answer (generated_claim P G entries X W (λ p n x w. Row kinds.Chain (s, (p, (n, (x, (w, tt))))))) (at_block b) (at_block (add_kernel b P))
    chain_puts b s P G entries X W some e =
        named_puts b P (log G entries ∷ part X ∷ part W ∷ []) (λ ns. Row kinds.Chain (s, (at ns 0, (at ns 1, (at ns 2, (at ns 3, tt)))))) (λ b. length b.kernels) s add_kernel e
        (λ ps ns. kernel_said s b some ps (at ns 0) (at ns 1) (at ns 2) (at ns 3)) (λ ns s. (tt, s)) (λ s ns. tt)

    -- `stable t` states the root of its block
    pub stable_puts : (b : Block) (t : ℕ) (a : Part) → t < length b.kernels → IsHeld (stated q.ring (block_root q.ring q.ideals b t))
        → Puts q k z answer (part_claim a (λ p. Row kinds.Stable (t, (p, tt)))) (at_block b) (at_block b)
    unfolding under say
    stable_puts b t a within held = record {
      said = λ ps ns named. ap (λ (u : Bool). where_so u (Some (under q k z answer ps (at_block b)))) (lt-ltb t (length b.kernels) within);
      writable = λ ps ns named s. (tt, s);
      holds = λ ps ns named. (held, tt);
    }

  -- ---- the lift of the identity
  -- `lambda j`
  pub identity_puts : (c : Laid) (j : ℕ) (a : Part) → j ≡ length c.identity → Puts q k z answer (part_claim a (λ p. Row kinds.Lambda (j, (p, tt)))) c (record c { identity = c.identity ++ a ∷ [] })
  unfolding under say
  identity_puts c j a e = record {
    said = λ ps ns named.
        ap (λ (t : Bool). where_so t (option_map (λ x. under q k z answer ps (record c { identity = c.identity ++ x ∷ [] })) (numbered ps (at ns 0)))) (eq-eqb j (length c.identity) e)
        ∙ ap (option_map (λ x. under q k z answer ps (record c { identity = c.identity ++ x ∷ [] }))) (first_named ps a [] ns named);
    writable = λ ps ns named s. (tt, s);
    holds = λ ps ns named. tt;
  }

  -- `lambda j`, `lambda j+1`, ..
  pub identities_put : (j : ℕ) (xs : List Part) (c : Laid) → j ≡ length c.identity
      → AllPut q k z answer (indexed_claims (λ j p. Row kinds.Lambda (j, (p, tt))) j xs) c (record c { identity = c.identity ++ xs })
  identities_put j [] c e = ap (λ x. record c { identity = x }) (sym (append-nil c.identity))
  identities_put j (a ∷ xs) c e =
      let d : Laid = record c { identity = c.identity ++ a ∷ [] } in (
        d,
        identity_puts c j a e,
        subst (λ x. AllPut q k z answer (indexed_claims (λ j p. Row kinds.Lambda (j, (p, tt))) (suc j) xs) d (record c { identity = x }))
            (append_assoc c.identity (a ∷ []) xs) (identities_put (suc j) xs d (omega (arith, e, length-append c.identity (a ∷ [])))),
      )

-- `d 1` under membership, without a block
module _ (q : Problem) (k m : ℕ) (f : PolyValue) (answer : Answer) where
  pub member_puts : (fs : List Block) (ids : List Part) (j : ℕ) (a : Part)
      → Puts q k (queries.TheVariants.Member m f) answer (part_claim a (λ p. Row kinds.D (j, (p, tt)))) (record { finished = fs; block = None; identity = ids }) (record { finished = fs; block = None; identity = ids })
  unfolding under say
  member_puts fs ids j a = record {
    said = λ ps ns named. ap (option_map (λ x. under q k (queries.TheVariants.Member m f) answer ps (record { finished = fs; block = None; identity = ids }))) (first_named ps a [] ns named);
    writable = λ ps ns named s. (tt, s);
    holds = λ ps ns named. tt;
  }
