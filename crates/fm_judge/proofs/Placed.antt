-- Each line of a certificate is taken in its place.
use Rattle.std.proofs.Common.{◌≡◌, ℕ, suc, nat_eq, nat_lt, List, [], ◌∷◌, ◌++◌, length, Option, Some, None, option_map, refl, sym, ap, ◌∙◌, subst}
use Rattle.fm_words.specs.Options.{where_so}
use Rattle.fm_poly.specs.Polys.{PolyValue}
use Rattle.fm_poly.specs.declared.ring.Ring.{Ring}
use Rattle.fm_problem.specs.declared.problem.Problem.{Problem}
use Rattle.fm_problem.specs.declared.query.Query.{Query}
use Rattle.fm_problem.specs.declared.query.Query as queries
use Rattle.fm_cert.specs.Fields.{Values}
use Rattle.fm_cert.specs.Kinds.{Kind, row}
use Rattle.fm_cert.specs.Kinds as kinds
use Rattle.fm_cert.specs.Lines.{Row}
use Rattle.fm_report.specs.Parts.{Part}
use Rattle.fm_report.specs.Sheets.{Block, Answer, Sheet, numbered, say, say_named, say_differential, add_differential, add_lift, add_cocycles, add_kernel, add_morphism}
use Rattle.fm_report.specs.Verdicts.{stated, block_root, root_of, part_at}
use Rattle.fm_report.specs.Reading.{stated_at_stable}
use Rattle.fm_report.specs.Holding.{IsHeld, AllHold}
use Rattle.fm_parts.specs.Conditions.{Log, Condition}
use Rattle.fm_judge.specs.Goals.{Goal}
use Rattle.fm_judge.specs.Places.{Place}
use Rattle.fm_judge.specs.Places as places
use Rattle.fm_judge.specs.Claims.{Claim, claim, claims, numbered_so, of_part}
use Rattle.fm_judge.specs.Judging.{block_at}
use Rattle.fm_judge.proofs.Options.{none_some, same_some, followed, mapped, where_true}
use Rattle.fm_judge.proofs.Goods.{good_at}
use Rattle.fm_judge.proofs.Chains.{Repeating}
use Rattle.fm_judge.proofs.Verdicts.{root_right}
use Rattle.std.proofs.lemmas.Bool.{eqb-true}
use Rattle.fm_judge.proofs.Stated.{IsFineAim}
use Rattle.fm_judge.proofs.Facts.{IsOf, Without, FactsAt}
use Rattle.fm_judge.proofs.Claimed.{AreSound, on_d, on_exact, on_theta, on_cocycles, on_relations, on_morphism, on_chain, on_grows, on_stable}
use Rattle.fm_judge.proofs.ClaimedAnswers.{on_whole, on_proper, on_coordinates, on_dies, on_lives_on, on_lives, on_power, on_least, on_colons, on_settles, on_proper_colon, on_annihilator, on_row, on_cofactors, on_foreign}
use Rattle.fm_judge.proofs.Taken.{named_is, block_of, Taken, so, plain, named_taken, plain_taken, without_taken, IsClaim, part_there, IsUnder}
use Rattle.fm_judge.proofs.PlacedMaps.{at_lambda, at_phi, at_null, at_nonnull, at_fibre, at_one, at_notone, at_link, at_open_link, at_short, at_onto, at_never_onto}

module _ (q : Problem) (z : Query) (a : Answer) (g : Goal) (fine : IsFineAim g.degree g.aim) (logs : List Log) (sound : AreSound q.ring logs) where
  abbrev r : Ring
  r = q.ring

  -- ---- matrices of a base
  at_differential : (j : ℕ) → (kind : Kind) (v : Values (row kind)) (s s' : Sheet) → IsUnder q z a g fine logs sound s → FactsAt q g s.identity (places.differential j) s.block → say s (Row kind v) ≡ Some s' → (c : Claim) → IsClaim q z a g fine logs sound (places.differential j) kind v s' c
      → (cs : List Condition) → c.conditions ≡ Some cs → Taken q z a g fine logs sound s kind v c cs s'
  unfolding claim say
  at_differential j kinds.D (n, (k, u)) s s' U F e c e' cs e'' =
      let b = block_of q z a g fine logs sound _ s.block F in
      let m = named_is s s' b.0 (λ b. suc (length b.differentials)) n add_differential k b.1 (subst (λ o. say_differential s o s.asked n k ≡ Some s') b.1 e) in
      let f = good_at s.parts k m.0 U.good m.1 in
      let x = so q z a g fine logs sound (add_differential b.0 m.0) s.parts (suc j) n _ _ c (subst (λ s'. IsClaim q z a g fine logs sound (places.differential j) kinds.D (n, (k, u)) s' c) (sym m.2) e') in
      named_taken q z a g fine logs sound s s' kinds.D (n, (k, u)) b.0 add_differential m.0 c cs (places.after_differential g (suc j)) U m.2 tt x.1
      (on_d q g s.identity fine s.parts U.good logs sound j b.0 (subst (FactsAt q g s.identity (places.differential j)) b.1 F) m.0 f cs (x.0 ∙ e''))
  at_differential j kind v s s' U F e c e' cs e'' = absurd (none_some e')

  at_lift : (j : ℕ) → (kind : Kind) (v : Values (row kind)) (s s' : Sheet) → IsUnder q z a g fine logs sound s → FactsAt q g s.identity (places.lift j) s.block → say s (Row kind v) ≡ Some s' → (c : Claim) → IsClaim q z a g fine logs sound (places.lift j) kind v s' c
      → (cs : List Condition) → c.conditions ≡ Some cs → Taken q z a g fine logs sound s kind v c cs s'
  unfolding claim say
  at_lift j kinds.Theta (n, (k, u)) s s' U F e c e' cs e'' =
      let b = block_of q z a g fine logs sound _ s.block F in
      let m = named_is s s' b.0 (λ b. length b.lift) n add_lift k b.1 (e) in
      let f = good_at s.parts k m.0 U.good m.1 in
      let x = so q z a g fine logs sound (add_lift b.0 m.0) s.parts j n _ _ c (subst (λ s'. IsClaim q z a g fine logs sound (places.lift j) kinds.Theta (n, (k, u)) s' c) (sym m.2) e') in
      named_taken q z a g fine logs sound s s' kinds.Theta (n, (k, u)) b.0 add_lift m.0 c cs (places.after_lift g (suc j)) U m.2 tt x.1
      (on_theta q g s.identity fine s.parts U.good logs sound j b.0 (subst (FactsAt q g s.identity (places.lift j)) b.1 F) m.0 f cs (x.0 ∙ e''))
  at_lift j kind v s s' U F e c e' cs e'' = absurd (none_some e')

  at_cocycles : (kind : Kind) (v : Values (row kind)) (s s' : Sheet) → IsUnder q z a g fine logs sound s → FactsAt q g s.identity places.cocycles s.block → say s (Row kind v) ≡ Some s' → (c : Claim) → IsClaim q z a g fine logs sound places.cocycles kind v s' c
      → (cs : List Condition) → c.conditions ≡ Some cs → Taken q z a g fine logs sound s kind v c cs s'
  unfolding claim say
  at_cocycles kinds.Cocycles (k, (n, (y, (w, u)))) s s' U F e c e' cs e'' =
      let b = block_of q z a g fine logs sound _ s.block F in
      let m = named_is s s' b.0 (λ b. length b.cocycles) 0 add_cocycles k b.1 (e) in
      let f = good_at s.parts k m.0 U.good m.1 in
      let x = plain q z a g fine logs sound (add_cocycles b.0 m.0) s.parts _ _ c (subst (λ s'. IsClaim q z a g fine logs sound places.cocycles kinds.Cocycles (k, (n, (y, (w, u)))) s' c) (sym m.2) e') in
      named_taken q z a g fine logs sound s s' kinds.Cocycles (k, (n, (y, (w, u)))) b.0 add_cocycles m.0 c cs (places.relations) U m.2 tt x.1
      (on_cocycles q g s.identity fine s.parts U.good logs sound b.0 (subst (FactsAt q g s.identity places.cocycles) b.1 F) m.0 f n y w cs (x.0 ∙ e''))
  at_cocycles kind v s s' U F e c e' cs e'' = absurd (none_some e')

  at_relations : (kind : Kind) (v : Values (row kind)) (s s' : Sheet) → IsUnder q z a g fine logs sound s → FactsAt q g s.identity places.relations s.block → say s (Row kind v) ≡ Some s' → (c : Claim) → IsClaim q z a g fine logs sound places.relations kind v s' c
      → (cs : List Condition) → c.conditions ≡ Some cs → Taken q z a g fine logs sound s kind v c cs s'
  unfolding claim say
  at_relations kinds.Relations (k, (n, (y, (w, u)))) s s' U F e c e' cs e'' =
      let b = block_of q z a g fine logs sound _ s.block F in
      let m = named_is s s' b.0 (λ b. length b.kernels) 0 add_kernel k b.1 (e) in
      let f = good_at s.parts k m.0 U.good m.1 in
      let x = plain q z a g fine logs sound (add_kernel b.0 m.0) s.parts _ _ c (subst (λ s'. IsClaim q z a g fine logs sound places.relations kinds.Relations (k, (n, (y, (w, u)))) s' c) (sym m.2) e') in
      named_taken q z a g fine logs sound s s' kinds.Relations (k, (n, (y, (w, u)))) b.0 add_kernel m.0 c cs (places.morphism) U m.2 tt x.1
      (on_relations q g s.identity fine s.parts U.good logs sound b.0 (subst (FactsAt q g s.identity places.relations) b.1 F) m.0 f n y w cs (x.0 ∙ e''))
  at_relations kind v s s' U F e c e' cs e'' = absurd (none_some e')

  at_morphism : (kind : Kind) (v : Values (row kind)) (s s' : Sheet) → IsUnder q z a g fine logs sound s → FactsAt q g s.identity places.morphism s.block → say s (Row kind v) ≡ Some s' → (c : Claim) → IsClaim q z a g fine logs sound places.morphism kind v s' c
      → (cs : List Condition) → c.conditions ≡ Some cs → Taken q z a g fine logs sound s kind v c cs s'
  unfolding claim say
  at_morphism kinds.Morphism (k, u) s s' U F e c e' cs e'' =
      let b = block_of q z a g fine logs sound _ s.block F in
      let m = named_is s s' b.0 (λ b. length b.morphism) 0 add_morphism k b.1 (e) in
      let f = good_at s.parts k m.0 U.good m.1 in
      let x = plain q z a g fine logs sound (add_morphism b.0 m.0) s.parts _ _ c (subst (λ s'. IsClaim q z a g fine logs sound places.morphism kinds.Morphism (k, u) s' c) (sym m.2) e') in
      named_taken q z a g fine logs sound s s' kinds.Morphism (k, u) b.0 add_morphism m.0 c cs (places.after_morphism g.aim) U m.2 tt x.1
      (on_morphism q g s.identity fine s.parts U.good logs sound b.0 (subst (FactsAt q g s.identity places.morphism) b.1 F) m.0 f cs (x.0 ∙ e''))
  at_morphism kind v s s' U F e c e' cs e'' = absurd (none_some e')

  at_chain : (t : ℕ) → (kind : Kind) (v : Values (row kind)) (s s' : Sheet) → IsUnder q z a g fine logs sound s → FactsAt q g s.identity (places.chain t) s.block → say s (Row kind v) ≡ Some s' → (c : Claim) → IsClaim q z a g fine logs sound (places.chain t) kind v s' c
      → (cs : List Condition) → c.conditions ≡ Some cs → Taken q z a g fine logs sound s kind v c cs s'
  unfolding claim say
  at_chain t kinds.Chain (i, (k, (n, (y, (w, u))))) s s' U F e c e' cs e'' =
      let b = block_of q z a g fine logs sound _ s.block F in
      let m = named_is s s' b.0 (λ b. length b.kernels) i add_kernel k b.1 ((where_true (nat_lt 0 i) (say_named s (λ b. length b.kernels) i add_kernel k) s' e).1) in
      let f = good_at s.parts k m.0 U.good m.1 in
      let x = so q z a g fine logs sound (add_kernel b.0 m.0) s.parts (suc t) i _ _ c (subst (λ s'. IsClaim q z a g fine logs sound (places.chain t) kinds.Chain (i, (k, (n, (y, (w, u))))) s' c) (sym m.2) e') in
      named_taken q z a g fine logs sound s s' kinds.Chain (i, (k, (n, (y, (w, u))))) b.0 add_kernel m.0 c cs (places.turn t) U m.2 tt x.1
      (on_chain q g s.identity fine s.parts U.good logs sound t b.0 (subst (FactsAt q g s.identity (places.chain t)) b.1 F) m.0 f n y w cs (x.0 ∙ e''))
  at_chain t kind v s s' U F e c e' cs e'' = absurd (none_some e')

  -- ---- lines that name nothing
  at_exactness : (j : ℕ) → (kind : Kind) (v : Values (row kind)) (s s' : Sheet) → IsUnder q z a g fine logs sound s → FactsAt q g s.identity (places.exactness j) s.block → say s (Row kind v) ≡ Some s' → (c : Claim) → IsClaim q z a g fine logs sound (places.exactness j) kind v s' c
      → (cs : List Condition) → c.conditions ≡ Some cs → Taken q z a g fine logs sound s kind v c cs s'
  unfolding claim say
  at_exactness j kinds.Exact (i, (n, (y, (w, u)))) s s' U F e c e' cs e'' =
      let b = block_of q z a g fine logs sound _ s.block F in
      let same : s ≡ s' = same_some e in
      let x = so q z a g fine logs sound b.0 s.parts (suc j) i _ _ c (subst (λ o. claim r g (block_at o) s.parts logs (places.exactness j) kinds.Exact (i, (n, (y, (w, u)))) ≡ Some c) b.1 (subst (λ s'. IsClaim q z a g fine logs sound (places.exactness j) kinds.Exact (i, (n, (y, (w, u)))) s' c) (sym same) e')) in
      plain_taken q z a g fine logs sound s s' kinds.Exact (i, (n, (y, (w, u)))) b.0 c cs (places.after_exact g (suc j)) U same b.1 tt x.1
      (on_exact q g s.identity fine s.parts U.good logs sound j b.0 (subst (FactsAt q g s.identity (places.exactness j)) b.1 F) n y w cs (x.0 ∙ e''))
  at_exactness j kind v s s' U F e c e' cs e'' = absurd (none_some e')

  at_whole : (t : ℕ) → (kind : Kind) (v : Values (row kind)) (s s' : Sheet) → IsUnder q z a g fine logs sound s → FactsAt q g s.identity (places.whole t) s.block → say s (Row kind v) ≡ Some s' → (c : Claim) → IsClaim q z a g fine logs sound (places.whole t) kind v s' c
      → (cs : List Condition) → c.conditions ≡ Some cs → Taken q z a g fine logs sound s kind v c cs s'
  unfolding claim say
  at_whole t kinds.Whole (w, u) s s' U F e c e' cs e'' =
      let b = block_of q z a g fine logs sound _ s.block F in
      let same : s ≡ s' = same_some e in
      let x = plain q z a g fine logs sound b.0 s.parts _ _ c (subst (λ o. claim r g (block_at o) s.parts logs (places.whole t) kinds.Whole (w, u) ≡ Some c) b.1 (subst (λ s'. IsClaim q z a g fine logs sound (places.whole t) kinds.Whole (w, u) s' c) (sym same) e')) in
      plain_taken q z a g fine logs sound s s' kinds.Whole (w, u) b.0 c cs (places.end) U same b.1 tt x.1
      (on_whole q g s.identity fine s.parts U.good logs sound t b.0 (subst (FactsAt q g s.identity (places.whole t)) b.1 F) w cs (x.0 ∙ e''))
  at_whole t kind v s s' U F e c e' cs e'' = absurd (none_some e')

  at_proper : (t : ℕ) → (kind : Kind) (v : Values (row kind)) (s s' : Sheet) → IsUnder q z a g fine logs sound s → FactsAt q g s.identity (places.proper t) s.block → say s (Row kind v) ≡ Some s' → (c : Claim) → IsClaim q z a g fine logs sound (places.proper t) kind v s' c
      → (cs : List Condition) → c.conditions ≡ Some cs → Taken q z a g fine logs sound s kind v c cs s'
  unfolding claim say
  at_proper t kinds.Proper (n, (k, (by, u))) s s' U F e c e' cs e'' =
      let b = block_of q z a g fine logs sound _ s.block F in
      let same : s ≡ s' = same_some e in
      let x = plain q z a g fine logs sound b.0 s.parts _ _ c (subst (λ o. claim r g (block_at o) s.parts logs (places.proper t) kinds.Proper (n, (k, (by, u))) ≡ Some c) b.1 (subst (λ s'. IsClaim q z a g fine logs sound (places.proper t) kinds.Proper (n, (k, (by, u))) s' c) (sym same) e')) in
      plain_taken q z a g fine logs sound s s' kinds.Proper (n, (k, (by, u))) b.0 c cs (places.end) U same b.1 tt x.1
      (on_proper q g s.identity fine s.parts U.good logs sound t b.0 (subst (FactsAt q g s.identity (places.proper t)) b.1 F) n k by cs (x.0 ∙ e''))
  at_proper t kind v s s' U F e c e' cs e'' = absurd (none_some e')

  at_lives : (w : Part) (t : ℕ) (k : ℕ) → (kind : Kind) (v : Values (row kind)) (s s' : Sheet) → IsUnder q z a g fine logs sound s → FactsAt q g s.identity (places.lives w t k) s.block → say s (Row kind v) ≡ Some s' → (c : Claim) → IsClaim q z a g fine logs sound (places.lives w t k) kind v s' c
      → (cs : List Condition) → c.conditions ≡ Some cs → Taken q z a g fine logs sound s kind v c cs s'
  unfolding claim say
  at_lives w t k kinds.Lives (i, (n, (by, u))) s s' U F e c e' cs e'' =
      let b = block_of q z a g fine logs sound _ s.block F in
      let same : s ≡ s' = same_some e in
      let x = so q z a g fine logs sound b.0 s.parts k i _ _ c (subst (λ o. claim r g (block_at o) s.parts logs (places.lives w t k) kinds.Lives (i, (n, (by, u))) ≡ Some c) b.1 (subst (λ s'. IsClaim q z a g fine logs sound (places.lives w t k) kinds.Lives (i, (n, (by, u))) s' c) (sym same) e')) in
      plain_taken q z a g fine logs sound s s' kinds.Lives (i, (n, (by, u))) b.0 c cs (places.dies w t (suc k)) U same b.1 tt x.1
      (on_lives q g s.identity fine s.parts U.good logs sound w t k b.0 (subst (FactsAt q g s.identity (places.lives w t k)) b.1 F) n by cs (x.0 ∙ e''))
  at_lives w t k kind v s s' U F e c e' cs e'' = absurd (none_some e')

  at_dies : (w : Part) (t : ℕ) (m : ℕ) → (kind : Kind) (v : Values (row kind)) (s s' : Sheet) → IsUnder q z a g fine logs sound s → FactsAt q g s.identity (places.dies w t m) s.block → say s (Row kind v) ≡ Some s' → (c : Claim) → IsClaim q z a g fine logs sound (places.dies w t m) kind v s' c
      → (cs : List Condition) → c.conditions ≡ Some cs → Taken q z a g fine logs sound s kind v c cs s'
  unfolding claim say
  at_dies w t m kinds.Dies (i, (y, u)) s s' U F e c e' cs e'' =
      let b = block_of q z a g fine logs sound _ s.block F in
      let same : s ≡ s' = same_some e in
      let x = so q z a g fine logs sound b.0 s.parts m i _ _ c (subst (λ o. claim r g (block_at o) s.parts logs (places.dies w t m) kinds.Dies (i, (y, u)) ≡ Some c) b.1 (subst (λ s'. IsClaim q z a g fine logs sound (places.dies w t m) kinds.Dies (i, (y, u)) s' c) (sym same) e')) in
      plain_taken q z a g fine logs sound s s' kinds.Dies (i, (y, u)) b.0 c cs (places.end) U same b.1 tt x.1
      (on_dies q g s.identity fine s.parts U.good logs sound w t m b.0 (subst (FactsAt q g s.identity (places.dies w t m)) b.1 F) y cs (x.0 ∙ e''))
  at_dies w t m kind v s s' U F e c e' cs e'' = absurd (none_some e')

  at_lives_on : (w : Part) (t : ℕ) → (kind : Kind) (v : Values (row kind)) (s s' : Sheet) → IsUnder q z a g fine logs sound s → FactsAt q g s.identity (places.lives_on w t) s.block → say s (Row kind v) ≡ Some s' → (c : Claim) → IsClaim q z a g fine logs sound (places.lives_on w t) kind v s' c
      → (cs : List Condition) → c.conditions ≡ Some cs → Taken q z a g fine logs sound s kind v c cs s'
  unfolding claim say
  at_lives_on w t kinds.Lives (i, (n, (by, u))) s s' U F e c e' cs e'' =
      let b = block_of q z a g fine logs sound _ s.block F in
      let same : s ≡ s' = same_some e in
      let x = so q z a g fine logs sound b.0 s.parts t i _ _ c (subst (λ o. claim r g (block_at o) s.parts logs (places.lives_on w t) kinds.Lives (i, (n, (by, u))) ≡ Some c) b.1 (subst (λ s'. IsClaim q z a g fine logs sound (places.lives_on w t) kinds.Lives (i, (n, (by, u))) s' c) (sym same) e')) in
      plain_taken q z a g fine logs sound s s' kinds.Lives (i, (n, (by, u))) b.0 c cs (places.end) U same b.1 tt x.1
      (on_lives_on q g s.identity fine s.parts U.good logs sound w t b.0 (subst (FactsAt q g s.identity (places.lives_on w t)) b.1 F) n by cs (x.0 ∙ e''))
  at_lives_on w t kind v s s' U F e c e' cs e'' = absurd (none_some e')

  -- ---- `grows` and `stable`
  -- the root of a block whose chain repeats
  root_held : (b : Block) (t : ℕ) → IsOf q g b → Repeating r g t b → AllHold (stated_at_stable (Some q) (Some b) (Some a) t)
  unfolding IsHeld
  root_held b t of R =
      let rank = length (part_at r b.cocycles 0).columns in
      let root_is : block_root r q.ideals b t ≡ Some (root_of r g.degree g.generators b rank t) =
      ap (option_map (λ fs. root_of r b.degree fs b rank t)) of.generators ∙ ap (λ i. Some (root_of r i g.generators b rank t)) of.degree in
      subst (λ o. AllHold (stated r o ∷ [])) (sym root_is) (root_right r g t b R, tt)

  held_under : (s : Sheet) (b : Block) (t : ℕ) → IsUnder q z a g fine logs sound s → s.block ≡ Some b → AllHold (stated_at_stable (Some q) (Some b) (Some a) t) → AllHold (stated_at_stable s.head s.block s.answer t)
  held_under s b t U is h = subst (λ o. AllHold (stated_at_stable o s.block s.answer t)) (sym U.head_is)
      (subst (λ o. AllHold (stated_at_stable (Some q) o s.answer t)) (sym is) (subst (λ o. AllHold (stated_at_stable (Some q) (Some b) o t)) (sym U.answer_is) h))

  at_turn : (t : ℕ) (kind : Kind) (v : Values (row kind)) (s s' : Sheet) → IsUnder q z a g fine logs sound s → FactsAt q g s.identity (places.turn t) s.block → say s (Row kind v) ≡ Some s' → (c : Claim) → IsClaim q z a g fine logs sound (places.turn t) kind v s' c
      → (cs : List Condition) → c.conditions ≡ Some cs → Taken q z a g fine logs sound s kind v c cs s'
  unfolding claim say
  at_turn t kinds.Grows (i, (n, (k, (by, u)))) s s' U F e c e' cs e'' =
      let b = block_of q z a g fine logs sound _ s.block F in
      let same : s ≡ s' = same_some e in
      let x = so q z a g fine logs sound b.0 s.parts t i _ _ c (subst (λ o. claim r g (block_at o) s.parts logs (places.turn t) kinds.Grows (i, (n, (k, (by, u)))) ≡ Some c) b.1 (subst (λ s'. IsClaim q z a g fine logs sound (places.turn t) kinds.Grows (i, (n, (k, (by, u)))) s' c) (sym same) e')) in
      plain_taken q z a g fine logs sound s s' kinds.Grows (i, (n, (k, (by, u)))) b.0 c cs (places.chain (suc t)) U same b.1 tt x.1
      (on_grows q g s.identity fine s.parts U.good logs sound t b.0 (subst (FactsAt q g s.identity (places.turn t)) b.1 F) n k by cs (x.0 ∙ e''))
  at_turn t kinds.Stable (i, (w, u)) s s' U F e c e' cs e'' =
      let b = block_of q z a g fine logs sound _ s.block F in
      let f = followed s.block (λ b. where_so (nat_lt i (length b.kernels)) (Some s)) s' e in
      let same : s ≡ s' = same_some (where_true (nat_lt i (length (f.0).kernels)) (Some s) s' f.2).1 in
      let inside = subst (λ o. claim r g (block_at o) s.parts logs (places.turn t) kinds.Stable (i, (w, u)) ≡ Some c) b.1 (subst (λ s'. IsClaim q z a g fine logs sound (places.turn t) kinds.Stable (i, (w, u)) s' c) (sym same) e') in
      let number : i ≡ t = eqb-true i t (where_true (nat_eq i t) (claims r g b.0 s.parts logs _ (places.after_stable g.aim t)) c inside).0 in
      let x = so q z a g fine logs sound b.0 s.parts t i _ _ c inside in
      let at = subst (FactsAt q g s.identity (places.turn t)) b.1 F in
      let S = on_stable q g s.identity fine s.parts U.good logs sound t b.0 at w cs (x.0 ∙ e'') in
      subst (Taken q z a g fine logs sound s kinds.Stable (i, (w, u)) c cs) same (
        U,
        S.0,
        λ all.
            let h = S.1 all in (
              subst (FactsAt q g s.identity c.next) (sym b.1) (subst (λ p. FactsAt q g s.identity p (Some b.0)) x.1 h.1),
              subst (λ j. AllHold (stated_at_stable s.head s.block s.answer j)) (sym number) (held_under s b.0 t U b.1 (root_held b.0 t at.0 h.0)),
            ),
      )
  at_turn t kind v s s' U F e c e' cs e'' = absurd (none_some e')

  at_coordinates : (t : ℕ) (kind : Kind) (v : Values (row kind)) (s s' : Sheet) → IsUnder q z a g fine logs sound s → FactsAt q g s.identity (places.coordinates t) s.block → say s (Row kind v) ≡ Some s' → (c : Claim) → IsClaim q z a g fine logs sound (places.coordinates t) kind v s' c
      → (cs : List Condition) → c.conditions ≡ Some cs → Taken q z a g fine logs sound s kind v c cs s'
  unfolding claim say
  at_coordinates t kinds.Coordinates (k, u) s s' U F e c e' cs e'' =
      let b = block_of q z a g fine logs sound _ s.block F in
      let same : s ≡ s' = same_some e in
      let w = part_there q z a g fine logs sound b.0 s.parts (numbered s.parts k) _ c cs
      (subst (λ o. claim r g (block_at o) s.parts logs (places.coordinates t) kinds.Coordinates (k, u) ≡ Some c) b.1 (subst (λ s'. IsClaim q z a g fine logs sound (places.coordinates t) kinds.Coordinates (k, u) s' c) (sym same) e')) e'' in
      let x = plain q z a g fine logs sound b.0 s.parts _ _ c w.2 in
      plain_taken q z a g fine logs sound s s' kinds.Coordinates (k, u) b.0 c cs (places.after_coordinates g.aim w.0 t) U same b.1 tt x.1
      (on_coordinates q g s.identity fine s.parts U.good logs sound t b.0 (subst (FactsAt q g s.identity (places.coordinates t)) b.1 F) w.0 (good_at s.parts k w.0 U.good w.1) cs (x.0 ∙ e''))
  at_coordinates t kind v s s' U F e c e' cs e'' = absurd (none_some e')

  -- ---- inverting
  at_power : (f : PolyValue) (t k : ℕ) → (kind : Kind) (v : Values (row kind)) (s s' : Sheet) → IsUnder q z a g fine logs sound s → FactsAt q g s.identity (places.power f t k) s.block → say s (Row kind v) ≡ Some s' → (c : Claim) → IsClaim q z a g fine logs sound (places.power f t k) kind v s' c
      → (cs : List Condition) → c.conditions ≡ Some cs → Taken q z a g fine logs sound s kind v c cs s'
  unfolding claim say
  at_power f t k kinds.Power (w, u) s s' U F e c e' cs e'' =
      let b = block_of q z a g fine logs sound _ s.block F in
      let same : s ≡ s' = same_some e in
      let x = plain q z a g fine logs sound b.0 s.parts _ _ c (subst (λ o. claim r g (block_at o) s.parts logs (places.power f t k) kinds.Power (w, u) ≡ Some c) b.1 (subst (λ s'. IsClaim q z a g fine logs sound (places.power f t k) kinds.Power (w, u) s' c) (sym same) e')) in
      plain_taken q z a g fine logs sound s s' kinds.Power (w, u) b.0 c cs (places.after_power f t k) U same b.1 tt x.1
      (on_power q g s.identity fine s.parts U.good logs sound f t k b.0 (subst (FactsAt q g s.identity (places.power f t k)) b.1 F) w cs (x.0 ∙ e''))
  at_power f t k kind v s s' U F e c e' cs e'' = absurd (none_some e')

  at_least : (f : PolyValue) (t k : ℕ) → (kind : Kind) (v : Values (row kind)) (s s' : Sheet) → IsUnder q z a g fine logs sound s → FactsAt q g s.identity (places.least f t k) s.block → say s (Row kind v) ≡ Some s' → (c : Claim) → IsClaim q z a g fine logs sound (places.least f t k) kind v s' c
      → (cs : List Condition) → c.conditions ≡ Some cs → Taken q z a g fine logs sound s kind v c cs s'
  unfolding claim say
  at_least f t k kinds.Least (n, (y, (by, u))) s s' U F e c e' cs e'' =
      let b = block_of q z a g fine logs sound _ s.block F in
      let same : s ≡ s' = same_some e in
      let x = plain q z a g fine logs sound b.0 s.parts _ _ c (subst (λ o. claim r g (block_at o) s.parts logs (places.least f t k) kinds.Least (n, (y, (by, u))) ≡ Some c) b.1 (subst (λ s'. IsClaim q z a g fine logs sound (places.least f t k) kinds.Least (n, (y, (by, u))) s' c) (sym same) e')) in
      plain_taken q z a g fine logs sound s s' kinds.Least (n, (y, (by, u))) b.0 c cs (places.end) U same b.1 tt x.1
      (on_least q g s.identity fine s.parts U.good logs sound f t k b.0 (subst (FactsAt q g s.identity (places.least f t k)) b.1 F) n y by cs (x.0 ∙ e''))
  at_least f t k kind v s s' U F e c e' cs e'' = absurd (none_some e')

  at_colon : (f : PolyValue) (t : ℕ) (found : List Part) (kind : Kind) (v : Values (row kind)) (s s' : Sheet) → IsUnder q z a g fine logs sound s → FactsAt q g s.identity (places.colon f t found) s.block → say s (Row kind v) ≡ Some s' → (c : Claim) → IsClaim q z a g fine logs sound (places.colon f t found) kind v s' c
      → (cs : List Condition) → c.conditions ≡ Some cs → Taken q z a g fine logs sound s kind v c cs s'
  unfolding claim say
  at_colon f t found kinds.Colon (i, (k, (n, (y, (w, u))))) s s' U F e c e' cs e'' =
      let b = block_of q z a g fine logs sound _ s.block F in
      let same : s ≡ s' = same_some e in
      let there = subst (λ o. claim r g (block_at o) s.parts logs (places.colon f t found) kinds.Colon (i, (k, (n, (y, (w, u))))) ≡ Some c) b.1 (subst (λ s'. IsClaim q z a g fine logs sound (places.colon f t found) kinds.Colon (i, (k, (n, (y, (w, u))))) s' c) (sym same) e') in
      let test = where_true (nat_eq i (suc (length found))) (of_part r g b.0 s.parts logs (numbered s.parts k) _) c there in
      let P = part_there q z a g fine logs sound b.0 s.parts (numbered s.parts k) _ c cs test.1 e'' in
      let x = plain q z a g fine logs sound b.0 s.parts _ _ c P.2 in
      plain_taken q z a g fine logs sound s s' kinds.Colon (i, (k, (n, (y, (w, u))))) b.0 c cs (places.colon f t (found ++ P.0 ∷ [])) U same b.1 tt x.1
      (on_colons q g s.identity fine s.parts U.good logs sound f t found b.0 (subst (FactsAt q g s.identity (places.colon f t found)) b.1 F) P.0 (good_at s.parts k P.0 U.good P.1) n y w cs (x.0 ∙ e''))
  at_colon f t found kinds.Settles (i, (w, u)) s s' U F e c e' cs e'' =
      let b = block_of q z a g fine logs sound _ s.block F in
      let same : s ≡ s' = same_some e in
      let there = subst (λ o. claim r g (block_at o) s.parts logs (places.colon f t found) kinds.Settles (i, (w, u)) ≡ Some c) b.1 (subst (λ s'. IsClaim q z a g fine logs sound (places.colon f t found) kinds.Settles (i, (w, u)) s' c) (sym same) e') in
      let test = where_true (nat_lt 0 (length found)) (numbered_so r g b.0 s.parts logs (length found) i _ (places.proper_colon t found)) c there in
      let x = so q z a g fine logs sound b.0 s.parts (length found) i _ _ c test.1 in
      plain_taken q z a g fine logs sound s s' kinds.Settles (i, (w, u)) b.0 c cs (places.proper_colon t found) U same b.1 tt x.1
      (on_settles q g s.identity fine s.parts U.good logs sound f t found b.0 (subst (FactsAt q g s.identity (places.colon f t found)) b.1 F) test.0 w cs (x.0 ∙ e''))
  at_colon f t found kind v s s' U F e c e' cs e'' = absurd (none_some e')

  at_proper_colon : (t : ℕ) (found : List Part) → (kind : Kind) (v : Values (row kind)) (s s' : Sheet) → IsUnder q z a g fine logs sound s → FactsAt q g s.identity (places.proper_colon t found) s.block → say s (Row kind v) ≡ Some s' → (c : Claim) → IsClaim q z a g fine logs sound (places.proper_colon t found) kind v s' c
      → (cs : List Condition) → c.conditions ≡ Some cs → Taken q z a g fine logs sound s kind v c cs s'
  unfolding claim say
  at_proper_colon t found kinds.Proper (n, (y, (by, u))) s s' U F e c e' cs e'' =
      let b = block_of q z a g fine logs sound _ s.block F in
      let same : s ≡ s' = same_some e in
      let x = plain q z a g fine logs sound b.0 s.parts _ _ c (subst (λ o. claim r g (block_at o) s.parts logs (places.proper_colon t found) kinds.Proper (n, (y, (by, u))) ≡ Some c) b.1 (subst (λ s'. IsClaim q z a g fine logs sound (places.proper_colon t found) kinds.Proper (n, (y, (by, u))) s' c) (sym same) e')) in
      plain_taken q z a g fine logs sound s s' kinds.Proper (n, (y, (by, u))) b.0 c cs (places.end) U same b.1 tt x.1
      (on_proper_colon q g s.identity fine s.parts U.good logs sound t found b.0 (subst (FactsAt q g s.identity (places.proper_colon t found)) b.1 F) n y by cs (x.0 ∙ e''))
  at_proper_colon t found kind v s s' U F e c e' cs e'' = absurd (none_some e')

  -- ---- supports
  at_annihilator : (ideal : List PolyValue) (t : ℕ) → (kind : Kind) (v : Values (row kind)) (s s' : Sheet) → IsUnder q z a g fine logs sound s → FactsAt q g s.identity (places.annihilator ideal t) s.block → say s (Row kind v) ≡ Some s' → (c : Claim) → IsClaim q z a g fine logs sound (places.annihilator ideal t) kind v s' c
      → (cs : List Condition) → c.conditions ≡ Some cs → Taken q z a g fine logs sound s kind v c cs s'
  unfolding claim say
  at_annihilator ideal t kinds.Annihilator (k, (n, (y, (w, u)))) s s' U F e c e' cs e'' =
      let b = block_of q z a g fine logs sound _ s.block F in
      let same : s ≡ s' = same_some e in
      let x = plain q z a g fine logs sound b.0 s.parts _ _ c (subst (λ o. claim r g (block_at o) s.parts logs (places.annihilator ideal t) kinds.Annihilator (k, (n, (y, (w, u)))) ≡ Some c) b.1 (subst (λ s'. IsClaim q z a g fine logs sound (places.annihilator ideal t) kinds.Annihilator (k, (n, (y, (w, u)))) s' c) (sym same) e')) in
      plain_taken q z a g fine logs sound s s' kinds.Annihilator (k, (n, (y, (w, u)))) b.0 c cs (places.end) U same b.1 tt x.1
      (on_annihilator q g s.identity fine s.parts U.good logs sound ideal t b.0 (subst (FactsAt q g s.identity (places.annihilator ideal t)) b.1 F) k n y w cs (x.0 ∙ e''))
  at_annihilator ideal t kind v s s' U F e c e' cs e'' = absurd (none_some e')

  -- ---- membership
  none_of : (P : Type 0) (ob : Option Block) → Without q g P ob → ob ≡ None
  none_of P None w = refl
  none_of P (Some b) w = absurd w

  -- d_1 without a block
  row_said : (s s' : Sheet) (o : Option Query) (j k : ℕ) → say_differential s None o j k ≡ Some s' → s ≡ s'
  row_said s s' (Some (queries.TheVariants.Member m f)) j k e = (mapped (λ x. s) (numbered s.parts k) s' e).2
  row_said s s' None j k e = absurd (none_some e)
  row_said s s' (Some other) j k e = absurd (none_some e)

  at_row : (kind : Kind) (v : Values (row kind)) (s s' : Sheet) → IsUnder q z a g fine logs sound s → FactsAt q g s.identity places.ideal_row s.block → say s (Row kind v) ≡ Some s' → (c : Claim) → IsClaim q z a g fine logs sound places.ideal_row kind v s' c
      → (cs : List Condition) → c.conditions ≡ Some cs → Taken q z a g fine logs sound s kind v c cs s'
  unfolding claim say
  at_row kinds.D (n, (k, u)) s s' U F e c e' cs e'' =
      let is = none_of _ s.block F in
      let same : s ≡ s' = row_said s s' s.asked n k (subst (λ o. say_differential s o s.asked n k ≡ Some s') is e) in
      let there = subst (λ o. claim r g (block_at o) s.parts logs places.ideal_row kinds.D (n, (k, u)) ≡ Some c) is (subst (λ s'. IsClaim q z a g fine logs sound places.ideal_row kinds.D (n, (k, u)) s' c) (sym same) e') in
      let b = block_at None in
      let t = where_true (nat_eq n 1) (of_part r g b s.parts logs (numbered s.parts k) _) c there in
      let w = part_there q z a g fine logs sound b s.parts (numbered s.parts k) _ c cs t.1 e'' in
      let x = plain q z a g fine logs sound b s.parts _ _ c w.2 in
      without_taken q z a g fine logs sound s s' kinds.D (n, (k, u)) c cs (places.after_row g.aim w.0) U same is tt x.1
      (on_row q g s.identity fine s.parts U.good logs sound (subst (FactsAt q g s.identity places.ideal_row) is F) w.0 cs (x.0 ∙ e''))
  at_row kind v s s' U F e c e' cs e'' = absurd (none_some e')

  at_cofactors : (d : Part) (kind : Kind) (v : Values (row kind)) (s s' : Sheet) → IsUnder q z a g fine logs sound s → FactsAt q g s.identity (places.cofactors d) s.block → say s (Row kind v) ≡ Some s' → (c : Claim) → IsClaim q z a g fine logs sound (places.cofactors d) kind v s' c
      → (cs : List Condition) → c.conditions ≡ Some cs → Taken q z a g fine logs sound s kind v c cs s'
  unfolding claim say
  at_cofactors d kinds.Cofactors (w, u) s s' U F e c e' cs e'' =
      let is = none_of _ s.block F in
      let same : s ≡ s' = same_some e in
      let x = plain q z a g fine logs sound (block_at None) s.parts _ _ c (subst (λ o. claim r g (block_at o) s.parts logs (places.cofactors d) kinds.Cofactors (w, u) ≡ Some c) is (subst (λ s'. IsClaim q z a g fine logs sound (places.cofactors d) kinds.Cofactors (w, u) s' c) (sym same) e')) in
      without_taken q z a g fine logs sound s s' kinds.Cofactors (w, u) c cs places.end U same is tt x.1
      (on_cofactors q g s.identity fine s.parts U.good logs sound d (subst (FactsAt q g s.identity (places.cofactors d)) is F) w cs (x.0 ∙ e''))
  at_cofactors d kind v s s' U F e c e' cs e'' = absurd (none_some e')

  at_foreign : (d : Part) (kind : Kind) (v : Values (row kind)) (s s' : Sheet) → IsUnder q z a g fine logs sound s → FactsAt q g s.identity (places.foreign d) s.block → say s (Row kind v) ≡ Some s' → (c : Claim) → IsClaim q z a g fine logs sound (places.foreign d) kind v s' c
      → (cs : List Condition) → c.conditions ≡ Some cs → Taken q z a g fine logs sound s kind v c cs s'
  unfolding claim say
  at_foreign d kinds.Foreign (n, (by, u)) s s' U F e c e' cs e'' =
      let is = none_of _ s.block F in
      let same : s ≡ s' = same_some e in
      let x = plain q z a g fine logs sound (block_at None) s.parts _ _ c (subst (λ o. claim r g (block_at o) s.parts logs (places.foreign d) kinds.Foreign (n, (by, u)) ≡ Some c) is (subst (λ s'. IsClaim q z a g fine logs sound (places.foreign d) kinds.Foreign (n, (by, u)) s' c) (sym same) e')) in
      without_taken q z a g fine logs sound s s' kinds.Foreign (n, (by, u)) c cs places.end U same is tt x.1
      (on_foreign q g s.identity fine s.parts U.good logs sound d (subst (FactsAt q g s.identity (places.foreign d)) is F) (block_at None) n by cs (x.0 ∙ e''))
  at_foreign d kind v s s' U F e c e' cs e'' = absurd (none_some e')

  -- ---- all places
  pub place_taken : (p : Place) (kind : Kind) (v : Values (row kind)) (s s' : Sheet) → IsUnder q z a g fine logs sound s → FactsAt q g s.identity p s.block → say s (Row kind v) ≡ Some s' → (c : Claim) → IsClaim q z a g fine logs sound p kind v s' c → (cs : List Condition) → c.conditions ≡ Some cs
      → Taken q z a g fine logs sound s kind v c cs s'
  unfolding claim
  place_taken places.datum kind v s s' U F e c e' cs e'' = absurd (none_some e')
  place_taken (places.differential j) kind v s s' U F e c e' cs e'' = at_differential j kind v s s' U F e c e' cs e''
  place_taken (places.exactness j) kind v s s' U F e c e' cs e'' = at_exactness j kind v s s' U F e c e' cs e''
  place_taken (places.lift j) kind v s s' U F e c e' cs e'' = at_lift j kind v s s' U F e c e' cs e''
  place_taken places.cocycles kind v s s' U F e c e' cs e'' = at_cocycles kind v s s' U F e c e' cs e''
  place_taken places.relations kind v s s' U F e c e' cs e'' = at_relations kind v s s' U F e c e' cs e''
  place_taken places.morphism kind v s s' U F e c e' cs e'' = at_morphism kind v s s' U F e c e' cs e''
  place_taken (places.chain t) kind v s s' U F e c e' cs e'' = at_chain t kind v s s' U F e c e' cs e''
  place_taken (places.turn t) kind v s s' U F e c e' cs e'' = at_turn t kind v s s' U F e c e' cs e''
  place_taken (places.whole t) kind v s s' U F e c e' cs e'' = at_whole t kind v s s' U F e c e' cs e''
  place_taken (places.proper t) kind v s s' U F e c e' cs e'' = at_proper t kind v s s' U F e c e' cs e''
  place_taken (places.coordinates t) kind v s s' U F e c e' cs e'' = at_coordinates t kind v s s' U F e c e' cs e''
  place_taken (places.lives w t k) kind v s s' U F e c e' cs e'' = at_lives w t k kind v s s' U F e c e' cs e''
  place_taken (places.dies w t m) kind v s s' U F e c e' cs e'' = at_dies w t m kind v s s' U F e c e' cs e''
  place_taken (places.lives_on w t) kind v s s' U F e c e' cs e'' = at_lives_on w t kind v s s' U F e c e' cs e''
  place_taken (places.power f t k) kind v s s' U F e c e' cs e'' = at_power f t k kind v s s' U F e c e' cs e''
  place_taken (places.least f t k) kind v s s' U F e c e' cs e'' = at_least f t k kind v s s' U F e c e' cs e''
  place_taken (places.colon f t found) kind v s s' U F e c e' cs e'' = at_colon f t found kind v s s' U F e c e' cs e''
  place_taken (places.proper_colon t found) kind v s s' U F e c e' cs e'' = at_proper_colon t found kind v s s' U F e c e' cs e''
  place_taken (places.annihilator ideal t) kind v s s' U F e c e' cs e'' = at_annihilator ideal t kind v s s' U F e c e' cs e''
  place_taken (places.datum_beyond t) kind v s s' U F e c e' cs e'' = absurd (none_some e')
  place_taken (places.lambda t identity) kind v s s' U F e c e' cs e'' = at_lambda q z a g fine logs sound t identity kind v s s' U F e c e' cs e''
  place_taken (places.phi t identity) kind v s s' U F e c e' cs e'' = at_phi q z a g fine logs sound t identity kind v s s' U F e c e' cs e''
  place_taken (places.null t Phi) kind v s s' U F e c e' cs e'' = at_null q z a g fine logs sound t Phi kind v s s' U F e c e' cs e''
  place_taken (places.nonnull t Phi) kind v s s' U F e c e' cs e'' = at_nonnull q z a g fine logs sound t Phi kind v s s' U F e c e' cs e''
  place_taken (places.fibre t Phi) kind v s s' U F e c e' cs e'' = at_fibre q z a g fine logs sound t Phi kind v s s' U F e c e' cs e''
  place_taken (places.one t Phi C) kind v s s' U F e c e' cs e'' = at_one q z a g fine logs sound t Phi C kind v s s' U F e c e' cs e''
  place_taken (places.notone t Phi C) kind v s s' U F e c e' cs e'' = at_notone q z a g fine logs sound t Phi C kind v s s' U F e c e' cs e''
  place_taken (places.link t Phi found) kind v s s' U F e c e' cs e'' = at_link q z a g fine logs sound t Phi found kind v s s' U F e c e' cs e''
  place_taken (places.open_link t Phi found) kind v s s' U F e c e' cs e'' = at_open_link q z a g fine logs sound t Phi found kind v s s' U F e c e' cs e''
  place_taken (places.short t Phi found) kind v s s' U F e c e' cs e'' = at_short q z a g fine logs sound t Phi found kind v s s' U F e c e' cs e''
  place_taken (places.onto t Phi found) kind v s s' U F e c e' cs e'' = at_onto q z a g fine logs sound t Phi found kind v s s' U F e c e' cs e''
  place_taken (places.never_onto t Phi found) kind v s s' U F e c e' cs e'' = at_never_onto q z a g fine logs sound t Phi found kind v s s' U F e c e' cs e''
  place_taken places.ideal_row kind v s s' U F e c e' cs e'' = at_row kind v s s' U F e c e' cs e''
  place_taken (places.cofactors d) kind v s s' U F e c e' cs e'' = at_cofactors d kind v s s' U F e c e' cs e''
  place_taken (places.foreign d) kind v s s' U F e c e' cs e'' = at_foreign d kind v s s' U F e c e' cs e''
  place_taken places.end kind v s s' U F e c e' cs e'' = absurd (none_some e')
