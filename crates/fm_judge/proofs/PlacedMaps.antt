-- The lines on a map are taken in their places.
use Rattle.std.proofs.Common.{◌≡◌, ℕ, suc, ◌-◌, nat_eq, nat_lt, List, [], ◌∷◌, ◌++◌, length, Some, option_map, sym, ap, ◌∙◌, subst}
use Rattle.fm_poly.specs.declared.ring.Ring.{Ring}
use Rattle.fm_problem.specs.declared.problem.Problem.{Problem}
use Rattle.fm_problem.specs.declared.query.Query.{Query}
use Rattle.fm_cert.specs.Fields.{Values}
use Rattle.fm_cert.specs.Kinds.{Kind, row}
use Rattle.fm_cert.specs.Kinds as kinds
use Rattle.fm_cert.specs.Lines.{Row}
use Rattle.fm_report.specs.Parts.{Part}
use Rattle.fm_report.specs.Sheets.{Answer, Sheet, numbered, say}
use Rattle.fm_parts.specs.Conditions.{Log, Condition}
use Rattle.fm_judge.specs.Goals.{Goal}
use Rattle.fm_judge.specs.Places as places
use Rattle.fm_judge.specs.Claims.{Claim, claim, numbered_so, of_part}
use Rattle.fm_judge.specs.Judging.{block_at}
use Rattle.fm_judge.proofs.Options.{none_some, same_some, mapped, where_true}
use Rattle.fm_judge.proofs.Goods.{good_at}
use Rattle.std.proofs.lemmas.Bool.{eqb-true}
use Rattle.fm_judge.proofs.Stated.{IsFineAim}
use Rattle.fm_judge.proofs.Facts.{FactsAt}
use Rattle.fm_judge.proofs.Claimed.{AreSound}
use Rattle.fm_judge.proofs.ClaimedMaps.{on_identity, on_phi, on_null, on_nonnull, on_fibre, on_one, on_notone, on_next_link, on_open_link, on_closes, on_short, on_onto, on_never_onto}
use Rattle.fm_judge.proofs.Taken.{block_of, Taken, so, plain, plain_taken, IsClaim, part_there, IsUnder}

module _ (q : Problem) (z : Query) (a : Answer) (g : Goal) (fine : IsFineAim g.degree g.aim) (logs : List Log) (sound : AreSound q.ring logs) where
  abbrev r : Ring
  r = q.ring

  pub at_lambda : (t : ℕ) (identity : List Part) → (kind : Kind) (v : Values (row kind)) (s s' : Sheet) → IsUnder q z a g fine logs sound s → FactsAt q g s.identity (places.lambda t identity) s.block → say s (Row kind v) ≡ Some s' → (c : Claim)
      → IsClaim q z a g fine logs sound (places.lambda t identity) kind v s' c → (cs : List Condition) → c.conditions ≡ Some cs → Taken q z a g fine logs sound s kind v c cs s'
  unfolding claim say
  at_lambda t identity kinds.Lambda (i, (k, u)) s s' U F e c e' cs e'' =
      let b = block_of q z a g fine logs sound _ s.block F in
      let add = λ (x : Part). record s { identity = s.identity ++ x ∷ [] } in
      let test = where_true (nat_eq i (length s.identity)) (option_map add (numbered s.parts k)) s' e in
      let m = mapped add (numbered s.parts k) s' test.1 in
      let there = subst (λ o. claim r g (block_at o) s.parts logs (places.lambda t identity) kinds.Lambda (i, (k, u)) ≡ Some c) b.1 (subst (λ s'. IsClaim q z a g fine logs sound (places.lambda t identity) kinds.Lambda (i, (k, u)) s' c) (sym m.2) e') in
      let w = where_true (nat_eq i (length identity)) (of_part r g b.0 s.parts logs (numbered s.parts k) _) c there in
      let P = part_there q z a g fine logs sound b.0 s.parts (numbered s.parts k) _ c cs w.1 e'' in
      let x = plain q z a g fine logs sound b.0 s.parts _ _ c P.2 in
      let long : length identity ≡ length s.identity = sym (eqb-true i (length identity) w.0) ∙ eqb-true i (length s.identity) test.0 in
      let same : P.0 ≡ m.0 = same_some (sym P.1 ∙ m.1) in
      let S = on_identity q g s.identity fine s.parts U.good logs sound t identity b.0 (subst (FactsAt q g s.identity (places.lambda t identity)) b.1 F) long P.0 (good_at s.parts k P.0 U.good P.1) cs (x.0 ∙ e'') in
      subst (Taken q z a g fine logs sound s kinds.Lambda (i, (k, u)) c cs) (ap add same ∙ m.2) (
        record { head_is = U.head_is; asked_is = U.asked_is; answer_is = U.answer_is; finished_is = U.finished_is; good = U.good },
        S.0,
        λ all. (
          subst (FactsAt q g (s.identity ++ P.0 ∷ []) c.next) (sym b.1) (subst (λ p. FactsAt q g (s.identity ++ P.0 ∷ []) p (Some b.0)) x.1 (S.1 all)),
          tt,
        ),
      )
  at_lambda t identity kind v s s' U F e c e' cs e'' = absurd (none_some e')

  pub at_phi : (t : ℕ) (identity : List Part) → (kind : Kind) (v : Values (row kind)) (s s' : Sheet) → IsUnder q z a g fine logs sound s → FactsAt q g s.identity (places.phi t identity) s.block → say s (Row kind v) ≡ Some s' → (c : Claim) → IsClaim q z a g fine logs sound (places.phi t identity) kind v s' c
      → (cs : List Condition) → c.conditions ≡ Some cs → Taken q z a g fine logs sound s kind v c cs s'
  unfolding claim say
  at_phi t identity kinds.Phi (k, u) s s' U F e c e' cs e'' =
      let b = block_of q z a g fine logs sound _ s.block F in
      let same : s ≡ s' = same_some e in
      let P = part_there q z a g fine logs sound b.0 s.parts (numbered s.parts k) _ c cs (subst (λ o. claim r g (block_at o) s.parts logs (places.phi t identity) kinds.Phi (k, u) ≡ Some c) b.1 (subst (λ s'. IsClaim q z a g fine logs sound (places.phi t identity) kinds.Phi (k, u) s' c) (sym same) e')) e'' in
      let x = plain q z a g fine logs sound b.0 s.parts _ _ c P.2 in
      plain_taken q z a g fine logs sound s s' kinds.Phi (k, u) b.0 c cs (places.after_phi g.aim t P.0) U same b.1 tt x.1
      (on_phi q g s.identity fine s.parts U.good logs sound t identity b.0 (subst (FactsAt q g s.identity (places.phi t identity)) b.1 F) P.0 (good_at s.parts k P.0 U.good P.1) cs (x.0 ∙ e''))
  at_phi t identity kind v s s' U F e c e' cs e'' = absurd (none_some e')

  pub at_null : (t : ℕ) (Phi : Part) → (kind : Kind) (v : Values (row kind)) (s s' : Sheet) → IsUnder q z a g fine logs sound s → FactsAt q g s.identity (places.null t Phi) s.block → say s (Row kind v) ≡ Some s' → (c : Claim) → IsClaim q z a g fine logs sound (places.null t Phi) kind v s' c
      → (cs : List Condition) → c.conditions ≡ Some cs → Taken q z a g fine logs sound s kind v c cs s'
  unfolding claim say
  at_null t Phi kinds.Null (w, u) s s' U F e c e' cs e'' =
      let b = block_of q z a g fine logs sound _ s.block F in
      let same : s ≡ s' = same_some e in
      let x = plain q z a g fine logs sound b.0 s.parts _ _ c (subst (λ o. claim r g (block_at o) s.parts logs (places.null t Phi) kinds.Null (w, u) ≡ Some c) b.1 (subst (λ s'. IsClaim q z a g fine logs sound (places.null t Phi) kinds.Null (w, u) s' c) (sym same) e')) in
      plain_taken q z a g fine logs sound s s' kinds.Null (w, u) b.0 c cs (places.fibre t Phi) U same b.1 tt x.1
      (on_null q g s.identity fine s.parts U.good logs sound t Phi b.0 (subst (FactsAt q g s.identity (places.null t Phi)) b.1 F) w cs (x.0 ∙ e''))
  at_null t Phi kind v s s' U F e c e' cs e'' = absurd (none_some e')

  pub at_nonnull : (t : ℕ) (Phi : Part) → (kind : Kind) (v : Values (row kind)) (s s' : Sheet) → IsUnder q z a g fine logs sound s → FactsAt q g s.identity (places.nonnull t Phi) s.block → say s (Row kind v) ≡ Some s' → (c : Claim) → IsClaim q z a g fine logs sound (places.nonnull t Phi) kind v s' c
      → (cs : List Condition) → c.conditions ≡ Some cs → Taken q z a g fine logs sound s kind v c cs s'
  unfolding claim say
  at_nonnull t Phi kinds.NonNull (n, (y, (by, u))) s s' U F e c e' cs e'' =
      let b = block_of q z a g fine logs sound _ s.block F in
      let same : s ≡ s' = same_some e in
      let x = plain q z a g fine logs sound b.0 s.parts _ _ c (subst (λ o. claim r g (block_at o) s.parts logs (places.nonnull t Phi) kinds.NonNull (n, (y, (by, u))) ≡ Some c) b.1 (subst (λ s'. IsClaim q z a g fine logs sound (places.nonnull t Phi) kinds.NonNull (n, (y, (by, u))) s' c) (sym same) e')) in
      plain_taken q z a g fine logs sound s s' kinds.NonNull (n, (y, (by, u))) b.0 c cs (places.fibre t Phi) U same b.1 tt x.1
      (on_nonnull q g s.identity fine s.parts U.good logs sound t Phi b.0 (subst (FactsAt q g s.identity (places.nonnull t Phi)) b.1 F) n y by cs (x.0 ∙ e''))
  at_nonnull t Phi kind v s s' U F e c e' cs e'' = absurd (none_some e')

  pub at_fibre : (t : ℕ) (Phi : Part) → (kind : Kind) (v : Values (row kind)) (s s' : Sheet) → IsUnder q z a g fine logs sound s → FactsAt q g s.identity (places.fibre t Phi) s.block → say s (Row kind v) ≡ Some s' → (c : Claim) → IsClaim q z a g fine logs sound (places.fibre t Phi) kind v s' c
      → (cs : List Condition) → c.conditions ≡ Some cs → Taken q z a g fine logs sound s kind v c cs s'
  unfolding claim say
  at_fibre t Phi kinds.Fibre (k, (n, (y, (w, u)))) s s' U F e c e' cs e'' =
      let b = block_of q z a g fine logs sound _ s.block F in
      let same : s ≡ s' = same_some e in
      let P = part_there q z a g fine logs sound b.0 s.parts (numbered s.parts k) _ c cs (subst (λ o. claim r g (block_at o) s.parts logs (places.fibre t Phi) kinds.Fibre (k, (n, (y, (w, u)))) ≡ Some c) b.1 (subst (λ s'. IsClaim q z a g fine logs sound (places.fibre t Phi) kinds.Fibre (k, (n, (y, (w, u)))) s' c) (sym same) e')) e'' in
      let x = plain q z a g fine logs sound b.0 s.parts _ _ c P.2 in
      plain_taken q z a g fine logs sound s s' kinds.Fibre (k, (n, (y, (w, u)))) b.0 c cs (places.after_fibre g.aim t Phi P.0) U same b.1 tt x.1
      (on_fibre q g s.identity fine s.parts U.good logs sound t Phi b.0 (subst (FactsAt q g s.identity (places.fibre t Phi)) b.1 F) P.0 (good_at s.parts k P.0 U.good P.1) n y w cs (x.0 ∙ e''))
  at_fibre t Phi kind v s s' U F e c e' cs e'' = absurd (none_some e')

  pub at_one : (t : ℕ) (Phi C : Part) → (kind : Kind) (v : Values (row kind)) (s s' : Sheet) → IsUnder q z a g fine logs sound s → FactsAt q g s.identity (places.one t Phi C) s.block → say s (Row kind v) ≡ Some s' → (c : Claim) → IsClaim q z a g fine logs sound (places.one t Phi C) kind v s' c
      → (cs : List Condition) → c.conditions ≡ Some cs → Taken q z a g fine logs sound s kind v c cs s'
  unfolding claim say
  at_one t Phi C kinds.One (w, u) s s' U F e c e' cs e'' =
      let b = block_of q z a g fine logs sound _ s.block F in
      let same : s ≡ s' = same_some e in
      let x = plain q z a g fine logs sound b.0 s.parts _ _ c (subst (λ o. claim r g (block_at o) s.parts logs (places.one t Phi C) kinds.One (w, u) ≡ Some c) b.1 (subst (λ s'. IsClaim q z a g fine logs sound (places.one t Phi C) kinds.One (w, u) s' c) (sym same) e')) in
      plain_taken q z a g fine logs sound s s' kinds.One (w, u) b.0 c cs (places.after_link g.aim t Phi []) U same b.1 tt x.1
      (on_one q g s.identity fine s.parts U.good logs sound t Phi C b.0 (subst (FactsAt q g s.identity (places.one t Phi C)) b.1 F) w cs (x.0 ∙ e''))
  at_one t Phi C kind v s s' U F e c e' cs e'' = absurd (none_some e')

  pub at_notone : (t : ℕ) (Phi C : Part) → (kind : Kind) (v : Values (row kind)) (s s' : Sheet) → IsUnder q z a g fine logs sound s → FactsAt q g s.identity (places.notone t Phi C) s.block → say s (Row kind v) ≡ Some s' → (c : Claim) → IsClaim q z a g fine logs sound (places.notone t Phi C) kind v s' c
      → (cs : List Condition) → c.conditions ≡ Some cs → Taken q z a g fine logs sound s kind v c cs s'
  unfolding claim say
  at_notone t Phi C kinds.NotOne (n, (y, (by, u))) s s' U F e c e' cs e'' =
      let b = block_of q z a g fine logs sound _ s.block F in
      let same : s ≡ s' = same_some e in
      let x = plain q z a g fine logs sound b.0 s.parts _ _ c (subst (λ o. claim r g (block_at o) s.parts logs (places.notone t Phi C) kinds.NotOne (n, (y, (by, u))) ≡ Some c) b.1 (subst (λ s'. IsClaim q z a g fine logs sound (places.notone t Phi C) kinds.NotOne (n, (y, (by, u))) s' c) (sym same) e')) in
      plain_taken q z a g fine logs sound s s' kinds.NotOne (n, (y, (by, u))) b.0 c cs (places.after_link g.aim t Phi []) U same b.1 tt x.1
      (on_notone q g s.identity fine s.parts U.good logs sound t Phi C b.0 (subst (FactsAt q g s.identity (places.notone t Phi C)) b.1 F) n y by cs (x.0 ∙ e''))
  at_notone t Phi C kind v s s' U F e c e' cs e'' = absurd (none_some e')

  pub at_link : (t : ℕ) (Phi : Part) (found : List Part) → (kind : Kind) (v : Values (row kind)) (s s' : Sheet) → IsUnder q z a g fine logs sound s → FactsAt q g s.identity (places.link t Phi found) s.block → say s (Row kind v) ≡ Some s' → (c : Claim) → IsClaim q z a g fine logs sound (places.link t Phi found) kind v s' c
      → (cs : List Condition) → c.conditions ≡ Some cs → Taken q z a g fine logs sound s kind v c cs s'
  unfolding claim say
  at_link t Phi found kinds.Link (i, (k, (n, (y, (w, u))))) s s' U F e c e' cs e'' =
      let b = block_of q z a g fine logs sound _ s.block F in
      let same : s ≡ s' = same_some e in
      let test = where_true (nat_eq i (suc (length found))) (of_part r g b.0 s.parts logs (numbered s.parts k) _) c (subst (λ o. claim r g (block_at o) s.parts logs (places.link t Phi found) kinds.Link (i, (k, (n, (y, (w, u))))) ≡ Some c) b.1 (subst (λ s'. IsClaim q z a g fine logs sound (places.link t Phi found) kinds.Link (i, (k, (n, (y, (w, u))))) s' c) (sym same) e')) in
      let P = part_there q z a g fine logs sound b.0 s.parts (numbered s.parts k) _ c cs test.1 e'' in
      let x = plain q z a g fine logs sound b.0 s.parts _ _ c P.2 in
      plain_taken q z a g fine logs sound s s' kinds.Link (i, (k, (n, (y, (w, u))))) b.0 c cs (places.after_link g.aim t Phi (found ++ P.0 ∷ [])) U same b.1 tt x.1
      (on_next_link q g s.identity fine s.parts U.good logs sound t Phi found b.0 (subst (FactsAt q g s.identity (places.link t Phi found)) b.1 F) P.0 (good_at s.parts k P.0 U.good P.1) n y w cs (x.0 ∙ e''))
  at_link t Phi found kind v s s' U F e c e' cs e'' = absurd (none_some e')

  pub at_open_link : (t : ℕ) (Phi : Part) (found : List Part) → (kind : Kind) (v : Values (row kind)) (s s' : Sheet) → IsUnder q z a g fine logs sound s → FactsAt q g s.identity (places.open_link t Phi found) s.block → say s (Row kind v) ≡ Some s' → (c : Claim) → IsClaim q z a g fine logs sound (places.open_link t Phi found) kind v s' c
      → (cs : List Condition) → c.conditions ≡ Some cs → Taken q z a g fine logs sound s kind v c cs s'
  unfolding claim say
  at_open_link t Phi found kinds.Link (i, (k, (n, (y, (w, u))))) s s' U F e c e' cs e'' =
      let b = block_of q z a g fine logs sound _ s.block F in
      let same : s ≡ s' = same_some e in
      let test = where_true (nat_eq i (suc (length found))) (of_part r g b.0 s.parts logs (numbered s.parts k) _) c (subst (λ o. claim r g (block_at o) s.parts logs (places.open_link t Phi found) kinds.Link (i, (k, (n, (y, (w, u))))) ≡ Some c) b.1 (subst (λ s'. IsClaim q z a g fine logs sound (places.open_link t Phi found) kinds.Link (i, (k, (n, (y, (w, u))))) s' c) (sym same) e')) in
      let P = part_there q z a g fine logs sound b.0 s.parts (numbered s.parts k) _ c cs test.1 e'' in
      let x = plain q z a g fine logs sound b.0 s.parts _ _ c P.2 in
      plain_taken q z a g fine logs sound s s' kinds.Link (i, (k, (n, (y, (w, u))))) b.0 c cs (places.open_link t Phi (found ++ P.0 ∷ [])) U same b.1 tt x.1
      (on_open_link q g s.identity fine s.parts U.good logs sound t Phi found b.0 (subst (FactsAt q g s.identity (places.open_link t Phi found)) b.1 F) P.0 (good_at s.parts k P.0 U.good P.1) n y w cs (x.0 ∙ e''))
  at_open_link t Phi found kinds.Closes (i, (w, u)) s s' U F e c e' cs e'' =
      let b = block_of q z a g fine logs sound _ s.block F in
      let same : s ≡ s' = same_some e in
      let test = where_true (nat_lt 0 (length found)) (numbered_so r g b.0 s.parts logs (length found - 1) i _ (places.never_onto t Phi found)) c (subst (λ o. claim r g (block_at o) s.parts logs (places.open_link t Phi found) kinds.Closes (i, (w, u)) ≡ Some c) b.1 (subst (λ s'. IsClaim q z a g fine logs sound (places.open_link t Phi found) kinds.Closes (i, (w, u)) s' c) (sym same) e')) in
      let x = so q z a g fine logs sound b.0 s.parts (length found - 1) i _ _ c test.1 in
      plain_taken q z a g fine logs sound s s' kinds.Closes (i, (w, u)) b.0 c cs (places.never_onto t Phi found) U same b.1 tt x.1
      (on_closes q g s.identity fine s.parts U.good logs sound t Phi found b.0 (subst (FactsAt q g s.identity (places.open_link t Phi found)) b.1 F) test.0 w cs (x.0 ∙ e''))
  at_open_link t Phi found kind v s s' U F e c e' cs e'' = absurd (none_some e')

  pub at_short : (t : ℕ) (Phi : Part) (found : List Part) → (kind : Kind) (v : Values (row kind)) (s s' : Sheet) → IsUnder q z a g fine logs sound s → FactsAt q g s.identity (places.short t Phi found) s.block → say s (Row kind v) ≡ Some s' → (c : Claim) → IsClaim q z a g fine logs sound (places.short t Phi found) kind v s' c
      → (cs : List Condition) → c.conditions ≡ Some cs → Taken q z a g fine logs sound s kind v c cs s'
  unfolding claim say
  at_short t Phi found kinds.Short (i, (n, (y, (by, u)))) s s' U F e c e' cs e'' =
      let b = block_of q z a g fine logs sound _ s.block F in
      let same : s ≡ s' = same_some e in
      let x = so q z a g fine logs sound b.0 s.parts (length found - 1) i _ _ c (subst (λ o. claim r g (block_at o) s.parts logs (places.short t Phi found) kinds.Short (i, (n, (y, (by, u)))) ≡ Some c) b.1 (subst (λ s'. IsClaim q z a g fine logs sound (places.short t Phi found) kinds.Short (i, (n, (y, (by, u)))) s' c) (sym same) e')) in
      plain_taken q z a g fine logs sound s s' kinds.Short (i, (n, (y, (by, u)))) b.0 c cs (places.onto t Phi found) U same b.1 tt x.1
      (on_short q g s.identity fine s.parts U.good logs sound t Phi found b.0 (subst (FactsAt q g s.identity (places.short t Phi found)) b.1 F) n y by cs (x.0 ∙ e''))
  at_short t Phi found kind v s s' U F e c e' cs e'' = absurd (none_some e')

  pub at_onto : (t : ℕ) (Phi : Part) (found : List Part) → (kind : Kind) (v : Values (row kind)) (s s' : Sheet) → IsUnder q z a g fine logs sound s → FactsAt q g s.identity (places.onto t Phi found) s.block → say s (Row kind v) ≡ Some s' → (c : Claim) → IsClaim q z a g fine logs sound (places.onto t Phi found) kind v s' c
      → (cs : List Condition) → c.conditions ≡ Some cs → Taken q z a g fine logs sound s kind v c cs s'
  unfolding claim say
  at_onto t Phi found kinds.Onto (i, (w, u)) s s' U F e c e' cs e'' =
      let b = block_of q z a g fine logs sound _ s.block F in
      let same : s ≡ s' = same_some e in
      let x = so q z a g fine logs sound b.0 s.parts (length found) i _ _ c (subst (λ o. claim r g (block_at o) s.parts logs (places.onto t Phi found) kinds.Onto (i, (w, u)) ≡ Some c) b.1 (subst (λ s'. IsClaim q z a g fine logs sound (places.onto t Phi found) kinds.Onto (i, (w, u)) s' c) (sym same) e')) in
      plain_taken q z a g fine logs sound s s' kinds.Onto (i, (w, u)) b.0 c cs (places.end) U same b.1 tt x.1
      (on_onto q g s.identity fine s.parts U.good logs sound t Phi found b.0 (subst (FactsAt q g s.identity (places.onto t Phi found)) b.1 F) w cs (x.0 ∙ e''))
  at_onto t Phi found kind v s s' U F e c e' cs e'' = absurd (none_some e')

  pub at_never_onto : (t : ℕ) (Phi : Part) (found : List Part) → (kind : Kind) (v : Values (row kind)) (s s' : Sheet) → IsUnder q z a g fine logs sound s → FactsAt q g s.identity (places.never_onto t Phi found) s.block → say s (Row kind v) ≡ Some s' → (c : Claim) → IsClaim q z a g fine logs sound (places.never_onto t Phi found) kind v s' c
      → (cs : List Condition) → c.conditions ≡ Some cs → Taken q z a g fine logs sound s kind v c cs s'
  unfolding claim say
  at_never_onto t Phi found kinds.Short (i, (n, (y, (by, u)))) s s' U F e c e' cs e'' =
      let b = block_of q z a g fine logs sound _ s.block F in
      let same : s ≡ s' = same_some e in
      let x = so q z a g fine logs sound b.0 s.parts (length found - 1) i _ _ c (subst (λ o. claim r g (block_at o) s.parts logs (places.never_onto t Phi found) kinds.Short (i, (n, (y, (by, u)))) ≡ Some c) b.1 (subst (λ s'. IsClaim q z a g fine logs sound (places.never_onto t Phi found) kinds.Short (i, (n, (y, (by, u)))) s' c) (sym same) e')) in
      plain_taken q z a g fine logs sound s s' kinds.Short (i, (n, (y, (by, u)))) b.0 c cs (places.end) U same b.1 tt x.1
      (on_never_onto q g s.identity fine s.parts U.good logs sound t Phi found b.0 (subst (FactsAt q g s.identity (places.never_onto t Phi found)) b.1 F) n y by cs (x.0 ∙ e''))
  at_never_onto t Phi found kind v s s' U F e c e' cs e'' = absurd (none_some e')
