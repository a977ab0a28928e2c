-- The claims that lay nothing down: all but those of resolutions, Ext, chains of kernels and lifts of the identity.
use Rattle.std.proofs.Common.{ℕ, suc, ◌-◌, ◌≡◌, Option, Some, None, List, [], ◌∷◌, ◌++◌, length, true, refl}
use Rattle.fm_algebra.specs.Polynomials.{Polynomial}
use Rattle.fm_groebner.specs.Logs.{Entry}
use Rattle.fm_poly.specs.declared.ring.Ring.{Ring}
use Rattle.fm_graphs.specs.Graphs.{MatrixOf, Graph, Outside, Inside, all_inside, first_outside}
use Rattle.fm_graphs.specs.Trims.{Preimage}
use Rattle.fm_problem.specs.declared.problem.Problem.{Problem}
use Rattle.fm_problem.specs.declared.query.Query.{Query}
use Rattle.fm_cert.specs.Fields.{Values}
use Rattle.fm_cert.specs.Kinds.{Kind, row}
use Rattle.fm_cert.specs.Kinds as kinds
use Rattle.fm_cert.specs.Lines.{Line, Row}
use Rattle.fm_report.specs.Parts.{Part}
use Rattle.fm_report.specs.Sheets.{Answer}
use Rattle.fm_plan.specs.Results.{Killed, killed_at, never_killed}
use Rattle.fm_plan.specs.Queries.{BaseOf, Inverted, by_power, never_inverted, Onto, onto_at, never_onto, stable_of}
use Rattle.fm_standard.specs.Writing.{Reference, Claim, at, part_claim, log_claim}
use Rattle.fm_standard.proofs.IdleLines.{is_idle}
use Rattle.fm_standard.specs.Said.{Laid, Puts, AllPut}
use Rattle.fm_standard.proofs.LinesPut.{idle_puts}
use Rattle.fm_certificates.specs.Certificates.{matrix_part, vector_part, inside_claims, kernel_graph, lives_claims, killed_claims, least_claims, colon_claims, inverted_claims, support_claims, exact_claims, link_claims, short_claims, onto_claims}

module _ (q : Problem) (k : ℕ) (z : Query) (answer : Answer) where
  abbrev r : Ring
  r = q.ring

  -- a claim that lays nothing down
  abbrev pub IsIdleClaim : Claim → Type 0
  IsIdleClaim x = (c : Laid) → Puts q k z answer x c c

  abbrev pub AreIdle : List Claim → Type 0
  AreIdle [] = Unit {0}
  AreIdle (x ∷ xs) = IsIdleClaim x × AreIdle xs

  pub idle_put : (xs : List Claim) → AreIdle xs → (c : Laid) → AllPut q k z answer xs c c
  idle_put [] i c = refl
  idle_put (x ∷ xs) i c = (c, i.0 c, idle_put xs i.1 c)

  pub idle_append : (xs ys : List Claim) → AreIdle xs → AreIdle ys → AreIdle (xs ++ ys)
  idle_append [] ys i j = j
  idle_append (x ∷ xs) ys i j = (i.0, idle_append xs ys i.1 j)

  -- a claim of a kind of line that changes nothing
  pub idle_claim : (names : List Reference) (kind : Kind) (v : List ℕ → Values (row kind)) → is_idle kind ≡ true → IsIdleClaim (record { names = names; line = λ ns. Row kind (v ns) })
  idle_claim names kind v t c = idle_puts q k z answer (record { names = names; line = λ ns. Row kind (v ns) }) kind v (λ ns. refl) t c

  -- ---- resolutions
  pub exact_idle : (j : ℕ) (d : MatrixOf r) (xs : List (Preimage r)) → AreIdle (exact_claims r j d xs)
  exact_idle j d [] = tt
  exact_idle j d (a ∷ later) = (idle_claim _ kinds.Exact (λ ns. (j, (at ns 0, (at ns 1, (at ns 2, tt))))) refl, exact_idle (suc j) a.found later)

  -- ---- whether columns lie inside
  pub inside_idle : (g : Graph r) (y : Inside r) (all : ℕ → Line) (some : (n c : ℕ) → List ℕ → Line) → ((A : Part) → IsIdleClaim (part_claim A all))
      → ((A : Part) (entries : List Entry) (c : ℕ) (by : List ℕ) → IsIdleClaim (log_claim A entries (λ n. some n c by))) → AreIdle (inside_claims r g y all some)
  inside_idle g (all_inside ws) all some i j = (i _, tt)
  inside_idle g (first_outside o) all some i j = (j (matrix_part r g.matrix) g.log o.column o.by, tt)

  -- ---- classes
  lives_idle : (s : ℕ) (g : Graph r) (o : Option Outside) → AreIdle (lives_claims r s g o)
  lives_idle s g None = tt
  lives_idle s g (Some o) = (idle_claim _ kinds.Lives (λ ns. (s, (at ns 0, (o.by, tt)))) refl, tt)

  pub killed_idle : (b : BaseOf r) (y : Killed r) → AreIdle (killed_claims r b y)
  killed_idle b (killed_at s v before) =
      idle_append (lives_claims r (s - 1) (kernel_graph r b (s - 1)) before) (part_claim (vector_part r v) (λ p. Row kinds.Dies (s, (p, tt))) ∷ [])
      (lives_idle (s - 1) (kernel_graph r b (s - 1)) before) (idle_claim _ kinds.Dies (λ ns. (s, (at ns 0, tt))) refl, tt)
  killed_idle b (never_killed before) = lives_idle (stable_of r b) b.chain.stable before

  -- ---- inverting
  least_idle : (g : Graph r) (o : Option Outside) → AreIdle (least_claims r g o)
  least_idle g None = tt
  least_idle g (Some o) = (idle_claim _ kinds.Least (λ ns. (at ns 0, (o.column, (o.by, tt)))) refl, tt)

  colons_idle : (f : Polynomial r.prime r.vars) (j : ℕ) (C : MatrixOf r) (xs : List (Preimage r)) → AreIdle (colon_claims r f j C xs)
  colons_idle f j C [] = tt
  colons_idle f j C (a ∷ later) = (idle_claim _ kinds.Colon (λ ns. (j, (at ns 0, (at ns 1, (at ns 2, (at ns 3, tt)))))) refl, colons_idle f (suc j) a.found later)

  pub inverted_idle : (b : BaseOf r) (f : Polynomial r.prime r.vars) (y : Inverted r) → AreIdle (inverted_claims r b f y)
  inverted_idle b f (by_power s v before) = (idle_claim _ kinds.Power (λ ns. (at ns 0, tt)) refl, least_idle b.chain.stable before)
  inverted_idle b f (never_inverted colons v proper) =
      idle_append (colon_claims r f 1 b.chain.stable.matrix colons) _ (colons_idle f 1 b.chain.stable.matrix colons) (
        idle_claim _ kinds.Settles (λ ns. (length colons, (at ns 0, tt))) refl,
        (idle_claim _ kinds.Proper (λ ns. (at ns 0, (proper.column, (proper.by, tt)))) refl, tt),
      )

  -- ---- the support
  pub support_idle : (b : BaseOf r) (a : Preimage r) → AreIdle (support_claims r b a)
  support_idle b a = (idle_claim _ kinds.Annihilator (λ ns. (at ns 0, (at ns 1, (at ns 2, (at ns 3, tt))))) refl, tt)

  -- ---- maps
  links_idle : (U : Part) (j : ℕ) (L : Part) (xs : List (Preimage r)) → AreIdle (link_claims r U j L xs)
  links_idle U j L [] = tt
  links_idle U j L (a ∷ later) = (idle_claim _ kinds.Link (λ ns. (j, (at ns 0, (at ns 1, (at ns 2, (at ns 3, tt)))))) refl, links_idle U (suc j) (matrix_part r a.found) later)

  shorts_idle : (L : Part) (first : Graph r) (xs : List (Preimage r)) (s : ℕ) (o : Option Outside) → AreIdle (short_claims r L first xs s o)
  shorts_idle L first xs s None = tt
  shorts_idle L first xs s (Some o) = (idle_claim _ kinds.Short (λ ns. (s, (at ns 0, (o.column, (o.by, tt))))) refl, tt)

  pub onto_idle : (U L : Part) (y : Onto r) → AreIdle (onto_claims r U L y)
  onto_idle U L (onto_at first links v before) =
      let last = part_claim (matrix_part r v) (λ p. Row kinds.Onto (length links, (p, tt))) ∷ [] in
      idle_append (link_claims r U 1 L links) (short_claims r L first links (length links - 1) before ++ last) (links_idle U 1 L links)
      (idle_append (short_claims r L first links (length links - 1) before) last (shorts_idle L first links (length links - 1) before)
      (idle_claim _ kinds.Onto (λ ns. (length links, (at ns 0, tt))) refl, tt))
  onto_idle U L (never_onto first links v proper) =
      idle_append (link_claims r U 1 L links) _ (links_idle U 1 L links)
      (idle_claim _ kinds.Closes (λ ns. (length links - 1, (at ns 0, tt))) refl, shorts_idle L first links (length links - 1) (Some proper))
